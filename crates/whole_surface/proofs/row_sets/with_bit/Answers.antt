use Rattle.std.specs.Int.{w16}
use Rattle.std.proofs.lemmas.Nat.Bits.{bit_at_set_same, bit_at_set_other}
use Rattle.whole_surface.proofs.row_sets.with_bit.Goals as goal

pub returns-then-set-clause-bit : goal.returns-then-set-clause-bit
returns-then-set-clause-bit c = rw c.if-set.true (bit_at_set_same w16 c.args.bits c.args.k c.requires)

pub returns-then-set-clause-others : goal.returns-then-set-clause-others
returns-then-set-clause-others c j h = bit_at_set_other w16 c.args.bits c.args.k c.requires j h
