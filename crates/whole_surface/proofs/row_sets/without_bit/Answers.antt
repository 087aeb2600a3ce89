use Rattle.std.specs.Int.{w16}
use Rattle.std.proofs.lemmas.Nat.Bits.{bit_at_clear_same, bit_at_clear_other}
use Rattle.whole_surface.proofs.row_sets.without_bit.Goals as goal

pub returns-clause-bit : goal.returns-clause-bit
returns-clause-bit c = bit_at_clear_same w16 c.args.bits c.args.k c.requires

pub returns-clause-others : goal.returns-clause-others
returns-clause-others c j within h = bit_at_clear_other w16 c.args.bits c.args.k c.requires j within h
