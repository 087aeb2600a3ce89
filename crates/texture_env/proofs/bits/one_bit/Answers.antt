use Rattle.std.proofs.Common.{◌∙◌, ap}
use Rattle.std.specs.Int.{bit_at}
use Rattle.std.proofs.lemmas.Nat.{one_shl}
use Rattle.std.proofs.lemmas.Nat.Bits.{bit_at-pow_other}
use Rattle.texture_env.proofs.bits.one_bit.Goals as goal

pub returns-clause-others : goal.returns-clause-others
returns-clause-others c j apart = ap (λ m. bit_at m j) (one_shl c.args.i 16 c.requires) ∙ bit_at-pow_other c.args.i j apart
