use Rattle.std.proofs.Common.{refl}
use Rattle.std.specs.Cmp.Lexicographic.{same_text}
use Rattle.interpolation.proofs.flat.flat_color.Goals as goal

pub returns-then-eq-2 : goal.returns-then-eq-2
returns-then-eq-2 c = record { second = same_text _ _ c.if-eq.ensures; third = same_text _ _ c.if-eq-2.ensures; is = refl }
