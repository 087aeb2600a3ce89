use Rattle.std.proofs.Common.{◌≡◌, false, Option, Some, sym, subst, ap, ◌∙◌}
use Rattle.gl_records.specs.Complete.{is_empty, is_empty_level}
use Rattle.gl_records.specs.declared.level.Level.{Level}
use Rattle.image_levels.specs.SubImage.{Holds}
use Rattle.image_commands.proofs.Asking.{filled-is}
use Rattle.image_commands.proofs.errors.area_of.Goals as goal

pub returns-clause-possible : goal.returns-clause-possible
returns-clause-possible c = λ image at.
    let some : is_empty_level c.in-Some.old ≡ false = sym (ap is_empty c.in-Some.is) ∙ sym c.if-is_empty.ensures in
    let is : Holds (Some c.in-Some.old) c.in_ok-area.area = (filled-is c.in-Some.old some, c.in_ok-area.ensures.inside) in
    record {
      number = c.requires;
      pair = sym c.if-not-is_pair.ensures;
      holds = subst (λ (found : Option Level). Holds found c.in_ok-area.area) (sym (at ∙ c.in-Some.is)) is;
    }
