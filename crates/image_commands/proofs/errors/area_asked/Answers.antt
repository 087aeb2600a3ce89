use Rattle.std.proofs.Common.{Option, ap, sym, ◌∙◌}
use Rattle.std.proofs.lemmas.Int.{to_z-of_z}
use Rattle.gl_records.specs.declared.level.Level.{Level}
use Rattle.image_commands.specs.Asked.{area_of}
use Rattle.image_commands.proofs.Asking.{area_asked-is}
use Rattle.image_commands.proofs.errors.area_asked.Goals as goal

pub returns-clause-value : goal.returns-clause-value
returns-clause-value c =
    let number = simp (to_z-of_z, c.ranges.level) at c.level_number.ensures.value in
    let value = simp (to_z-of_z, c.ranges.x, c.ranges.y, c.ranges.w, c.ranges.h) at c.area_of.ensures.value in
    area_asked-is c.args.image.now c.args.target c.args.level c.args.x c.args.y c.args.w c.args.h c.args.format_code c.args.type_code c.in_ok-level.level
    c.in-Some.field-0 c.in-Some-from_code.format c.in-Some-from_code-2.kind c.area_of.result
    (sym c.from_code.ensures.value ∙ c.in-Some.is) (sym number ∙ c.in_ok-level.was)
    (sym c.from_code-2.ensures.value ∙ c.in-Some-from_code.is) (sym c.from_code-3.ensures.value ∙ c.in-Some-from_code-2.is)
    (value ∙ ap (λ (found : Option Level). area_of found c.in_ok-level.level c.args.x c.args.y c.args.w c.args.h c.in-Some-from_code.format c.in-Some-from_code-2.kind) c.level_in.ensures)

pub returns-clause-possible : goal.returns-clause-possible
returns-clause-possible c = c.area_of.ensures.possible c.args.image.now (sym c.level_in.ensures)
