use Rattle.std.proofs.Common.{sym, ◌∙◌}
use Rattle.std.proofs.lemmas.Int.{to_z-of_z}
use Rattle.image_commands.proofs.Asking.{level_asked-is}
use Rattle.image_commands.proofs.errors.level_asked.Goals as goal

pub returns-clause-value : goal.returns-clause-value
returns-clause-value c =
    let number = simp (to_z-of_z, c.ranges.level) at c.level_number.ensures.value in
    let value = simp (to_z-of_z, c.ranges.w, c.ranges.h, c.ranges.border) at c.level_of.ensures.value in
    level_asked-is c.args.target c.args.level c.args.internal c.args.w c.args.h c.args.border c.args.format_code c.args.type_code c.in_ok-level.level
    c.in-Some.field-0 c.in-Some-from_code.field-0 c.in-Some-from_code-2.format c.in-Some-from_code-3.kind c.level_of.result
    (sym c.from_code.ensures.value ∙ c.in-Some.is) (sym number ∙ c.in_ok-level.was) (sym c.from_code-2.ensures.value ∙ c.in-Some-from_code.is)
    (sym c.from_code-3.ensures.value ∙ c.in-Some-from_code-2.is) (sym c.from_code-4.ensures.value ∙ c.in-Some-from_code-3.is) c.if-internal-format_code.false value
