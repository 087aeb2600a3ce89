use Rattle.std.proofs.Common.{sym, ◌∙◌}
use Rattle.std.proofs.lemmas.Int.{to_z-of_z}
use Rattle.image_commands.proofs.Asking.{palette_asked-is}
use Rattle.image_commands.proofs.errors.palette_asked.Goals as goal

pub returns-clause-value : goal.returns-clause-value
returns-clause-value c =
    let w = simp (to_z-of_z, c.ranges.w) at c.palette_side.ensures.value in
    let h = simp (to_z-of_z, c.ranges.h) at c.palette_side-2.ensures.value in
    let last = simp (to_z-of_z, c.ranges.level) at c.unsigned_abs.ensures.value in
    let value = simp (last, to_z-of_z, c.ranges.border, c.ranges.size) at c.palette_levels.ensures.value in
    let below = simp (to_z-of_z, c.ranges.level) at c.if-level-gt0.false in
    palette_asked-is c.args.target c.args.level c.args.internal c.args.w c.args.h c.args.border c.args.size c.in_ok-w.w c.in_ok-h.h
    c.in-Some.field-0 c.in-Some-from_code.format c.palette_levels.result
    (sym c.from_code.ensures.value ∙ c.in-Some.is) (sym c.from_code-2.ensures.value ∙ c.in-Some-from_code.is) below
    (sym w ∙ c.in_ok-w.was) (sym h ∙ c.in_ok-h.was) value
