use Rattle.std.proofs.Common.{◌∙◌, FitsSigned, w32}
use Rattle.std.proofs.lemmas.Int.{to_z-of_z}
use Rattle.primitive_setup.proofs.CutBoxes.{cut_same}
use Rattle.primitive_setup.proofs.Words.{word_is}
use Rattle.primitive_setup.proofs.bounds.cut.Goals as goal

pub returns : goal.returns
returns c =
    let left_fits : FitsSigned w32 c.args.left = c.ranges.left in
    let bottom_fits : FitsSigned w32 c.args.bottom = c.ranges.bottom in
    let right_fits : FitsSigned w32 c.args.right = c.ranges.right in
    let top_fits : FitsSigned w32 c.args.top = c.ranges.top in
    let x0 = simp to_z-of_z at c.from_surface.ensures in
    let y0 = simp to_z-of_z at c.from_surface-2.ensures in
    let x1 = simp to_z-of_z at c.to_surface.ensures in
    let y1 = simp to_z-of_z at c.to_surface-2.ensures in
    cut_same c.args.size c.args.left c.args.bottom c.args.right c.args.top _ _ _ _
    (word_is c.from_surface.result c.from_surface.type_inv ∙ x0)
    (word_is c.from_surface-2.result c.from_surface-2.type_inv ∙ y0)
    (word_is c.to_surface.result c.to_surface.type_inv ∙ x1)
    (word_is c.to_surface-2.result c.to_surface-2.type_inv ∙ y1)
