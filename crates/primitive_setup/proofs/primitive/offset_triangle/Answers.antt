use Rattle.std.proofs.Common.{◌≡◌, ◌∙◌, sym, arith}
use Rattle.std.specs.Prelude.{pos, negsuc, false, ◌≤ℤ◌}
use Rattle.std.proofs.lemmas.Int.{ints}
use mir.Syntax.{w32}
use mir.Val.{to_z, of_z}
use Rattle.primitive_setup.specs.Bounds.{is_empty}
use Rattle.primitive_setup.proofs.Boxes.{HoldsCenters-moved}
use Rattle.primitive_setup.proofs.Made.{offset_triangle_is}
use Rattle.primitive_setup.proofs.Valid.{made_valid}
use Rattle.primitive_setup.proofs.Words.{word_is}
use Rattle.primitive_setup.proofs.primitive.offset_triangle.Goals as goal

pub returns-clause-value : goal.returns-clause-value
returns-clause-value c =
    let offset = to_z w32 (of_z w32 c.depth_offset-offset.result) in
    let some : is_empty c.pixel_bounds-bounds.result ≡ false = sym c.is_empty.ensures ∙ c.if-is_empty.false in
    offset_triangle_is c.args.offset.now c.args.size c.args.area c.args.a.now c.args.b.now c.args.c.now
    c.with_offset.result c.with_offset-2.result c.with_offset-3.result c.pixel_bounds-bounds.result offset
    c.with_offset.ensures c.with_offset-2.ensures c.with_offset-3.ensures c.pixel_bounds-bounds.ensures.value
    (word_is c.depth_offset-offset.result c.depth_offset-offset.type_inv ∙ c.depth_offset-offset.ensures.value) some

pub returns-clause-valid : goal.returns-clause-valid
returns-clause-valid c =
    let offset = to_z w32 (of_z w32 c.depth_offset-offset.result) in
    let some : is_empty c.pixel_bounds-bounds.result ≡ false = sym c.is_empty.ensures ∙ c.if-is_empty.false in
    let from : negsuc 33554431 ≤ℤ offset = omega (arith, ints, c.depth_offset-offset.ensures.from, c.depth_offset-offset.ensures.to) in
    let to : offset ≤ℤ pos 33554432 = omega (arith, ints, c.depth_offset-offset.ensures.from, c.depth_offset-offset.ensures.to) in
    made_valid c.args.size offset c.args.a.now c.args.b.now c.args.c.now
    c.with_offset.result c.with_offset-2.result c.with_offset-3.result c.pixel_bounds-bounds.result
    c.with_offset.ensures c.with_offset-2.ensures c.with_offset-3.ensures c.pixel_bounds-bounds.ensures.value some from to
    c.requires.first c.requires.second c.requires.third (omega (arith, ints, c.requires.counterclockwise, c.requires.area_from))

pub returns-clause-bounds : goal.returns-clause-bounds
returns-clause-bounds c =
    rw (c.with_offset.ensures, c.with_offset-2.ensures, c.with_offset-3.ensures) (HoldsCenters-moved _ _ c.args.size c.args.a.now c.args.b.now c.args.c.now c.pixel_bounds-bounds.ensures.exact)
