use Rattle.std.proofs.Common.{arith, ap, ◌∙◌, ◌≡◌, pos, ◌+ℤ◌, ◌*ℤ◌, to_z, of_z, w16, w32, w64}
use Rattle.std.proofs.lemmas.Int.{ints}
use Rattle.fx_arith.specs.Number.{fixed, floor_div}
use Rattle.vertex_fetch.proofs.component_format.normal_from_byte.Goals as goal

pub returns : goal.returns
returns c =
    let wide : c.from.result ≡ c.args.c = omega (arith, ints, c.ranges.c, c.from.ensures) in
    let widened : to_z w16 (of_z w16 c.from.result) ≡ c.from.result = omega (arith, ints, c.from.type_inv) in
    let odd : c.odd.result ≡ (pos 2 *ℤ c.args.c +ℤ pos 1) *ℤ pos 65536 =
    c.odd.ensures ∙ ap (λ z. (pos 2 *ℤ z +ℤ pos 1) *ℤ pos 65536) (widened ∙ wide) in
    let whole : to_z w64 (of_z w64 c.odd.result) ≡ c.odd.result = omega (arith, ints, c.odd.type_inv) in
    let value : c.floor_div.result ≡ floor_div ((pos 2 *ℤ c.args.c +ℤ pos 1) *ℤ pos 65536) 255 =
    c.floor_div.ensures.value ∙ ap (λ z. floor_div z 255) (whole ∙ odd) in
    let kept : to_z w64 (of_z w64 c.floor_div.result) ≡ c.floor_div.result = omega (arith, ints, c.floor_div.type_inv) in
    let narrow : to_z w32 (of_z w32 c.floor_div.result) ≡ c.floor_div.result =
    omega (arith, ints, c.ranges.c, odd, whole, c.floor_div.ensures.multiple_within, c.floor_div.ensures.next_multiple_above) in
    ap fixed (ap (λ z. to_z w32 (of_z w32 z)) kept ∙ narrow ∙ value)
