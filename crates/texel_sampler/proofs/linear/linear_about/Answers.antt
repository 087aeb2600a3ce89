use Rattle.std.proofs.Common.{◌≡◌, ◌∙◌, arith}
use Rattle.std.specs.Prelude.{pos, ◌+ℤ◌, FitsSigned}
use Rattle.std.specs.Int.{w64}
use Rattle.std.proofs.lemmas.Int.{fits_signed_from_abs, ints, to_z-of_z}
use Rattle.gl_records.specs.Texel.{fraction, lower, wrapped}
use Rattle.texel_sampler.specs.Wraps.{wrapping}
use Rattle.texel_sampler.proofs.About.{linear_about-parts, texel_about-is}
use Rattle.texel_sampler.proofs.linear.linear_about.Goals as goal

pub returns : goal.returns
returns g c =
    let i = c.lower-i.result in
    let j = c.lower-j.result in
    let fits_u = c.ranges.u in
    let fits_v = c.ranges.v in
    let fits_i : FitsSigned w64 i = fits_signed_from_abs w64 i (omega (arith, ints)) in
    let fits_j : FitsSigned w64 j = fits_signed_from_abs w64 j (omega (arith, ints)) in
    let next_i : FitsSigned w64 (i +ℤ pos 1) = fits_signed_from_abs w64 (i +ℤ pos 1) (omega (arith, ints, c.lower-i.ensures.bound)) in
    let next_j : FitsSigned w64 (j +ℤ pos 1) = fits_signed_from_abs w64 (j +ℤ pos 1) (omega (arith, ints, c.lower-j.ensures.bound)) in
    let lower_i : i ≡ lower c.args.u = simp to_z-of_z at c.lower-i.ensures.value in
    let lower_j : j ≡ lower c.args.v = simp to_z-of_z at c.lower-j.ensures.value in
    let a : c.fraction.result ≡ fraction c.args.u = simp to_z-of_z at c.fraction.ensures in
    let b : c.fraction-2.result ≡ fraction c.args.v = simp to_z-of_z at c.fraction-2.ensures in
    let left : c.pair-left.result.0 ≡ wrapped g.S.Wrapping.wrap c.args.level.now.w i = simp to_z-of_z at c.pair-left.ensures.first in
    let right : c.pair-left.result.1 ≡ wrapped g.S.Wrapping.wrap c.args.level.now.w (i +ℤ pos 1) = simp to_z-of_z at c.pair-left.ensures.second in
    let under : c.pair-under.result.0 ≡ wrapped g.T.Wrapping.wrap c.args.level.now.h j = simp to_z-of_z at c.pair-under.ensures.first in
    let over : c.pair-under.result.1 ≡ wrapped g.T.Wrapping.wrap c.args.level.now.h (j +ℤ pos 1) = simp to_z-of_z at c.pair-under.ensures.second in
    let about = texel_about-is (wrapping g.S.Wrapping.wrap g.T.Wrapping.wrap) c.args.level.now in
    let low_low = about i j c.pair-left.result.0 c.pair-under.result.0 c.texel_in.result left under c.texel_in.ensures in
    let high_low = about (i +ℤ pos 1) j c.pair-left.result.1 c.pair-under.result.0 c.texel_in-2.result right under c.texel_in-2.ensures in
    let low_high = about i (j +ℤ pos 1) c.pair-left.result.0 c.pair-under.result.1 c.texel_in-3.result left over c.texel_in-3.ensures in
    let high_high = about (i +ℤ pos 1) (j +ℤ pos 1) c.pair-left.result.1 c.pair-under.result.1 c.texel_in-4.result right over c.texel_in-4.ensures in
    c.weighted.ensures
    ∙ linear_about-parts (wrapping g.S.Wrapping.wrap g.T.Wrapping.wrap) c.args.level.now c.args.u c.args.v i j _ _ _ _ _ _ lower_i lower_j a b low_low high_low low_high high_high
