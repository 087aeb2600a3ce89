use Rattle.std.proofs.Common.{◌≡◌, rules, arith, pos, ◌+ℤ◌, FitsSigned, w32}
use Rattle.std.specs.Int.{int_max}
use Rattle.std.proofs.lemmas.Int.{ints, to_z-of_z}
use Rattle.fx_arith.specs.Number.{floor_div}
use Rattle.primitive_setup.proofs.line.end_near.Goals as goal

pub returns : goal.returns
returns c =
    let pixel_fits : FitsSigned w32 c.pixel_of.result = search rules in
    let from_fits : FitsSigned w32 c.from.result = search rules in
    let width_is : c.from.result ≡ pos c.args.width = c.from.ensures in
    let pixel_is : c.pixel_of.result ≡ floor_div (int_max c.args.start c.args.end) 16 = search rules in
    let from = c.pixel_of.ensures.at_least in
    let to = c.pixel_of.ensures.at_most in
    let sum_fits : FitsSigned w32 (c.pixel_of.result +ℤ c.from.result) = omega (arith, ints, width_is, c.requires.width, from, to) in
    let next_fits : FitsSigned w32 (c.pixel_of.result +ℤ c.from.result +ℤ pos 1) = omega (arith, ints, width_is, c.requires.width, from, to) in
    simp to_z-of_z (rw (pixel_is, width_is))
