use Rattle.std.proofs.Common.{rules, arith, ◌≡◌, IsTrue, FitsSigned, w64}
use Rattle.std.specs.Int.{w128}
use Rattle.std.proofs.lemmas.Int.{fits_signed_from_abs, to_z-of_z}
use Rattle.plane_equations.specs.Within.{is_within}
use Rattle.plane_equations.proofs.Boxes.{tested_within, within_steps}
use Rattle.plane_equations.proofs.places.narrowed.Goals as goal

pub invariant_of-result : goal.invariant_of-result
invariant_of-result c =
    let origin_wide : FitsSigned w128 c.args.origin = c.ranges.origin in
    let right_wide : FitsSigned w128 c.args.right = c.ranges.right in
    let up_wide : FitsSigned w128 c.args.up = c.ranges.up in
    let is : c.is_within.result ≡ is_within c.args.origin c.args.right c.args.up = simp to_z-of_z at c.is_within.ensures in
    let test : IsTrue c.is_within.result = search rules in
    let within = tested_within c.args.origin c.args.right c.args.up (rw is at test) in
    let steps = within_steps c.args.origin c.args.right c.args.up within in
    let origin_fits : FitsSigned w64 c.args.origin = fits_signed_from_abs w64 _ (omega (arith, within.first)) in
    let right_fits : FitsSigned w64 c.args.right = fits_signed_from_abs w64 _ (omega (arith, steps.0)) in
    let up_fits : FitsSigned w64 c.args.up = fits_signed_from_abs w64 _ (omega (arith, steps.1)) in
    record { within = simp to_z-of_z within }

pub returns-then-is_within-clause-plane : goal.returns-then-is_within-clause-plane
returns-then-is_within-clause-plane c =
    let origin_wide : FitsSigned w128 c.args.origin = c.ranges.origin in
    let right_wide : FitsSigned w128 c.args.right = c.ranges.right in
    let up_wide : FitsSigned w128 c.args.up = c.ranges.up in
    let is : c.is_within.result ≡ is_within c.args.origin c.args.right c.args.up = simp to_z-of_z at c.is_within.ensures in
    let test : IsTrue c.is_within.result = search rules in
    let within = tested_within c.args.origin c.args.right c.args.up (rw is at test) in
    let steps = within_steps c.args.origin c.args.right c.args.up within in
    let origin_fits : FitsSigned w64 c.args.origin = fits_signed_from_abs w64 _ (omega (arith, within.first)) in
    let right_fits : FitsSigned w64 c.args.right = fits_signed_from_abs w64 _ (omega (arith, steps.0)) in
    let up_fits : FitsSigned w64 c.args.up = fits_signed_from_abs w64 _ (omega (arith, steps.1)) in
    record { origin = simp to_z-of_z; right = simp to_z-of_z; up = simp to_z-of_z }
