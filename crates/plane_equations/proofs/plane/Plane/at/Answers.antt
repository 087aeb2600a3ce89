use Rattle.std.proofs.Common.{rules, arith, ◌≡◌, ℕ, ◌≤◌, pos, ◌+ℤ◌, ◌*ℤ◌, ◌^◌, FitsSigned, w64}
use Rattle.std.proofs.lemmas.Int.{fits_signed_from_abs, to_z-of_z}
use Rattle.plane_equations.specs.declared.plane.Plane.{Plane}
use Rattle.plane_equations.specs.Planes.{plane_at}
use Rattle.plane_equations.proofs.Boxes.{within_box, within_row, within_steps}
use Rattle.plane_equations.proofs.plane.Plane.at.Goals as goal

-- all sums on the way to the value fit
record Fit (p : Plane) (i j : ℕ) : Type 0 where
  origin : FitsSigned w64 p.origin
  right : FitsSigned w64 p.right
  up : FitsSigned w64 p.up
  row : FitsSigned w64 (p.origin +ℤ pos i *ℤ p.right)
  value : FitsSigned w64 (plane_at p i j)

fit : (p : Plane) (i j : ℕ) → i ≤ 16 → j ≤ 16 → Fit p i j
fit p i j fits_i fits_j =
    let steps = within_steps p.origin p.right p.up p.within in
    let row = within_row (2 ^ 61) p.origin p.right p.up i fits_i p.within in
    let box = within_box (2 ^ 61) p.origin p.right p.up i j fits_i fits_j p.within in
    record {
      origin = fits_signed_from_abs w64 _ (omega (arith, p.within.first));
      right = fits_signed_from_abs w64 _ (omega (arith, steps.0));
      up = fits_signed_from_abs w64 _ (omega (arith, steps.1));
      row = fits_signed_from_abs w64 _ (omega (arith, row));
      value = fits_signed_from_abs w64 _ (omega (arith, box));
    }

pub overflow_add-result-2 : goal.overflow_add-result-2
overflow_add-result-2 c =
    let p = c.args.self.now in
    let i = c.args.i in
    let j = c.args.j in
    let fits = fit p i j c.requires.i c.requires.j in
    let origin_fits : FitsSigned w64 p.origin = fits.origin in
    let right_fits : FitsSigned w64 p.right = fits.right in
    let up_fits : FitsSigned w64 p.up = fits.up in
    let row_fits : FitsSigned w64 (p.origin +ℤ pos i *ℤ p.right) = fits.row in
    let first_fits : FitsSigned w64 c.steps.result = search rules in
    let second_fits : FitsSigned w64 c.steps-2.result = search rules in
    let right : c.steps.result ≡ pos i *ℤ p.right = simp to_z-of_z at c.steps.ensures.value in
    let up : c.steps-2.result ≡ pos j *ℤ p.up = simp to_z-of_z at c.steps-2.ensures.value in
    let right_step_fits : FitsSigned w64 (pos i *ℤ p.right) = rw right at first_fits in
    let up_step_fits : FitsSigned w64 (pos j *ℤ p.up) = rw up at second_fits in
    simp (right, up, to_z-of_z) fits.value

pub returns-clause-value : goal.returns-clause-value
returns-clause-value c =
    let p = c.args.self.now in
    let i = c.args.i in
    let j = c.args.j in
    let fits = fit p i j c.requires.i c.requires.j in
    let origin_fits : FitsSigned w64 p.origin = fits.origin in
    let right_fits : FitsSigned w64 p.right = fits.right in
    let up_fits : FitsSigned w64 p.up = fits.up in
    let row_fits : FitsSigned w64 (p.origin +ℤ pos i *ℤ p.right) = fits.row in
    let value_fits : FitsSigned w64 (plane_at p i j) = fits.value in
    let first_fits : FitsSigned w64 c.steps.result = search rules in
    let second_fits : FitsSigned w64 c.steps-2.result = search rules in
    let right : c.steps.result ≡ pos i *ℤ p.right = simp to_z-of_z at c.steps.ensures.value in
    let up : c.steps-2.result ≡ pos j *ℤ p.up = simp to_z-of_z at c.steps-2.ensures.value in
    let right_step_fits : FitsSigned w64 (pos i *ℤ p.right) = rw right at first_fits in
    let up_step_fits : FitsSigned w64 (pos j *ℤ p.up) = rw up at second_fits in
    simp (right, up, to_z-of_z)

pub returns-clause-bound : goal.returns-clause-bound
returns-clause-bound c =
    let p = c.args.self.now in
    rw (returns-clause-value c) (within_box (2 ^ 61) p.origin p.right p.up c.args.i c.args.j c.requires.i c.requires.j p.within)
