-- A normal by the prepared cofactors is the normal by the matrix.
use Rattle.std.proofs.Common.{◌≡◌, ◌∙◌, ◌≤◌, ◌*◌, ◌^◌, arith, ap, false, List, [], ◌∷◌, refl}
use Rattle.std.proofs.lemmas.Int.{to_z-of_z, fits_signed_from_abs}
use Rattle.std.specs.Prelude.{ℕ, ℤ, pos, ◌+ℤ◌, ◌*ℤ◌, unsigned_abs, FitsSigned}
use Rattle.std.specs.Ordering.{int_eq}
use Rattle.fx_arith.specs.declared.fx.Fx.{Fx}
use Rattle.fx_arith.specs.declared.mat4.Mat4.{Mat4}
use Rattle.fx_arith.specs.Number.{component, fixed}
use Rattle.matrix_stacks.specs.declared.normal_matrix.CofactorRow.{CofactorRow}
use Rattle.matrix_stacks.specs.Eye.{along_row, determinant, normal_to_eye, over_determinant}
use Rattle.matrix_stacks.specs.NormalMatrix.{IsCofactorRow}
use mir.Syntax.{w128}
use mir.Val.{to_z, of_z}

-- a row of cofactors times a vector
abbrev pub along : CofactorRow → List Fx → ℤ
along row v = row.x *ℤ component v 0 +ℤ row.y *ℤ component v 1 +ℤ row.z *ℤ component v 2

along_is : (m : Mat4) (i : ℕ) (row : CofactorRow) (v : List Fx) → IsCofactorRow m i row → along row v ≡ along_row m i v
unfolding along_row
along_is m i row v p = rw (p.x, p.y, p.z) refl

-- one component, from numbers as words of 128 bits hold them
pub component_is : (m : Mat4) (i : ℕ) (row : CofactorRow) (v : List Fx) (det sum : ℤ) (a : Fx) → IsCofactorRow m i row → det ≡ determinant m
    → unsigned_abs det ≤ 3 * 2 ^ 94 → unsigned_abs sum ≤ 3 * 2 ^ 94 → sum ≡ along row v
    → a.0 ≡ over_determinant (to_z w128 (of_z w128 sum)) (to_z w128 (of_z w128 det)) → a ≡ fixed (over_determinant (along_row m i v) (determinant m))
component_is m i row v det sum a p same small narrow counted made =
    let first : FitsSigned w128 det = fits_signed_from_abs w128 det (omega arith) in
    let second : FitsSigned w128 sum = fits_signed_from_abs w128 sum (omega arith) in
    let exact : a.0 ≡ over_determinant sum det = simp to_z-of_z at made in
    ap fixed (exact ∙ ap (λ s. over_determinant s det) (counted ∙ along_is m i row v p) ∙ ap (over_determinant (along_row m i v)) same)

-- all of it, where there is an inverse
pub eye_normal_is : (m : Mat4) (v : List Fx) (a b c : Fx) → int_eq (determinant m) (pos 0) ≡ false
    → a ≡ fixed (over_determinant (along_row m 0 v) (determinant m))
    → b ≡ fixed (over_determinant (along_row m 1 v) (determinant m))
    → c ≡ fixed (over_determinant (along_row m 2 v) (determinant m))
    → a ∷ b ∷ c ∷ [] ≡ normal_to_eye m v
unfolding normal_to_eye
eye_normal_is m v a b c inverse first second third = rw (inverse, first, second, third) refl
