-- What a primitive's corners count by beside their weights: their q, without the factor that all three have where they are
-- the same. A quotient of two sums over the corners is the same with it and without it.
use Rattle.std.specs.Prelude.{ℕ, ℤ, pos, ◌*ℤ◌, ◌==◌, ◌&&◌, Bool, if◌then◌else◌}
use Rattle.gl_records.specs.declared.prim.Primitive.{Primitive}
use Rattle.gl_records.specs.declared.prim.VertexOut.{VertexOut}
use Rattle.gl_records.specs.Coverage.{corner}
use Rattle.gl_records.specs.Weights.{weighted_sum}

-- the corners have the same q
abbrev pub has_one_q : Primitive → Bool
has_one_q p = (corner p 0).q == (corner p 1).q && (corner p 0).q == (corner p 2).q

-- what each q is divided by
abbrev pub common_q : Primitive → ℕ
common_q p = if has_one_q p then (corner p 0).q else 1

-- what is left of a corner's q
abbrev pub factor : Primitive → VertexOut → ℕ
factor p v = if has_one_q p then 1 else v.q

-- the sum over the corners of their weight, their factor and a value of theirs
unfoldable pub scaled_sum : Primitive → (VertexOut → ℤ) → ℤ → ℤ → ℤ
scaled_sum p value x y = weighted_sum p (λ v. pos (factor p v) *ℤ value v) x y

-- what the sums are divided by
abbrev pub scaled_total : Primitive → ℤ → ℤ → ℤ
scaled_total p x y = scaled_sum p (λ v. pos 1) x y
