-- Matrices of four rows and four columns (OpenGL ES 1.1.12, 2.10.2).
use Rattle.std.specs.Prelude.{ℕ, ℤ, pos, ◌+◌, ◌*◌, ◌/◌, ◌%◌, List, [], ◌∷◌, map, slice_index_or}
use Rattle.std.specs.List.{range_with_len}
use Rattle.fx_arith.specs.declared.fx.Fx.{Fx}
use Rattle.fx_arith.specs.declared.mat4.Mat4.{Mat4}
use Rattle.fx_arith.specs.Number.{component, fixed, one}

-- the entry in row i and column j; a matrix is kept column by column
abbrev pub entry : Mat4 → ℕ → ℕ → ℤ
entry m i j = component m.0 (4 * j + i)

-- row i, and column j
abbrev pub row : Mat4 → ℕ → List Fx
row m i = fixed (entry m i 0) ∷ fixed (entry m i 1) ∷ fixed (entry m i 2) ∷ fixed (entry m i 3) ∷ []

abbrev pub column : Mat4 → ℕ → List Fx
column m j = fixed (entry m 0 j) ∷ fixed (entry m 1 j) ∷ fixed (entry m 2 j) ∷ fixed (entry m 3 j) ∷ []

-- the matrix with these entries, by row and column
abbrev pub matrix : (ℕ → ℕ → ℤ) → Mat4
matrix entries = record { 0 = map (λ k. fixed (entries (k % 4) (k / 4))) (range_with_len 0 16) }

-- the matrix with these rows
abbrev pub by_rows : List (List ℤ) → Mat4
by_rows rows = matrix (λ i j. slice_index_or (slice_index_or rows i []) j (pos 0))

-- the matrix that changes nothing
abbrev pub identity : Mat4
identity = by_rows
    ((one ∷ pos 0 ∷ pos 0 ∷ pos 0 ∷ []) ∷
    (pos 0 ∷ one ∷ pos 0 ∷ pos 0 ∷ []) ∷
    (pos 0 ∷ pos 0 ∷ one ∷ pos 0 ∷ []) ∷
    (pos 0 ∷ pos 0 ∷ pos 0 ∷ one ∷ []) ∷ [])
