-- The primitives that a draw of n vertices makes, in order (OpenGL ES 1.1.12, 2.6.1): the corners of each by
-- the numbers of their vertices, 0 to n - 1. The provoking corner, whose colour a flat primitive has, is the last.
use Rattle.std.specs.Prelude.{ℕ, ◌+◌, ◌-◌, ◌*◌, ◌/◌, ◌%◌, ◌==◌, List, [], ◌∷◌, ◌++◌, map, nat_lt, if◌then◌else◌}
use Rattle.std.specs.List.{range_with_len}
use Rattle.gl_tokens.specs.declared.mode.Mode.{Mode}
use Rattle.gl_tokens.specs.declared.mode.Mode.TheVariants.{Points, Lines, LineLoop, LineStrip, Triangles, TriangleStrip, TriangleFan}

-- a point has its one vertex as each corner, and a segment its second vertex twice
abbrev pub point : ℕ → List ℕ
point a = a ∷ a ∷ a ∷ []

abbrev pub segment : ℕ → ℕ → List ℕ
segment a b = a ∷ b ∷ b ∷ []

abbrev pub triangle : ℕ → ℕ → ℕ → List ℕ
triangle a b c = a ∷ b ∷ c ∷ []

-- primitives 0, 1, .. of which there are so many
unfoldable pub each : (ℕ → List ℕ) → ℕ → List (List ℕ)
each primitive amount = map primitive (range_with_len 0 amount)

-- triangle k of a strip: every other one has its first two corners exchanged, so that all face one way
abbrev pub strip_triangle : ℕ → List ℕ
strip_triangle k = if k % 2 == 0 then triangle k (k + 1) (k + 2) else triangle (k + 1) k (k + 2)

-- the primitives of a mode; vertices that make no whole primitive are dropped
abbrev pub primitives : Mode → ℕ → List (List ℕ)
primitives Points n = each point n
primitives Lines n = each (λ k. segment (2 * k) (2 * k + 1)) (n / 2)
primitives LineLoop n = if nat_lt n 2 then [] else each (λ k. segment k (k + 1)) (n - 1) ++ segment (n - 1) 0 ∷ []
primitives LineStrip n = each (λ k. segment k (k + 1)) (n - 1)
primitives Triangles n = each (λ k. triangle (3 * k) (3 * k + 1) (3 * k + 2)) (n / 3)
primitives TriangleStrip n = each strip_triangle (n - 2)
primitives TriangleFan n = each (λ k. triangle 0 (k + 1) (k + 2)) (n - 2)
