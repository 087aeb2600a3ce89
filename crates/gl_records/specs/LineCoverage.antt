-- Which pixels a line covers, and how much its ends count (OpenGL ES 1.1.12, 3.4): a run of pixels in each column
-- that it goes through, or in each row where it is steep. Places are in units of 1/16 pixel; the rounding, and
-- which ends are drawn, are this project's profile.
use Rattle.std.specs.Prelude.{ℕ, zero, suc, ℤ, pos, ◌-◌, ◌/◌, ◌+ℤ◌, ◌-ℤ◌, ◌*ℤ◌, Bool, ◌&&◌, int_le, int_lt, nat_le, if◌then◌else◌, unsigned_abs}
use Rattle.std.specs.Int.{int_signum}
use Rattle.fx_arith.specs.Number.{floor_div, floor_quotient}
use Rattle.gl_records.specs.declared.prim.VertexOut.{VertexOut}
use Rattle.gl_records.specs.Center.{center}
use Rattle.gl_records.specs.PointCoverage.{is_among}

-- x is the major axis of the line from a to b: along it the line is at least as long as along y
abbrev pub is_x_major : VertexOut → VertexOut → Bool
is_x_major a b = nat_le (unsigned_abs (b.y -ℤ a.y)) (unsigned_abs (b.x -ℤ a.x))

-- a place on the major axis lies from the line's start, included, to its end, excluded, whichever is the greater
abbrev pub is_passed : ℤ → ℤ → ℤ → Bool
is_passed start end at = if int_lt start end then int_le start at && int_lt at end else int_le at start && int_lt end at

-- where the line is on the minor axis, at a place on the major axis
unfoldable pub minor_place : (start minor_start end minor_end at : ℤ) → ℤ
minor_place start minor_start end minor_end at =
    minor_start +ℤ floor_quotient ((minor_end -ℤ minor_start) *ℤ (at -ℤ start)) (end -ℤ start)

-- the first pixel of a run of this width about a place on the minor axis: of an even width one pixel more lies
-- above the place's own than below
abbrev pub first_of_run : ℤ → ℕ → ℤ
first_of_run place width = floor_div place 16 -ℤ pos ((width - 1) / 2)

-- a line of this width covers the pixel `along` of the major and `across` of the minor axis
unfoldable pub covers_run : (width : ℕ) (start minor_start end minor_end along across : ℤ) → Bool
covers_run width start minor_start end minor_end along across =
    is_passed start end (center along)
    && is_among (first_of_run (minor_place start minor_start end minor_end (center along)) width) width across

-- a line of this width from a to b covers pixel (x, y)
unfoldable pub line_covers : VertexOut → VertexOut → ℕ → ℤ → ℤ → Bool
line_covers a b width x y =
    if is_x_major a b then covers_run width a.x a.y b.x b.y x y else covers_run width a.y a.x b.y b.x y x

-- at a place on the major axis an end counts by how far the place is from the other end
abbrev pub end_weight : ℕ → (start end at : ℤ) → ℤ
end_weight zero start end at = int_signum (end -ℤ start) *ℤ (end -ℤ at)
end_weight (suc zero) start end at = int_signum (end -ℤ start) *ℤ (at -ℤ start)
end_weight (suc (suc k)) start end at = pos 0

-- the weight of corner k of the line from a to b at the centre of pixel (x, y)
unfoldable pub line_weight : VertexOut → VertexOut → ℕ → ℤ → ℤ → ℤ
line_weight a b k x y = if is_x_major a b then end_weight k a.x b.x (center x) else end_weight k a.y b.y (center y)
