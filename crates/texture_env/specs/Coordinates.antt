-- How far the texture coordinates of a pixel are from those of the next ones.
use Rattle.std.specs.Prelude.{ℕ, ◌&&◌, max, if◌then◌else◌}
use Rattle.gl_records.specs.LevelOfDetail.{moved}
use Rattle.interpolation.specs.declared.coordinates.Coordinates.{Coordinates}

-- how far it is between two coordinates on a level of w by h texels, in 1/65536 texel: the greater of both directions
abbrev pub move_between : ℕ → ℕ → (from to : Coordinates) → ℕ
move_between w h from to = max (moved from.s.0 to.s.0 w) (moved from.t.0 to.t.0 h)

-- the greater of both moves; 0 where any of the three coordinates isn't known
abbrev pub greatest_move : ℕ → ℕ → (here right above : Coordinates) → ℕ
greatest_move w h here right above =
    if here.known && right.known && above.known then max (move_between w h here right) (move_between w h here above) else 0
