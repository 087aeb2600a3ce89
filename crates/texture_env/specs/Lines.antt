-- What was found out of the pixels of a row of a tile.
use Rattle.std.specs.Prelude.{◌≡◌, ℕ, ◌≤◌, true}
use Rattle.fx_arith.specs.Number.{component, fixed}
use Rattle.interpolation.specs.declared.coordinates.Coordinates.{Coordinates}
use Rattle.interpolation.specs.Rows.{AreRowCoordinates, AreSpotsOf}
use Rattle.interpolation.specs.TileValues.{OnTile}
use Rattle.texture_env.specs.declared.line.Line.{Line}
use Rattle.texture_env.specs.declared.lines.Lines.{Lines}
use Rattle.texture_env.specs.declared.unit_line.UnitLine.{UnitLine}

-- what a line holds in a column, as coordinates that are known
abbrev pub known_at : UnitLine → ℕ → Coordinates
known_at line column = record { s = fixed (component line.s column); t = fixed (component line.t column); known = true }

-- where they are known they are the unit's coordinates at the pixels of the row in these columns
abbrev pub IsUnitLineOf : OnTile → (unit row first end : ℕ) → UnitLine → Type 0
IsUnitLineOf on unit row first end line = line.known ≡ true → AreRowCoordinates on unit row first end line.s line.t

-- the pixels in the line's columns are those of its row
pub record IsLineOf (on : OnTile) (line : Line) : Type 0 where
  pub within : line.end ≤ 17
  pub spots_are : AreSpotsOf on line.row line.first line.end line.spots
  pub one_is : IsUnitLineOf on 0 line.row line.first line.end line.one
  pub two_is : IsUnitLineOf on 1 line.row line.first line.end line.two

-- both lines are
unfoldable pub AreLinesOf : OnTile → Lines → Type 0
AreLinesOf on lines = IsLineOf on lines.even × IsLineOf on lines.odd
