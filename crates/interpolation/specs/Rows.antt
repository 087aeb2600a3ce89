-- Pixels along a row of a tile.
use Rattle.std.specs.Prelude.{◌≡◌, ℕ, ℤ, ◌<◌, ◌≤◌, pos, [], ◌∷◌, IfSome, List, None, get_or, true}
use Rattle.fx_arith.specs.declared.fx.Fx.{Fx}
use Rattle.fx_arith.specs.Number.{component, fixed, nearest_fixed}
use Rattle.gl_records.specs.declared.prim.VertexOut.{VertexOut}
use Rattle.interpolation.specs.declared.spot.Spot.{Spot}
use Rattle.interpolation.specs.Coordinates.{AreCoordinates}
use Rattle.interpolation.specs.TileValues.{IsSpotOf, OnTile, value_at, x_of, y_of}

abbrev pub blank_spot : Spot
blank_spot = record { column = 0; row = 0; by = None }

-- the reciprocals that are there in these columns are of these numbers
abbrev pub AreDivisors : (ℕ → ℤ) → (from to : ℕ) → List Spot → Type 0
AreDivisors divisor from to spots =
    (i : ℕ) → from ≤ i → i < to → IfSome (get_or spots i blank_spot).by (λ r. r.divisor ≡ divisor i)

-- it is the pixel in this column and row of the tile
pub record IsSpotAt (on : OnTile) (column row : ℕ) (spot : Spot) : Type 0 where
  pub spot_is : IsSpotOf on spot
  pub in_column : spot.column ≡ column
  pub in_row : spot.row ≡ row

-- these are the pixels of a row in these columns
abbrev pub AreSpotsOf : OnTile → (row from to : ℕ) → List Spot → Type 0
AreSpotsOf on row from to spots = (i : ℕ) → from ≤ i → i < to → IsSpotAt on i row (get_or spots i blank_spot)

-- these are a value of the corners at the pixels of a row in these columns, as GLfixed
abbrev pub AreRowValues : OnTile → (VertexOut → ℤ) → (row from to : ℕ) → List Fx → Type 0
AreRowValues on value row from to values =
    (i : ℕ) → from ≤ i → i < to → component values i ≡ nearest_fixed (value_at on value i row)

-- these are S and T of a unit at the pixels of a row in these columns, all of which have them
abbrev pub AreRowCoordinates : OnTile → (unit row from to : ℕ) → (s t : List Fx) → Type 0
AreRowCoordinates on unit row from to s t = (i : ℕ) → from ≤ i → i < to
    → AreCoordinates (record { s = fixed (component s i); t = fixed (component t i); known = true }) on.prim unit (x_of on i) (y_of on row)

-- a colour of these components, where they are bytes
abbrev pub IsJoined : (red green blue alpha : ℤ) → List ℕ → Type 0
IsJoined red green blue alpha color = (r g b a : ℕ) → red ≡ pos r → green ≡ pos g → blue ≡ pos b → alpha ≡ pos a
    → r ≤ 255 → g ≤ 255 → b ≤ 255 → a ≤ 255 → color ≡ r ∷ g ∷ b ∷ a ∷ []
