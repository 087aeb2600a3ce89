-- The values of a primitive over a tile, as they are prepared.
use Rattle.std.specs.Prelude.{◌≡◌, ℕ, ℤ, pos, ◌+◌, ◌≤◌, ◌<ℤ◌, IfSome, List, [], ◌∷◌, Option, slice_index, unsigned_abs}
use Rattle.plane_equations.specs.FixedPlanes.{fixed_at}
use Rattle.plane_equations.specs.Planes.{plane_at}
use Rattle.fx_arith.specs.Number.{floor_div}
use Rattle.gl_records.specs.declared.prim.Primitive.{Primitive}
use Rattle.gl_records.specs.declared.prim.VertexOut.{VertexOut}
use Rattle.gl_records.specs.declared.size.TheConstants.{GREATEST_SIDE}
use Rattle.gl_records.specs.declared.tile.TileRect.{TileRect}
use Rattle.gl_records.specs.Coverage.{corner}
use Rattle.gl_records.specs.TextureCoordinate.{corner_coordinate}
use Rattle.gl_records.specs.Valid.{IsInRange}
use Rattle.interpolation.specs.declared.channels.Color.{Color}
use Rattle.interpolation.specs.declared.channels.Color.TheVariants.{One, Smooth, Plain}
use Rattle.interpolation.specs.declared.channels.Channels.{Channels}
use Rattle.interpolation.specs.declared.ratio.Ratio.{Ratio}
use Rattle.interpolation.specs.declared.ratio.Ratio.TheVariants.{Flat, Fixed, Divided}
use Rattle.interpolation.specs.declared.unit_ratios.UnitRatios.{UnitRatios}
use Rattle.interpolation.specs.declared.divisor.Divisor.{Divisor}
use Rattle.interpolation.specs.declared.spot.Spot.{Spot}
use Rattle.interpolation.specs.Factors.{scaled_sum, scaled_total}
use Rattle.interpolation.specs.Frames.{IsSumPlane}

-- a primitive on a tile
pub record OnTile : Type 0 where
  pub prim : Primitive
  pub rect : TileRect

-- the tile lies on a surface, and the primitive is one that set-up makes
pub record IsOnTile (on : OnTile) : Type 0 where
  pub in_range : IsInRange on.prim
  pub column : on.rect.x0 ≤ GREATEST_SIDE
  pub band : on.rect.y0 ≤ GREATEST_SIDE

-- the column and the row of pixels of the surface
abbrev pub x_of : OnTile → ℕ → ℤ
x_of on i = pos (on.rect.x0 + i)

abbrev pub y_of : OnTile → ℕ → ℤ
y_of on j = pos (on.rect.y0 + j)

-- what the sums are divided by is above 0 at each pixel, and where it is the same at all of them the reciprocal is its own
pub record IsDivisorOf (on : OnTile) (divisor : Divisor) : Type 0 where
  pub plane : IsSumPlane on.prim on.rect (λ v. pos 1) divisor.plane
  pub positive : (i j : ℕ) → i ≤ 16 → j ≤ 16 → pos 0 <ℤ plane_at divisor.plane i j
  pub steady : IfSome divisor.steady (λ by. (i j : ℕ) → by.divisor ≡ plane_at divisor.plane i j)

-- the reciprocal is of what the sums are divided by at the spot
pub record IsSpotOf (on : OnTile) (spot : Spot) : Type 0 where
  pub column : spot.column ≤ 16
  pub row : spot.row ≤ 16
  pub by : IfSome spot.by (λ r. r.divisor ≡ scaled_total on.prim (x_of on spot.column) (y_of on spot.row))

-- the value of the corners at a pixel, rounded down
abbrev pub value_at : OnTile → (VertexOut → ℤ) → (i j : ℕ) → ℤ
value_at on value i j =
    floor_div (scaled_sum on.prim value (x_of on i) (y_of on j)) (unsigned_abs (scaled_total on.prim (x_of on i) (y_of on j)))

-- the corners all have this value
pub record IsSameOf (p : Primitive) (value : VertexOut → ℤ) (n : ℤ) : Type 0 where
  pub first : value (corner p 0) ≡ n
  pub second : value (corner p 1) ≡ n
  pub third : value (corner p 2) ≡ n

-- what is known of a prepared value of the corners
abbrev pub IsRatioOf : OnTile → (VertexOut → ℤ) → Ratio → Type 0
IsRatioOf on value (Flat n) = IsSameOf on.prim value n
IsRatioOf on value (Fixed fixed) = (i j : ℕ) → i ≤ 16 → j ≤ 16 → fixed_at fixed i j ≡ value_at on value i j
IsRatioOf on value (Divided plane) = IsSumPlane on.prim on.rect value plane

-- it is component k of the corners' colours, which are bytes
pub record IsChannelOf (on : OnTile) (k : ℕ) (ratio : Ratio) : Type 0 where
  pub sum : IsRatioOf on (λ v. pos (slice_index v.rgba k)) ratio
  pub first : slice_index (corner on.prim 0).rgba k ≤ 255
  pub second : slice_index (corner on.prim 1).rgba k ≤ 255
  pub third : slice_index (corner on.prim 2).rgba k ≤ 255

pub record AreChannelsOf (on : OnTile) (channels : Channels) : Type 0 where
  pub red : IsChannelOf on 0 channels.red
  pub green : IsChannelOf on 1 channels.green
  pub blue : IsChannelOf on 2 channels.blue
  pub alpha : IsChannelOf on 3 channels.alpha

-- the corners have this colour
pub record IsColorOfCorners (p : Primitive) (rgba : List ℕ) : Type 0 where
  pub second : (corner p 0).rgba ≡ (corner p 1).rgba
  pub third : (corner p 0).rgba ≡ (corner p 2).rgba
  pub is : rgba ≡ slice_index (corner p 0).rgba 0 ∷ slice_index (corner p 0).rgba 1 ∷ slice_index (corner p 0).rgba 2 ∷ slice_index (corner p 0).rgba 3 ∷ []

-- what is known of a prepared colour
abbrev pub IsColorOf : OnTile → Color → Type 0
IsColorOf on (One rgba) = IsColorOfCorners on.prim rgba
IsColorOf on (Smooth channels) = AreChannelsOf on channels
IsColorOf on Plain = Unit {0}

-- it is the corners' fog factors
abbrev pub IsFogOf : OnTile → Ratio → Type 0
IsFogOf on ratio = IsRatioOf on (λ v. v.fog) ratio

-- the third coordinate of a unit is 1 at each corner
pub record AreThirdsOne (p : Primitive) (unit : ℕ) : Type 0 where
  pub first : corner_coordinate unit 2 (corner p 0) ≡ pos 65536
  pub second : corner_coordinate unit 2 (corner p 1) ≡ pos 65536
  pub third : corner_coordinate unit 2 (corner p 2) ≡ pos 65536

-- they are the unit's coordinates s and t
pub record AreUnitRatiosOf (on : OnTile) (unit : ℕ) (ratios : UnitRatios) : Type 0 where
  pub s : IsRatioOf on (corner_coordinate unit 0) ratios.s
  pub t : IsRatioOf on (corner_coordinate unit 1) ratios.t
  pub thirds : AreThirdsOne on.prim unit

-- all of a primitive's prepared values
pub record AreValuesOf (on : OnTile) (below : Option Divisor) (rgba : Color) (factor : Option Ratio) (one two : Option UnitRatios) : Type 0 where
  pub on_tile : IsOnTile on
  pub divisor : IfSome below (IsDivisorOf on)
  pub color : IsColorOf on rgba
  pub fog : IfSome factor (IsFogOf on)
  pub first : IfSome one (AreUnitRatiosOf on 0)
  pub second : IfSome two (AreUnitRatiosOf on 1)
