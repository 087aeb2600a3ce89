-- A row of pixels of a tile.
use Rattle.std.specs.Prelude.{◌≡◌, ℕ, pos, ◌+◌, ◌<◌, [], List, IsTrue, get_or}
use Rattle.std.specs.Int.{bit_at}
use Rattle.gl_records.specs.Coverage.{covers}
use Rattle.interpolation.specs.TileValues.{OnTile as PrimitiveOnTile, x_of, y_of}
use Rattle.texture_env.specs.Shaders.{OnTile}

-- a primitive on a row of a tile
pub record OnRow : Type 0 where
  pub on : PrimitiveOnTile
  pub row : ℕ

-- the pixels whose bits are set have these colours
abbrev pub HaveColors : (bits : ℕ) → (ℕ → List ℕ) → List (List ℕ) → Type 0
HaveColors bits color colors = (i : ℕ) → i < 16 → bit_at bits i ≡ 1 → get_or colors i [] ≡ color i

-- and the primitive covers those pixels
abbrev pub AreCoveredOn : OnRow → (bits : ℕ) → Type 0
AreCoveredOn at bits = (i : ℕ) → i < 16 → bit_at bits i ≡ 1 → IsTrue (covers at.on.prim (x_of at.on i) (y_of at.on at.row))

-- the primitive covers the pixels of a row whose bits are set
abbrev pub AreCovered : OnTile → (bits row : ℕ) → Type 0
AreCovered on bits row = (i : ℕ) → i < 16 → bit_at bits i ≡ 1 → IsTrue (covers on.subject.prim (pos (on.rect.x0 + i)) (pos (on.rect.y0 + row)))
