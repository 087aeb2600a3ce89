-- Fog at a pixel (OpenGL ES 1.1.12, 3.8): the colour goes over to the fog's by a factor of the vertices, which is
-- interpolated (this project's profile).
use Rattle.std.specs.Prelude.{ℕ, ℤ, ◌+◌, ◌-◌, ◌*◌, ◌==◌, List, Option, Some, None, if◌then◌else◌, slice_index}
use Rattle.fx_arith.specs.Number.{c8}
use Rattle.gl_records.specs.declared.prim.Primitive.{Primitive}
use Rattle.gl_records.specs.Blending.{component_of_products}
use Rattle.gl_records.specs.Color.{alpha, alpha_place, color_of}
use Rattle.gl_records.specs.Interpolation.{interpolated}

-- the fog factor at pixel (x, y), 0 to 255: how much of the colour is left
unfoldable pub fog_byte : Primitive → ℤ → ℤ → ℕ
fog_byte p x y = c8 (interpolated p (λ v. v.fog) x y)

-- component k of a colour in fog of this colour and factor
abbrev pub fogged_component : (factor : ℕ) (fog color : List ℕ) → ℕ → ℕ
fogged_component factor fog color k =
    component_of_products (factor * slice_index color k + (255 - factor) * slice_index fog k)

-- alpha stays
abbrev pub fogged_by : (factor : ℕ) (fog color : List ℕ) → List ℕ
fogged_by factor fog color = color_of (λ k. if k == alpha_place then alpha color else fogged_component factor fog color k)

-- where fog is on
abbrev pub fogged : Option (List ℕ) → Primitive → ℤ → ℤ → List ℕ → List ℕ
fogged None p x y color = color
fogged (Some fog) p x y color = fogged_by (fog_byte p x y) fog color
