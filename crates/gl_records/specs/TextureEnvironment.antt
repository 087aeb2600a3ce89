-- What a texture unit does to a colour (OpenGL ES 1.1.12, 3.7.12): its texel at the pixel, by its coordinates, its
-- level of detail and its sampler, and then its environment.
use Rattle.std.specs.Prelude.{ℕ, ℤ, List, Option, Some, None}
use Rattle.gl_tokens.specs.declared.base_format.BaseFormat.{BaseFormat}
use Rattle.gl_tokens.specs.declared.env_mode.EnvMode.{EnvMode}
use Rattle.gl_tokens.specs.declared.env_mode.EnvMode.TheVariants.{Add, Blend, Replace, Modulate, Decal, Combine}
use Rattle.gl_records.specs.declared.env.Env.{Env}
use Rattle.gl_records.specs.declared.level.ImageSet.{ImageSet}
use Rattle.gl_records.specs.declared.level.Level.{Level}
use Rattle.gl_records.specs.declared.prim.Primitive.{Primitive}
use Rattle.gl_records.specs.declared.unit_state.UnitState.{UnitState}
use Rattle.gl_records.specs.Combining.{combined}
use Rattle.gl_records.specs.Complete.{level_at}
use Rattle.gl_records.specs.LevelOfDetail.{rho}
use Rattle.gl_records.specs.Sampling.{texel_of}
use Rattle.gl_records.specs.TextureCoordinate.{s_at, t_at}
use Rattle.gl_records.specs.TextureFunction.{added, blended, decaled, modulated, replaced}

-- the colour by the mode, for texels of this format; the primary colour is the one before texturing, the previous one
-- what comes in
abbrev pub environment_as : EnvMode → Env → BaseFormat → (texel primary previous : List ℕ) → List ℕ
environment_as Add env format texel primary previous = added format previous texel
environment_as Blend env format texel primary previous = blended format env.color previous texel
environment_as Replace env format texel primary previous = replaced format previous texel
environment_as Modulate env format texel primary previous = modulated format previous texel
environment_as Decal env format texel primary previous = decaled format previous texel
environment_as Combine env format texel primary previous = combined env texel primary previous

unfoldable pub environment : UnitState → (texel primary previous : List ℕ) → List ℕ
environment unit texel primary previous = environment_as unit.env.mode unit.env unit.format texel primary previous

-- the sides of a level, 0 where it was never given
abbrev pub width_of : Option Level → ℕ
width_of None = 0
width_of (Some level) = level.w

abbrev pub height_of : Option Level → ℕ
height_of None = 0
height_of (Some level) = level.h

-- rho of unit k at pixel (x, y), on an image
abbrev pub image_rho : ImageSet → Primitive → ℕ → ℤ → ℤ → ℕ
image_rho set p k x y = rho p k (width_of (level_at set 0)) (height_of (level_at set 0)) x y

-- the texel of unit k at pixel (x, y)
unfoldable pub unit_texel : UnitState → ImageSet → Primitive → ℕ → ℤ → ℤ → List ℕ
unit_texel unit set p k x y = texel_of set unit.sampler (s_at p k x y) (t_at p k x y) (image_rho set p k x y)

-- the colour behind unit k: a unit that is off, or has no image, leaves it as it comes in
abbrev pub textured : Option UnitState → Option ImageSet → Primitive → ℕ → ℤ → ℤ → (primary previous : List ℕ) → List ℕ
textured None image p k x y primary previous = previous
textured (Some unit) None p k x y primary previous = previous
textured (Some unit) (Some set) p k x y primary previous =
    environment unit (unit_texel unit set p k x y) primary previous
