-- A unit's texel by its coordinates.
use Rattle.std.specs.Prelude.{ℕ, ℤ, ◌≡◌}
use Rattle.gl_records.specs.declared.level.ImageSet.{ImageSet}
use Rattle.gl_records.specs.declared.prim.Primitive.{Primitive}
use Rattle.gl_records.specs.declared.unit_state.UnitState.{UnitState}
use Rattle.gl_records.specs.Complete.{last_level}
use Rattle.gl_records.specs.LevelChoice.{chosen}
use Rattle.gl_records.specs.Sampling.{texel_of}
use Rattle.gl_records.specs.TextureCoordinate.{s_at, t_at}
use Rattle.gl_records.specs.TextureEnvironment.{image_rho, unit_texel}

pub texel-is : (unit : UnitState) (set : ImageSet) (p : Primitive) (k : ℕ) (x y s t : ℤ) (scale : ℕ) → s ≡ s_at p k x y → t ≡ t_at p k x y
    → chosen unit.sampler (last_level set) scale ≡ chosen unit.sampler (last_level set) (image_rho set p k x y)
    → texel_of set unit.sampler s t scale ≡ unit_texel unit set p k x y
unfolding unit_texel
texel-is unit set p k x y s t scale across up choice = rw (choice, across, up)
