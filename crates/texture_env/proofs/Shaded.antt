-- The colour of a pixel, step by step.
use Rattle.std.specs.Prelude.{ℤ, ℕ, ◌≡◌, List, Option}
use Rattle.gl_records.specs.declared.frag_state.FragState.{FragState}
use Rattle.gl_records.specs.declared.level.ImageSet.{ImageSet}
use Rattle.gl_records.specs.declared.prim.Primitive.{Primitive}
use Rattle.gl_records.specs.FogColor.{fogged}
use Rattle.gl_records.specs.Interpolation.{interpolated_color}
use Rattle.gl_records.specs.Shading.{shaded, unit_at}
use Rattle.gl_records.specs.TextureEnvironment.{textured}

pub shaded-is : (state : FragState) (first second : Option ImageSet) (p : Primitive) (x y : ℤ) (primary one two result : List ℕ)
    → primary ≡ interpolated_color p x y
    → one ≡ textured (unit_at state 0) first p 0 x y primary primary
    → two ≡ textured (unit_at state 1) second p 1 x y primary one
    → result ≡ fogged state.fog p x y two → result ≡ shaded state first second p x y
unfolding shaded
shaded-is state first second p x y primary one two result a b c d = rw (d, c, b, a)
