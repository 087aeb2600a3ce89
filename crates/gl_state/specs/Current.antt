-- What a vertex takes where no array gives it, and the active texture units (OpenGL ES 1.1.12, 2.7 and 2.8).
use Rattle.std.specs.Prelude.{ℕ, pos, List, [], ◌∷◌, Option, Ok}
use Rattle.fx_arith.specs.Number.{one, fixed, fixed_from_byte}
use Rattle.fx_arith.specs.declared.fx.Fx.{Fx}
use Rattle.gl_records.specs.declared.attribs.Attribs.{Attribs}
use Rattle.gl_tokens.specs.Commands.{done, known, ◌>>=◌}
use Rattle.gl_tokens.specs.TextureUnit as texture_unit
use Rattle.gl_tokens.specs.declared.gl_error.GlError.{GlError}
use Rattle.gl_tokens.specs.declared.texture_unit.TextureUnit.{TextureUnit}
use Rattle.gl_tokens.specs.declared.texture_unit.TextureUnit.TheVariants.{Texture0, Texture1}
use Rattle.gl_state.specs.declared.current.CurrentValues.{CurrentValues}

-- x y z w, or s t r q, of the origin
abbrev pub origin : List Fx
origin = fixed (pos 0) ∷ fixed (pos 0) ∷ fixed (pos 0) ∷ fixed one ∷ []

-- colour 1 1 1 1, normal 0 0 1, texture coordinates 0 0 0 1
abbrev pub opening_values : CurrentValues
opening_values = record {
  unit = Texture0;
  client_unit = Texture0;
  color = fixed one ∷ fixed one ∷ fixed one ∷ fixed one ∷ [];
  normal = fixed (pos 0) ∷ fixed (pos 0) ∷ fixed one ∷ [];
  texture0 = origin;
  texture1 = origin;
}

-- Color: kept as it is given
abbrev pub with_color : CurrentValues → Fx → Fx → Fx → Fx → CurrentValues
with_color s red green blue alpha = record s { color = red ∷ green ∷ blue ∷ alpha ∷ [] }

-- the same, in 255ths
abbrev pub with_color_bytes : CurrentValues → ℕ → ℕ → ℕ → ℕ → CurrentValues
with_color_bytes s red green blue alpha =
    with_color s (fixed_from_byte red) (fixed_from_byte green) (fixed_from_byte blue) (fixed_from_byte alpha)

-- Normal
abbrev pub with_normal : CurrentValues → Fx → Fx → Fx → CurrentValues
with_normal s x y z = record s { normal = x ∷ y ∷ z ∷ [] }

-- the texture coordinates of a unit
abbrev pub coordinates : CurrentValues → TextureUnit → List Fx
coordinates s Texture0 = s.texture0
coordinates s Texture1 = s.texture1

abbrev pub with_coordinates : CurrentValues → TextureUnit → List Fx → CurrentValues
with_coordinates s Texture0 coordinates = record s { texture0 = coordinates }
with_coordinates s Texture1 coordinates = record s { texture1 = coordinates }

-- MultiTexCoord
abbrev pub multi_tex_coord : CurrentValues → ℕ → Fx → Fx → Fx → Fx → CurrentValues × Option GlError
multi_tex_coord values texture s t r q = done values do
  unit ← known (texture_unit.from_code_of texture)
  Ok (with_coordinates values unit (s ∷ t ∷ r ∷ q ∷ []))

-- ClientActiveTexture
abbrev pub client_active_texture : CurrentValues → ℕ → CurrentValues × Option GlError
client_active_texture values texture = done values do
  unit ← known (texture_unit.from_code_of texture)
  Ok (record values { client_unit = unit })

-- the values as those of a vertex, at the origin
abbrev pub attribs : CurrentValues → Attribs
attribs s = record {
  pos = origin;
  normal = s.normal;
  color = s.color;
  tex = s.texture0 ∷ s.texture1 ∷ [];
}
