-- The commands on texture objects but for those of images, with their errors in order (OpenGL ES 1.1.12, 3.7.4 and
-- 3.7.11).
use Rattle.std.specs.Prelude.{ℕ, ℤ, ◌==◌, not, List, Option, Some, None, Result, Ok, if◌then◌else◌, slice_set, map as list_map}
use Rattle.std.specs.FinMap as map
use Rattle.std.specs.List.{fold}
use Rattle.gl_records.specs.Complete.{is_mipmap}
use Rattle.gl_tokens.specs.Commands.{done, known, unless, ◌>>=◌}
use Rattle.gl_tokens.specs.Filter as filter
use Rattle.gl_tokens.specs.TextureParameter as texture_parameter
use Rattle.gl_tokens.specs.TextureTarget as target
use Rattle.gl_tokens.specs.Wrap as wrap
use Rattle.gl_tokens.specs.declared.filter.Filter.{Filter}
use Rattle.gl_tokens.specs.declared.gl_error.GlError.{GlError}
use Rattle.gl_tokens.specs.declared.gl_error.GlError.TheVariants.{InvalidEnum, OutOfMemory}
use Rattle.gl_tokens.specs.declared.texture_parameter.TextureParameter.{TextureParameter}
use Rattle.gl_tokens.specs.declared.texture_parameter.TextureParameter.TheVariants.{MagFilter, MinFilter, WrapS, WrapT, GenerateMipmap}
use Rattle.object_names.specs.Giving as giving
use Rattle.texture_store.specs.declared.parameters.Parameters.{Parameters}
use Rattle.texture_store.specs.Textures.{Texture, TextureObjects, opening_texture, texture_at, with_texture, bound_name, bound_texture}

-- GenTextures: the names, or the error
abbrev pub given_names : TextureObjects → ℤ → Result (List ℕ) GlError
given_names textures count = giving.given_names textures.names count

-- the state behind it: the names are live, and stand for no object yet
abbrev pub behind_names : TextureObjects → Result (List ℕ) GlError → TextureObjects
behind_names textures given = record textures { names = giving.behind_names textures.names given }

abbrev pub with_bound : TextureObjects → ℕ → ℕ → TextureObjects
with_bound textures unit name = record textures { bound = slice_set textures.bound unit name }

-- the state in which this name stands for an object; where it stood for none, a new one is made
abbrev pub with_object : TextureObjects → ℕ → Option Texture → Result TextureObjects GlError
with_object textures name (Some texture) = Ok textures
with_object textures name None = unless (giving.lacks_room textures.names name) OutOfMemory (Ok (with_texture textures name opening_texture))

-- BindTexture, while this unit is active
abbrev pub bind : TextureObjects → ℕ → ℕ → ℕ → TextureObjects × Option GlError
bind textures unit code name = done textures do
  target ← known (target.from_code_of code)
  named ← with_object textures name (texture_at textures name)
  Ok (with_bound named unit name)

-- a filter that reads one level
abbrev pub single_level : ℕ → Result Filter GlError
single_level code = do
  filter ← known (filter.from_code_of code)
  unless (is_mipmap filter) InvalidEnum (Ok filter)

-- another parameter: a filter, of one level where it magnifies, a wrap, or any word that says whether smaller levels are
-- made
abbrev pub with_parameter : Parameters → TextureParameter → ℕ → Result Parameters GlError
with_parameter p MagFilter value = do
  filter ← single_level value
  Ok (record p { sampler = record p.sampler { mag = filter } })
with_parameter p MinFilter value = do
  filter ← known (filter.from_code_of value)
  Ok (record p { sampler = record p.sampler { min = filter } })
with_parameter p WrapS value = do
  wrap ← known (wrap.from_code_of value)
  Ok (record p { sampler = record p.sampler { wrap_s = wrap } })
with_parameter p WrapT value = do
  wrap ← known (wrap.from_code_of value)
  Ok (record p { sampler = record p.sampler { wrap_t = wrap } })
with_parameter p GenerateMipmap value = Ok (record p { remakes = not (value == 0) })

-- the parameters that TexParameter leaves of the texture that is bound to the unit, or its error
abbrev pub new_parameters : TextureObjects → ℕ → ℕ → ℕ → ℕ → Result Parameters GlError
new_parameters textures unit target_code code value = do
  target ← known (target.from_code_of target_code)
  parameter ← known (texture_parameter.from_code_of code)
  with_parameter (bound_texture textures unit).parameters parameter value

-- TexParameter
abbrev pub parameter : TextureObjects → ℕ → ℕ → ℕ → ℕ → TextureObjects × Option GlError
parameter textures unit target_code code value = done textures do
  parameters ← new_parameters textures unit target_code code value
  Ok (with_texture textures (bound_name textures unit) (record (bound_texture textures unit) { parameters = parameters }))

-- what is bound, once this name is gone
abbrev pub unbound : ℕ → ℕ → ℕ
unbound name bound = if bound == name then 0 else bound

-- a name that isn't live any more, nor bound
abbrev pub without_live : TextureObjects → ℕ → TextureObjects
without_live textures name = record textures { names = map.remove textures.names name; bound = list_map (unbound name) textures.bound }

-- a name that is gone: 0 is passed over, and one that isn't live changes nothing
abbrev pub without_name : TextureObjects → ℕ → TextureObjects
without_name textures name = if name == 0 then textures else without_live textures name

-- DeleteTextures
abbrev pub without_names : TextureObjects → List ℕ → TextureObjects
without_names textures names = fold without_name textures names
