-- Texture objects: live names, the objects that they stand for with their images, and which are bound (OpenGL ES 1.1.12,
-- 3.7.4 and 3.7.11).
use Rattle.std.specs.Prelude.{ℕ, ◌+◌, ◌==◌, Bool, false, List, [], ◌∷◌, Option, Some, None, is_some, if◌then◌else◌, slice_index_or}
use Rattle.std.specs.FinMap as map
use Rattle.gl_records.specs.ImageBytes.{image_bytes, empty_image}
use Rattle.gl_records.specs.declared.level.ImageSet.{ImageSet}
use Rattle.gl_records.specs.declared.sampler.Sampler.{Sampler}
use Rattle.gl_tokens.specs.declared.filter.Filter.TheVariants.{Linear, NearestMipmapLinear}
use Rattle.gl_tokens.specs.declared.wrap.Wrap.TheVariants.{Repeat}
use Rattle.object_names.specs.Names.{LiveNames, object_at, total}
use Rattle.texture_store.specs.declared.parameters.Parameters.{Parameters}

-- a texture object: how it is read, whether GENERATE_MIPMAP is on, and its image
pub record Texture : Type 0 where
  pub parameters : Parameters
  pub image : ImageSet

-- live names with what they stand for, the object of name 0, which is one for both units, and the name that is bound
-- to each unit
pub record TextureObjects : Type 0 where
  pub names : LiveNames Texture
  pub unnamed : Texture
  pub bound : List ℕ

-- so many bytes may be live: 2^26
abbrev pub most_bytes : ℕ
most_bytes = 67108864

abbrev pub opening_sampler : Sampler
opening_sampler = record { mag = Linear; min = NearestMipmapLinear; wrap_s = Repeat; wrap_t = Repeat }

abbrev pub opening_parameters : Parameters
opening_parameters = record { sampler = opening_sampler; remakes = false }

-- a texture object before anything is said of it
abbrev pub opening_texture : Texture
opening_texture = record { parameters = opening_parameters; image = empty_image }

-- no name is live, and texture 0 is bound to both units
abbrev pub opening_textures : TextureObjects
opening_textures = record { names = map.empty; unnamed = opening_texture; bound = 0 ∷ 0 ∷ [] }

-- the object that a name stands for
abbrev pub texture_at : TextureObjects → ℕ → Option Texture
texture_at textures name = if name == 0 then Some textures.unnamed else object_at textures.names name

-- a name that stands for an object
abbrev pub with_texture : TextureObjects → ℕ → Texture → TextureObjects
with_texture textures name texture =
    if name == 0 then record textures { unnamed = texture } else record textures { names = map.insert textures.names name (Some texture) }

-- the name that is bound to a unit
abbrev pub bound_name : TextureObjects → ℕ → ℕ
bound_name textures unit = slice_index_or textures.bound unit 0

abbrev pub texture_or_opening : Option Texture → Texture
texture_or_opening None = opening_texture
texture_or_opening (Some texture) = texture

-- the texture that is bound to a unit; there always is one
abbrev pub bound_texture : TextureObjects → ℕ → Texture
bound_texture textures unit = texture_or_opening (texture_at textures (bound_name textures unit))

-- the name stands for an object, which name 0 doesn't
abbrev pub is_texture : TextureObjects → ℕ → Bool
is_texture textures name = is_some (object_at textures.names name)

abbrev pub texture_bytes : Texture → ℕ
texture_bytes texture = image_bytes texture.image

-- the bytes of all images together
abbrev pub live_bytes : TextureObjects → ℕ
live_bytes textures = texture_bytes textures.unnamed + total texture_bytes textures.names
