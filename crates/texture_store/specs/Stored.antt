-- Texture objects beside the versions of their images.
use Rattle.std.specs.Prelude.{◌≡◌, ◌==◌, ℕ, List, Option, None, Some, if◌then◌else◌, slice_index_or}
use Rattle.std.specs.FinMap as map
use Rattle.std.specs.Option.{option_and_then}
use Rattle.gl_records.specs.declared.level.ImageSet.{ImageSet}
use Rattle.gl_records.specs.declared.version_id.VersionId.{VersionId}
use Rattle.object_names.specs.Names.{LiveNames, object_at}
use Rattle.object_names.specs.Seen.{seen_as}
use Rattle.texture_ghosts.specs.Versions.{Versions, at, current_set}
use Rattle.texture_store.specs.Textures.{Texture, TextureObjects, texture_at, texture_or_opening}
use Rattle.texture_store.specs.declared.object.Object.{Object}
use Rattle.texture_store.specs.declared.parameters.Parameters.{Parameters}

-- the objects, each with the version of its image, what is bound, and the versions as they were when one of these
-- objects changed last
pub record StoredTextures : Type 0 where
  pub names : LiveNames Object
  pub unnamed : Object
  pub bound : List ℕ
  pub versions : Versions

-- an object by value, whatever version its image has
abbrev pub texture_of : Object → Texture
texture_of object = record { parameters = object.parameters; image = object.image.value }

abbrev pub objects_of : StoredTextures → TextureObjects
objects_of stored = record { names = seen_as texture_of stored.names; unnamed = texture_of stored.unnamed; bound = stored.bound }

-- the object that a name stands for
abbrev pub stored_at : StoredTextures → ℕ → Option Object
stored_at stored name = if name == 0 then Some stored.unnamed else object_at stored.names name

-- the version of its image, if it has one
abbrev pub version_at : StoredTextures → ℕ → Option VersionId
version_at stored name = option_and_then (λ object. object.version) (stored_at stored name)

-- the version of the image of the texture that is bound to a unit
abbrev pub bound_version : StoredTextures → ℕ → Option VersionId
bound_version stored unit = version_at stored (slice_index_or stored.bound unit 0)

-- the contents of each version that an object has
abbrev pub current_sets : Versions → ℕ → Option ImageSet
current_sets versions v = current_set (at versions v)

-- the current versions of these images are exactly those of these textures
abbrev pub AreOf : StoredTextures → Versions → Type 0
AreOf stored versions = (v : ℕ) → current_sets versions v ≡ current_sets stored.versions v

-- a name stands for another object
abbrev pub with_stored : StoredTextures → ℕ → Object → StoredTextures
with_stored stored name object = record stored {
  names = if name == 0 then stored.names else map.insert stored.names name (Some object);
  unnamed = if name == 0 then object else stored.unnamed;
}

-- the object of a name, changed
abbrev pub changed_names : (Object → Object) → LiveNames Object → ℕ → Option Object → LiveNames Object
changed_names change names name None = names
changed_names change names name (Some object) = map.insert names name (Some (change object))

abbrev pub with_changed : (Object → Object) → StoredTextures → ℕ → StoredTextures
with_changed change stored name = record stored {
  names = if name == 0 then stored.names else changed_names change stored.names name (object_at stored.names name);
  unnamed = if name == 0 then change stored.unnamed else stored.unnamed;
}

-- with other parameters, or with another image
abbrev pub told : Parameters → Object → Object
told parameters object = record object { parameters = parameters }

abbrev pub given : Option VersionId → ImageSet → Object → Object
given version image object = record object { version = version; image = record object.image { value = image } }

-- the image of a name's texture
abbrev pub image_of_name : StoredTextures → ℕ → ImageSet
image_of_name stored name = (texture_or_opening (texture_at (objects_of stored) name)).image

abbrev pub with_versions : StoredTextures → Versions → StoredTextures
with_versions stored versions = record stored { versions = versions }
