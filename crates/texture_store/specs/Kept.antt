-- What always holds of the texture objects.
use Rattle.std.specs.Prelude.{◌≡◌, ◌≤◌, ℕ, true, Option, None, Some, IfSome, is_some, length, slice_index_or}
use Rattle.std.specs.Option.{option_map}
use Rattle.gl_records.specs.ImageBytes.{empty_image}
use Rattle.gl_records.specs.declared.level.ImageSet.{ImageSet}
use Rattle.image_commands.specs.Written.{IsGood}
use Rattle.texture_store.specs.Textures.{live_bytes, most_bytes}
use Rattle.texture_store.specs.Stored.{StoredTextures, objects_of, stored_at, current_sets}
use Rattle.texture_store.specs.declared.object.Object.{Object}

-- an image, with the number of its version if it has one
pub record Held : Type 0 where
  pub version : Option ℕ
  pub image : ImageSet

abbrev pub held_of : Object → Held
held_of object = record { version = option_map (λ v. v.0) object.version; image = object.image.value }

abbrev pub held_at : StoredTextures → ℕ → Option Held
held_at stored name = option_map held_of (stored_at stored name)

abbrev pub number_of : Option Held → Option ℕ
number_of None = None
number_of (Some held) = held.version

-- an image without a version is empty, and one with a version has its contents
abbrev pub IsVersion : (ℕ → Option ImageSet) → Option ℕ → ImageSet → Type 0
IsVersion sets None image = image ≡ empty_image
IsVersion sets (Some v) image = sets v ≡ Some image

abbrev pub IsHeld : (ℕ → Option ImageSet) → Held → Type 0
IsHeld sets held = IsVersion sets held.version held.image

-- the images by names are exactly the current versions: each has its own, and none is without a name
pub record AreHeld (held : ℕ → Option Held) (sets : ℕ → Option ImageSet) : Type 0 where
  pub stored : (name : ℕ) → IfSome (held name) (IsHeld sets)
  pub apart : (name other v : ℕ) → number_of (held name) ≡ Some v → number_of (held other) ≡ Some v → name ≡ other
  pub owned : (v : ℕ) → is_some (sets v) ≡ true → (name : ℕ) × (number_of (held name) ≡ Some v)

abbrev pub HasGood : Option Held → Type 0
HasGood held = IfSome held (λ held. IsGood held.image)

-- what is bound is an object, each image may be written, and not too many bytes are live
pub record IsKept (stored : StoredTextures) : Type 0 where
  pub held : AreHeld (held_at stored) (current_sets stored.versions)
  pub good : (name : ℕ) → HasGood (held_at stored name)
  pub bound : (unit : ℕ) → is_some (stored_at stored (slice_index_or stored.bound unit 0)) ≡ true
  pub units : length stored.bound ≡ 2
  pub few : live_bytes (objects_of stored) ≤ most_bytes
