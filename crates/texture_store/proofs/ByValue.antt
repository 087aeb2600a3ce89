-- The objects by value change as the stored ones do.
use Rattle.std.proofs.Common.{◌≡◌, ◌+◌, ℕ, ℤ, Bool, true, false, cond, eqb, Option, Some, None, is_some, refl, sym, ap, ◌∙◌, arith}
use Rattle.std.specs.FinMap as map
use Rattle.std.specs.Option.{option_map}
use Rattle.object_names.specs.Giving as giving
use Rattle.object_names.specs.Names.{LiveNames, object_at, size_or_0}
use Rattle.object_names.specs.Seen.{seen_as}
use Rattle.object_names.proofs.Seen.{seen-insert, object-seen, given-seen, behind-seen}
use Rattle.object_names.proofs.Totals.{total-insert, total-remove}
use Rattle.texture_store.specs.Commands.{given_names, behind_names, without_live}
use Rattle.texture_store.specs.Stored.{StoredTextures, objects_of, texture_of, stored_at, with_stored}
use Rattle.texture_store.specs.Textures.{Texture, TextureObjects, texture_at, texture_or_opening, bound_name, bound_texture, with_texture, texture_bytes, live_bytes}
use Rattle.texture_store.specs.declared.object.Object.{Object}

-- the texture that a name stands for
by_zero : (s : StoredTextures) (name : ℕ) (zero : Bool) →
    cond zero (Some (texture_of s.unnamed)) (object_at (seen_as texture_of s.names) name) ≡ option_map texture_of (cond zero (Some s.unnamed) (object_at s.names name))
by_zero s name true = refl
by_zero s name false = object-seen texture_of s.names name

pub texture_of_stored : (s : StoredTextures) (name : ℕ) → texture_at (objects_of s) name ≡ option_map texture_of (stored_at s name)
texture_of_stored s name = by_zero s name (eqb name 0)

-- a name that stands for another object
put_by : (s : StoredTextures) (name : ℕ) (object : Object) (zero : Bool) →
    objects_of (record s { names = cond zero s.names (map.insert s.names name (Some object)); unnamed = cond zero object s.unnamed })
    ≡ cond zero (record (objects_of s) { unnamed = texture_of object }) (record (objects_of s) { names = map.insert (objects_of s).names name (Some (texture_of object)) })
put_by s name object true = refl
put_by s name object false = ap (λ (names : LiveNames Texture). record (objects_of s) { names = names }) (seen-insert texture_of s.names name (Some object))

pub objects-with_stored : (s : StoredTextures) (name : ℕ) (object : Object) → objects_of (with_stored s name object) ≡ with_texture (objects_of s) name (texture_of object)
objects-with_stored s name object = put_by s name object (eqb name 0)

-- names that are given
pub objects-behind : (s : StoredTextures) (count : ℤ) →
    objects_of (record s { names = giving.behind_names s.names (giving.given_names s.names count) }) ≡ behind_names (objects_of s) (given_names (objects_of s) count)
objects-behind s count = ap (λ (names : LiveNames Texture). record (objects_of s) { names = names }) (
    behind-seen texture_of s.names (giving.given_names s.names count)
    ∙ ap (giving.behind_names (objects_of s).names) (sym (given-seen texture_of s.names count)))

-- the bytes of all images, once a name stands for another texture
bytes_by : (t : TextureObjects) (name : ℕ) (texture : Texture) (zero : Bool) →
    live_bytes (cond zero (record t { unnamed = texture }) (record t { names = map.insert t.names name (Some texture) }))
    + size_or_0 texture_bytes (cond zero (Some t.unnamed) (object_at t.names name)) ≡ live_bytes t + texture_bytes texture
bytes_by t name texture true = omega arith
bytes_by t name texture false = omega (arith, total-insert texture_bytes t.names name (Some texture))

pub bytes-with_texture : (t : TextureObjects) (name : ℕ) (texture : Texture) →
    live_bytes (with_texture t name texture) + size_or_0 texture_bytes (texture_at t name) ≡ live_bytes t + texture_bytes texture
bytes-with_texture t name texture = bytes_by t name texture (eqb name 0)

-- and once it is gone
pub bytes-without_live : (t : TextureObjects) (name : ℕ) → live_bytes (without_live t name) + size_or_0 texture_bytes (object_at t.names name) ≡ live_bytes t
bytes-without_live t name = omega (arith, total-remove texture_bytes t.names name)

-- whether a name stands for a texture
pub seen_is : (names : LiveNames Object) (name : ℕ) (o : Option Object) → o ≡ object_at names name → is_some (object_at (seen_as texture_of names) name) ≡ is_some o
seen_is names name o is = ap is_some (object-seen texture_of names name ∙ ap (option_map texture_of) (sym is)) ∙ some_map o where
  some_map : (x : Option Object) → is_some (option_map texture_of x) ≡ is_some x
  some_map None = refl
  some_map (Some object) = refl

-- the texture that is bound
pub bound_is : (s : StoredTextures) (unit : ℕ) (o : Option Object) → o ≡ stored_at s (bound_name (objects_of s) unit) → texture_or_opening (option_map texture_of o) ≡ bound_texture (objects_of s) unit
bound_is s unit o is = ap texture_or_opening (ap (option_map texture_of) is ∙ sym (texture_of_stored s (bound_name (objects_of s) unit)))
