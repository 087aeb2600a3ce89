-- What a deletion does to the texture objects and to the versions of their images.
use Rattle.std.specs.Prelude.{◌≡◌, ◌≢◌, ℕ, List, Option, IfSome, map as list_map, slice_index_or, take}
use Rattle.std.specs.FinMap as map
use Rattle.gl_records.specs.declared.version_id.VersionId.{VersionId}
use Rattle.texture_ghosts.specs.Versions.{Versions, at, ghosts_after, given, left_over, IsOther}
use Rattle.texture_store.specs.Answers.{IsPastGhosts}
use Rattle.texture_store.specs.Commands.{unbound, without_name, without_names}
use Rattle.texture_store.specs.Stored.{StoredTextures, objects_of, version_at}
use Rattle.texture_store.specs.declared.written.Written.{Written}
use Rattle.texture_store.specs.declared.written.Written.TheVariants.{Done, Error, Wait, Copy}

-- a name that isn't live any more, nor bound
abbrev pub without_stored : StoredTextures → ℕ → StoredTextures
without_stored stored name = record stored { names = map.remove stored.names name; bound = list_map (unbound name) stored.bound }

-- an object has its version no longer, if it had one
pub record IsDropped (old new : Versions) (version : Option VersionId) : Type 0 where
  pub left : IfSome version (λ v. at new v.0 ≡ left_over (at old v.0))
  pub others : (w : ℕ) → IsOther version w → at new w ≡ at old w
  pub ghosts : new.ghosts ≡ ghosts_after old.ghosts (given old version)
  pub lent : new.lent ≡ old.lent

-- a name whose object has a version that can't be left beside so many bytes of ghosts
abbrev pub HasToWait : StoredTextures → Versions → ℕ → (held bytes : ℕ) → Type 0
HasToWait stored versions name held bytes = (name ≢ 0) × IsPastGhosts versions (version_at stored name) held bytes

-- what the deletion of one name answers: it is gone, or it has to wait and nothing is changed
abbrev pub NameAnswer : (old new : StoredTextures) → (before after : Versions) → ℕ → Written → Type 0
NameAnswer old new before after name Done = objects_of new ≡ without_name (objects_of old) name
NameAnswer old new before after name (Wait held bytes) = HasToWait old before name held bytes × (new ≡ old) × (after ≡ before)
NameAnswer old new before after name (Error error) = ⊥
NameAnswer old new before after name Copy = ⊥

-- a deletion that waits does so for the first name that is still there
abbrev pub DropWait : (old new : StoredTextures) → Versions → List ℕ → Written → Type 0
DropWait old new versions names Done = Unit {0}
DropWait old new versions names (Wait held bytes) =
    (count : ℕ) × (objects_of new ≡ without_names (objects_of old) (take count names)) × HasToWait new versions (slice_index_or names count 0) held bytes
DropWait old new versions names (Error error) = ⊥
DropWait old new versions names Copy = ⊥
