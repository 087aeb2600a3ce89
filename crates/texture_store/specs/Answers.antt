-- What the calls that write and delete answer, and what becomes of the versions.
use Rattle.std.specs.Prelude.{◌≡◌, ◌⊎◌, ℕ, List, Option, None, Some, IfSome, false, take}
use Rattle.gl_records.specs.Complete.{level_at}
use Rattle.gl_records.specs.declared.level.ImageSet.{ImageSet}
use Rattle.gl_records.specs.declared.rec.Rec.{Rec}
use Rattle.gl_records.specs.declared.version_id.VersionId.{VersionId}
use Rattle.gl_tokens.specs.declared.base_format.BaseFormat.{BaseFormat}
use Rattle.std.specs.Option.{option_map}
use Rattle.texture_ghosts.specs.Versions.{Versions, at, is_pinned, left_over, waits, write_rule, IsPinned}
use Rattle.texture_ghosts.specs.declared.wrote.Wrote.TheVariants.{NeedsDrain}
use Rattle.texture_store.specs.Commands.{without_names}
use Rattle.texture_store.specs.Stored.{StoredTextures, objects_of, bound_version}
use Rattle.texture_store.specs.Writes.{written as written_of}
use Rattle.texture_store.specs.declared.written.Written.{Written}
use Rattle.texture_store.specs.declared.written.Written.TheVariants.{Done, Error, Wait, Copy}

-- no pass names a version
abbrev pub AreUnpinned : Versions → Type 0
AreUnpinned versions = (v : ℕ) → IfSome (at versions v) (λ version. is_pinned version ≡ false)

-- a version that a pass names stays as it is, and at most ceases to be an object's
abbrev pub KeepPinned : Versions → Versions → Type 0
KeepPinned old new = (v : ℕ) → IsPinned (at old v) → (at new v ≡ at old v) ⊎ (at new v ≡ left_over (at old v))

-- a version's change can be made at once
abbrev pub IsReady : Versions → Option VersionId → Type 0
IsReady versions version = IfSome version (λ v. waits (write_rule versions v.0) ≡ false)

-- it can't, since ghosts take so many bytes and the version has these
abbrev pub IsPastGhosts : Versions → Option VersionId → (held bytes : ℕ) → Type 0
IsPastGhosts versions None held bytes = ⊥
IsPastGhosts versions (Some v) held bytes = write_rule versions v.0 ≡ NeedsDrain held bytes

-- what a command of images answers: the error is that of the command, and it waits exactly where it has none and its
-- version's change can't be made at once
abbrev pub WriteAnswer : (old new : StoredTextures) → Versions → (unit align : ℕ) → Rec → Written → Type 0
WriteAnswer old new versions unit align rec Done =
    ((objects_of new, None) ≡ written_of (objects_of old) unit align rec) × IsReady versions (bound_version old unit)
WriteAnswer old new versions unit align rec (Error error) = ((objects_of new, Some error) ≡ written_of (objects_of old) unit align rec) × (new ≡ old)
WriteAnswer old new versions unit align rec (Wait held bytes) =
    ((written_of (objects_of old) unit align rec).1 ≡ None) × IsPastGhosts versions (bound_version old unit) held bytes × (new ≡ old)
WriteAnswer old new versions unit align rec Copy = ⊥

-- nothing waits, and nothing is to be copied
abbrev pub IsSettled : Written → Type 0
IsSettled Done = Unit {0}
IsSettled (Error error) = Unit {0}
IsSettled (Wait held bytes) = ⊥
IsSettled Copy = ⊥

-- what DeleteTextures answers: all names are gone, or those before the first that waits
abbrev pub DropAnswer : (old new : StoredTextures) → List ℕ → Written → Type 0
DropAnswer old new names Done = objects_of new ≡ without_names (objects_of old) names
DropAnswer old new names (Wait held bytes) = (count : ℕ) × (objects_of new ≡ without_names (objects_of old) (take count names))
DropAnswer old new names (Error error) = ⊥
DropAnswer old new names Copy = ⊥

-- the format of an image, that of its level 0
abbrev pub format_of : ImageSet → Option BaseFormat
format_of image = option_map (λ level. level.format) (level_at image 0)
