-- What a change of one texture's image does to the versions.
use Rattle.std.specs.Prelude.{◌≡◌, ℕ, ◌+◌, nat_lt, Bool, Option, None, Some, IfSome, Result, Ok}
use Rattle.gl_records.specs.ImageBytes.{empty_image, image_bytes}
use Rattle.gl_records.specs.declared.level.ImageSet.{ImageSet}
use Rattle.gl_records.specs.declared.rec.Rec.{Rec}
use Rattle.gl_records.specs.declared.version_id.VersionId.{VersionId}
use Rattle.gl_tokens.specs.Commands.{unless, ◌>>=◌}
use Rattle.gl_tokens.specs.declared.gl_error.GlError.{GlError}
use Rattle.gl_tokens.specs.declared.gl_error.GlError.TheVariants.{OutOfMemory}
use Rattle.image_commands.specs.Asked.{asked_of, piece_of}
use Rattle.image_commands.specs.Written.{written}
use Rattle.image_commands.specs.declared.image_write.ImageWrite.{ImageWrite}
use Rattle.texture_ghosts.specs.Versions.{Versions, at, contents, fresh, ghosts_after, given, left_over, IsFree, IsOther, write_rule}
use Rattle.texture_ghosts.specs.declared.wrote.Wrote.{Wrote}
use Rattle.texture_ghosts.specs.declared.wrote.Wrote.TheVariants.{InPlace}
use Rattle.texture_store.specs.Textures.{most_bytes}

-- what a command asks of an image, and how many bytes all images have after it, where the others have so many
abbrev pub planned_of : ImageSet → Rec → Bool → (align others : ℕ) → Result (ImageWrite × ℕ) GlError
planned_of image rec remakes align others = do
  write ← asked_of image rec
  let bytes = others + image_bytes (written image write remakes align (piece_of rec))
  unless (nat_lt most_bytes bytes) OutOfMemory (Ok (write, bytes))

-- the image of a version, empty where there is none yet
abbrev pub image_at : Versions → Option VersionId → Option ImageSet
image_at versions None = Some empty_image
image_at versions (Some v) = contents (at versions v.0)

-- what a change of an image does, where it may have no version yet
abbrev pub rule_at : Versions → Option VersionId → Wrote
rule_at versions None = InPlace
rule_at versions (Some v) = write_rule versions v.0

-- a version, if there was one, gave way to one with these contents
pub record IsMoved (old new : Versions) (version : Option VersionId) (made : VersionId) (image : ImageSet) : Type 0 where
  pub here : at new made.0 ≡ Some (fresh image)
  pub free : IsFree old version (Some made)
  pub left : IfSome version (λ v. IsOther (Some made) v.0 → at new v.0 ≡ left_over (at old v.0))
  pub others : (w : ℕ) → IsOther version w → IsOther (Some made) w → at new w ≡ at old w
  pub ghosts : new.ghosts ≡ ghosts_after old.ghosts (given old version)
  pub lent : new.lent ≡ old.lent

-- a version, if there was one, gave way to another
abbrev pub IsWrite : Versions → Versions → Option VersionId → Type 0
IsWrite old new version = (made : VersionId) × (image : ImageSet) × IsMoved old new version made image
