-- Versions of images: what a texture's image was between two writes to it (this project's profile, after renderers
-- that defer their shading and keep copies of textures in use).
use Rattle.std.specs.Prelude.{ℕ, ◌≡◌, ◌≢◌, ◌+◌, ◌-◌, ◌≤◌, ◌^◌, ◌&&◌, ◌||◌, not, min, nat_le, OnSome, ◌⊎◌, Bool, true, false, if◌then◌else◌, List, Option, None, Some, slice_index_or}
use Rattle.std.specs.List.{sum_by}
use Rattle.gl_records.specs.declared.level.ImageSet.{ImageSet}
use Rattle.gl_records.specs.declared.version_id.VersionId.{VersionId}
use Rattle.gl_records.specs.ImageBytes.{image_bytes}
use Rattle.texture_ghosts.specs.declared.wrote.Wrote.{Wrote}
use Rattle.texture_ghosts.specs.declared.wrote.Wrote.TheVariants.{InPlace, Ghosted, NeedsDrain}

-- its contents, whether an object has it, and whether the gathered and the sealed pass name it
pub record Version : Type 0 where
  pub set : ImageSet
  pub current : Bool
  pub gathered : Bool
  pub sealed : Bool

-- the version of each number, the contents that are lent by number, and how many versions have ceased to be current
-- while they were pinned
pub record Versions : Type 0 where
  pub slots : List (Option Version)
  pub lent : List (Option ImageSet)
  pub ghosts : ℕ

-- the version of this number
abbrev pub at : Versions → ℕ → Option Version
at versions v = slice_index_or versions.slots v None

-- a version that an object has and that no pass names
abbrev pub fresh : ImageSet → Version
fresh set = record { set = set; current = true; gathered = false; sealed = false }

-- a pass names it
abbrev pub is_pinned : Version → Bool
is_pinned version = version.gathered || version.sealed

-- the contents of the version of a number
abbrev pub contents : Option Version → Option ImageSet
contents None = None
contents (Some version) = Some version.set

-- the contents, where an object has the version
abbrev pub current_set : Option Version → Option ImageSet
current_set None = None
current_set (Some version) = if version.current then Some version.set else None

-- the contents, where they aren't lent
abbrev pub here : Version → Option ImageSet
here version = if version.sealed then None else Some version.set

-- the image that is lent under this number
abbrev pub lent_at : List (Option ImageSet) → ℕ → Option ImageSet
lent_at lent v = slice_index_or lent v None

-- the contents, where they are lent
abbrev pub sealed_set : Option Version → Option ImageSet
sealed_set None = None
sealed_set (Some version) = if version.sealed then Some version.set else None

-- the bytes of a ghost: a version that is pinned and that no object has
abbrev pub bytes_of_ghost : Option Version → ℕ
bytes_of_ghost None = 0
bytes_of_ghost (Some version) = if is_pinned version && not version.current then image_bytes version.set else 0

-- the bytes of all ghosts
unfoldable pub ghost_bytes : List (Option Version) → ℕ
ghost_bytes slots = sum_by bytes_of_ghost slots

-- the most that ghosts may take
abbrev pub most_ghost_bytes : ℕ
most_ghost_bytes = 2 ^ 26

-- a version that an object has
abbrev pub IsCurrent : Option Version → Type 0
IsCurrent None = ⊥
IsCurrent (Some version) = version.current ≡ true

-- a version that no pass names
abbrev pub IsUnpinned : Option Version → Type 0
IsUnpinned None = ⊥
IsUnpinned (Some version) = is_pinned version ≡ false

-- a version that a pass names
abbrev pub IsPinned : Option Version → Type 0
IsPinned None = ⊥
IsPinned (Some version) = is_pinned version ≡ true

-- a number has a version only where an object has it or a pass names it
abbrev pub IsUsed : Option Version → Type 0
IsUsed None = Unit {0}
IsUsed (Some version) = version.current || is_pinned version ≡ true

-- the bytes of a version
abbrev pub bytes_of : Option Version → ℕ
bytes_of None = 0
bytes_of (Some version) = image_bytes version.set

-- what a change of a version does, with so many bytes of ghosts
abbrev pub change_of : ℕ → Option Version → Wrote
change_of held None = InPlace
change_of held (Some version) =
    if not (is_pinned version) then InPlace else
    if nat_le (held + image_bytes version.set) most_ghost_bytes then Ghosted else NeedsDrain held (image_bytes version.set)

-- the rule of writes: in place where no pass names the version, else a new version beside the ghost, as far as ghosts
-- may take so many bytes
abbrev pub write_rule : Versions → ℕ → Wrote
write_rule versions v = change_of (ghost_bytes versions.slots) (at versions v)

-- the change can be made only when nothing is pinned
abbrev pub waits : Wrote → Bool
waits InPlace = false
waits Ghosted = false
waits (NeedsDrain held bytes) = true

-- the version of an object, or none where it has none yet
abbrev pub given : Versions → Option VersionId → Option Version
given versions None = None
given versions (Some v) = at versions v.0

-- an object's version, if it has one, is current, and may be changed
abbrev pub IsAllowed : Versions → Option VersionId → Type 0
IsAllowed versions None = Unit {0}
IsAllowed versions (Some v) = IsCurrent (at versions v.0) × (waits (write_rule versions v.0) ≡ false)

-- what is left of a version when its object has it no longer
abbrev pub left_over : Option Version → Option Version
left_over None = None
left_over (Some version) = if is_pinned version then Some (record version { current = false }) else None

-- how many versions have ceased to be current while they were pinned, when this one's object has it no longer; 64
-- bits count no further
abbrev pub ghosts_after : ℕ → Option Version → ℕ
ghosts_after count None = count
ghosts_after count (Some version) = if is_pinned version then min (count + 1) (2 ^ 64 - 1) else count

-- the contents became a version that an object has, or there were none
abbrev pub IsMade : Versions → Option VersionId → Option ImageSet → Type 0
IsMade versions None None = Unit {0}
IsMade versions (Some v) (Some set) = at versions v.0 ≡ Some (fresh set)
IsMade versions None (Some set) = ⊥
IsMade versions (Some v) None = ⊥

-- the number was vacant, or it was that of a version which no pass names
abbrev pub IsFree : Versions → Option VersionId → Option VersionId → Type 0
IsFree versions old None = Unit {0}
IsFree versions old (Some v) = (at versions v.0 ≡ None) ⊎ ((old ≡ Some v) × IsUnpinned (at versions v.0))

-- another number
abbrev pub IsOther : Option VersionId → ℕ → Type 0
IsOther None w = Unit {0}
IsOther (Some v) w = w ≢ v.0

-- a version as it is kept: its contents are here or lent, and its bytes are known
pub record IsHeld (image : Option ImageSet) (set : ImageSet) (bytes : ℕ) : Type 0 where
  pub here : OnSome image (image ≡ Some set)
  pub counts : bytes ≡ image_bytes set

-- the versions as they are kept: the bytes of the ghosts are known and there is room for them, exactly those of the
-- sealed pass are lent, and none is there for nothing
pub record IsKept (slots : List (Option Version)) (lent : List (Option ImageSet)) (held_bytes : ℕ) : Type 0 where
  pub counts : held_bytes ≡ ghost_bytes slots
  pub few : ghost_bytes slots ≤ most_ghost_bytes
  pub lends : (v : ℕ) → lent_at lent v ≡ sealed_set (slice_index_or slots v None)
  pub used : (v : ℕ) → IsUsed (slice_index_or slots v None)
