-- The image of a name's texture, as its version is read.
use Rattle.std.proofs.Common.{◌≡◌, ◌↔◌, ℕ, Bool, true, false, cond, Option, Some, None, IfSome, refl, sym, ap, subst, ◌∙◌}
use Rattle.std.specs.Prelude.{IsSome}
use Rattle.std.specs.Option.{option_map, option_and_then, unwrap_or}
use Rattle.std.proofs.lemmas.Bool.{false≢true}
use Rattle.gl_records.specs.Complete.{is_complete, is_complete_from, level_at}
use Rattle.gl_records.specs.ImageBytes.{empty_image}
use Rattle.gl_records.specs.declared.level.ImageSet.{ImageSet}
use Rattle.gl_records.specs.declared.level.Level.{Level}
use Rattle.gl_records.specs.declared.sampler.Sampler.{Sampler}
use Rattle.gl_records.specs.declared.version_id.VersionId.{VersionId}
use Rattle.image_commands.specs.Written.{IsGood}
use Rattle.image_commands.proofs.Good.{empty_is_good}
use Rattle.texture_ghosts.specs.Versions.{Version, Versions, at, contents, current_set, IsCurrent}
use Rattle.texture_store.specs.Answers.{format_of}
use Rattle.texture_store.specs.Changes.{image_at}
use Rattle.texture_store.specs.Kept.{HasGood, IsKept, IsHeld, IsVersion, held_of}
use Rattle.texture_store.specs.Stored.{StoredTextures, AreOf, current_sets, image_of_name, objects_of, stored_at, texture_of, version_at}
use Rattle.texture_store.specs.Textures.{Texture, bound_name, bound_texture, texture_or_opening}
use Rattle.texture_store.specs.declared.object.Object.{Object}
use Rattle.texture_store.specs.declared.parameters.Parameters.{Parameters}
use Rattle.texture_store.proofs.ByValue.{texture_of_stored}
use Rattle.texture_store.proofs.Holding.{not_none}

-- a version that an object has, with this image
pub record HasImage (version : Option Version) (image : ImageSet) : Type 0 where
  pub lives : IsSome version
  pub current : IsCurrent version
  pub contents : contents version ≡ Some image

pub has_image : (o : Option Version) (image : ImageSet) → current_set o ≡ Some image → HasImage o image
has_image None image is = absurd (not_none image is)
has_image (Some version) image is = by_current version.current refl where
  by_current : (b : Bool) → version.current ≡ b → HasImage (Some version) image
  by_current true current = record {
    lives = refl;
    current = current;
    contents = sym (ap (λ (b : Bool). cond b (Some version.set) None) current) ∙ is;
  }
  by_current false current = absurd (not_none image (sym (ap (λ (b : Bool). cond b (Some version.set) None) current) ∙ is))

-- the image of an object
abbrev pub image_of : Option Object → ImageSet
image_of o = (texture_or_opening (option_map texture_of o)).image

pub image_is : (s : StoredTextures) (name : ℕ) (o : Option Object) → stored_at s name ≡ o → image_of_name s name ≡ image_of o
image_is s name o is = ap (λ (t : Option Texture). (texture_or_opening t).image) (texture_of_stored s name ∙ ap (option_map texture_of) is)

-- what its version reads, current where there is one
pub record IsRead (versions : Versions) (version : Option VersionId) (image : ImageSet) : Type 0 where
  pub reads : image_at versions version ≡ Some image
  pub has : IfSome version (λ v. HasImage (at versions v.0) image)
  pub good : IsGood image

read_by : (versions : Versions) (version : Option VersionId) (image : ImageSet) → IsVersion (current_sets versions) (option_map (λ v. v.0) version) image → IsGood image → IsRead versions version image
read_by versions None image is good = record { reads = ap Some (sym is); has = tt; good = good }
read_by versions (Some v) image is good =
    let has = has_image (at versions v.0) image is in
    record { reads = has.contents; has = has; good = good }

moved : (s : StoredTextures) (versions : Versions) (version : Option ℕ) (image : ImageSet) → AreOf s versions → IsVersion (current_sets s.versions) version image → IsVersion (current_sets versions) version image
moved s versions None image of is = is
moved s versions (Some v) image of is = of v ∙ is

read_of : (s : StoredTextures) (versions : Versions) (o : Option Object) → AreOf s versions → IfSome (option_map held_of o) (IsHeld (current_sets s.versions)) → HasGood (option_map held_of o) →
    IsRead versions (option_and_then (λ object. object.version) o) (image_of o)
read_of s versions None of held good = record { reads = refl; has = tt; good = empty_is_good }
read_of s versions (Some object) of held good =
    read_by versions object.version object.image.value (moved s versions (option_map (λ v. v.0) object.version) object.image.value of held) good

pub image_read : (s : StoredTextures) (versions : Versions) (name : ℕ) → IsKept s → AreOf s versions → IsRead versions (version_at s name) (image_of_name s name)
image_read s versions name kept of =
    subst (IsRead versions (version_at s name)) (sym (image_is s name (stored_at s name) refl))
    (read_of s versions (stored_at s name) of (kept.held.stored name) (kept.good name))

-- the image that is bound to a unit
pub bound_read : (s : StoredTextures) (versions : Versions) (unit name : ℕ) (version : Option VersionId) → name ≡ bound_name (objects_of s) unit → version ≡ version_at s name → IsKept s → AreOf s versions →
    IsRead versions version (bound_texture (objects_of s) unit).image
bound_read s versions unit name version bound is kept of =
    subst (λ v. IsRead versions v (bound_texture (objects_of s) unit).image) (sym is)
    (subst (λ n. IsRead versions (version_at s n) (bound_texture (objects_of s) unit).image) (sym bound) (image_read s versions (bound_name (objects_of s) unit) kept of))

-- a version that is known
pub version_read : (versions : Versions) (version : Option VersionId) (v : VersionId) (image : ImageSet) → version ≡ Some v → IsRead versions version image → HasImage (at versions v.0) image
version_read versions version v image is read = subst (λ (o : Option VersionId). IfSome o (λ v. HasImage (at versions v.0) image)) is read.has

pub none_read : (versions : Versions) (version : Option VersionId) (image : ImageSet) → version ≡ None → IsRead versions version image → image ≡ empty_image
none_read versions version image is read =
    ap (λ (o : Option ImageSet). unwrap_or o empty_image) (sym read.reads ∙ ap (image_at versions) is)

-- the contents of a version are one image
same_image : (o : Option ImageSet) (first second : ImageSet) → o ≡ Some first → o ≡ Some second → first ≡ second
same_image o first second one other = ap (λ (x : Option ImageSet). unwrap_or x empty_image) (sym one ∙ other)

-- what the version of the bound texture reads, where it has one and this image was read of it
pub read_is : (versions : Versions) (version : Option VersionId) (v : VersionId) (image found : ImageSet) → version ≡ Some v → IsRead versions version image → contents (at versions v.0) ≡ Some found → image ≡ found
read_is versions version v image found is read its = same_image (contents (at versions v.0)) image found (version_read versions version v image is read).contents its

-- whether a texture is complete, by the image that was read
pub complete_is : (t : Texture) (image : ImageSet) (parameters : Parameters) (complete : Bool) → t.image ≡ image → parameters ≡ t.parameters → complete ≡ is_complete image parameters.sampler →
    is_complete t.image t.parameters.sampler ≡ complete
complete_is t image parameters complete same told is =
    ap (λ i. is_complete i t.parameters.sampler) same ∙ ap (λ (p : Parameters). is_complete image p.sampler) (sym told) ∙ sym is

-- an image without a level 0 is incomplete, and so is an empty one
no_format : (o : Option Level) (image : ImageSet) (sampler : Sampler) → option_map (λ level. level.format) o ≡ None → is_complete_from image sampler o ≡ false
no_format None image sampler none = refl
no_format (Some level) image sampler none = absurd (not_none level.format (sym none))

pub formatless-incomplete : (image : ImageSet) (sampler : Sampler) → format_of image ≡ None → is_complete image sampler ≡ false
unfolding is_complete
formatless-incomplete image sampler none = no_format (level_at image 0) image sampler none

pub empty-incomplete : (sampler : Sampler) → is_complete empty_image sampler ≡ false
unfolding is_complete
empty-incomplete sampler = refl

-- an answer that is none exactly where the test fails
pub none_where : {A : Type 0} (test : Bool) → test ≡ false → (◌≡◌ {A = Option A} None None) ↔ (test ≡ false)
none_where test fails = (λ _. fails, λ _. refl)

pub some_where : {A : Type 0} (found : A) (test : Bool) → test ≡ true → (Some found ≡ None) ↔ (test ≡ false)
some_where found test holds = (λ none. absurd (not_none found (sym none)), λ fails. absurd (false≢true (sym fails ∙ holds)))
