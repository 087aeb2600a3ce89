-- What always holds of the texture objects goes on to hold as an image is written or dropped, and so do the versions.
use Rattle.std.proofs.Common.{◌≡◌, ◌≢◌, ◌⊎◌, ◌+◌, ◌≤◌, ℕ, nat_lt, Result, Ok, Err, Bool, true, false, cond, eqb, inl, inr, Option, Some, None, IfSome, is_some, refl, sym, ap, subst, ◌∙◌, arith}
use Rattle.std.specs.Option.{option_map, option_and_then, unwrap_or}
use Rattle.std.proofs.lemmas.Bool.{eqb-true, eqb-false, false≢true}
use Rattle.gl_records.specs.declared.level.ImageSet.{ImageSet}
use Rattle.gl_records.specs.declared.version_id.VersionId.{VersionId}
use Rattle.image_commands.specs.Written.{IsGood, written}
use Rattle.image_commands.specs.Asked.{asked_of, piece_of}
use Rattle.image_commands.specs.declared.image_write.ImageWrite.{ImageWrite}
use Rattle.gl_records.specs.ImageBytes.{image_bytes}
use Rattle.gl_records.specs.declared.rec.Rec.{Rec}
use Rattle.gl_tokens.specs.Commands.{done, unless, ◌>>=◌}
use Rattle.gl_tokens.specs.declared.gl_error.GlError.{GlError}
use Rattle.gl_tokens.specs.declared.gl_error.GlError.TheVariants.{OutOfMemory}
use Rattle.object_names.specs.Names.{size_or_0}
use Rattle.texture_ghosts.specs.Versions.{Version, Versions, at, contents, current_set, is_pinned, left_over, waits, IsCurrent, IsOther, IsPinned, IsUnpinned}
use Rattle.texture_ghosts.specs.declared.wrote.Wrote.{Wrote}
use Rattle.texture_ghosts.specs.declared.wrote.Wrote.TheVariants.{InPlace, Ghosted, NeedsDrain}
use Rattle.texture_store.specs.Answers.{AreUnpinned, IsPastGhosts, IsReady, KeepPinned}
use Rattle.texture_store.specs.Changes.{IsMoved, IsWrite, image_at, planned_of, rule_at}
use Rattle.texture_store.specs.Kept.{Held, AreHeld, HasGood, IsKept, IsHeld, IsVersion, held_of, held_at, number_of}
use Rattle.texture_store.specs.Stored.{StoredTextures, AreOf, current_sets, given, image_of_name, objects_of, stored_at, texture_of, version_at, with_changed, with_stored, with_versions}
use Rattle.texture_store.specs.Textures.{Texture, TextureObjects, bound_name, bound_texture, live_bytes, most_bytes, opening_texture, texture_at, texture_bytes, texture_or_opening, with_texture}
use Rattle.texture_store.specs.Writes.{with_image, written as written_of}
use Rattle.texture_store.specs.declared.object.Object.{Object}
use Rattle.texture_store.proofs.ByValue.{texture_of_stored, objects-with_stored, bytes-with_texture}
use Rattle.texture_store.proofs.Holding.{IsChange, held_changed, held_alike, not_none, same_number, version_moved}
use Rattle.texture_store.proofs.Keeping.{empty_bytes, if_bound, if_good}
use Rattle.texture_store.proofs.Storing.{changed_is, held-with_stored, stored-with_stored}

-- what a version leaves is no object's
pub left_is_none : (o : Option Version) → is_some (current_set (left_over o)) ≡ false
left_is_none None = refl
left_is_none (Some version) = elim (is_pinned version) as (λ b. is_some (current_set (cond b (Some (record version { current = false })) None)) ≡ false) [ true ↦ refl | false ↦ refl ]

pub is_other : (version : Option VersionId) (v : ℕ) → option_map (λ x. x.0) version ≢ Some v → IsOther version v
is_other None v apart = tt
is_other (Some x) v apart = λ same. apart (ap Some (sym same))

lives_of : (sets : ℕ → Option ImageSet) (h : Option Held) (v : ℕ) → IfSome h (IsHeld sets) → number_of h ≡ Some v → is_some (sets v) ≡ true
lives_of sets None v is number = absurd (not_none v number)
lives_of sets (Some held) v is number = ap is_some (subst (λ (n : Option ℕ). IsVersion sets n held.image) number is)

pub is_current : (o : Option Version) → is_some (current_set o) ≡ true → IsCurrent o
is_current None lives = absurd (false≢true lives)
is_current (Some version) lives = by_current version.current refl where
  by_current : (b : Bool) → version.current ≡ b → version.current ≡ true
  by_current true is = is
  by_current false is = absurd (false≢true (sym (ap (λ b. is_some (cond b (Some version.set) None)) is) ∙ lives))

module _ (old new : Versions) (version : Option VersionId) (made : VersionId) (image : ImageSet) (moved : IsMoved old new version made image) where
  -- a number that is another's isn't the new version's
  vacant : (held : ℕ → Option Held) (name other v : ℕ) → AreHeld held (current_sets old) → number_of (held name) ≡ option_map (λ x. x.0) version → other ≢ name →
      number_of (held other) ≡ Some v → Some made.0 ≢ Some v
  vacant held name other v was number apart its mine = by_case moved.free where
    here : at old made.0 ≡ None → ⊥
    here none = false≢true (sym (ap (λ o. is_some (current_set o)) none) ∙ ap (λ n. is_some (current_sets old n)) (same_number made.0 v mine)
        ∙ lives_of (current_sets old) (held other) v (was.stored other) its)

    by_case : (at old made.0 ≡ None) ⊎ ((version ≡ Some made) × IsUnpinned (at old made.0)) → ⊥
    by_case (inl none) = here none
    by_case (inr same) = apart (was.apart other name v its (number ∙ ap (option_map (λ x. x.0)) same.0 ∙ mine))

  left_by : (x : Option VersionId) (v : ℕ) → version ≡ x → option_map (λ y. y.0) x ≡ Some v → Some made.0 ≢ Some v → is_some (current_sets new v) ≡ false
  left_by None v is its apart = absurd (not_none v its)
  left_by (Some x) v is its apart =
      let left : IfSome (Some x) (λ y. IsOther (Some made) y.0 → at new y.0 ≡ left_over (at old y.0)) = subst (λ (o : Option VersionId). IfSome o (λ y. IsOther (Some made) y.0 → at new y.0 ≡ left_over (at old y.0))) is moved.left in
      let same = same_number x.0 v its in
      ap (λ n. is_some (current_sets new n)) (sym same) ∙ ap (λ o. is_some (current_set o)) (left (λ mine. apart (ap Some (sym mine ∙ same)))) ∙ left_is_none (at old x.0)

  pub moved_is_change : (held : ℕ → Option Held) (name : ℕ) → AreHeld held (current_sets old) → number_of (held name) ≡ option_map (λ x. x.0) version →
      IsChange held name (Some (record { version = Some made.0; image = image })) (current_sets old) (current_sets new)
  moved_is_change held name was number = record {
    stored = ap current_set moved.here;
    free = λ other v apart its mine. vacant held name other v was number apart its mine;
    left = λ v its apart. left_by version v refl (sym number ∙ its) apart;
    others = λ v its apart. ap current_set (moved.others v (is_other version v (λ same. its (number ∙ same))) (is_other (Some made) v apart));
  }

  pinned_or_not : (o : Option Version) → IsPinned o → IsUnpinned o → ⊥
  pinned_or_not None pinned unpinned = pinned
  pinned_or_not (Some version) pinned unpinned = false≢true (sym unpinned ∙ pinned)

  is_vacant : (v : ℕ) → IsPinned (at old v) → v ≢ made.0
  is_vacant v pinned same = by_case moved.free where
    there : IsPinned (at old made.0)
    there = subst (λ n. IsPinned (at old n)) same pinned

    by_case : (at old made.0 ≡ None) ⊎ ((version ≡ Some made) × IsUnpinned (at old made.0)) → ⊥
    by_case (inl none) = subst IsPinned none there
    by_case (inr mine) = pinned_or_not (at old made.0) there mine.1

  -- another number than the new version's: as it was, or what is left of the old version
  stays_by : (x : Option VersionId) (v : ℕ) → version ≡ x → v ≢ made.0 → (at new v ≡ at old v) ⊎ (at new v ≡ left_over (at old v))
  stays_by None v is apart = inl (moved.others v (subst (λ o. IsOther o v) (sym is) tt) apart)
  stays_by (Some x) v is apart = elim (eqb v x.0) as (λ b. eqb v x.0 ≡ b → (at new v ≡ at old v) ⊎ (at new v ≡ left_over (at old v))) [
    | true ↦ λ same.
        let its = eqb-true v x.0 same in
        let left : IfSome (Some x) (λ y. IsOther (Some made) y.0 → at new y.0 ≡ left_over (at old y.0)) = subst (λ (o : Option VersionId). IfSome o (λ y. IsOther (Some made) y.0 → at new y.0 ≡ left_over (at old y.0))) is moved.left in
        inr (subst (λ n. at new n ≡ left_over (at old n)) (sym its) (left (subst (λ n. n ≢ made.0) its apart)))
    | false ↦ λ other. inl (moved.others v (subst (λ o. IsOther o v) (sym is) (eqb-false v x.0 other)) apart)
  ] refl

  pub moved_pinned : KeepPinned old new
  moved_pinned v pinned = stays_by version v refl (is_vacant v pinned)

  left_unpinned : (o : Option Version) → IfSome o (λ x. is_pinned x ≡ false) → IfSome (left_over o) (λ x. is_pinned x ≡ false)
  left_unpinned None is = tt
  left_unpinned (Some x) is = subst (λ b. IfSome (cond b (Some (record x { current = false })) None) (λ y. is_pinned y ≡ false)) (sym is) tt

  unpinned_by : (v : ℕ) → IfSome (at old v) (λ x. is_pinned x ≡ false) → (at new v ≡ at old v) ⊎ (at new v ≡ left_over (at old v)) → IfSome (at new v) (λ x. is_pinned x ≡ false)
  unpinned_by v was (inl same) = subst (λ o. IfSome o (λ x. is_pinned x ≡ false)) (sym same) was
  unpinned_by v was (inr left) = subst (λ o. IfSome o (λ x. is_pinned x ≡ false)) (sym left) (left_unpinned (at old v) was)

  pub moved_unpinned : AreUnpinned old → AreUnpinned new
  moved_unpinned unpinned v = elim (eqb v made.0) as (λ b. eqb v made.0 ≡ b → IfSome (at new v) (λ x. is_pinned x ≡ false)) [
    | true ↦ λ same. subst (λ o. IfSome o (λ x. is_pinned x ≡ false)) (sym (ap (at new) (eqb-true v made.0 same) ∙ moved.here)) refl
    | false ↦ λ apart. unpinned_by v (unpinned v) (stays_by version v refl (eqb-false v made.0 apart))
  ] refl

-- the objects by value
pub objects-given : (s : StoredTextures) (name : ℕ) (made : Option VersionId) (image : ImageSet) (object : Object) → stored_at s name ≡ Some object →
    objects_of (with_changed (given made image) s name) ≡ with_image (objects_of s) name image
objects-given s name made image object is =
    ap objects_of (changed_is (given made image) s name object is) ∙ objects-with_stored s name (given made image object)
    ∙ ap (λ (t : Option Texture). with_texture (objects_of s) name (record (texture_or_opening t) { image = image }))
    (ap (option_map texture_of) (sym is) ∙ sym (texture_of_stored s name))

pub kept_write : (s : StoredTextures) (old new : Versions) (name : ℕ) (object : Object) (made : VersionId) (image : ImageSet) → stored_at s name ≡ Some object → AreOf s old → IsKept s →
    IsMoved old new object.version made image → IsGood image → live_bytes (objects_of (with_changed (given (Some made) image) s name)) ≤ most_bytes →
    IsKept (with_versions (with_changed (given (Some made) image) s name) new)
kept_write s old new name object made image is of kept moved good few =
    let changed : Object = given (Some made) image object in
    let now = with_stored s name changed in
    let same = changed_is (given (Some made) image) s name object is in
    let was = held_alike (held_at s) (held_at s) (current_sets s.versions) (current_sets old) kept.held (λ q. refl) of in
    let number : number_of (held_at s name) ≡ option_map (λ x. x.0) object.version = ap (λ o. number_of (option_map held_of o)) is in
    let change = moved_is_change old new object.version made image moved (held_at s) name was number in
    let all : IsKept (with_versions now new) = record {
      held = held_changed (held_at s) (held_at now) name (Some (held_of changed)) (current_sets old) (current_sets new) was change (held-with_stored s name changed);
      good = λ q. subst HasGood (sym (held-with_stored s name changed q)) (if_good (eqb q name) (Some (held_of changed)) (held_at s q) good (kept.good q));
      bound = λ unit. ap is_some (stored-with_stored s name changed _) ∙ if_bound (eqb _ name) (Some changed) (stored_at s _) refl (kept.bound unit);
      units = kept.units;
      few = subst (λ n. n ≤ most_bytes) (ap (λ x. live_bytes (objects_of x)) same) few;
    } in
    subst (λ x. IsKept (with_versions x new)) (sym same) all

-- the object that a name stands for, where it stands for one
same_image : (a b : ImageSet) → Some a ≡ Some b → a ≡ b
same_image a b same = ap (λ o. unwrap_or o a) same

contents_of : (o : Option Version) (image : ImageSet) → current_set o ≡ Some image → contents o ≡ Some image
contents_of None image is = absurd (not_none image is)
contents_of (Some version) image is = by_current version.current refl where
  by_current : (b : Bool) → version.current ≡ b → Some version.set ≡ Some image
  by_current true current = ap (λ b. cond b (Some version.set) None) (sym current) ∙ is
  by_current false current = absurd (not_none image (ap (λ b. cond b (Some version.set) None) (sym current) ∙ is))

held_image : (old : Versions) (version : Option VersionId) (image : ImageSet) → IsVersion (current_sets old) (option_map (λ v. v.0) version) image → image_at old version ≡ Some image
held_image old None image is = ap Some (sym is)
held_image old (Some v) image is = contents_of (at old v.0) image is

texture_image : (s : StoredTextures) (name : ℕ) (object : Object) → stored_at s name ≡ Some object → image_of_name s name ≡ object.image.value
texture_image s name object is = ap (λ t. (texture_or_opening t).image) (texture_of_stored s name ∙ ap (option_map texture_of) is)

pub image_by : (s : StoredTextures) (old : Versions) (name : ℕ) (o : Option Object) → stored_at s name ≡ o → is_some o ≡ true → AreOf s old → IsKept s → image_at old (version_at s name) ≡ Some (image_of_name s name)
image_by s old name None is some of kept = absurd (false≢true some)
image_by s old name (Some object) is some of kept =
    let held : IsVersion (current_sets s.versions) (option_map (λ v. v.0) object.version) object.image.value = subst (λ x. IfSome (option_map held_of x) (IsHeld (current_sets s.versions))) is (kept.held.stored name) in
    let moved = version_moved (current_sets s.versions) (current_sets old) (option_map (λ v. v.0) object.version) object.image.value (λ v _. of v) held in
    ap (λ x. image_at old (option_and_then (λ y. y.version) x)) is ∙ held_image old object.version object.image.value moved ∙ ap Some (sym (texture_image s name object is))

pub image_is : (s : StoredTextures) (old : Versions) (name : ℕ) (version : Option VersionId) (image : ImageSet) → is_some (stored_at s name) ≡ true → version ≡ version_at s name → AreOf s old → IsKept s →
    image_at old version ≡ Some image → image_of_name s name ≡ image
image_is s old name version image some same of kept is =
    same_image (image_of_name s name) image (sym (image_by s old name (stored_at s name) refl some of kept) ∙ ap (image_at old) (sym same) ∙ is)

good_by : (s : StoredTextures) (name : ℕ) (o : Option Object) → stored_at s name ≡ o → is_some o ≡ true → IsKept s → IsGood (image_of_name s name)
good_by s name None is some kept = absurd (false≢true some)
good_by s name (Some object) is some kept =
    subst IsGood (sym (texture_image s name object is)) (subst (λ x. HasGood (option_map held_of x)) is (kept.good name))

pub image_good : (s : StoredTextures) (name : ℕ) → is_some (stored_at s name) ≡ true → IsKept s → IsGood (image_of_name s name)
image_good s name some kept = good_by s name (stored_at s name) refl some kept

-- the objects by value, and the invariant, once the image is written
objects_by : (s : StoredTextures) (name : ℕ) (made : Option VersionId) (image : ImageSet) (o : Option Object) → stored_at s name ≡ o → is_some o ≡ true →
    objects_of (with_changed (given made image) s name) ≡ with_image (objects_of s) name image
objects_by s name made image None is some = absurd (false≢true some)
objects_by s name made image (Some object) is some = objects-given s name made image object is

pub objects_put : (s : StoredTextures) (name : ℕ) (made : Option VersionId) (image : ImageSet) → is_some (stored_at s name) ≡ true →
    objects_of (with_changed (given made image) s name) ≡ with_image (objects_of s) name image
objects_put s name made image some = objects_by s name made image (stored_at s name) refl some

kept_by : (s : StoredTextures) (old new : Versions) (name : ℕ) (version : Option VersionId) (made : VersionId) (image : ImageSet) (o : Option Object) → stored_at s name ≡ o → is_some o ≡ true →
    version ≡ version_at s name → AreOf s old → IsKept s → IsMoved old new version made image → IsGood image → live_bytes (with_image (objects_of s) name image) ≤ most_bytes →
    IsKept (with_versions (with_changed (given (Some made) image) s name) new)
kept_by s old new name version made image None is some same of kept moved good few = absurd (false≢true some)
kept_by s old new name version made image (Some object) is some same of kept moved good few =
    let its : version ≡ object.version = same ∙ ap (option_and_then (λ x. x.version)) is in
    kept_write s old new name object made image is of kept (subst (λ v. IsMoved old new v made image) its moved) good
    (subst (λ n. n ≤ most_bytes) (sym (ap live_bytes (objects-given s name (Some made) image object is))) few)

pub kept_put : (s : StoredTextures) (old new : Versions) (name : ℕ) (version : Option VersionId) (made : VersionId) (image : ImageSet) → is_some (stored_at s name) ≡ true →
    version ≡ version_at s name → AreOf s old → IsKept s → IsMoved old new version made image → IsGood image → live_bytes (with_image (objects_of s) name image) ≤ most_bytes →
    IsKept (with_versions (with_changed (given (Some made) image) s name) new)
kept_put s old new name version made image some same of kept moved good few =
    kept_by s old new name version made image (stored_at s name) refl some same of kept moved good few

-- the texture that is bound isn't larger than all images together
size_at : (t : TextureObjects) (name : ℕ) (o : Option Texture) → texture_at t name ≡ o → texture_bytes (texture_or_opening o) ≤ live_bytes t
size_at t name None is = omega (arith, empty_bytes)
size_at t name (Some texture) is =
    let after = bytes-with_texture t name opening_texture in
    let size : size_or_0 texture_bytes (texture_at t name) ≡ texture_bytes texture = ap (size_or_0 texture_bytes) is in
    omega (arith, after, size, empty_bytes)

pub size_of_name : (t : TextureObjects) (name : ℕ) → texture_bytes (texture_or_opening (texture_at t name)) ≤ live_bytes t
size_of_name t name = size_at t name (texture_at t name) refl

-- the bytes of all images with another one in a name's texture
pub bytes-with_image : (t : TextureObjects) (name : ℕ) (image : ImageSet) (others : ℕ) → is_some (texture_at t name) ≡ true → others + texture_bytes (texture_or_opening (texture_at t name)) ≡ live_bytes t →
    live_bytes (with_image t name image) ≡ others + image_bytes image
bytes-with_image t name image others some sum =
    let after = bytes-with_texture t name (record (texture_or_opening (texture_at t name)) { image = image }) in
    let size = size_some (texture_at t name) some in
    omega (arith, after, size, sum) where
      size_some : (o : Option Texture) → is_some o ≡ true → size_or_0 texture_bytes o ≡ texture_bytes (texture_or_opening o)
      size_some None lives = absurd (false≢true lives)
      size_some (Some texture) lives = refl

-- the command by what it asks for
planned_bool : (t : TextureObjects) (after : TextureObjects) (write : ImageWrite) (bytes : ℕ) (past : Bool) (new : ImageWrite → TextureObjects) → new write ≡ after →
    done t (unless past OutOfMemory (Ok after)) ≡ done t (unless past OutOfMemory (Ok (write, bytes)) >>= (λ (p : ImageWrite × ℕ). Ok (new p.0)))
planned_bool t after write bytes true new is = refl
planned_bool t after write bytes false new is = ap (λ x. (x, None)) (sym is)

planned_by : (t : TextureObjects) (name : ℕ) (remakes : Bool) (align others : ℕ) (rec : Rec) (image : ImageSet) (r : Result ImageWrite GlError) → is_some (texture_at t name) ≡ true →
    others + texture_bytes (texture_or_opening (texture_at t name)) ≡ live_bytes t →
    done t (r >>= (λ write. unless (nat_lt most_bytes (live_bytes (with_image t name (written image write remakes align (piece_of rec))))) OutOfMemory (Ok (with_image t name (written image write remakes align (piece_of rec))))))
    ≡ done t ((r >>= (λ write. unless (nat_lt most_bytes (others + image_bytes (written image write remakes align (piece_of rec)))) OutOfMemory (Ok (write, others + image_bytes (written image write remakes align (piece_of rec))))))
    >>= (λ (p : ImageWrite × ℕ). Ok (with_image t name (written image p.0 remakes align (piece_of rec)))))
planned_by t name remakes align others rec image (Err error) some sum = refl
planned_by t name remakes align others rec image (Ok write) some sum =
    let new = written image write remakes align (piece_of rec) in
    ap (λ n. done t (unless (nat_lt most_bytes n) OutOfMemory (Ok (with_image t name new)))) (bytes-with_image t name new others some sum)
    ∙ planned_bool t (with_image t name new) write (others + image_bytes new) (nat_lt most_bytes (others + image_bytes new)) (λ w. with_image t name (written image w remakes align (piece_of rec))) refl

pub written_planned : (t : TextureObjects) (unit align others : ℕ) (rec : Rec) → is_some (texture_at t (bound_name t unit)) ≡ true → others + texture_bytes (bound_texture t unit) ≡ live_bytes t →
    written_of t unit align rec
    ≡ done t (planned_of (bound_texture t unit).image rec (bound_texture t unit).parameters.remakes align others
    >>= (λ (p : ImageWrite × ℕ). Ok (with_image t (bound_name t unit) (written (bound_texture t unit).image p.0 (bound_texture t unit).parameters.remakes align (piece_of rec)))))
written_planned t unit align others rec some sum =
    planned_by t (bound_name t unit) (bound_texture t unit).parameters.remakes align others rec (bound_texture t unit).image (asked_of (bound_texture t unit).image rec) some sum

pub texture_lives : (s : StoredTextures) (name : ℕ) → is_some (stored_at s name) ≡ true → is_some (texture_at (objects_of s) name) ≡ true
texture_lives s name some = ap is_some (texture_of_stored s name) ∙ some_map (stored_at s name) ∙ some where
  some_map : (o : Option Object) → is_some (option_map texture_of o) ≡ is_some o
  some_map None = refl
  some_map (Some object) = refl

-- a change that waits, and one that doesn't
pub past : (versions : Versions) (version : Option VersionId) (held bytes : ℕ) → rule_at versions version ≡ NeedsDrain held bytes → IsPastGhosts versions version held bytes
past versions None held bytes is = false≢true (ap waits is)
past versions (Some v) held bytes is = is

pub not_waits : (wrote : Wrote) → ((held bytes : ℕ) → wrote ≡ NeedsDrain held bytes → ⊥) → waits wrote ≡ false
not_waits InPlace isnt = refl
not_waits Ghosted isnt = refl
not_waits (NeedsDrain held bytes) isnt = absurd (isnt held bytes refl)

pub ready_of : (versions : Versions) (version : Option VersionId) → waits (rule_at versions version) ≡ false → IsReady versions version
ready_of versions None now = tt
ready_of versions (Some v) now = now

pub write_pinned : (old new : Versions) (version : Option VersionId) → IsWrite old new version → KeepPinned old new
write_pinned old new version write = moved_pinned old new version write.0 write.1 write.2

pub write_unpinned : (old new : Versions) (version : Option VersionId) → IsWrite old new version → AreUnpinned old → AreUnpinned new
write_unpinned old new version write = moved_unpinned old new version write.0 write.1 write.2
