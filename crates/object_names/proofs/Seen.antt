-- Live names seen by a function of their objects come and go as the names themselves.
use Rattle.std.proofs.Common.{◌≡◌, ◌+◌, ℕ, ℤ, pos, int_lt, nat_abs, nat_lt, Bool, true, false, cond, not, ◌&&◌, ◌||◌, take, List, [], ◌∷◌, length, Option, Some, None, Result, Ok, Err, is_some, refl, sym, ap, subst, ◌∙◌}
use Rattle.std.specs.Prelude.{T, map as list_map}
use Rattle.std.specs.FinMap.{empty, get, insert, remove, len, entries, entries_sorted, entries-from_sorted, get-entries, get-empty, get-insert, get-remove, len-entries, find, is_sorted, contains_key, same_map, nat_cmp-IsAntisymmetric}
use Rattle.std.specs.FinMap.Entries.{below_all}
use Rattle.std.specs.List.{filter, range_with_len, sum_by}
use Rattle.std.specs.Cmp.{nat_cmp_total}
use Rattle.std.specs.Option.{option_map, option_flatten}
use Rattle.std.specs.Ordering.{nat_cmp, eq_by_cmp, is_lt}
use Rattle.std.proofs.lemmas.List.{length-map}
use Rattle.std.proofs.lemmas.List.Elements.{filter_agree}
use Rattle.std.proofs.lemmas.List.Sums.{sum_by-cons}
use Rattle.gl_tokens.specs.Commands.{unless, ◌>>=◌}
use Rattle.gl_tokens.specs.declared.gl_error.GlError.{GlError}
use Rattle.gl_tokens.specs.declared.gl_error.GlError.TheVariants.{InvalidValue, OutOfMemory}
use Rattle.object_names.specs.Giving.{most_names, allowed_count, given_names, behind_names, lacks_room}
use Rattle.object_names.specs.Names.{LiveNames, object_at, is_free, free_names, with_names, size_or_0, total}
use Rattle.object_names.specs.Seen.{seen_as, seen_entry}

map_cond : {A B : Type 0} (f : A → B) (b : Bool) (x y : Option A) → option_map f (cond b x y) ≡ cond b (option_map f x) (option_map f y)
map_cond f true x y = refl
map_cond f false x y = refl

is_some-map : {A B : Type 0} (f : A → B) (o : Option A) → is_some (option_map f o) ≡ is_some o
is_some-map f (Some x) = refl
is_some-map f None = refl

flatten_map : {A B : Type 0} (f : A → B) (o : Option (Option A)) → option_flatten (option_map (option_map f) o) ≡ option_map f (option_flatten o)
flatten_map f (Some x) = refl
flatten_map f None = refl

size_map : {A B : Type 0} (f : A → B) (size : B → ℕ) (o : Option A) → size_or_0 size (option_map f o) ≡ size_or_0 (λ x. size (f x)) o
size_map f size (Some x) = refl
size_map f size None = refl

module _ {V W : Type 0} (f : V → W) where
  abbrev seen : List (ℕ × Option V) → List (ℕ × Option W)
  seen = list_map (seen_entry f)

  below_seen : (x : ℕ) (es : List (ℕ × Option V)) → below_all nat_cmp x (seen es) ≡ below_all nat_cmp x es
  below_seen x [] = refl
  below_seen x (e ∷ es) = ap (λ (b : Bool). is_lt (nat_cmp x e.0) && b) (below_seen x es)

  sorted_seen : (es : List (ℕ × Option V)) → is_sorted nat_cmp (seen es) ≡ is_sorted nat_cmp es
  sorted_seen [] = refl
  sorted_seen (e ∷ es) = λ i. below_seen e.0 es i && sorted_seen es i

  entries-seen : (names : LiveNames V) → entries (seen_as f names) ≡ seen (entries names)
  unfolding seen_as
  entries-seen names = entries-from_sorted nat_cmp (seen (entries names)) (subst T (sym (sorted_seen (entries names))) (entries_sorted names))

  find-seen : (q : ℕ) (es : List (ℕ × Option V)) → find nat_cmp q (seen es) ≡ option_map (option_map f) (find nat_cmp q es)
  find-seen q [] = refl
  find-seen q (e ∷ es) = ap (cond (eq_by_cmp nat_cmp q e.0) (Some (option_map f e.1))) (find-seen q es) ∙ sym (map_cond (option_map f) (eq_by_cmp nat_cmp q e.0) (Some e.1) (find nat_cmp q es))

  pub get-seen : (names : LiveNames V) (q : ℕ) → get (seen_as f names) q ≡ option_map (option_map f) (get names q)
  get-seen names q =
      get-entries (seen_as f names) q ∙ ap (find nat_cmp q) (entries-seen names) ∙ find-seen q (entries names)
      ∙ ap (option_map (option_map f)) (sym (get-entries names q))

  pub object-seen : (names : LiveNames V) (q : ℕ) → object_at (seen_as f names) q ≡ option_map f (object_at names q)
  object-seen names q = ap option_flatten (get-seen names q) ∙ flatten_map f (get names q)

  pub live-seen : (names : LiveNames V) (q : ℕ) → contains_key (seen_as f names) q ≡ contains_key names q
  live-seen names q = ap is_some (get-seen names q) ∙ is_some-map (option_map f) (get names q)

  pub len-seen : (names : LiveNames V) → len (seen_as f names) ≡ len names
  len-seen names =
      len-entries (seen_as f names) ∙ ap length (entries-seen names) ∙ length-map (entries names) (seen_entry f) ∙ sym (len-entries names)

  pub seen-empty : seen_as f empty ≡ empty
  seen-empty = same_map nat_cmp_total nat_cmp-IsAntisymmetric (seen_as f empty) empty (λ q.
      get-seen empty q ∙ ap (option_map (option_map f)) (get-empty nat_cmp q) ∙ sym (get-empty nat_cmp q))

  pub seen-insert : (names : LiveNames V) (name : ℕ) (object : Option V) → seen_as f (insert names name object) ≡ insert (seen_as f names) name (option_map f object)
  seen-insert names name object = same_map nat_cmp_total nat_cmp-IsAntisymmetric _ _ (λ q.
      get-seen (insert names name object) q
      ∙ ap (option_map (option_map f)) (get-insert nat_cmp_total names name object q)
      ∙ map_cond (option_map f) (eq_by_cmp nat_cmp q name) (Some object) (get names q)
      ∙ ap (cond (eq_by_cmp nat_cmp q name) (Some (option_map f object))) (sym (get-seen names q))
      ∙ sym (get-insert nat_cmp_total (seen_as f names) name (option_map f object) q))

  pub seen-remove : (names : LiveNames V) (name : ℕ) → seen_as f (remove names name) ≡ remove (seen_as f names) name
  seen-remove names name = same_map nat_cmp_total nat_cmp-IsAntisymmetric _ _ (λ q.
      get-seen (remove names name) q
      ∙ ap (option_map (option_map f)) (get-remove nat_cmp_total names name q)
      ∙ map_cond (option_map f) (eq_by_cmp nat_cmp q name) None (get names q)
      ∙ ap (cond (eq_by_cmp nat_cmp q name) None) (sym (get-seen names q))
      ∙ sym (get-remove nat_cmp_total (seen_as f names) name q))

  seen-with_names : (names : LiveNames V) (given : List ℕ) → seen_as f (with_names names given) ≡ with_names (seen_as f names) given
  seen-with_names names [] = refl
  seen-with_names names (name ∷ given) =
      seen-with_names (insert names name None) given ∙ ap (λ (live : LiveNames W). with_names live given) (seen-insert names name None)

  free-seen : (names : LiveNames V) (count : ℕ) → free_names (seen_as f names) count ≡ free_names names count
  free-seen names count = λ i. take count (fewer i) where
    fewer : filter (is_free (seen_as f names)) (range_with_len 1 (count + len (seen_as f names))) ≡ filter (is_free names) (range_with_len 1 (count + len names))
    fewer =
        filter_agree (is_free (seen_as f names)) (is_free names) (λ q. ap not (live-seen names q)) (range_with_len 1 (count + len (seen_as f names)))
        ∙ ap (λ (n : ℕ). filter (is_free names) (range_with_len 1 (count + n))) (len-seen names)

  allowed-seen : (names : LiveNames V) (count : ℤ) → allowed_count (seen_as f names) count ≡ allowed_count names count
  allowed-seen names count =
      ap (λ (n : ℕ). unless (int_lt count (pos 0) || int_lt (pos most_names) count) InvalidValue (unless (nat_lt most_names (n + nat_abs count)) OutOfMemory (Ok (nat_abs count)))) (len-seen names)

  pub given-seen : (names : LiveNames V) (count : ℤ) → given_names (seen_as f names) count ≡ given_names names count
  given-seen names count = then_free (allowed_count (seen_as f names) count) ∙ ap (λ (r : Result ℕ GlError). r >>= (λ allowed. Ok (free_names names allowed))) (allowed-seen names count) where
    then_free : (r : Result ℕ GlError) → (r >>= (λ allowed. Ok (free_names (seen_as f names) allowed))) ≡ (r >>= (λ allowed. Ok (free_names names allowed)))
    then_free (Ok allowed) = ap Ok (free-seen names allowed)
    then_free (Err error) = refl

  pub behind-seen : (names : LiveNames V) (given : Result (List ℕ) GlError) → seen_as f (behind_names names given) ≡ behind_names (seen_as f names) given
  behind-seen names (Ok given) = seen-with_names names given
  behind-seen names (Err error) = refl

  pub room-seen : (names : LiveNames V) (name : ℕ) → lacks_room (seen_as f names) name ≡ lacks_room names name
  room-seen names name = λ i. not (live-seen names name i) && nat_lt most_names (len-seen names i + 1)

  total_entries : (size : W → ℕ) (es : List (ℕ × Option V)) → sum_by (λ e. size_or_0 size e.1) (seen es) ≡ sum_by (λ e. size_or_0 (λ v. size (f v)) e.1) es
  total_entries size [] = refl
  total_entries size (e ∷ es) =
      sum_by-cons (λ (x : ℕ × Option W). size_or_0 size x.1) (seen_entry f e) (seen es)
      ∙ (λ i. size_map f size e.1 i + total_entries size es i)
      ∙ sym (sum_by-cons (λ (x : ℕ × Option V). size_or_0 (λ v. size (f v)) x.1) e es)

  pub total-seen : (size : W → ℕ) (names : LiveNames V) → total size (seen_as f names) ≡ total (λ v. size (f v)) names
  total-seen size names = ap (sum_by (λ e. size_or_0 size e.1)) (entries-seen names) ∙ total_entries size (entries names)
