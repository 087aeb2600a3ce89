-- The images by names stay exactly the current versions.
use Rattle.std.proofs.Common.{◌≡◌, ◌≢◌, ◌⊎◌, ℕ, Bool, true, false, cond, eqb, inl, inr, Option, Some, None, IfSome, is_some, refl, sym, ap, subst, ◌∙◌}
use Rattle.std.specs.Option.{unwrap_or}
use Rattle.std.proofs.lemmas.Bool.{eqb-true, eqb-false, eq-eqb, false≢true}
use Rattle.gl_records.specs.declared.level.ImageSet.{ImageSet}
use Rattle.texture_store.specs.Kept.{Held, AreHeld, IsHeld, IsVersion, number_of}

abbrev Sets : Type 0
Sets = ℕ → Option ImageSet

pub same_number : (a b : ℕ) → Some a ≡ Some b → a ≡ b
same_number a b same = ap (λ o. unwrap_or o 0) same

pub not_none : {A : Type 0} (a : A) → None ≢ Some a
not_none a same = false≢true (ap is_some same)

-- the versions of two states answer alike where nothing has this number
pub version_moved : (old new : Sets) (version : Option ℕ) (image : ImageSet) → ((v : ℕ) → version ≡ Some v → new v ≡ old v) → IsVersion old version image → IsVersion new version image
version_moved old new None image same is = is
version_moved old new (Some v) image same is = same v refl ∙ is

held_moved : (old new : Sets) (held : Option Held) → ((v : ℕ) → number_of held ≡ Some v → new v ≡ old v) → IfSome held (IsHeld old) → IfSome held (IsHeld new)
held_moved old new None same is = is
held_moved old new (Some held) same is = version_moved old new held.version held.image same is

-- what a name holds changes, and with it the versions
pub record IsChange (held : ℕ → Option Held) (name : ℕ) (after : Option Held) (old new : Sets) : Type 0 where
  pub stored : IfSome after (IsHeld new)
  -- the new version is no other name's
  pub free : (other v : ℕ) → other ≢ name → number_of (held other) ≡ Some v → number_of after ≢ Some v
  -- the old one is no object's any more, but where it is the new one
  pub left : (v : ℕ) → number_of (held name) ≡ Some v → number_of after ≢ Some v → is_some (new v) ≡ false
  pub others : (v : ℕ) → number_of (held name) ≢ Some v → number_of after ≢ Some v → new v ≡ old v

module _ (held now : ℕ → Option Held) (name : ℕ) (after : Option Held) (old new : Sets)
    (was : AreHeld held old) (is : IsChange held name after old new) (changed : (q : ℕ) → now q ≡ cond (eqb q name) after (held q)) where
  here : (q : ℕ) → eqb q name ≡ true → now q ≡ after
  here q same = changed q ∙ ap (λ b. cond b after (held q)) same

  there : (q : ℕ) → eqb q name ≡ false → now q ≡ held q
  there q apart = changed q ∙ ap (λ b. cond b after (held q)) apart

  -- another name's version is neither the old nor the new one
  stays : (q v : ℕ) → q ≢ name → number_of (held q) ≡ Some v → new v ≡ old v
  stays q v apart mine = is.others v (λ its. apart (was.apart q name v mine its)) (is.free q v apart mine)

  stored_by : (q : ℕ) (same : Bool) → eqb q name ≡ same → IfSome (now q) (IsHeld new)
  stored_by q true same = subst (λ (h : Option Held). IfSome h (IsHeld new)) (sym (here q same)) is.stored
  stored_by q false apart = subst (λ (h : Option Held). IfSome h (IsHeld new)) (sym (there q apart))
      (held_moved old new (held q) (λ v mine. stays q v (eqb-false q name apart) mine) (was.stored q))

  apart_by : (q r v : ℕ) (first second : Bool) → eqb q name ≡ first → eqb r name ≡ second → number_of (now q) ≡ Some v → number_of (now r) ≡ Some v → q ≡ r
  apart_by q r v true true first second mine its = eqb-true q name first ∙ sym (eqb-true r name second)
  apart_by q r v true false first second mine its =
      absurd (is.free r v (eqb-false r name second) (ap number_of (sym (there r second)) ∙ its) (ap number_of (sym (here q first)) ∙ mine))
  apart_by q r v false true first second mine its =
      absurd (is.free q v (eqb-false q name first) (ap number_of (sym (there q first)) ∙ mine) (ap number_of (sym (here r second)) ∙ its))
  apart_by q r v false false first second mine its = was.apart q r v (ap number_of (sym (there q first)) ∙ mine) (ap number_of (sym (there r second)) ∙ its)

  -- whether a number is that of an optional one
  is_number : (o : Option ℕ) (v : ℕ) → ((o ≡ Some v) → ⊥) ⊎ (o ≡ Some v)
  is_number None v = inl (λ same. not_none v same)
  is_number (Some n) v = elim (eqb n v) as (λ b. eqb n v ≡ b → ((Some n ≡ Some v) → ⊥) ⊎ (Some n ≡ Some v)) [
    | true ↦ λ same. inr (ap Some (eqb-true n v same))
    | false ↦ λ apart. inl (λ same. eqb-false n v apart (same_number n v same))
  ] refl

  owner_there : (v : ℕ) (q : ℕ) → number_of (held q) ≡ Some v → (number_of (held name) ≡ Some v → ⊥) → (same : Bool) → eqb q name ≡ same → (owner : ℕ) × (number_of (now owner) ≡ Some v)
  owner_there v q mine none true same = absurd (none (ap (λ (n : ℕ). number_of (held n)) (sym (eqb-true q name same)) ∙ mine))
  owner_there v q mine none false apart = (q, ap number_of (there q apart) ∙ mine)

  owned_by : (v : ℕ) → is_some (new v) ≡ true → ((number_of after ≡ Some v) → ⊥) ⊎ (number_of after ≡ Some v) → ((number_of (held name) ≡ Some v) → ⊥) ⊎ (number_of (held name) ≡ Some v) → (owner : ℕ) × (number_of (now owner) ≡ Some v)
  owned_by v lives (inr its) before = (name, ap number_of (here name (eq-eqb name name refl)) ∙ its)
  owned_by v lives (inl none) (inr was_its) = absurd (false≢true (sym (is.left v was_its none) ∙ lives))
  owned_by v lives (inl none) (inl never) =
      let old_owner = was.owned v (ap is_some (sym (is.others v never none)) ∙ lives) in
      owner_there v old_owner.0 old_owner.1 never (eqb old_owner.0 name) refl

  pub held_changed : AreHeld now new
  held_changed = record {
    stored = λ q. stored_by q (eqb q name) refl;
    apart = λ q r v mine its. apart_by q r v (eqb q name) (eqb r name) refl refl mine its;
    owned = λ v lives. owned_by v lives (is_number (number_of after) v) (is_number (number_of (held name)) v);
  }

-- states that hold the same images, and whose versions answer alike
pub held_alike : (held now : ℕ → Option Held) (old new : Sets) → AreHeld held old → ((q : ℕ) → now q ≡ held q) → ((v : ℕ) → new v ≡ old v) → AreHeld now new
held_alike held now old new was same alike = record {
  stored = λ q. subst (λ (h : Option Held). IfSome h (IsHeld new)) (sym (same q)) (held_moved old new (held q) (λ v _. alike v) (was.stored q));
  apart = λ q r v mine its. was.apart q r v (ap number_of (sym (same q)) ∙ mine) (ap number_of (sym (same r)) ∙ its);
  owned = λ v lives. let owner = was.owned v (ap is_some (sym (alike v)) ∙ lives) in (owner.0, ap number_of (same owner.0) ∙ owner.1);
}
