-- What is bound, as it is read.
use Rattle.std.proofs.Common.{◌≡◌, ◌<◌, ◌↔◌, ℕ, Option, Some, None, IfSome, is_some, refl, sym, ap}
use Rattle.std.specs.Option.{option_map, option_map_or, option_and_then}
use Rattle.std.proofs.lemmas.Bool.{false≢true}
use Rattle.gl_tokens.specs.BufferTarget.{from_code_of}
use Rattle.gl_tokens.specs.declared.buffer_target.BufferTarget.{BufferTarget}
use Rattle.object_names.specs.Names.{object_at}
use Rattle.buffer_objects.specs.Buffers.{BufferObjects, binding, bound_at, bound_name, key_at, with_name}
use Rattle.buffer_objects.specs.Kept.{IsKept, IsLive}
use Rattle.buffer_objects.specs.declared.buffer_key.BufferKey.{BufferKey}
use Rattle.buffer_objects.proofs.Keeping.{MayBeBound, taken_of}

no_name : (b : BufferObjects) (key : Option BufferKey) → MayBeBound b key → (option_map with_name key ≡ None) ↔ (option_map_or (λ key. key.name) key 0 ≡ 0)
no_name b None may = (λ _. refl, λ _. refl)
no_name b (Some key) may = (λ some. absurd (false≢true (ap is_some (sym some))), λ zero. absurd (may.1 zero))

none_of : (b : BufferObjects) → IsKept b → (target : Option BufferTarget)
    → (option_and_then (λ target. option_map with_name (key_at b.bindings target)) target ≡ None) ↔ (option_map_or (binding b) target 0 ≡ 0)
none_of b kept None = (λ _. refl, λ _. refl)
none_of b kept (Some target) = no_name b (key_at b.bindings target) (kept.bound target)

pub bound_none : (b : BufferObjects) (code : ℕ) → IsKept b → (bound_at b code ≡ None) ↔ (bound_name b code ≡ 0)
bound_none b code kept = none_of b kept (from_code_of code)

live_of : (b : BufferObjects) → IsKept b → (key : Option BufferKey) → MayBeBound b key
    → IfSome (option_map with_name key) (λ bound. IsLive b bound.1 × (bound.1.serial < b.made))
live_of b kept None may = tt
live_of b kept (Some key) may = (may.0, taken_of (object_at b.names key.name) key.serial b.made (kept.taken key.name) may.0)

facts_of : (b : BufferObjects) → IsKept b → (target : Option BufferTarget)
    → IfSome (option_and_then (λ target. option_map with_name (key_at b.bindings target)) target) (λ bound. IsLive b bound.1 × (bound.1.serial < b.made))
facts_of b kept None = tt
facts_of b kept (Some target) = live_of b kept (key_at b.bindings target) (kept.bound target)

pub bound_facts : (b : BufferObjects) (code : ℕ) → IsKept b → IfSome (bound_at b code) (λ bound. IsLive b bound.1 × (bound.1.serial < b.made))
bound_facts b code kept = facts_of b kept (from_code_of code)

pub first_fact : {A : Type 0} (P Q : A → Type 0) (o : Option A) → IfSome o (λ x. P x × Q x) → IfSome o P
first_fact P Q None both = tt
first_fact P Q (Some x) both = both.0

pub second_fact : {A : Type 0} (P Q : A → Type 0) (o : Option A) → IfSome o (λ x. P x × Q x) → IfSome o Q
second_fact P Q None both = tt
second_fact P Q (Some x) both = both.1
