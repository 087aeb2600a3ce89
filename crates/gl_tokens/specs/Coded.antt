-- Families of enumerated values, each value with a code of its own.
use Rattle.std.specs.Prelude.{ℕ, ◌==◌, List, Option}
use Rattle.std.specs.List.{find}

-- the value of the family that has this code
abbrev pub coded : {A : Type 0} → (A → ℕ) → List A → ℕ → Option A
coded code family wanted = find (λ value. code value == wanted) family
