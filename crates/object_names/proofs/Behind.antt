-- Giving names changes no object.
use Rattle.std.proofs.Common.{◌≡◌, ℕ, ℤ, Result, Ok, Err, refl}
use Rattle.gl_tokens.specs.Commands.{◌>>=◌}
use Rattle.gl_tokens.specs.declared.gl_error.GlError.{GlError}
use Rattle.object_names.specs.Giving.{allowed_count, given_names, behind_names}
use Rattle.object_names.specs.Names.{LiveNames, object_at, free_names, total}
use Rattle.object_names.proofs.Fresh.{given_fresh, object-with_names, total-with_names}

module _ {V : Type 0} where
  object_by : (names : LiveNames V) (count : Result ℕ GlError) (q : ℕ) → object_at (behind_names names (count >>= (λ allowed. Ok (free_names names allowed)))) q ≡ object_at names q
  object_by names (Ok allowed) q = object-with_names names (free_names names allowed) q (given_fresh names allowed)
  object_by names (Err error) q = refl

  pub object-behind : (names : LiveNames V) (count : ℤ) (q : ℕ) → object_at (behind_names names (given_names names count)) q ≡ object_at names q
  object-behind names count q = object_by names (allowed_count names count) q

  total_by : (size : V → ℕ) (names : LiveNames V) (count : Result ℕ GlError) → total size (behind_names names (count >>= (λ allowed. Ok (free_names names allowed)))) ≡ total size names
  total_by size names (Ok allowed) = total-with_names size names (free_names names allowed) (given_fresh names allowed)
  total_by size names (Err error) = refl

  pub total-behind : (size : V → ℕ) (names : LiveNames V) (count : ℤ) → total size (behind_names names (given_names names count)) ≡ total size names
  total-behind size names count = total_by size names (allowed_count names count)
