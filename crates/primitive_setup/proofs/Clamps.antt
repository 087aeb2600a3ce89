-- Equal arguments of `clamp`.
use Rattle.std.proofs.Common.{◌≡◌, ap, ◌∙◌}
use Rattle.std.specs.Prelude.{ℤ}
use Rattle.fx_arith.specs.Number.{clamp}

pub clamp_same : (r a b c x y z : ℤ) → r ≡ clamp a b c → a ≡ x → b ≡ y → c ≡ z → r ≡ clamp x y z
clamp_same r a b c x y z is low high number =
    is ∙ ap (λ n. clamp n b c) low ∙ ap (λ n. clamp x n c) high ∙ ap (λ n. clamp x y n) number
