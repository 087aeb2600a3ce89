-- What is halved often enough is 0.
use Rattle.std.proofs.Common.{◌≡◌, ℕ, ◌/◌, ◌^◌, ◌<◌, ◌≤◌, arith}
use Rattle.std.proofs.Math.Nat.{div-eq_of_lt}
use Rattle.std.proofs.lemmas.Nat.{pow_below}

pub halved_away : (n k : ℕ) → n ≤ 65536 → 31 < k → n / 2 ^ k ≡ 0
halved_away n k small often =
    let above : 2 ^ 31 < 2 ^ k = pow_below 31 k often in
    div-eq_of_lt (omega arith)
