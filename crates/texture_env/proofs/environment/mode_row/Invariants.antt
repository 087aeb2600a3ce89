use Rattle.std.specs.Prelude.{◌≡◌, ◌<◌, ◌≤◌, ℕ, [], length, get_or}
use Rattle.std.specs.Int.{bit_at}
use Rattle.gl_records.specs.TextureEnvironment.{environment}
use Rattle.texture_env.proofs.environment.mode_row.Given as goal

abbrev pub invariant-loop-i : goal.invariant-loop-i
invariant-loop-i g l = record {
  len : length l.colors ≡ 16;
  done : (j : ℕ) → j < l.i → bit_at l.bits j ≡ 1
      → get_or l.colors j [] ≡ environment l.unit (get_or l.texels j []) (get_or l.primary j []) (get_or l.fn.colors j []);
  left : (j : ℕ) → l.i ≤ j → get_or l.colors j [] ≡ get_or l.fn.colors j [];
}
