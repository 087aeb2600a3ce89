use Rattle.std.proofs.Common.{◌≡◌, ◌+◌, ◌<◌, ℕ, length}
use Rattle.std.specs.Prelude.{if◌then◌else◌, slice_index}
use Rattle.std.specs.Int.{bit_at}
use Rattle.gl_records.specs.PixelBox.{holds}
use Rattle.whole_surface.proofs.rows.scissored.Given as goal

abbrev pub invariant-loop-r : goal.invariant-loop-r
invariant-loop-r l = record {
  len : length l.held ≡ 16;
  done : (q i : ℕ) → q < l.r → i < 16
      → bit_at (slice_index l.held q) i ≡ (if holds l.area (l.rect.x0 + i) (l.rect.y0 + q) then bit_at (slice_index l.rows q) i else 0);
}
