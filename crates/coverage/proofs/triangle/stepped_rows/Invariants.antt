use Rattle.std.proofs.Common.{◌≡◌, ℕ, ◌<◌, pos, ◌+ℤ◌, ◌*ℤ◌, min, length, slice_index}
use Rattle.std.specs.Int.{bit_at}
use Rattle.coverage.specs.Steps.{row_bit}
use Rattle.coverage.proofs.triangle.stepped_rows.Given as goal

abbrev pub invariant-loop-r : goal.invariant-loop-r
invariant-loop-r l = record {
  count : length l.rows ≡ 16;
  done : (r : ℕ) → r < l.r → (i : ℕ) → i < 16 → bit_at (slice_index l.rows r) i
      ≡ min
      (min
      (row_bit (l.a.margin +ℤ (pos r *ℤ l.a.up)) l.a.right i)
      (row_bit (l.b.margin +ℤ (pos r *ℤ l.b.up)) l.b.right i))
      (row_bit (l.c.margin +ℤ (pos r *ℤ l.c.up)) l.c.right i);
}
