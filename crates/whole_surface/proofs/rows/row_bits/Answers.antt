use Rattle.std.proofs.Common.{◌≡◌, pos, true, rules, ◌+◌}
use Rattle.std.specs.Prelude.{int_le, int_lt}
use Rattle.std.proofs.lemmas.Nat.Bits.{bit_at_and, bit_at-lt}
use Rattle.std.specs.Int.{bit_at}
use Rattle.whole_surface.specs.Parts.{in_columns}
use Rattle.whole_surface.proofs.Bits.{held_bit}
use Rattle.whole_surface.proofs.rows.row_bits.Goals as goal

pub returns-then-from-area : goal.returns-then-from-area
returns-then-from-area c i within =
    let area = c.args.area.now in
    let low : int_le area.y0 (pos c.args.y) ≡ true = search rules in
    let high : int_lt (pos c.args.y) area.y1 ≡ true = search rules in
    rw (bit_at_and c.args.bits c.args.columns i, c.requires i within)
    (held_bit (in_columns area (c.args._x0 + i)) _ _ (bit_at c.args.bits i) (bit_at-lt c.args.bits i) low high)
