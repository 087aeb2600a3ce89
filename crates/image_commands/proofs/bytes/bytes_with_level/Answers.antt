use Rattle.std.proofs.Common.{◌≤◌, ◌*◌, ap, arith}
use Rattle.std.proofs.Math.Nat.{mul-le-mul}
use Rattle.gl_records.specs.ImageBytes.{level_bytes}
use Rattle.image_commands.proofs.Counting.{level-part}
use Rattle.image_commands.proofs.Good.{good-bytes}
use Rattle.image_commands.proofs.bytes.bytes_with_level.Goals as goal

pub overflow_sub-result : goal.overflow_sub-result
overflow_sub-result c =
    let part = level-part c.args.image.now c.args.k c.requires.good c.requires.number in
    let one = ap level_bytes c.level_in.ensures in
    omega (arith, part, one, c.bytes.ensures, c.level_bytes.ensures.value)

pub overflow_add-result : goal.overflow_add-result
overflow_add-result c =
    let few = good-bytes c.args.image.now c.requires.good in
    let w : c.from.result ≤ 65535 = omega (arith, c.from.ensures, c.ranges.w) in
    let h : c.from-2.result ≤ 65535 = omega (arith, c.from-2.ensures, c.ranges.h) in
    let area : c.from.result * c.from-2.result ≤ 65535 * 65535 = mul-le-mul w h in
    omega (arith, few, area, c.bytes.ensures)

pub returns : goal.returns
returns c =
    let part = level-part c.args.image.now c.args.k c.requires.good c.requires.number in
    let one = ap level_bytes c.level_in.ensures in
    rw (← c.from.ensures, ← c.from-2.ensures) (omega (arith, part, one, c.bytes.ensures, c.level_bytes.ensures.value))
