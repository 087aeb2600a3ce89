use Rattle.std.proofs.Common.{◌≡◌, ◌<◌, sym, rules, arith}
use Rattle.whole_surface.proofs.Bits.{whole_value}
use Rattle.whole_surface.proofs.wipe.unmasked_value.Goals as goal

pub returns-then-mask-eq255 : goal.returns-then-mask-eq255
returns-then-mask-eq255 c under =
    let is : c.args.mask ≡ 255 = omega arith in
    let small : c.args.value < 256 = search rules in
    rw is (sym (whole_value c.args.value under small))
