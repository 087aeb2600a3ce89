use Rattle.std.proofs.Common.{◌<◌, ◌≤◌, arith}
use Rattle.gl_records.specs.TopBit.{top_bit}
use Rattle.gl_records.proofs.Logarithms.{top_bit-below}
use Rattle.image_commands.proofs.errors.palette_levels.Goals as goal

pub returns-clause-possible : goal.returns-clause-possible
returns-clause-possible c = λ image.
    let most : c.from.result ≤ 1024 = omega (arith, c.from.ensures, c.max.ensures, c.requires.w.1, c.requires.h.1) in
    let bit : top_bit c.from.result < 11 = top_bit-below c.from.result 11 (omega arith) (omega arith) (omega (arith, most)) in
    record {
      w_least = c.requires.w.0;
      w_most = c.requires.w.1;
      h_least = c.requires.h.0;
      h_most = c.requires.h.1;
      most = omega (arith, bit, c.top_bit.ensures.value, c.if-last-top_bit.false);
    }
