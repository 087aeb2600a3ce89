use Rattle.std.proofs.Common.{arith}
use Rattle.texel_sampler.specs.FourTexels.{byte_of}
use Rattle.texel_sampler.proofs.Weighted.{two-bound}
use Rattle.texel_sampler.proofs.lanes.across.Goals as goal

pub overflow_add-result : goal.overflow_add-result
overflow_add-result c =
    let a = c.from-a.result in
    let low = c.args.low in
    let high = c.args.high in
    let red = two-bound a (byte_of low 0) (byte_of high 0) 255 (omega arith) (omega arith) (omega arith) in
    let green = two-bound a (byte_of low 1) (byte_of high 1) 255 (omega arith) (omega arith) (omega arith) in
    let blue = two-bound a (byte_of low 2) (byte_of high 2) 255 (omega arith) (omega arith) (omega arith) in
    let alpha = two-bound a (byte_of low 3) (byte_of high 3) 255 (omega arith) (omega arith) (omega arith) in
    rw (c.scaled.ensures, c.scaled-2.ensures) (omega (arith, red), (omega (arith, green), (omega (arith, blue), (omega (arith, alpha), tt))))
