use Rattle.std.proofs.Common.{ap, arith, sym, ◌<◌, FitsSigned, w32}
use Rattle.std.specs.Prelude.{ℕ, pos, slice_index}
use Rattle.std.proofs.lemmas.Int.{ints, to_z-of_z}
use Rattle.std.proofs.lemmas.Option.{IfSome_then}
use Rattle.interpolation.proofs.frame.Frame.channel_of.Goals as goal

pub returns : goal.returns
returns c =
    let a_byte : c.args.a < 256 = omega (arith, c.ranges.a) in
    let b_byte : c.args.b < 256 = omega (arith, c.ranges.b) in
    let c_byte : c.args.c < 256 = omega (arith, c.ranges.c) in
    let a_fits : FitsSigned w32 (pos c.args.a) = omega (arith, ints) in
    let b_fits : FitsSigned w32 (pos c.args.b) = omega (arith, ints) in
    let c_fits : FitsSigned w32 (pos c.args.c) = omega (arith, ints) in
    IfSome_then c.ratio.result
    (c.ratio.ensures (λ v. pos (slice_index v.rgba c.args._k))
    (rw c.from.ensures (simp to_z-of_z (ap (λ (n : ℕ). pos n) (sym c.requires.first))))
    (rw c.from-2.ensures (simp to_z-of_z (ap (λ (n : ℕ). pos n) (sym c.requires.second))))
    (rw c.from-3.ensures (simp to_z-of_z (ap (λ (n : ℕ). pos n) (sym c.requires.third)))))
    (λ plane is. record {
      sum = is;
      first = omega (arith, a_byte, c.requires.first);
      second = omega (arith, b_byte, c.requires.second);
      third = omega (arith, c_byte, c.requires.third);
    })
