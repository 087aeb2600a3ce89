use Rattle.std.proofs.Common.{◌≡◌, ◌+◌, ◌∙◌, ℕ, map, ap, sym, arith}
use Rattle.std.specs.List.{range_with_len, sum}
use Rattle.std.proofs.lemmas.List.FromFn.{sum_by-map-range_with_len_more}
use Rattle.image_commands.specs.Bytes.{palette_bytes, palette_level_bytes}
use Rattle.image_commands.proofs.bytes.palette_bytes.Goals as goal

pub loop-k-preserved : goal.loop-k-preserved
loop-k-preserved c =
    let n = c.loop-k.k in
    let f = λ (k : ℕ). palette_level_bytes c.args.image.now c.args.w c.args.h c.args.levels k in
    let next : 0 + n ≡ n = omega arith in
    let more = sum_by-map-range_with_len_more (λ (b : ℕ). b) f 0 n n next in
    record {
      so_far = ap (λ (b : ℕ). b + c.palette_level_bytes-bytes.result) c.loop-k.invariant.so_far
          ∙ ap (λ (b : ℕ). sum (map f (range_with_len 0 n)) + b) c.palette_level_bytes-bytes.ensures.value ∙ sym more;
      most = omega (arith, c.loop-k.invariant.most, c.palette_level_bytes-bytes.ensures.most);
    }

pub returns : goal.returns
unfolding palette_bytes
returns c =
    let last : c.loop-k.k ≡ 11 = omega (arith, c.loop-k-test.false, c.loop-k.auto.k-end) in
    c.loop-k.invariant.so_far
    ∙ ap (λ (n : ℕ). sum (map (λ k. palette_level_bytes c.args.image.now c.args.w c.args.h c.args.levels k) (range_with_len 0 n))) last
