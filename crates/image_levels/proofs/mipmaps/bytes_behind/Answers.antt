use Rattle.std.proofs.Common.{◌≡◌, ◌+◌, ◌∙◌, ℕ, map, ap, sym, arith}
use Rattle.std.specs.List.{range_with_len, sum}
use Rattle.std.proofs.lemmas.List.FromFn.{sum_by-map-range_with_len_more}
use Rattle.image_levels.specs.Mipmaps.{bytes_behind, bytes_then}
use Rattle.image_levels.proofs.mipmaps.bytes_behind.Goals as goal

pub loop-before-preserved : goal.loop-before-preserved
loop-before-preserved c =
    let n = c.loop-before.before in
    let f = λ (k : ℕ). bytes_then c.args.set.now.levels c.args.w c.args.h k in
    let next : 1 + n ≡ n + 1 = omega arith in
    let more = sum_by-map-range_with_len_more (λ (b : ℕ). b) f 1 n (n + 1) next in
    record {
      so_far = ap (λ (b : ℕ). b + c.bytes_then-bytes.result) c.loop-before.invariant.so_far
          ∙ ap (λ (b : ℕ). sum (map f (range_with_len 1 n)) + b) c.bytes_then-bytes.ensures.value ∙ sym more;
      most = omega (arith, c.loop-before.invariant.most, c.bytes_then-bytes.ensures.most);
    }

pub returns-clause-value : goal.returns-clause-value
unfolding bytes_behind
returns-clause-value c =
    let last : c.loop-before.before ≡ 10 = omega (arith, c.loop-before-test.false, c.loop-before.auto.before-end) in
    c.loop-before.invariant.so_far
    ∙ ap (λ (n : ℕ). sum (map (λ k. bytes_then c.args.set.now.levels c.args.w c.args.h k) (range_with_len 1 n))) last
