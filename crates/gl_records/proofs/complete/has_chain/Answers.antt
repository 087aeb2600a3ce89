use Rattle.std.proofs.Common.{◌≡◌, sym, ℕ, ◌+◌, true, false, arith, rules}
use Rattle.gl_records.specs.Complete.{is_continued, last_of, level_at}
use Rattle.gl_records.proofs.Ranges.{fails_at, passes_all, passes_more}
use Rattle.gl_records.proofs.complete.has_chain.Goals as goal

pub returns-then-not-has_level : goal.returns-then-not-has_level
returns-then-not-has_level c =
    let test = λ (k : ℕ). is_continued c.args.first.now k (level_at c.args.set.now k) in
    let last = c.last_of-k-end.ensures.value in
    let here : test (c.loop-k.k + 1) ≡ false = search rules in
    sym (fails_at test (last_of c.args.first.now) c.loop-k.k (omega arith) here)

pub loop-k-preserved : goal.loop-k-preserved
loop-k-preserved c =
    let test = λ (k : ℕ). is_continued c.args.first.now k (level_at c.args.set.now k) in
    let last = c.last_of-k-end.ensures.value in
    let here : test (c.loop-k.k + 1) ≡ true = search rules in
    passes_more test (last_of c.args.first.now) c.loop-k.k (omega arith) c.loop-k.invariant here

pub returns : goal.returns
returns c =
    let test = λ (k : ℕ). is_continued c.args.first.now k (level_at c.args.set.now k) in
    let last = c.last_of-k-end.ensures.value in
    sym (passes_all test (last_of c.args.first.now) c.loop-k.k (omega arith) c.loop-k.invariant)
