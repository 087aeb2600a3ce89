use Rattle.std.proofs.Common.{◌≡◌, ◌+◌, ◌<◌, ◌≤◌, ◌∙◌, ◌++◌, ℕ, Bool, List, [], ◌∷◌, length, cond, not, sym, ap, true, false, append-nil, length-append, Vec, Global, vec_len, arith, rules}
use Rattle.std.specs.FinMap as map
use Rattle.object_names.specs.Names.{is_free}
use Rattle.object_names.proofs.Given.{passing, passing_more, passing_enough, free_enough}
use Rattle.object_names.proofs.names.Names.free.Goals as goal
use Rattle.object_names.proofs.names.Names.free.Goals.{then-not-is_live+in_ok-push, else-not-is_live}

pub returns-then-len-count-clause-names : goal.returns-then-len-count-clause-names
returns-then-len-count-clause-names g c =
    c.loop-before.invariant.0
    ∙ sym (passing_enough (is_free c.args.self.now) c.args.count c.loop-before.before (c.args.count + map.len c.args.self.now) (grind arith) (grind arith))

one_more : (test : ℕ → Bool) (k count : ℕ) (old new : List ℕ) → old ≡ passing test k → length old < count → test (k + 1) ≡ true → new ≡ old ++ (k + 1) ∷ [] → (new ≡ passing test (k + 1)) × (length new ≤ count)
one_more test k count old new was room passes is = (
  is ∙ ap (λ (xs : List ℕ). xs ++ (k + 1) ∷ []) was ∙ ap (λ (b : Bool). passing test k ++ cond b ((k + 1) ∷ []) []) (sym passes) ∙ sym (passing_more test k),
  omega (arith, ap length is, length-append old ((k + 1) ∷ []), room),
)

none_more : (test : ℕ → Bool) (k : ℕ) (old : List ℕ) → old ≡ passing test k → test (k + 1) ≡ false → old ≡ passing test (k + 1)
none_more test k old was fails =
    was ∙ sym (append-nil (passing test k)) ∙ ap (λ (b : Bool). passing test k ++ cond b ((k + 1) ∷ []) []) (sym fails) ∙ sym (passing_more test k)

pub loop-before-preserved : goal.loop-before-preserved
loop-before-preserved g c =
    let was = c.loop-before.invariant in
    let test : ℕ → Bool = is_free c.args.self.now in
    elim c.if-not-is_live.branch [
      | then-not-is_live+in_ok-push w ↦
          let free : test (c.loop-before.before + 1) ≡ true = ap not (sym c.is_live.ensures ∙ w.if-not-is_live.true) in
          one_more test c.loop-before.before c.args.count c.loop-before.given.items c.if-not-is_live.given.items was.0 (grind arith) free
          (ap (λ (v : Vec ℕ Global). v.items) w.given-is ∙ w.in_ok-push.ensures.items)
      | else-not-is_live w ↦
          let live : test (c.loop-before.before + 1) ≡ false = ap not (sym c.is_live.ensures ∙ w.if-not-is_live.false) in
          let same : c.if-not-is_live.given.items ≡ c.loop-before.given.items = ap (λ (v : Vec ℕ Global). v.items) w.given-is in
          (same ∙ none_more test c.loop-before.before c.loop-before.given.items was.0 live, omega (arith, ap length same, was.1))
    ]

pub returns-clause-count : goal.returns-clause-count
returns-clause-count g c =
    let end : c.loop-before.before ≡ c.args.count + map.len c.args.self.now = omega (arith, c.loop-before-test.false, c.loop-before.auto.before-end, c.len.ensures.value) in
    let all = free_enough c.args.self.now c.args.count in
    let made : length c.loop-before.given.items ≡ length (passing (is_free c.args.self.now) (c.args.count + map.len c.args.self.now)) = ap length c.loop-before.invariant.0 ∙ ap (λ (k : ℕ). length (passing (is_free c.args.self.now) k)) end in
    let same : vec_len c.loop-before.given ≡ length c.loop-before.given.items = search rules in
    omega (arith, all, made, same, c.loop-before.invariant.1)
