use Rattle.std.proofs.Common.{◌≡◌, ◌+◌, ◌<◌, ◌∙◌, ℕ, List, length, take, get_or, Option, None, Result, Ok, Err, IsOk, OnOk, sym, ap, arith, rules}
use Rattle.std.specs.FinMap as map
use Rattle.std.specs.Ordering.{nat_cmp}
use Rattle.std.proofs.lemmas.List.Sums.{fold_more}
use Rattle.object_names.specs.Names.{LiveNames, with_names}
use Rattle.object_names.proofs.Tables.{table_put}
use Rattle.object_names.proofs.names.add.Goals as goal

on_ok : {T E : Type 0} {P : Type 0} (r : Result T E) → IsOk r → OnOk r P → P
on_ok (Ok x) ok p = p
on_ok (Err e) ok p = absurd (search rules)

added : {V : Type 0} (old : LiveNames V) (es fs : List (ℕ × Option V)) (names : List ℕ) (i : ℕ) → i < length names
    → map.from_entries {R = nat_cmp} es ≡ with_names old (take i names)
    → map.from_entries {R = nat_cmp} fs ≡ map.insert (map.from_entries {R = nat_cmp} es) (get_or names i 0) None
    → map.from_entries {R = nat_cmp} fs ≡ with_names old (take (i + 1) names)
added {V = V} old es fs names i within was put =
    put ∙ ap (λ (m : LiveNames V). map.insert m (get_or names i 0) None) was ∙ sym (fold_more (λ (live : LiveNames V) (name : ℕ). map.insert live name None) old names i 0 within)

pub loop-name-preserved : goal.loop-name-preserved
loop-name-preserved g c =
    let room : IsOk c.insert.result = c.insert.ensures.succeeds (omega (arith, c.loop-name.invariant.1, c.loop-name-test.true)) in
    let put = on_ok c.insert.result room c.insert.ensures.updates in (
      added (map.from_entries c.args.table.now.entries) c.loop-name.table.entries c.insert.new.self.entries c.args.names.now c.loop-name.name-index c.loop-name-test.true
          c.loop-name.invariant.0 (table_put c.loop-name.table.entries c.insert.new.self.entries (get_or c.args.names.now c.loop-name.name-index 0) None put.0),
      omega (arith, c.loop-name.invariant.1, c.insert.ensures.spare),
    )
