use Rattle.std.proofs.Common.{◌≡◌, ◌∙◌, ℕ, List, ap, nat_cmp}
use Rattle.std.specs.FinMap as map
use Rattle.object_names.specs.Names.{with_names, free_names}
use Rattle.object_names.proofs.Tables.{table_same}
use Rattle.object_names.proofs.names.Names.make.Goals as goal

pub returns-clause-live : goal.returns-clause-live
returns-clause-live g c =
    let same = table_same c.self.inside.table.entries c.reserve.new.self.entries c.reserve.ensures.entries.2 in
    let given : c.as_slice.result.now ≡ free_names c.args.self.now c.args.count = c.as_slice.ensures.value ∙ c.in_ok-given.ensures.names in
    c.add.ensures
    ∙ ap (λ (names : List ℕ). with_names (map.from_entries {R = nat_cmp} c.reserve.new.self.entries) names) given
    ∙ ap (λ m. with_names m (free_names c.args.self.now c.args.count)) (same ∙ c.self.view_is)
