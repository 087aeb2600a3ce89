use Rattle.std.proofs.Common.{◌∙◌, sym, ap, subst, IsTrue, Some}
use Rattle.std.specs.FinMap as map
use Rattle.std.specs.Option.{option_flatten}
use Rattle.object_names.proofs.Tables.{table_put, object-table, not_live}
use Rattle.object_names.proofs.names.Names.replace.Goals as goal

pub returns-in-Ok-clause-old : goal.returns-in-Ok-clause-old
returns-in-Ok-clause-old g c =
    rw (← c.self.view_is) (c.flatten.ensures ∙ ap option_flatten c.in-Ok.ensures.old ∙ sym (object-table c.self.inside.table.entries c.args.name))

pub returns-in-Ok-clause-new : goal.returns-in-Ok-clause-new
returns-in-Ok-clause-new g c =
    rw (← c.self.view_is) (table_put c.self.inside.table.entries c.insert.new.self.entries c.args.name (Some c.args.value) c.in-Ok.ensures.updates.0)

pub returns-clause-old : goal.returns-clause-old
returns-clause-old g c =
    absurd (not_live c.self.inside.table.entries c.args.name c.in-Err.ensures.absent (subst (λ m. IsTrue (map.contains_key m c.args.name)) (sym c.self.view_is) c.requires))

pub returns-clause-new : goal.returns-clause-new
returns-clause-new g c =
    absurd (not_live c.self.inside.table.entries c.args.name c.in-Err.ensures.absent (subst (λ m. IsTrue (map.contains_key m c.args.name)) (sym c.self.view_is) c.requires))
