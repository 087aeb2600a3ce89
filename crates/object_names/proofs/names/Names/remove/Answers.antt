use Rattle.std.proofs.Common.{◌∙◌, sym, ap}
use Rattle.std.specs.Option.{option_flatten}
use Rattle.object_names.proofs.Tables.{table_without, object-table}
use Rattle.object_names.proofs.names.Names.remove.Goals as goal

pub returns-clause-old : goal.returns-clause-old
returns-clause-old g c =
    rw (← c.self.view_is) (c.flatten.ensures ∙ ap option_flatten c.remove.ensures.value ∙ sym (object-table c.self.inside.table.entries c.args.name))

pub returns-clause-new : goal.returns-clause-new
returns-clause-new g c =
    rw (← c.self.view_is) (table_without c.self.inside.table.entries c.remove.new.self.entries c.args.name c.remove.ensures.updates.0)
