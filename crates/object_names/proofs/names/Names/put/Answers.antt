use Rattle.std.proofs.Common.{Some}
use Rattle.object_names.proofs.Tables.{table_put}
use Rattle.object_names.proofs.names.Names.put.Goals as goal

pub returns-clause-live : goal.returns-clause-live
returns-clause-live g c =
    rw (← c.self.view_is) (table_put c.self.inside.table.entries c.insert.new.self.entries c.args.name (Some c.args.value) c.in_ok-insert.ensures.updates.0)
