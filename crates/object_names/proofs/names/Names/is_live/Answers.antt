use Rattle.std.proofs.Common.{◌∙◌, sym, ap, is_some}
use Rattle.object_names.proofs.Tables.{get-table}
use Rattle.object_names.proofs.names.Names.is_live.Goals as goal

pub returns : goal.returns
returns g c = rw (← c.self.view_is) (c.contains_key.ensures ∙ ap is_some (sym (get-table c.self.inside.table.entries c.args.name)))
