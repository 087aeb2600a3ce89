use Rattle.std.proofs.Common.{◌∙◌, sym}
use Rattle.object_names.proofs.Tables.{len-table}
use Rattle.object_names.proofs.names.Names.len.Goals as goal

pub returns-clause-value : goal.returns-clause-value
returns-clause-value g c = rw (← c.self.view_is) (c.len.ensures.len ∙ sym (len-table c.self.inside.table.entries c.len.ensures.unique))
