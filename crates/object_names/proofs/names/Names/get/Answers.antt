use Rattle.std.proofs.Common.{◌∙◌, sym, ap}
use Rattle.std.specs.Option.{option_flatten}
use Rattle.object_names.proofs.Tables.{object-table}
use Rattle.object_names.proofs.names.Names.get.Goals as goal

pub returns-in_default : goal.returns-in_default
returns-in_default g c =
    rw (← c.self.view_is) (sym (object-table c.self.inside.table.entries c.args.name ∙ ap option_flatten (sym c.in_default.ensures.value)))

pub returns : goal.returns
returns g c =
    rw (← c.self.view_is) (c.as_ref.ensures.value ∙ ap option_flatten c.in-Some.ensures.value ∙ sym (object-table c.self.inside.table.entries c.args.name))
