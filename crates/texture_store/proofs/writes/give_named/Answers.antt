use Rattle.std.proofs.Common.{◌∙◌, refl, sym, ap, subst, Some}
use Rattle.std.specs.Bool.{IsTrue}
use Rattle.std.specs.FinMap as map
use Rattle.object_names.proofs.Objects.{insert_again, live-insert}
use Rattle.texture_store.specs.Stored.{changed_names, given}
use Rattle.texture_store.specs.declared.object.Object.{Object}
use Rattle.texture_store.proofs.writes.give_named.Goals as goal

pub replace-requires-in-Some : goal.replace-requires-in-Some
replace-requires-in-Some c =
    subst IsTrue (sym (ap (λ names. map.contains_key names c.args.name) c.replace.ensures.new ∙ live-insert c.args.names.now c.args.name (Some c.new.result))) refl

pub returns-in-Some : goal.returns-in-Some
returns-in-Some c =
    let object : Object = given (Some c.args.version) c.args.image.value c.in-Some.object in
    c.replace-in-Some.ensures.new ∙ ap (λ names. map.insert names c.args.name (Some object)) c.replace.ensures.new
    ∙ insert_again c.args.names.now c.args.name (Some c.new.result) (Some object)
    ∙ ap (changed_names (given (Some c.args.version) c.args.image.value) c.args.names.now c.args.name) c.in-Some.ensures.old
