use Rattle.std.proofs.Common.{cond, sym, ap, Some}
use Rattle.std.proofs.lemmas.Bool.{eq-eqb}
use Rattle.texture_store.specs.Stored.{given}
use Rattle.texture_store.proofs.writes.give.Goals as goal

pub returns-then-name-eq0-clause-unnamed : goal.returns-then-name-eq0-clause-unnamed
returns-then-name-eq0-clause-unnamed c =
    ap (λ b. cond b (given (Some c.args.version) c.args.image.value c.args.unnamed.now) c.args.unnamed.now) (sym (eq-eqb c.args.name 0 c.if-name-eq0.true))
