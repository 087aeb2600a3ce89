use Rattle.gl_records.specs.declared.level.Level.{Level}
use Rattle.std.proofs.Common.{◌<◌, ◌∙◌, List, Option, None, sym, arith}
use Rattle.std.proofs.lemmas.List.{ext_get_or}
use Rattle.texture_store.proofs.copies.copy_levels.Goals as goal

pub returns : goal.returns
returns c =
    let into : List (Option Level) = c.loop-k.into in
    let levels : List (Option Level) = c.args.levels.now in
    ext_get_or None into levels (c.loop-k.invariant.size ∙ sym c.type_inv.levels) (λ j within.
    let below : j < c.loop-k.k = omega (arith, within, c.loop-k.invariant.size, c.loop-k-test.false) in
    c.loop-k.invariant.copied j below)
