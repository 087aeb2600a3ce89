use Rattle.std.proofs.Common.{◌∙◌, refl, ap}
use Rattle.matrix_stacks.specs.Stacks.{loaded, multiplied}
use Rattle.gl_state.proofs.Stacked.{stacked}
use Rattle.gl_state.proofs.state.State.apply.Goals as goal

pub returns-in-LoadMatrixx-clause-run : goal.returns-in-LoadMatrixx-clause-run
returns-in-LoadMatrixx-clause-run c =
    let now = c.args.self.now in
    stacked now _ _ _ _ (c.load-in-LoadMatrixx.ensures ∙ ap (loaded now.stacks) c.matrix_of.ensures) c.in-LoadMatrixx.is refl

pub returns-in-MultMatrixx-clause-run : goal.returns-in-MultMatrixx-clause-run
returns-in-MultMatrixx-clause-run c =
    let now = c.args.self.now in
    stacked now _ _ _ _ (c.mult.ensures ∙ ap (multiplied now.stacks) c.matrix_of-in-MultMatrixx.ensures) c.in-MultMatrixx.is refl

pub returns-in-Scalex-clause-run : goal.returns-in-Scalex-clause-run
returns-in-Scalex-clause-run c = stacked c.args.self.now _ _ _ _ c.scale.ensures c.in-Scalex.is refl

pub returns-in-Translatex-clause-run : goal.returns-in-Translatex-clause-run
returns-in-Translatex-clause-run c = stacked c.args.self.now _ _ _ _ c.translate.ensures c.in-Translatex.is refl
