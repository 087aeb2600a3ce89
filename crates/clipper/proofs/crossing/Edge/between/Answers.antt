use Rattle.std.proofs.Common.{rules, arith}
use Rattle.std.proofs.lemmas.Int.{ints}
use Rattle.clipper.proofs.Betweens.{sum_between}
use Rattle.clipper.proofs.crossing.Edge.between.Goals as goal

pub overflow_cast-result : goal.overflow_cast-result
overflow_cast-result c =
    let sum = sum_between c.args.self.inner c.args.self.outer c.args.a.0 c.args.b.0 c.span.result c.step-step.result
    c.requires.inside c.requires.outside (search rules) (search rules) c.span.ensures c.step-step.ensures in
    omega (arith, ints, sum.0, sum.1, c.from.ensures)

pub returns : goal.returns
returns c =
    let sum = sum_between c.args.self.inner c.args.self.outer c.args.a.0 c.args.b.0 c.span.result c.step-step.result
    c.requires.inside c.requires.outside (search rules) (search rules) c.span.ensures c.step-step.ensures in
    omega (arith, ints, sum.0, sum.1, c.from.ensures)
