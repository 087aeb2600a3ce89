use Rattle.primitive_setup.proofs.Boxes.{box_same, end_at_greatest, first_from_least, holds-exact}
use Rattle.primitive_setup.proofs.bounds.pixel_bounds.Goals as goal

pub returns-clause-value : goal.returns-clause-value
returns-clause-value c =
    let a = c.requires.first in
    let b = c.requires.second in
    let d = c.requires.third in
    box_same c.args.size c.args.a.now c.args.b.now c.args.c.now _ _ _ _
    (first_from_least c.first_from.result c.least.result c.args.a.now.x c.args.b.now.x c.args.c.now.x c.first_from.type_inv c.least.type_inv
    a.x_from a.x_to b.x_from b.x_to d.x_from d.x_to c.first_from.ensures c.least.ensures.value)
    (first_from_least c.first_from-2.result c.least-2.result c.args.a.now.y c.args.b.now.y c.args.c.now.y c.first_from-2.type_inv c.least-2.type_inv
    a.y_from a.y_to b.y_from b.y_to d.y_from d.y_to c.first_from-2.ensures c.least-2.ensures.value)
    (end_at_greatest c.end_at.result c.greatest.result c.args.a.now.x c.args.b.now.x c.args.c.now.x c.args.size.w c.end_at.type_inv c.greatest.type_inv
    a.x_from a.x_to b.x_from b.x_to d.x_from d.x_to c.end_at.ensures c.greatest.ensures.value)
    (end_at_greatest c.end_at-2.result c.greatest-2.result c.args.a.now.y c.args.b.now.y c.args.c.now.y c.args.size.h c.end_at-2.type_inv c.greatest-2.type_inv
    a.y_from a.y_to b.y_from b.y_to d.y_from d.y_to c.end_at-2.ensures c.greatest-2.ensures.value)

pub returns-clause-exact : goal.returns-clause-exact
returns-clause-exact c = holds-exact c.args.size c.args.a.now c.args.b.now c.args.c.now _ (returns-clause-value c)
