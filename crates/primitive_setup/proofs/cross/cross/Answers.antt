use Rattle.primitive_setup.proofs.Words.{cross_bound, cross_fits, cross_is, product_fits}
use Rattle.primitive_setup.proofs.cross.cross.Goals as goal

pub overflow_mul-result : goal.overflow_mul-result
overflow_mul-result c = product_fits c.args.ux c.args.vy c.requires.ux_bound c.requires.vy_bound

pub overflow_mul-result-2 : goal.overflow_mul-result-2
overflow_mul-result-2 c = product_fits c.args.vx c.args.uy c.requires.vx_bound c.requires.uy_bound

pub overflow_sub-result : goal.overflow_sub-result
overflow_sub-result c = cross_fits c.args.ux c.args.uy c.args.vx c.args.vy c.requires.ux_bound c.requires.uy_bound c.requires.vx_bound c.requires.vy_bound

pub returns-clause-value : goal.returns-clause-value
returns-clause-value c = cross_is c.args.ux c.args.uy c.args.vx c.args.vy c.requires.ux_bound c.requires.uy_bound c.requires.vx_bound c.requires.vy_bound

pub returns-clause-bound : goal.returns-clause-bound
returns-clause-bound c =
    rw (cross_is c.args.ux c.args.uy c.args.vx c.args.vy c.requires.ux_bound c.requires.uy_bound c.requires.vx_bound c.requires.vy_bound)
    (cross_bound c.args.ux c.args.uy c.args.vx c.args.vy c.requires.ux_bound c.requires.uy_bound c.requires.vx_bound c.requires.vy_bound)
