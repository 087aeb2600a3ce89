use Rattle.std.proofs.Common.{rules, arith, slice_index}
use Rattle.whole_surface.proofs.Sums.{sum_to}
use Rattle.whole_surface.proofs.over.over.Goals as goal

pub overflow_add-scaled : goal.overflow_add-scaled
overflow_add-scaled c =
    let red = sum_to (slice_index c.args.color 0) (slice_index c.args.under 0) c.from-alpha.result (search rules) (search rules) (search rules) in
    let green = sum_to (slice_index c.args.color 1) (slice_index c.args.under 1) c.from-alpha.result (search rules) (search rules) (search rules) in
    let blue = sum_to (slice_index c.args.color 2) (slice_index c.args.under 2) c.from-alpha.result (search rules) (search rules) (search rules) in
    let alpha = sum_to (slice_index c.args.color 3) (slice_index c.args.under 3) c.from-alpha.result (search rules) (search rules) (search rules) in
    rw (c.scaled.ensures, c.scaled-2.ensures) (omega (arith, red), (omega (arith, green), (omega (arith, blue), (omega (arith, alpha), tt))))

pub rounded-requires-clause-red : goal.rounded-requires-clause-red
rounded-requires-clause-red c =
    rw (c.scaled.ensures, c.scaled-2.ensures) (sum_to (slice_index c.args.color 0) (slice_index c.args.under 0) c.from-alpha.result (search rules) (search rules) (search rules))

pub rounded-requires-clause-green : goal.rounded-requires-clause-green
rounded-requires-clause-green c =
    rw (c.scaled.ensures, c.scaled-2.ensures) (sum_to (slice_index c.args.color 1) (slice_index c.args.under 1) c.from-alpha.result (search rules) (search rules) (search rules))

pub rounded-requires-clause-blue : goal.rounded-requires-clause-blue
rounded-requires-clause-blue c =
    rw (c.scaled.ensures, c.scaled-2.ensures) (sum_to (slice_index c.args.color 2) (slice_index c.args.under 2) c.from-alpha.result (search rules) (search rules) (search rules))

pub rounded-requires-clause-alpha : goal.rounded-requires-clause-alpha
rounded-requires-clause-alpha c =
    rw (c.scaled.ensures, c.scaled-2.ensures) (sum_to (slice_index c.args.color 3) (slice_index c.args.under 3) c.from-alpha.result (search rules) (search rules) (search rules))
