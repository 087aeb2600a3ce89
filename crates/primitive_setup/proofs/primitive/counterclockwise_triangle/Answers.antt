use Rattle.std.proofs.Common.{arith}
use Rattle.std.proofs.lemmas.Int.{ints}
use Rattle.gl_records.specs.Coverage.{doubled_area}
use Rattle.primitive_setup.proofs.primitive.counterclockwise_triangle.Goals as goal

pub offset_triangle-requires-clause-counterclockwise : goal.offset_triangle-requires-clause-counterclockwise
unfolding doubled_area
offset_triangle-requires-clause-counterclockwise c = omega (arith, ints, c.requires.of_corners)
