-- What the planes leave has w of at least one raw unit: the first makes it so, and each later one keeps it.
use Rattle.std.proofs.Common.{◌≡◌, arith}
use Rattle.std.specs.Prelude.{ℤ, pos, ◌≤ℤ◌, ◌<ℤ◌, ◌-ℤ◌, Bool, true, false, not, int_lt}
use Rattle.std.specs.List.{list_all}
use Rattle.std.proofs.lemmas.Bool.{and_parts}
use Rattle.std.proofs.lemmas.Int.{ints}
use Rattle.gl_records.specs.declared.clip_vertex.ClipVertex.{ClipVertex}
use Rattle.gl_records.specs.ClipVertex.{w_of}
use Rattle.clipper.specs.declared.planes.Plane.{Plane}
use Rattle.clipper.specs.declared.planes.Plane.TheVariants.{LeastW}
use Rattle.clipper.specs.Crossing.{between, vertex_between, crossing}
use Rattle.clipper.specs.Planes.{distance, is_inside, planes, IsInFront}
use Rattle.clipper.proofs.Betweens.{≤-between, between-one}

-- ---- the test
inside_is : (d : ℤ) → not (int_lt d (pos 0)) ≡ true → pos 0 ≤ℤ d
inside_is d h = grind (arith, ints)

outside_is : (d : ℤ) → not (int_lt d (pos 0)) ≡ false → d <ℤ pos 0
outside_is d h = grind (arith, ints)

-- ---- the plane that bounds w
pub inside-least_w : (v : ClipVertex) → is_inside LeastW v ≡ true → IsInFront v
unfolding distance
inside-least_w v h = omega (arith, ints, inside_is (w_of v -ℤ pos 1) h)

pub crossing-least_w : (a b : ClipVertex) → is_inside LeastW a ≡ true → is_inside LeastW b ≡ false → IsInFront (crossing LeastW a b)
unfolding distance vertex_between
crossing-least_w a b p q =
    let one : between (w_of a -ℤ pos 1) (w_of b -ℤ pos 1) (w_of a) (w_of b) ≡ pos 1 =
    between-one (w_of a) (w_of b) (omega (arith, ints, inside_is (w_of a -ℤ pos 1) p)) (omega (arith, ints, outside_is (w_of b -ℤ pos 1) q)) in
    omega (arith, ints, one)

-- ---- any plane
pub crossing-in_front : (plane : Plane) (a b : ClipVertex) → IsInFront a → IsInFront b → is_inside plane a ≡ true → is_inside plane b ≡ false
    → IsInFront (crossing plane a b)
unfolding vertex_between
crossing-in_front plane a b front_a front_b p q =
    ≤-between (pos 1) (distance plane a) (distance plane b) (w_of a) (w_of b) (inside_is _ p) (outside_is _ q) front_a front_b

-- ---- a point
pub point-in_front : (user : Bool) (v : ClipVertex) → list_all (λ side. is_inside side v) (planes user) ≡ true → IsInFront v
point-in_front user v h = inside-least_w v (and_parts (is_inside LeastW v) _ h).0
