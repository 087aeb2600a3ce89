-- The edge function: what its value is made of, and how values of it belong together.
use Rattle.std.specs.Prelude.{ℕ, ℤ, pos, ◌+◌, ◌*◌, ◌+ℤ◌, ◌-ℤ◌, ◌*ℤ◌, ◌≡◌}
use Rattle.std.proofs.Common.{arith}
use Rattle.std.proofs.lemmas.Int.{ints}
use Rattle.gl_records.specs.declared.prim.VertexOut.{VertexOut}
use Rattle.gl_records.specs.Center.{center}
use Rattle.gl_records.specs.Coverage.{edge, doubled_area}
use Rattle.coverage.proofs.Differences.{IsDifference, var, number, plus, minus, times, same}

pub edge_from : (a b : VertexOut) (x y dx dy up right across along : ℤ)
    → dx ≡ b.x -ℤ a.x → dy ≡ b.y -ℤ a.y → up ≡ y -ℤ a.y → right ≡ x -ℤ a.x
    → across ≡ dx *ℤ up → along ≡ dy *ℤ right → across -ℤ along ≡ edge a b x y
unfolding doubled_area
edge_from a b x y dx dy up right across along e1 e2 e3 e4 e5 e6 = rw (e5, e6, e1, e2, e3, e4)

-- the reverse of an edge has the opposite value
pub edge-reverse : (a b : VertexOut) (x y : ℤ) → edge b a x y ≡ pos 0 -ℤ edge a b x y
unfolding doubled_area
edge-reverse a b x y =
    let ax = var a.x in let ay = var a.y in let bx = var b.x in let by = var b.y in
    let px = var x in let py = var y in
    same (minus (times (minus ax bx) (minus py by)) (times (minus ay by) (minus px bx)))
    (minus (number 0) (minus (times (minus bx ax) (minus py ay)) (times (minus by ay) (minus px ax))))
    (omega arith)

-- the three values sum to twice the area, wherever they are taken
pub edge-sum : (a b c : VertexOut) (x y : ℤ)
    → edge b c x y +ℤ edge c a x y +ℤ edge a b x y ≡ edge a b c.x c.y
unfolding doubled_area
edge-sum a b c x y =
    let ax = var a.x in let ay = var a.y in let bx = var b.x in let by = var b.y in
    let cx = var c.x in let cy = var c.y in let px = var x in let py = var y in
    same
    (plus
    (plus (minus (times (minus cx bx) (minus py by)) (times (minus cy by) (minus px bx)))
    (minus (times (minus ax cx) (minus py cy)) (times (minus ay cy) (minus px cx))))
    (minus (times (minus bx ax) (minus py ay)) (times (minus by ay) (minus px ax))))
    (minus (times (minus bx ax) (minus cy ay)) (times (minus by ay) (minus cx ax)))
    (omega arith)

-- the centre of a pixel
center_of : (n : ℕ) → IsDifference (center (pos n)) (16 * n + 8) 0
center_of n = record { is = omega (arith, ints) }

-- what a step of i pixels to the right and of r pixels up adds
pub edge-step : (a b : VertexOut) (x y i r : ℕ)
    → edge a b (center (pos (x + i))) (center (pos (y + r)))
    ≡ (edge a b (center (pos x)) (center (pos y)) +ℤ (pos r *ℤ (pos 16 *ℤ (b.x -ℤ a.x))))
    +ℤ (pos i *ℤ (pos 16 *ℤ (a.y -ℤ b.y)))
unfolding doubled_area
edge-step a b x y i r =
    let ax = var a.x in let ay = var a.y in let bx = var b.x in let by = var b.y in
    same
    (minus (times (minus bx ax) (minus (center_of (y + r)) ay)) (times (minus by ay) (minus (center_of (x + i)) ax)))
    (plus
    (plus (minus (times (minus bx ax) (minus (center_of y) ay)) (times (minus by ay) (minus (center_of x) ax)))
    (times (number r) (times (number 16) (minus bx ax))))
    (times (number i) (times (number 16) (minus ay by))))
    (omega arith)

-- the value goes by the places of the corners alone
pub edge-same : (a b c d : VertexOut) (x y : ℤ) → a.x ≡ c.x → a.y ≡ c.y → b.x ≡ d.x → b.y ≡ d.y → edge a b x y ≡ edge c d x y
unfolding doubled_area
edge-same a b c d x y e1 e2 e3 e4 = rw (e1, e2, e3, e4)

nothing : (a b : ℤ) → (pos 0 *ℤ a) -ℤ (pos 0 *ℤ b) ≡ pos 0
nothing a b = omega (arith, ints)

-- an edge of no length has the value 0
pub edge-flat : (a b : VertexOut) (x y : ℤ) → b.x -ℤ a.x ≡ pos 0 → b.y -ℤ a.y ≡ pos 0 → edge a b x y ≡ pos 0
unfolding doubled_area
edge-flat a b x y e1 e2 = rw (e1, e2) (nothing (y -ℤ a.y) (x -ℤ a.x))
