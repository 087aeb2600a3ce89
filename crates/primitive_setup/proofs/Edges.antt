-- A centre that no edge of a triangle has on its right lies in the box of the corners.
use Rattle.std.proofs.Common.{◌≡◌, refl, ap, sym, ◌∙◌, arith}
use Rattle.std.specs.Prelude.{ℤ, pos, negsuc, ◌+ℤ◌, ◌-ℤ◌, ◌*ℤ◌, ◌≤ℤ◌, ◌<ℤ◌}
use Rattle.std.proofs.lemmas.Int.{ints, clamps, by_lt_z}
use Rattle.std.proofs.Math.IntN.{*ℤ_comm}
use Rattle.fx_arith.proofs.Products.{*ℤ--ℤ, -ℤ-*ℤ, *ℤ-opposite, *ℤ_assoc, *ℤ_swap, *ℤ-≤}
use Rattle.primitive_setup.specs.Bounds.{greatest, least}
use Rattle.gl_records.specs.Coverage.{doubled_area}
use Rattle.primitive_setup.proofs.Words.{cross_same}

-- the edge function in the distances of its corners from the place
cross_of_differences : (u v u' v' : ℤ) → (u' -ℤ u) *ℤ (pos 0 -ℤ v) -ℤ (v' -ℤ v) *ℤ (pos 0 -ℤ u) ≡ u *ℤ v' -ℤ u' *ℤ v
cross_of_differences u v u' v' =
    omega (arith, ints, *ℤ-opposite (u' -ℤ u) v, *ℤ-opposite (v' -ℤ v) u, -ℤ-*ℤ u' u v, -ℤ-*ℤ v' v u, *ℤ_comm v' u, *ℤ_comm v u)

pub edge_is : (ax ay bx by x y : ℤ)
    → (bx -ℤ ax) *ℤ (y -ℤ ay) -ℤ (by -ℤ ay) *ℤ (x -ℤ ax) ≡ (ax -ℤ x) *ℤ (by -ℤ y) -ℤ (bx -ℤ x) *ℤ (ay -ℤ y)
edge_is ax ay bx by x y =
    let along_x : bx -ℤ ax ≡ (bx -ℤ x) -ℤ (ax -ℤ x) = omega (arith, ints) in
    let along_y : by -ℤ ay ≡ (by -ℤ y) -ℤ (ay -ℤ y) = omega (arith, ints) in
    let back_x : x -ℤ ax ≡ pos 0 -ℤ (ax -ℤ x) = omega (arith, ints) in
    let back_y : y -ℤ ay ≡ pos 0 -ℤ (ay -ℤ y) = omega (arith, ints) in
    ap (λ n. n *ℤ (y -ℤ ay) -ℤ (by -ℤ ay) *ℤ (x -ℤ ax)) along_x
    ∙ ap (λ n. ((bx -ℤ x) -ℤ (ax -ℤ x)) *ℤ n -ℤ (by -ℤ ay) *ℤ (x -ℤ ax)) back_y
    ∙ ap (λ n. ((bx -ℤ x) -ℤ (ax -ℤ x)) *ℤ (pos 0 -ℤ (ay -ℤ y)) -ℤ n *ℤ (x -ℤ ax)) along_y
    ∙ ap (λ n. ((bx -ℤ x) -ℤ (ax -ℤ x)) *ℤ (pos 0 -ℤ (ay -ℤ y)) -ℤ ((by -ℤ y) -ℤ (ay -ℤ y)) *ℤ n) back_x
    ∙ cross_of_differences (ax -ℤ x) (ay -ℤ y) (bx -ℤ x) (by -ℤ y)

-- the last factors of a product of three change places
swap_last : (a b c : ℤ) → (a *ℤ b) *ℤ c ≡ (a *ℤ c) *ℤ b
swap_last a b c = *ℤ_assoc a b c ∙ ap (λ n. a *ℤ n) (*ℤ_comm b c) ∙ sym (*ℤ_assoc a c b)

-- the three edge functions weight the corners so that the place is their mean, along x and along y
mean_x : (u0 v0 u1 v1 u2 v2 : ℤ)
    → (u1 *ℤ v2 -ℤ u2 *ℤ v1) *ℤ u0 +ℤ (u2 *ℤ v0 -ℤ u0 *ℤ v2) *ℤ u1 +ℤ (u0 *ℤ v1 -ℤ u1 *ℤ v0) *ℤ u2 ≡ pos 0
mean_x u0 v0 u1 v1 u2 v2 =
    omega (
      arith,
      ints,
      -ℤ-*ℤ (u1 *ℤ v2) (u2 *ℤ v1) u0,
      -ℤ-*ℤ (u2 *ℤ v0) (u0 *ℤ v2) u1,
      -ℤ-*ℤ (u0 *ℤ v1) (u1 *ℤ v0) u2,
      *ℤ_swap u1 v2 u0,
      *ℤ_swap u2 v1 u0,
      *ℤ_swap u2 v0 u1,
    )

mean_y : (u0 v0 u1 v1 u2 v2 : ℤ)
    → (u1 *ℤ v2 -ℤ u2 *ℤ v1) *ℤ v0 +ℤ (u2 *ℤ v0 -ℤ u0 *ℤ v2) *ℤ v1 +ℤ (u0 *ℤ v1 -ℤ u1 *ℤ v0) *ℤ v2 ≡ pos 0
mean_y u0 v0 u1 v1 u2 v2 =
    omega (
      arith,
      ints,
      -ℤ-*ℤ (u1 *ℤ v2) (u2 *ℤ v1) v0,
      -ℤ-*ℤ (u2 *ℤ v0) (u0 *ℤ v2) v1,
      -ℤ-*ℤ (u0 *ℤ v1) (u1 *ℤ v0) v2,
      swap_last u1 v2 v0,
      swap_last u2 v1 v0,
      swap_last u0 v2 v1,
    )

-- they sum to the doubled area
area_is : (u0 v0 u1 v1 u2 v2 : ℤ)
    → (u1 -ℤ u0) *ℤ (v2 -ℤ v0) -ℤ (u2 -ℤ u0) *ℤ (v1 -ℤ v0)
    ≡ (u1 *ℤ v2 -ℤ u2 *ℤ v1) +ℤ (u2 *ℤ v0 -ℤ u0 *ℤ v2) +ℤ (u0 *ℤ v1 -ℤ u1 *ℤ v0)
area_is u0 v0 u1 v1 u2 v2 =
    omega (arith, ints, -ℤ-*ℤ u1 u0 (v2 -ℤ v0), -ℤ-*ℤ u2 u0 (v1 -ℤ v0), *ℤ--ℤ u1 v2 v0, *ℤ--ℤ u0 v2 v0, *ℤ--ℤ u2 v1 v0, *ℤ--ℤ u0 v1 v0)

-- weights with a mean of 0 are not all on one side of it
not_all_below : (e0 e1 e2 n0 n1 n2 : ℤ) → pos 0 ≤ℤ e0 → pos 0 ≤ℤ e1 → pos 0 ≤ℤ e2 → pos 0 <ℤ (e0 +ℤ e1 +ℤ e2)
    → e0 *ℤ n0 +ℤ e1 *ℤ n1 +ℤ e2 *ℤ n2 ≡ pos 0 → n0 ≤ℤ negsuc 0 → n1 ≤ℤ negsuc 0 → n2 ≤ℤ negsuc 0 → ⊥
not_all_below e0 e1 e2 n0 n1 n2 p0 p1 p2 some mean q0 q1 q2 =
    omega (arith, ints, *ℤ-≤ e0 n0 (negsuc 0) p0 q0, *ℤ-≤ e1 n1 (negsuc 0) p1 q1, *ℤ-≤ e2 n2 (negsuc 0) p2 q2)

not_all_above : (e0 e1 e2 n0 n1 n2 : ℤ) → pos 0 ≤ℤ e0 → pos 0 ≤ℤ e1 → pos 0 ≤ℤ e2 → pos 0 <ℤ (e0 +ℤ e1 +ℤ e2)
    → e0 *ℤ n0 +ℤ e1 *ℤ n1 +ℤ e2 *ℤ n2 ≡ pos 0 → pos 1 ≤ℤ n0 → pos 1 ≤ℤ n1 → pos 1 ≤ℤ n2 → ⊥
not_all_above e0 e1 e2 n0 n1 n2 p0 p1 p2 some mean q0 q1 q2 =
    omega (arith, ints, *ℤ-≤ e0 (pos 1) n0 p0 q0, *ℤ-≤ e1 (pos 1) n1 p1 q1, *ℤ-≤ e2 (pos 1) n2 p2 q2)

-- three numbers that are neither all below nor all above a place have it between them
between : (a b c x : ℤ) → (((a -ℤ x) ≤ℤ negsuc 0) → ((b -ℤ x) ≤ℤ negsuc 0) → ((c -ℤ x) ≤ℤ negsuc 0) → ⊥)
    → ((pos 1 ≤ℤ (a -ℤ x)) → (pos 1 ≤ℤ (b -ℤ x)) → (pos 1 ≤ℤ (c -ℤ x)) → ⊥)
    → (least a b c ≤ℤ x) × (x ≤ℤ greatest a b c)
between a b c x below above = (
  by_lt_z x (least a b c) (λ h. absurd (above (omega (arith, ints, clamps, h)) (omega (arith, ints, clamps, h)) (omega (arith, ints, clamps, h)))) (λ h. h),
  by_lt_z (greatest a b c) x (λ h. absurd (below (omega (arith, ints, clamps, h)) (omega (arith, ints, clamps, h)) (omega (arith, ints, clamps, h)))) (λ h. h),
)

-- the three edge functions and their sum, by the distances of the corners from the place
pub record AreEdges (ax ay bx by cx cy x y e0 e1 e2 : ℤ) : Type 0 where
  pub first : e0 ≡ (bx -ℤ x) *ℤ (cy -ℤ y) -ℤ (cx -ℤ x) *ℤ (by -ℤ y)
  pub second : e1 ≡ (cx -ℤ x) *ℤ (ay -ℤ y) -ℤ (ax -ℤ x) *ℤ (cy -ℤ y)
  pub third : e2 ≡ (ax -ℤ x) *ℤ (by -ℤ y) -ℤ (bx -ℤ x) *ℤ (ay -ℤ y)

-- the area with the second product turned round
doubled_area-turned : (ax ay bx by cx cy : ℤ) → doubled_area ax ay bx by cx cy ≡ (bx -ℤ ax) *ℤ (cy -ℤ ay) -ℤ (cx -ℤ ax) *ℤ (by -ℤ ay)
unfolding doubled_area
doubled_area-turned ax ay bx by cx cy = ap (λ n. (bx -ℤ ax) *ℤ (cy -ℤ ay) -ℤ n) (*ℤ_comm (by -ℤ ay) (cx -ℤ ax))

sum_is_area : (ax ay bx by cx cy x y e0 e1 e2 : ℤ) → AreEdges ax ay bx by cx cy x y e0 e1 e2
    → doubled_area ax ay bx by cx cy ≡ e0 +ℤ e1 +ℤ e2
sum_is_area ax ay bx by cx cy x y e0 e1 e2 edges =
    let along_b : bx -ℤ ax ≡ (bx -ℤ x) -ℤ (ax -ℤ x) = omega (arith, ints) in
    let along_c : cx -ℤ ax ≡ (cx -ℤ x) -ℤ (ax -ℤ x) = omega (arith, ints) in
    let up_b : by -ℤ ay ≡ (by -ℤ y) -ℤ (ay -ℤ y) = omega (arith, ints) in
    let up_c : cy -ℤ ay ≡ (cy -ℤ y) -ℤ (ay -ℤ y) = omega (arith, ints) in
    doubled_area-turned ax ay bx by cx cy
    ∙ cross_same ((bx -ℤ ax) *ℤ (cy -ℤ ay) -ℤ (cx -ℤ ax) *ℤ (by -ℤ ay)) (bx -ℤ ax) (by -ℤ ay) (cx -ℤ ax) (cy -ℤ ay)
    ((bx -ℤ x) -ℤ (ax -ℤ x)) ((by -ℤ y) -ℤ (ay -ℤ y)) ((cx -ℤ x) -ℤ (ax -ℤ x)) ((cy -ℤ y) -ℤ (ay -ℤ y)) refl along_b up_b along_c up_c
    ∙ area_is (ax -ℤ x) (ay -ℤ y) (bx -ℤ x) (by -ℤ y) (cx -ℤ x) (cy -ℤ y)
    ∙ omega (arith, ints, edges.first, edges.second, edges.third)

-- three weights, each times a number
weighted_same : (e0 e1 e2 w0 w1 w2 n0 n1 n2 : ℤ) → e0 ≡ w0 → e1 ≡ w1 → e2 ≡ w2
    → e0 *ℤ n0 +ℤ e1 *ℤ n1 +ℤ e2 *ℤ n2 ≡ w0 *ℤ n0 +ℤ w1 *ℤ n1 +ℤ w2 *ℤ n2
weighted_same e0 e1 e2 w0 w1 w2 n0 n1 n2 p q r =
    ap (λ n. n *ℤ n0 +ℤ e1 *ℤ n1 +ℤ e2 *ℤ n2) p ∙ ap (λ n. w0 *ℤ n0 +ℤ n *ℤ n1 +ℤ e2 *ℤ n2) q ∙ ap (λ n. w0 *ℤ n0 +ℤ w1 *ℤ n1 +ℤ n *ℤ n2) r

means : (ax ay bx by cx cy x y e0 e1 e2 : ℤ) → AreEdges ax ay bx by cx cy x y e0 e1 e2
    → (e0 *ℤ (ax -ℤ x) +ℤ e1 *ℤ (bx -ℤ x) +ℤ e2 *ℤ (cx -ℤ x) ≡ pos 0) × (e0 *ℤ (ay -ℤ y) +ℤ e1 *ℤ (by -ℤ y) +ℤ e2 *ℤ (cy -ℤ y) ≡ pos 0)
means ax ay bx by cx cy x y e0 e1 e2 edges = (
  weighted_same e0 e1 e2 _ _ _ (ax -ℤ x) (bx -ℤ x) (cx -ℤ x) edges.first edges.second edges.third
      ∙ mean_x (ax -ℤ x) (ay -ℤ y) (bx -ℤ x) (by -ℤ y) (cx -ℤ x) (cy -ℤ y),
  weighted_same e0 e1 e2 _ _ _ (ay -ℤ y) (by -ℤ y) (cy -ℤ y) edges.first edges.second edges.third
      ∙ mean_y (ax -ℤ x) (ay -ℤ y) (bx -ℤ x) (by -ℤ y) (cx -ℤ x) (cy -ℤ y),
)

pub between_corners : (ax ay bx by cx cy x y e0 e1 e2 : ℤ) → AreEdges ax ay bx by cx cy x y e0 e1 e2
    → pos 0 <ℤ doubled_area ax ay bx by cx cy → pos 0 ≤ℤ e0 → pos 0 ≤ℤ e1 → pos 0 ≤ℤ e2
    → ((least ax bx cx ≤ℤ x) × (x ≤ℤ greatest ax bx cx)) × ((least ay by cy ≤ℤ y) × (y ≤ℤ greatest ay by cy))
between_corners ax ay bx by cx cy x y e0 e1 e2 edges area p q r =
    let sum = sum_is_area ax ay bx by cx cy x y e0 e1 e2 edges in
    let some : pos 0 <ℤ (e0 +ℤ e1 +ℤ e2) = omega (arith, ints, area, sum) in
    let mean = means ax ay bx by cx cy x y e0 e1 e2 edges in (
      between ax bx cx x
          (not_all_below e0 e1 e2 (ax -ℤ x) (bx -ℤ x) (cx -ℤ x) p q r some mean.0)
          (not_all_above e0 e1 e2 (ax -ℤ x) (bx -ℤ x) (cx -ℤ x) p q r some mean.0),
      between ay by cy y
          (not_all_below e0 e1 e2 (ay -ℤ y) (by -ℤ y) (cy -ℤ y) p q r some mean.1)
          (not_all_above e0 e1 e2 (ay -ℤ y) (by -ℤ y) (cy -ℤ y) p q r some mean.1),
    )
