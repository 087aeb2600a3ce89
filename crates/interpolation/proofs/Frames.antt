-- Sums over the corners are linear over a tile.
use Rattle.std.specs.Prelude.{ℤ, pos, ◌+ℤ◌, ◌-ℤ◌, ◌*ℤ◌, ◌≡◌}
use Rattle.std.proofs.Common.{arith}
use Rattle.std.proofs.lemmas.Int.{ints}
use Rattle.fx_arith.proofs.Products.{*ℤ_assoc, *ℤ-+ℤ, +ℤ-*ℤ, -ℤ-*ℤ}
use Rattle.plane_equations.specs.declared.plane.Plane.{Plane}
use Rattle.plane_equations.specs.Planes.{IsPlane}
use Rattle.gl_records.specs.declared.prim.Primitive.{Primitive}
use Rattle.gl_records.specs.declared.prim.VertexOut.{VertexOut}
use Rattle.gl_records.specs.declared.tile.TileRect.{TileRect}
use Rattle.gl_records.specs.Coverage.{corner}
use Rattle.gl_records.specs.Weights.{weight, weighted_sum}
use Rattle.interpolation.specs.declared.shares.Shares.{Shares}
use Rattle.interpolation.specs.declared.slopes.Slopes.{Slopes}
use Rattle.interpolation.specs.Factors.{factor, scaled_sum}
use Rattle.interpolation.specs.Frames.{IsFrameOf, IsSumPlane}
use Rattle.interpolation.specs.Shares.{shared}
use Rattle.interpolation.proofs.Neighbors.{weight-straight}

-- what a corner adds to a sum at a pixel i columns and j rows further
term : (w o r u f a i j : ℤ)
    → (w +ℤ (i *ℤ (r -ℤ o)) +ℤ (j *ℤ (u -ℤ o))) *ℤ (f *ℤ a)
    ≡ ((w *ℤ f) *ℤ a) +ℤ (i *ℤ (((r *ℤ f) -ℤ (o *ℤ f)) *ℤ a)) +ℤ (j *ℤ (((u *ℤ f) -ℤ (o *ℤ f)) *ℤ a))
term w o r u f a i j =
    let s = f *ℤ a in
    rw (
      ← -ℤ-*ℤ r o f,
      ← -ℤ-*ℤ u o f,
      *ℤ_assoc w f a,
      *ℤ_assoc (r -ℤ o) f a,
      *ℤ_assoc (u -ℤ o) f a,
      +ℤ-*ℤ (w +ℤ (i *ℤ (r -ℤ o))) (j *ℤ (u -ℤ o)) (f *ℤ a),
      +ℤ-*ℤ w (i *ℤ (r -ℤ o)) (f *ℤ a),
      *ℤ_assoc i (r -ℤ o) (f *ℤ a),
      *ℤ_assoc j (u -ℤ o) (f *ℤ a),
    )

together : (i j a b c d e f g h k : ℤ)
    → (a +ℤ b +ℤ c) +ℤ (i *ℤ (d +ℤ e +ℤ f)) +ℤ (j *ℤ (g +ℤ h +ℤ k))
    ≡ (a +ℤ (i *ℤ d) +ℤ (j *ℤ g)) +ℤ (b +ℤ (i *ℤ e) +ℤ (j *ℤ h)) +ℤ (c +ℤ (i *ℤ f) +ℤ (j *ℤ k))
together i j a b c d e f g h k =
    omega (arith, ints, *ℤ-+ℤ i (d +ℤ e) f, *ℤ-+ℤ i d e, *ℤ-+ℤ j (g +ℤ h) k, *ℤ-+ℤ j g h)

-- a sum at such a pixel
sum_grows : (u uo ur uu f a v vo vr vu g b w wo wr wu h c i j : ℤ)
    → (((u *ℤ f) *ℤ a) +ℤ ((v *ℤ g) *ℤ b) +ℤ ((w *ℤ h) *ℤ c))
    +ℤ (i *ℤ ((((ur *ℤ f) -ℤ (uo *ℤ f)) *ℤ a) +ℤ (((vr *ℤ g) -ℤ (vo *ℤ g)) *ℤ b) +ℤ (((wr *ℤ h) -ℤ (wo *ℤ h)) *ℤ c)))
    +ℤ (j *ℤ ((((uu *ℤ f) -ℤ (uo *ℤ f)) *ℤ a) +ℤ (((vu *ℤ g) -ℤ (vo *ℤ g)) *ℤ b) +ℤ (((wu *ℤ h) -ℤ (wo *ℤ h)) *ℤ c)))
    ≡ ((u +ℤ (i *ℤ (ur -ℤ uo)) +ℤ (j *ℤ (uu -ℤ uo))) *ℤ (f *ℤ a))
    +ℤ ((v +ℤ (i *ℤ (vr -ℤ vo)) +ℤ (j *ℤ (vu -ℤ vo))) *ℤ (g *ℤ b))
    +ℤ ((w +ℤ (i *ℤ (wr -ℤ wo)) +ℤ (j *ℤ (wu -ℤ wo))) *ℤ (h *ℤ c))
sum_grows u uo ur uu f a v vo vr vu g b w wo wr wu h c i j =
    rw (term u uo ur uu f a i j, term v vo vr vu g b i j, term w wo wr wu h c i j)
    (together i j ((u *ℤ f) *ℤ a) ((v *ℤ g) *ℤ b) ((w *ℤ h) *ℤ c)
    (((ur *ℤ f) -ℤ (uo *ℤ f)) *ℤ a) (((vr *ℤ g) -ℤ (vo *ℤ g)) *ℤ b) (((wr *ℤ h) -ℤ (wo *ℤ h)) *ℤ c)
    (((uu *ℤ f) -ℤ (uo *ℤ f)) *ℤ a) (((vu *ℤ g) -ℤ (vo *ℤ g)) *ℤ b) (((wu *ℤ h) -ℤ (wo *ℤ h)) *ℤ c))

-- the plane of a sum
pub IsSumPlane-from : (p : Primitive) (rect : TileRect) (start : Shares) (steps : Slopes) (plane : Plane) (value : VertexOut → ℤ) (a b c : ℤ)
    → IsFrameOf p rect start steps → value (corner p 0) ≡ a → value (corner p 1) ≡ b → value (corner p 2) ≡ c
    → IsPlane (shared start a b c) (shared steps.right a b c) (shared steps.up a b c) plane
    → IsSumPlane p rect value plane
unfolding scaled_sum weighted_sum
IsSumPlane-from p rect start steps plane value a b c frame first second third is i j column row =
    let x = pos rect.x0 in
    let y = pos rect.y0 in
    rw (
      is.origin,
      is.right,
      is.up,
      first,
      second,
      third,
      frame.origin.first,
      frame.origin.second,
      frame.origin.third,
      frame.slopes.right.first,
      frame.slopes.right.second,
      frame.slopes.right.third,
      frame.slopes.up.first,
      frame.slopes.up.second,
      frame.slopes.up.third,
      weight-straight p 0 x y (pos i) (pos j),
      weight-straight p 1 x y (pos i) (pos j),
      weight-straight p 2 x y (pos i) (pos j),
    )
    (sum_grows
    (weight p 0 x y) (weight p 0 (pos 0) (pos 0)) (weight p 0 (pos 1) (pos 0)) (weight p 0 (pos 0) (pos 1)) (pos (factor p (corner p 0))) a
    (weight p 1 x y) (weight p 1 (pos 0) (pos 0)) (weight p 1 (pos 1) (pos 0)) (weight p 1 (pos 0) (pos 1)) (pos (factor p (corner p 1))) b
    (weight p 2 x y) (weight p 2 (pos 0) (pos 0)) (weight p 2 (pos 1) (pos 0)) (weight p 2 (pos 0) (pos 1)) (pos (factor p (corner p 2))) c
    (pos i) (pos j))
