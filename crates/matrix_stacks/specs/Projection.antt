-- The matrices of Frustumx and Orthox (OpenGL ES 1.1.12, 2.10.2). Sums, differences and products are exact;
-- each entry is rounded down once and saturated, which is this project's own.
use Rattle.std.specs.Prelude.{ℤ, pos, ◌+ℤ◌, ◌-ℤ◌, ◌*ℤ◌, neg_ℤ, Bool, ◌||◌, int_le, List, [], ◌∷◌}
use Rattle.std.specs.Ordering.{int_eq}
use Rattle.fx_arith.specs.declared.fx.Fx.{Fx}
use Rattle.fx_arith.specs.declared.mat4.Mat4.{Mat4}
use Rattle.fx_arith.specs.Matrix.{by_rows}
use Rattle.fx_arith.specs.Number.{component, floor_quotient, nearest_fixed, one}

-- the six numbers of both commands, in their order
abbrev pub left : List Fx → ℤ
left sides = component sides 0

abbrev pub right : List Fx → ℤ
right sides = component sides 1

abbrev pub bottom : List Fx → ℤ
bottom sides = component sides 2

abbrev pub top : List Fx → ℤ
top sides = component sides 3

abbrev pub near : List Fx → ℤ
near sides = component sides 4

abbrev pub far : List Fx → ℤ
far sides = component sides 5

-- whether two opposite sides are one, so that there is no volume between them
abbrev pub is_flat : List Fx → Bool
is_flat sides = int_eq (left sides) (right sides) || int_eq (bottom sides) (top sides) || int_eq (near sides) (far sides)

-- whether Frustumx refuses its numbers
abbrev pub is_no_frustum : List Fx → Bool
is_no_frustum sides = int_le (near sides) (pos 0) || int_le (far sides) (pos 0) || is_flat sides

-- a quotient, rounded down and saturated
abbrev pub quotient : ℤ → ℤ → ℤ
quotient numerator denominator = nearest_fixed (floor_quotient numerator denominator)

-- 2 size / (high - low)
unfoldable pub scale : ℤ → ℤ → ℤ → ℤ
scale size low high = quotient (one *ℤ (pos 2 *ℤ size)) (high -ℤ low)

-- (high + low) / (high - low)
unfoldable pub centre : ℤ → ℤ → ℤ
centre low high = quotient (one *ℤ (high +ℤ low)) (high -ℤ low)

-- - (high + low) / (high - low)
unfoldable pub centre_turned : ℤ → ℤ → ℤ
centre_turned low high = quotient (neg_ℤ (one *ℤ (high +ℤ low))) (high -ℤ low)

-- - 2 / (far - near)
unfoldable pub depth_scale : ℤ → ℤ → ℤ
depth_scale near far = quotient (neg_ℤ (one *ℤ (pos 2 *ℤ one))) (far -ℤ near)

-- - 2 far near / (far - near)
unfoldable pub depth_shift : ℤ → ℤ → ℤ
depth_shift near far = quotient (neg_ℤ (pos 2 *ℤ far *ℤ near)) (far -ℤ near)

-- the perspective projection
unfoldable pub frustum : List Fx → Mat4
frustum sides =
    let l = left sides in
    let r = right sides in
    let b = bottom sides in
    let t = top sides in
    let n = near sides in
    let f = far sides in
    by_rows
    ((scale n l r ∷ pos 0 ∷ centre l r ∷ pos 0 ∷ []) ∷
    (pos 0 ∷ scale n b t ∷ centre b t ∷ pos 0 ∷ []) ∷
    (pos 0 ∷ pos 0 ∷ centre_turned n f ∷ depth_shift n f ∷ []) ∷
    (pos 0 ∷ pos 0 ∷ neg_ℤ one ∷ pos 0 ∷ []) ∷ [])

-- the parallel projection
unfoldable pub ortho : List Fx → Mat4
ortho sides =
    let l = left sides in
    let r = right sides in
    let b = bottom sides in
    let t = top sides in
    let n = near sides in
    let f = far sides in
    by_rows
    ((scale one l r ∷ pos 0 ∷ pos 0 ∷ centre_turned l r ∷ []) ∷
    (pos 0 ∷ scale one b t ∷ pos 0 ∷ centre_turned b t ∷ []) ∷
    (pos 0 ∷ pos 0 ∷ depth_scale n f ∷ centre_turned n f ∷ []) ∷
    (pos 0 ∷ pos 0 ∷ pos 0 ∷ one ∷ []) ∷ [])
