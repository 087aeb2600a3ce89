-- An edge function stepped over the centres of a tile (this project's profile).
use Rattle.std.specs.Prelude.{ℕ, ℤ, pos, ◌+ℤ◌, ◌-ℤ◌, ◌*ℤ◌, int_le, if◌then◌else◌}
use Rattle.gl_records.specs.declared.prim.VertexOut.{VertexOut}
use Rattle.gl_records.specs.Center.{center}
use Rattle.gl_records.specs.Coverage.{edge, owns}

-- the edge function at pixel (x, y), less 1 where the edge does not own the centres on it: the centre is
-- inside exactly where this is not below 0
unfoldable pub margin : VertexOut → VertexOut → ℤ → ℤ → ℤ
margin a b x y =
    edge a b (center x) (center y) -ℤ (if owns (b.x -ℤ a.x) (b.y -ℤ a.y) then pos 0 else pos 1)

-- 1 where the value at centre k, stepped from the row's first, is not below 0
abbrev pub row_bit : ℤ → ℤ → ℕ → ℕ
row_bit value step k = if int_le (pos 0) (value +ℤ (pos k *ℤ step)) then 1 else 0
