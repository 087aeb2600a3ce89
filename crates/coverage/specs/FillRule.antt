-- Two triangles at an edge (OpenGL 1.5, 3.5.1).
use Rattle.std.specs.Prelude.{ℕ, ℤ, pos, ◌<ℤ◌, ◌<◌, ◌≡◌, ◌≢◌}
use Rattle.gl_records.specs.declared.prim.PrimKind.TheVariants.{Triangle}
use Rattle.gl_records.specs.declared.prim.Primitive.{Primitive}
use Rattle.gl_records.specs.Coverage.{edge_start, edge_end}
use Rattle.gl_records.specs.Weights.{weight}

-- edge j of p and edge k of q lie between the same two places and run in opposite directions: triangles that
-- run counterclockwise then lie on its two sides
pub record SharesEdge (p q : Primitive) (j k : ℕ) : Type 0 where
  pub p_is_triangle : p.kind ≡ Triangle
  pub q_is_triangle : q.kind ≡ Triangle
  pub start_x : (edge_start p j).x ≡ (edge_end q k).x
  pub start_y : (edge_start p j).y ≡ (edge_end q k).y
  pub end_x : (edge_end p j).x ≡ (edge_start q k).x
  pub end_y : (edge_end p j).y ≡ (edge_start q k).y

-- the centre of pixel (x, y) lies on edge j of p, and to the left of its other edges
pub record IsOnEdge (p : Primitive) (j : ℕ) (x y : ℤ) : Type 0 where
  pub on : weight p j x y ≡ pos 0
  pub left_of_others : (i : ℕ) → i < 3 → i ≢ j → pos 0 <ℤ weight p i x y
