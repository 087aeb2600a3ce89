-- The viewport, and how primitives are made into pixels (OpenGL ES 1.1.12, 2.10.1, 2.12 and 3.3 to 3.5).
use Rattle.std.specs.Prelude.{ℕ, ℤ, pos, negsuc, ◌+ℤ◌, Bool, true, false, not, ◌==◌, ◌||◌, int_lt, int_le, List, [], ◌∷◌, Option, Ok, unsigned_abs}
use Rattle.fx_arith.specs.Number.{one, fixed, clamp, floor_div, in_unit}
use Rattle.fx_arith.specs.declared.fx.Fx.{Fx}
use Rattle.gl_records.specs.declared.size.Size.{Size}
use Rattle.gl_tokens.specs.Commands.{done, known, unless, ◌>>=◌}
use Rattle.gl_tokens.specs.Face as face
use Rattle.gl_tokens.specs.HintMode as hint_mode
use Rattle.gl_tokens.specs.HintTarget as hint_target
use Rattle.gl_tokens.specs.ShadeModel as shade_model
use Rattle.gl_tokens.specs.Winding as winding
use Rattle.gl_tokens.specs.declared.face.Face.{Face}
use Rattle.gl_tokens.specs.declared.face.Face.TheVariants.{Front, Back, FrontAndBack}
use Rattle.gl_tokens.specs.declared.gl_error.GlError.{GlError}
use Rattle.gl_tokens.specs.declared.gl_error.GlError.TheVariants.{InvalidEnum, InvalidValue}
use Rattle.gl_tokens.specs.declared.shade_model.ShadeModel.{ShadeModel}
use Rattle.gl_tokens.specs.declared.shade_model.ShadeModel.TheVariants.{Flat, Smooth}
use Rattle.gl_tokens.specs.declared.winding.Winding.{Winding}
use Rattle.gl_tokens.specs.declared.winding.Winding.TheVariants.{Clockwise, Counterclockwise}
use Rattle.gl_state.specs.declared.raster.Raster.{Raster}

-- where a viewport may begin, and how wide or high it may be, in pixels (this project's profile)
abbrev pub place : ℤ → ℤ
place = clamp (negsuc 4095) (pos 4096)

abbrev pub side : ℤ → ℤ
side = clamp (pos 0) (pos 2048)

-- the viewport is the whole surface, depths are 0 to 1, back faces would be culled, counterclockwise triangles face
-- front; smooth shading, points and lines of one pixel, no offset; a plane that every point lies on
abbrev pub opening_raster : Size → Raster
opening_raster size = record {
  x = pos 0;
  y = pos 0;
  width = pos size.w;
  height = pos size.h;
  near = fixed (pos 0);
  far = fixed one;
  culled = Back;
  front = Counterclockwise;
  shade_model = Smooth;
  point_size = fixed one;
  line_width = fixed one;
  offset_factor = fixed (pos 0);
  offset_units = fixed (pos 0);
  plane = fixed (pos 0) ∷ fixed (pos 0) ∷ fixed (pos 0) ∷ fixed (pos 0) ∷ [];
}

-- Viewport: no side below 0; clamped
abbrev pub viewport : Raster → ℤ → ℤ → ℤ → ℤ → Raster × Option GlError
viewport s x y width height = done s (unless (int_lt width (pos 0) || int_lt height (pos 0)) InvalidValue (Ok
    (record s { x = place x; y = place y; width = side width; height = side height })))

-- DepthRange: clamped
abbrev pub with_depth_range : Raster → Fx → Fx → Raster
with_depth_range s near far = record s { near = in_unit near; far = in_unit far }

-- CullFace
abbrev pub cull_face : Raster → ℕ → Raster × Option GlError
cull_face s code = done s do
  culled ← known (face.from_code_of code)
  Ok (record s { culled = culled })

-- FrontFace
abbrev pub front_face : Raster → ℕ → Raster × Option GlError
front_face s code = done s do
  front ← known (winding.from_code_of code)
  Ok (record s { front = front })

-- ShadeModel
abbrev pub shade : Raster → ℕ → Raster × Option GlError
shade s code = done s do
  model ← known (shade_model.from_code_of code)
  Ok (record s { shade_model = model })

-- PointSize and LineWidth: above 0
abbrev pub point_size : Raster → Fx → Raster × Option GlError
point_size s size = done s (unless (int_le size.0 (pos 0)) InvalidValue (Ok (record s { point_size = size })))

abbrev pub line_width : Raster → Fx → Raster × Option GlError
line_width s width = done s (unless (int_le width.0 (pos 0)) InvalidValue (Ok (record s { line_width = width })))

-- PolygonOffset
abbrev pub with_offset : Raster → Fx → Fx → Raster
with_offset s factor units = record s { offset_factor = factor; offset_units = units }

-- the one plane that the user clips at: CLIP_PLANE0
abbrev pub clip_plane0 : ℕ
clip_plane0 = 0x3000

-- ClipPlane, of a plane in eye coordinates
abbrev pub clip_plane : Raster → ℕ → List Fx → Raster × Option GlError
clip_plane s code plane = done s (unless (not (code == clip_plane0)) InvalidEnum (Ok (record s { plane = plane })))

-- Hint: nothing is kept of it
abbrev pub hint : Raster → ℕ → ℕ → Raster × Option GlError
hint s target mode = done s do
  _ ← known (hint_target.from_code_of target)
  _ ← known (hint_mode.from_code_of mode)
  Ok s

-- a size or a width in whole pixels, rounded to the nearest: at least 1, and at most the greatest there is
abbrev pub in_pixels : ℕ → Fx → ℕ
in_pixels greatest size = unsigned_abs (clamp (pos 1) (pos greatest) (floor_div (size.0 +ℤ pos 32768) 65536))

-- the greatest size of a point, and the greatest width of a line (this project's profile)
abbrev pub greatest_point : ℕ
greatest_point = 64

abbrev pub greatest_line : ℕ
greatest_line = 16

-- whether triangles that face front, and those that face back, are culled
abbrev pub culled_faces : Face → List Bool
culled_faces Front = true ∷ false ∷ []
culled_faces Back = false ∷ true ∷ []
culled_faces FrontAndBack = true ∷ true ∷ []

abbrev pub is_counterclockwise : Winding → Bool
is_counterclockwise Clockwise = false
is_counterclockwise Counterclockwise = true

abbrev pub is_flat : ShadeModel → Bool
is_flat Flat = true
is_flat Smooth = false
