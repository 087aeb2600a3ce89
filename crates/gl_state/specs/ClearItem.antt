-- What a Clear is, as the state of the commands has it at the moment of the Clear (OpenGL ES 1.1.12, 4.2.3): the scissor
-- test and the masks act on it.
use Rattle.std.specs.Prelude.{ℕ, pos, Bool, false, ◌&&◌, ◌||◌, List, Option, Some, None, if◌then◌else◌, int_lt, slice_index_or}
use Rattle.std.specs.Bool.{then_some}
use Rattle.std.specs.Int.{int_max, int_min}
use Rattle.gl_records.specs.declared.clear.ClearItem.{ClearItem}
use Rattle.gl_records.specs.declared.pixel_box.PixelBox.{PixelBox}
use Rattle.gl_records.specs.declared.size.Size.{Size}
use Rattle.gl_records.specs.Valid.{has_part}
use Rattle.gl_state.specs.declared.state.State.{State}
use Rattle.gl_state.specs.Clears.{color_bit, depth_bit, stencil_bit, has_bit, surface_depth}
use Rattle.gl_state.specs.FragState.{bytes, scissor_box}

-- every pixel of the surface
abbrev pub whole : Size → PixelBox
whole size = record { x0 = pos 0; y0 = pos 0; x1 = pos size.w; y1 = pos size.h }

-- the pixels of the surface that the box holds
abbrev pub cut : PixelBox → Size → PixelBox
cut box size = record {
  x0 = int_max box.x0 (pos 0);
  y0 = int_max box.y0 (pos 0);
  x1 = int_min box.x1 (pos size.w);
  y1 = int_min box.y1 (pos size.h);
}

-- the pixels that are cleared: those of the scissor box where the scissor test is on
abbrev pub clear_area : State → Size → PixelBox
clear_area s size = if s.switches.scissor_test then cut (scissor_box s.tests) size else whole size

-- the box holds a pixel
abbrev pub has_pixel : PixelBox → Bool
has_pixel box = int_lt box.x0 box.x1 && int_lt box.y0 box.y1

-- the colour mask lets a component through
abbrev pub lets_some : List Bool → Bool
lets_some mask =
    slice_index_or mask 0 false || slice_index_or mask 1 false || slice_index_or mask 2 false || slice_index_or mask 3 false

-- the Clear of these buffers: a colour or a depth that the masks keep whole is no part of it
abbrev pub clear_of : State → ℕ → Size → ClearItem
clear_of s mask size = record {
  area = clear_area s size;
  color = then_some (has_bit mask color_bit && lets_some s.blending.mask) (bytes s.clears.color, s.blending.mask);
  depth = then_some (has_bit mask depth_bit && s.tests.depth_write) (surface_depth s.clears.depth);
  stencil = then_some (has_bit mask stencil_bit) (s.clears.stencil, s.tests.stencil_write);
}

-- there is none where it has no part or its area no pixel
abbrev pub clear_item : State → ℕ → Size → Option ClearItem
clear_item s mask size =
    if has_part (clear_of s mask size) && has_pixel (clear_area s size) then Some (clear_of s mask size) else None
