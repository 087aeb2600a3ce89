-- The chunks that are presented.
use Rattle.std.specs.Prelude.{ℕ, List, ◌++◌, codes}
use Rattle.byteorder.specs.Endian.{little_bytes}
use Rattle.gl_records.specs.declared.size.Size.{Size}
use Rattle.gl_records.specs.Surface.{Surface, surface_bytes}

-- what stands before a frame's pixels: GLF1, the record's index, the width and the height
abbrev pub frame_header : ℕ → Size → List ℕ
frame_header index size = codes "GLF1" ++ little_bytes 4 index ++ little_bytes 2 size.w ++ little_bytes 2 size.h

-- a frame: the pixels as R G B A, bottom row first
abbrev pub frame : ℕ → Size → Surface → List ℕ
frame index size surface = frame_header index size ++ surface_bytes surface
