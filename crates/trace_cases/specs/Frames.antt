-- The frames of an output.
use Rattle.std.specs.Prelude.{◌≡◌, ℕ, ◌*◌, List, ◌++◌, length}
use Rattle.gl_records.specs.declared.size.Size.{Size}
use Rattle.output_format.specs.Frames.{frame_header}

-- the bytes are a frame of so many pixels as its sides say, and behind it the rest
pub record BeginsWith (bytes : List ℕ) (index : ℕ) (size : Size) (pixels rest : List ℕ) : Type 0 where
  pub spelled : bytes ≡ frame_header index size ++ (pixels ++ rest)
  pub whole : length pixels ≡ 4 * size.w * size.h
