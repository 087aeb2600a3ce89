-- What the vertices of a draw are read from (OpenGL ES 1.1.12, 2.8 and 2.9).
use Rattle.std.specs.Prelude.{ℕ, List, Option}
use Rattle.buffer_objects.specs.Buffers.{BufferObjects}
use Rattle.buffer_objects.specs.declared.buffer_key.BufferKey.{BufferKey}
use Rattle.gl_records.specs.declared.rec.Rec.{Rec}
use Rattle.vertex_fetch.specs.declared.arrays.Arrays.{Arrays}

-- the arrays, and what buffer objects and client regions hold
pub record Memory : Type 0 where
  pub arrays : Arrays
  pub buffers : BufferObjects
  pub regions : List (List ℕ)

-- where a draw takes its vertices from: its record, the buffer object that its indices lie in, and the memory
pub record Source : Type 0 where
  pub rec : Rec
  pub element : Option BufferKey
  pub memory : Memory
