-- What holds the bytes of an array or of indices (OpenGL ES 1.1.12, 2.8 and 2.9): a buffer object, or a client region.
use Rattle.std.specs.Prelude.{ℕ, Bool, false, List, Option, Some, None}
use Rattle.buffer_objects.specs.Buffers.{BufferObjects, bytes_of as bytes_of_buffer}
use Rattle.buffer_objects.specs.declared.buffer_key.BufferKey.{BufferKey}
use Rattle.vertex_fetch.specs.Regions.{is_past_regions, bytes_of}
use Rattle.vertex_fetch.specs.declared.storage.Storage.{Storage}
use Rattle.vertex_fetch.specs.declared.storage.Storage.TheVariants.{Buffer, Region}

-- the buffer object that is bound where a command speaks of its array or indices, else the region that it names
abbrev pub storage : Option BufferKey → ℕ → Storage
storage (Some key) region = Buffer key
storage None region = Region region

-- there is no such region
abbrev pub is_nowhere : Storage → Bool
is_nowhere (Buffer key) = false
is_nowhere (Region region) = is_past_regions region

-- the bytes that it holds
abbrev pub stored : BufferObjects → List (List ℕ) → Storage → List ℕ
stored buffers regions (Buffer key) = bytes_of_buffer buffers key
stored buffers regions (Region region) = bytes_of regions region
