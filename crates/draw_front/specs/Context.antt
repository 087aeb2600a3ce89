-- The context of the commands.
use Rattle.std.specs.Prelude.{ℕ, List, Option, None}
use Rattle.buffer_objects.specs.Buffers.{BufferObjects, opening_buffers}
use Rattle.gl_records.specs.declared.size.Size.{Size}
use Rattle.gl_state.specs.declared.state.State.{State}
use Rattle.gl_state.specs.State.{opening_state}
use Rattle.gl_tokens.specs.declared.gl_error.GlError.{GlError}
use Rattle.texture_store.specs.Textures.{TextureObjects, opening_textures}
use Rattle.vertex_fetch.specs.declared.arrays.Arrays.{Arrays}
use Rattle.vertex_fetch.specs.Arrays.{opening_arrays}
use Rattle.vertex_fetch.specs.Regions.{opening_regions}

-- what the commands leave, each part by value
pub record Context : Type 0 where
  pub state : State
  -- the first error since the flag was taken
  pub flag : Option GlError
  -- where the vertex arrays lie, and which of them are on
  pub arrays : Arrays
  -- what client regions hold
  pub regions : List (List ℕ)
  -- the buffer objects, and which are bound
  pub buffers : BufferObjects
  -- the texture objects, and which are bound
  pub textures : TextureObjects

-- the context before the first command
abbrev pub opening_context : Size → Context
opening_context size = record {
  state = opening_state size;
  flag = None;
  arrays = opening_arrays;
  regions = opening_regions;
  buffers = opening_buffers;
  textures = opening_textures;
}
