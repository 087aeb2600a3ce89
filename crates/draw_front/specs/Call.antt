-- One command: the context after it, its error, what it draws, the chunk and the lines that it makes.
use Rattle.std.specs.Prelude.{ℕ, ℤ, Bool, true, false, List, [], ◌∷◌, Option, Some, None, Result, Ok, Err, map, option_to_list}
use Rattle.buffer_objects.specs.Buffers.{BufferObjects, binding, is_buffer}
use Rattle.buffer_objects.specs.Commands.{given_names, behind_names, bind, data_of, sub_data, without_names}
use Rattle.gl_records.specs.declared.rec.Rec.{Rec}
use Rattle.gl_records.specs.declared.rec.Rec.TheVariants.{Swap, GetError, Get, IsEnabled, IsBuffer, IsTexture, ClientBytes, VertexPointer, NormalPointer, ColorPointer, TexCoordPointer, EnableClientState, DisableClientState, ClientActiveTexture, DrawArrays, DrawElements, GenBuffers, DeleteBuffers, BindBuffer, BufferData, BufferSubData, Clear, GenTextures, DeleteTextures, BindTexture, TexParameterx, TexImage2D, TexSubImage2D, CompressedTexImage2D}
use Rattle.gl_records.specs.declared.size.Size.{Size}
use Rattle.gl_records.specs.Captured.{Captured}
use Rattle.gl_records.specs.Captured as captured
use Rattle.gl_records.specs.Surface.{Surface}
use Rattle.gl_query.specs.declared.bound.Bound.{Bound}
use Rattle.gl_query.specs.Answer.{answer_of}
use Rattle.gl_query.specs.Values.{one, truth}
use Rattle.gl_state.specs.declared.state.State.{State}
use Rattle.gl_state.specs.Clears.{clear_error}
use Rattle.gl_state.specs.ErrorFlag.{raised, flag_code}
use Rattle.gl_state.specs.ClearItem.{clear_item}
use Rattle.gl_state.specs.State.{ran, unit_number, aligns}
use Rattle.gl_tokens.specs.ArrayKind as array_kind
use Rattle.gl_tokens.specs.Commands.{within}
use Rattle.gl_tokens.specs.declared.array_kind.ArrayKind.{ArrayKind}
use Rattle.gl_tokens.specs.declared.buffer_target.BufferTarget.TheVariants.{Array, ElementArray}
use Rattle.gl_tokens.specs.declared.gl_error.GlError.{GlError}
use Rattle.output_format.specs.Frames.{frame}
use Rattle.output_format.specs.Log.{raise_line, error_line, get_line, names_line}
use Rattle.texture_store.specs.Textures.{TextureObjects, bound_name, is_texture}
use Rattle.texture_store.specs.Commands as texture_commands
use Rattle.texture_store.specs.Writes.{written}
use Rattle.vertex_fetch.specs.declared.arrays.Arrays.{Arrays}
use Rattle.vertex_fetch.specs.Arrays.{is_enabled, with_command}
use Rattle.vertex_fetch.specs.Draws.{draw_error}
use Rattle.vertex_fetch.specs.Regions.{with_region}
use Rattle.draw_front.specs.Context.{Context}
use Rattle.draw_front.specs.Draws.{draw_items}

pub record Called : Type 0 where
  pub context : Context
  -- the error, where the command is refused
  pub error : Option GlError
  pub items : List Captured
  -- the bytes of a frame, or none
  pub chunk : Option (List ℕ)
  -- the lines of the log, each with its line feed
  pub lines : List (List ℕ)

-- a command on a part of the context, and its error
abbrev pub on_state : Context → State × Option GlError → Context × Option GlError
on_state context = within (λ state. record context { state = state })

abbrev pub on_arrays : Context → Arrays × Option GlError → Context × Option GlError
on_arrays context = within (λ arrays. record context { arrays = arrays })

abbrev pub on_regions : Context → List (List ℕ) × Option GlError → Context × Option GlError
on_regions context = within (λ regions. record context { regions = regions })

abbrev pub on_buffers : Context → BufferObjects × Option GlError → Context × Option GlError
on_buffers context = within (λ buffers. record context { buffers = buffers })

abbrev pub on_textures : Context → TextureObjects × Option GlError → Context × Option GlError
on_textures context = within (λ textures. record context { textures = textures })

-- the client's active unit: the arrays go by it, and the state has it for queries
abbrev pub client_unit : Context → ℕ → Arrays × Option GlError → Context × Option GlError
client_unit context texture (arrays, None) =
    (record context { arrays = arrays; state = (ran context.state (ClientActiveTexture texture)).0 }, None)
client_unit context texture (arrays, Some error) = (context, Some error)

-- whether an array is on
abbrev pub array_answer : Context → Option ArrayKind → Result (List ℤ) GlError → Result (List ℤ) GlError
array_answer context (Some kind) other = Ok (one (truth (is_enabled context.arrays kind)))
array_answer context None other = other

-- the names of the buffer objects and of the textures that are bound
abbrev pub bound_names : Context → Bound
bound_names context = record {
  array = binding context.buffers Array;
  element = binding context.buffers ElementArray;
  textures = bound_name context.textures 0 ∷ bound_name context.textures 1 ∷ [];
}

-- what a query answers: IsEnabled of an array asks the arrays, IsBuffer the buffer objects, IsTexture the textures, and
-- all else the state
abbrev pub queried : Context → Rec → Result (List ℤ) GlError
queried context (IsEnabled capability) =
    array_answer context (array_kind.from_code_of capability) (answer_of context.state (bound_names context) (IsEnabled capability))
queried context (IsBuffer name) = Ok (one (truth (is_buffer context.buffers name)))
queried context (IsTexture name) = Ok (one (truth (is_texture context.textures name)))
queried context rec = answer_of context.state (bound_names context) rec

-- a query that can't be answered makes an error; one that can has a line
abbrev pub answer_error : {A : Type 0} → Result A GlError → Option GlError
answer_error (Ok values) = None
answer_error (Err error) = Some error

abbrev pub answer_line : ℕ → Result (List ℤ) GlError → Option (List ℕ)
answer_line index (Ok values) = Some (get_line index values)
answer_line index (Err error) = None

-- names that are given have a line
abbrev pub given_line : ℕ → Result (List ℕ) GlError → Option (List ℕ)
given_line index (Ok names) = Some (names_line index names)
given_line index (Err error) = None

-- GenBuffers, by the names that it gives or its error
abbrev pub generated : Context → Result (List ℕ) GlError → Context × Option GlError
generated context given = (record context { buffers = behind_names context.buffers given }, answer_error given)

-- GenTextures, in the same way
abbrev pub generated_textures : Context → Result (List ℕ) GlError → Context × Option GlError
generated_textures context given = (record context { textures = texture_commands.behind_names context.textures given }, answer_error given)

-- the active texture unit, of which the commands of textures speak
abbrev pub active_unit : Context → ℕ
active_unit context = unit_number context.state.current.unit

-- a command that gives an image or a part of one
abbrev pub image_written : Context → Rec → Context × Option GlError
image_written context rec = on_textures context (written context.textures (active_unit context) (aligns context.state).0 rec)

-- the context after a command, and the command's error; the flag doesn't have that error yet
abbrev pub commanded : Context → Rec → Context × Option GlError
commanded context GetError = (record context { flag = None }, None)
commanded context (Get query) = (context, answer_error (queried context (Get query)))
commanded context (IsEnabled capability) = (context, answer_error (queried context (IsEnabled capability)))
commanded context (IsBuffer name) = (context, answer_error (queried context (IsBuffer name)))
commanded context (IsTexture name) = (context, answer_error (queried context (IsTexture name)))
commanded context (ClientBytes region piece) = on_regions context (with_region context.regions region piece)
commanded context (VertexPointer size kind stride region offset) =
    on_arrays context (with_command context.arrays context.buffers.bindings.array (VertexPointer size kind stride region offset))
commanded context (NormalPointer kind stride region offset) =
    on_arrays context (with_command context.arrays context.buffers.bindings.array (NormalPointer kind stride region offset))
commanded context (ColorPointer size kind stride region offset) =
    on_arrays context (with_command context.arrays context.buffers.bindings.array (ColorPointer size kind stride region offset))
commanded context (TexCoordPointer size kind stride region offset) =
    on_arrays context (with_command context.arrays context.buffers.bindings.array (TexCoordPointer size kind stride region offset))
commanded context (EnableClientState array) = on_arrays context (with_command context.arrays context.buffers.bindings.array (EnableClientState array))
commanded context (DisableClientState array) = on_arrays context (with_command context.arrays context.buffers.bindings.array (DisableClientState array))
commanded context (ClientActiveTexture texture) =
    client_unit context texture (with_command context.arrays context.buffers.bindings.array (ClientActiveTexture texture))
commanded context (DrawArrays mode first count) = (context, draw_error context.buffers.bindings.element_array (DrawArrays mode first count))
commanded context (DrawElements mode count kind region offset) =
    (context, draw_error context.buffers.bindings.element_array (DrawElements mode count kind region offset))
commanded context (GenBuffers count) = generated context (given_names context.buffers count)
commanded context (DeleteBuffers names) = (record context { buffers = without_names context.buffers names }, None)
commanded context (BindBuffer target name) = on_buffers context (bind context.buffers target name)
commanded context (BufferData target usage size piece) = on_buffers context (data_of context.buffers target usage size piece)
commanded context (BufferSubData target offset size piece) = on_buffers context (sub_data context.buffers target offset size piece)
commanded context (Clear mask) = (context, clear_error mask)
commanded context (GenTextures count) = generated_textures context (texture_commands.given_names context.textures count)
commanded context (DeleteTextures names) = (record context { textures = texture_commands.without_names context.textures names }, None)
commanded context (BindTexture target name) = on_textures context (texture_commands.bind context.textures (active_unit context) target name)
commanded context (TexParameterx target parameter value) =
    on_textures context (texture_commands.parameter context.textures (active_unit context) target parameter value)
commanded context (TexImage2D target level internal width height border format kind piece) =
    image_written context (TexImage2D target level internal width height border format kind piece)
commanded context (TexSubImage2D target level x y width height format kind piece) =
    image_written context (TexSubImage2D target level x y width height format kind piece)
commanded context (CompressedTexImage2D target level internal width height border size piece) =
    image_written context (CompressedTexImage2D target level internal width height border size piece)
commanded context rec = on_state context (ran context.state rec)

-- a command that may change a client region, a buffer object or what is bound
abbrev pub changes_memory : Rec → Bool
changes_memory (ClientBytes region piece) = true
changes_memory (GenBuffers count) = true
changes_memory (DeleteBuffers names) = true
changes_memory (BindBuffer target name) = true
changes_memory (BufferData target usage size piece) = true
changes_memory (BufferSubData target offset size piece) = true
changes_memory rec = false

-- a command that may change a texture object or what is bound to a texture unit
abbrev pub changes_textures : Rec → Bool
changes_textures (GenTextures count) = true
changes_textures (DeleteTextures names) = true
changes_textures (BindTexture target name) = true
changes_textures (TexParameterx target parameter value) = true
changes_textures (TexImage2D target level internal width height border format kind piece) = true
changes_textures (TexSubImage2D target level x y width height format kind piece) = true
changes_textures (CompressedTexImage2D target level internal width height border size piece) = true
changes_textures rec = false

-- the items of a command that makes no error: only a draw and a Clear have some
abbrev pub items_of : Size → Context → Rec → List Captured
items_of size context (DrawArrays mode first count) = draw_items size context (DrawArrays mode first count) mode count
items_of size context (DrawElements mode count kind region offset) =
    draw_items size context (DrawElements mode count kind region offset) mode count
items_of size context (Clear mask) = map captured.Clear (option_to_list (clear_item context.state mask size))
items_of size context _ = []

-- the line of a command that makes no error: GetError answers the flag, a query its numbers, and GenBuffers and
-- GenTextures the names
abbrev pub line_of : Context → ℕ → Rec → Option (List ℕ)
line_of context index GetError = Some (error_line index (flag_code context.flag))
line_of context index (Get query) = answer_line index (queried context (Get query))
line_of context index (IsEnabled capability) = answer_line index (queried context (IsEnabled capability))
line_of context index (IsBuffer name) = answer_line index (queried context (IsBuffer name))
line_of context index (IsTexture name) = answer_line index (queried context (IsTexture name))
line_of context index (GenBuffers count) = given_line index (given_names context.buffers count)
line_of context index (GenTextures count) = given_line index (texture_commands.given_names context.textures count)
line_of context index _ = None

-- the context with an error in its flag
abbrev pub with_error : Context → GlError → Context
with_error context error = record context { flag = raised context.flag error }

-- a command with an error draws nothing, and has one line (OpenGL ES 1.1.12, 2.5)
abbrev pub answered : ℕ → List Captured → Option (List ℕ) → Context × Option GlError → Called
answered index items line (context, None) =
    record { context = context; error = None; items = items; chunk = None; lines = option_to_list line }
answered index items line (context, Some error) =
    record { context = with_error context error; error = Some error; items = []; chunk = None; lines = raise_line index error ∷ [] }

-- what the record with this index asks for, but for what it reads of a surface
abbrev pub asked : Size → Context → ℕ → Rec → Called
asked size context index rec = answered index (items_of size context rec) (line_of context index rec) (commanded context rec)

-- the chunk that a record without error makes of the surface before it: Swap presents it
abbrev pub chunk_of : Size → Surface → ℕ → Rec → Option GlError → Option (List ℕ)
chunk_of size surface index rec (Some error) = None
chunk_of size surface index Swap None = Some (frame index size surface)
chunk_of size surface index _ None = None

-- the command of the record with this index, on this context and the surface before it
abbrev pub called : Size → Context → Surface → ℕ → Rec → Called
called size context surface index rec = record (asked size context index rec) {
  chunk = chunk_of size surface index rec (asked size context index rec).error;
}
