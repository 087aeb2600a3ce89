-- Draws: their errors, and the vertices that they draw (OpenGL ES 1.1.12, 2.8).
use Rattle.std.specs.Prelude.{ℕ, ℤ, pos, ◌+◌, ◌*◌, ◌≡◌, ◌<ℤ◌, Bool, true, false, not, ◌||◌, List, Option, Some, None, if◌then◌else◌, int_lt, is_none, slice_index, unsigned_abs}
use Rattle.gl_records.specs.BytesAt.{short_at}
use Rattle.gl_records.specs.declared.rec.Rec.{Rec}
use Rattle.gl_records.specs.declared.rec.Rec.TheVariants.{DrawArrays, DrawElements}
use Rattle.gl_tokens.specs.ComponentType as component_type
use Rattle.gl_tokens.specs.declared.component_type.ComponentType.{ComponentType}
use Rattle.gl_tokens.specs.declared.component_type.ComponentType.TheVariants.{UnsignedByte, UnsignedShort}
use Rattle.gl_tokens.specs.Mode as mode_codes
use Rattle.gl_tokens.specs.declared.gl_error.GlError.{GlError}
use Rattle.gl_tokens.specs.declared.gl_error.GlError.TheVariants.{InvalidEnum, InvalidValue}
use Rattle.buffer_objects.specs.Buffers.{BufferObjects}
use Rattle.buffer_objects.specs.declared.buffer_key.BufferKey.{BufferKey}
use Rattle.vertex_fetch.specs.Storage.{storage, is_nowhere, stored}
use Rattle.vertex_fetch.specs.declared.storage.Storage.{Storage}

-- so many vertices cannot be drawn: less than none, or more than 2^22 (this project's limit)
abbrev pub is_bad_count : ℤ → Bool
is_bad_count count = int_lt count (pos 0) || int_lt (pos 4194304) count

-- the types that an index may have
abbrev pub is_index_type : Option ComponentType → Bool
is_index_type (Some UnsignedByte) = true
is_index_type (Some UnsignedShort) = true
is_index_type _ = false

-- DrawArrays: there is no such mode; the first vertex lies below 0; so many vertices cannot be drawn
abbrev pub draw_arrays_error : ℕ → ℤ → ℤ → Option GlError
draw_arrays_error mode first count =
    if is_none (mode_codes.from_code_of mode) then Some InvalidEnum else
    if int_lt first (pos 0) then Some InvalidValue else
    if is_bad_count count then Some InvalidValue else None

-- DrawElements: there is no such mode; so many vertices cannot be drawn; the type isn't UNSIGNED_BYTE or UNSIGNED_SHORT;
-- the indices lie in no buffer object and there is no such region
abbrev pub draw_elements_error : ℕ → ℤ → ℕ → Storage → Option GlError
draw_elements_error mode count code indices =
    if is_none (mode_codes.from_code_of mode) then Some InvalidEnum else
    if is_bad_count count then Some InvalidValue else
    if not (is_index_type (component_type.from_code_of code)) then Some InvalidEnum else
    if is_nowhere indices then Some InvalidValue else None

-- the error of a draw where this buffer object is bound to ELEMENT_ARRAY_BUFFER; a command of something else has none here
abbrev pub draw_error : Option BufferKey → Rec → Option GlError
draw_error element (DrawArrays mode first count) = draw_arrays_error mode first count
draw_error element (DrawElements mode count code region _) = draw_elements_error mode count code (storage element region)
draw_error element _ = None

-- how many vertices a draw without error draws
abbrev pub vertex_count : Rec → ℤ
vertex_count (DrawArrays _ _ count) = count
vertex_count (DrawElements _ count _ _ _) = count
vertex_count _ = pos 0

-- the record is a draw without error of more than k vertices
pub record HasVertex (element : Option BufferKey) (rec : Rec) (k : ℕ) : Type 0 where
  pub allowed : draw_error element rec ≡ None
  pub below : pos k <ℤ vertex_count rec

-- index k of a list of indices that begins at this byte of a storage; bytes outside of it are 0
abbrev pub listed : Option ComponentType → List ℕ → ℕ → ℕ → ℕ
listed (Some UnsignedByte) bytes offset k = slice_index bytes (offset + k)
listed (Some UnsignedShort) bytes offset k = short_at bytes (offset + k * 2)
listed _ bytes offset k = 0

-- the element of the arrays that is vertex k of a draw
abbrev pub index_of : Rec → Option BufferKey → BufferObjects → List (List ℕ) → ℕ → ℕ
index_of (DrawArrays _ first _) element buffers regions k = unsigned_abs first + k
index_of (DrawElements _ _ code region offset) element buffers regions k =
    listed (component_type.from_code_of code) (stored buffers regions (storage element region)) offset k
index_of _ element buffers regions k = 0
