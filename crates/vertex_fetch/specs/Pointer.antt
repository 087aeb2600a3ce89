-- Where a vertex array lies, and which pointers there are (OpenGL ES 1.1.12, 2.8).
use Rattle.std.specs.Prelude.{ℕ, ◌≡◌, ◌≤◌, ◌<◌, ◌^◌, false, ℤ, pos, not, ◌||◌, int_lt, Result, Ok, unsigned_abs}
use Rattle.std.specs.Ordering.{int_eq}
use Rattle.gl_tokens.specs.Commands.{unless, known, ◌>>=◌}
use Rattle.gl_tokens.specs.ComponentType.{from_code_of}
use Rattle.gl_tokens.specs.declared.gl_error.GlError.{GlError}
use Rattle.gl_tokens.specs.declared.gl_error.GlError.TheVariants.{InvalidValue}
use Rattle.vertex_fetch.specs.ComponentFormat.{coordinate_format, normal_format, color_format}
use Rattle.vertex_fetch.specs.Storage.{is_nowhere}
use Rattle.vertex_fetch.specs.declared.storage.Storage.{Storage}
use Rattle.vertex_fetch.specs.declared.component_format.ComponentFormat.{ComponentFormat}

pub record Pointer : Type 0 where
  -- the components of an element
  pub size : ℕ
  -- how each component lies
  pub format : ComponentFormat
  -- the bytes from one element to the next; 0 where they follow one another
  pub stride : ℕ
  -- what holds its bytes
  pub storage : Storage
  -- the byte of the storage at which element 0 begins
  pub offset : ℕ

abbrev pub pointer : ℕ → ComponentFormat → ℕ → Storage → ℕ → Pointer
pointer size format stride storage offset =
    record { size = size; format = format; stride = stride; storage = storage; offset = offset }

-- what the commands of pointers let through
pub record IsPointer (pointer : Pointer) : Type 0 where
  pub size_to : pointer.size ≤ 4
  pub stride_to : pointer.stride < 2 ^ 31
  pub somewhere : is_nowhere pointer.storage ≡ false

-- a pointer of these components: no negative stride; a buffer object, or one of the 16 regions
abbrev pub placed : ℕ → ComponentFormat → ℤ → Storage → ℕ → Result Pointer GlError
placed size format stride storage offset =
    unless (int_lt stride (pos 0)) InvalidValue (unless (is_nowhere storage) InvalidValue (Ok
    (pointer size format (unsigned_abs stride) storage offset)))

-- the pointer of positions, or of texture coordinates: size 2 to 4; type BYTE, SHORT or FIXED
abbrev pub coordinate_pointer : ℤ → ℕ → ℤ → Storage → ℕ → Result Pointer GlError
coordinate_pointer size code stride storage offset =
    unless (int_lt size (pos 2) || int_lt (pos 4) size) InvalidValue do
      format ← known (coordinate_format (from_code_of code))
      placed (unsigned_abs size) format stride storage offset

-- the pointer of normals: type BYTE, SHORT or FIXED; three components
abbrev pub normal_pointer : ℕ → ℤ → Storage → ℕ → Result Pointer GlError
normal_pointer code stride storage offset = do
  format ← known (normal_format (from_code_of code))
  placed 3 format stride storage offset

-- the pointer of colours: size 4; type UNSIGNED_BYTE or FIXED
abbrev pub color_pointer : ℤ → ℕ → ℤ → Storage → ℕ → Result Pointer GlError
color_pointer size code stride storage offset =
    unless (not (int_eq size (pos 4))) InvalidValue do
      format ← known (color_format (from_code_of code))
      placed 4 format stride storage offset
