-- How rows of pixels lie in memory (OpenGL ES 1.1.12, 3.6.1 and 4.3.1).
use Rattle.std.specs.Prelude.{ℕ, ℤ, ◌==◌, Option, Result, Ok, Err, if◌then◌else◌}
use Rattle.std.specs.Int.{w32, cast_unsigned}
use Rattle.gl_tokens.specs.Commands.{done, known, ◌>>=◌}
use Rattle.gl_tokens.specs.PixelStoreParameter as pixel_store_parameter
use Rattle.gl_tokens.specs.declared.gl_error.GlError.{GlError}
use Rattle.gl_tokens.specs.declared.gl_error.GlError.TheVariants.{InvalidValue}
use Rattle.gl_tokens.specs.declared.pixel_store_parameter.PixelStoreParameter.{PixelStoreParameter}
use Rattle.gl_tokens.specs.declared.pixel_store_parameter.PixelStoreParameter.TheVariants.{UnpackAlignment, PackAlignment}
use Rattle.gl_state.specs.declared.alignment.Alignment.{Alignment}
use Rattle.gl_state.specs.declared.alignment.Alignment.TheVariants.{One, Two, Four, Eight}
use Rattle.gl_state.specs.declared.pixels.PixelStorage.{PixelStorage}

-- rows begin at every fourth byte
abbrev pub opening_storage : PixelStorage
opening_storage = record { unpack = Four; pack = Four }

-- the bytes that a row's beginning is a multiple of
abbrev pub bytes_of : Alignment → ℕ
bytes_of One = 1
bytes_of Two = 2
bytes_of Four = 4
bytes_of Eight = 8

abbrev pub alignment : ℕ → Result Alignment GlError
alignment word =
    if word == 1 then Ok One else
    if word == 2 then Ok Two else
    if word == 4 then Ok Four else
    if word == 8 then Ok Eight else Err InvalidValue

abbrev pub with_alignment : PixelStorage → PixelStoreParameter → Alignment → PixelStorage
with_alignment s UnpackAlignment alignment = record s { unpack = alignment }
with_alignment s PackAlignment alignment = record s { pack = alignment }

-- PixelStore
abbrev pub pixel_store : PixelStorage → ℕ → ℤ → PixelStorage × Option GlError
pixel_store s code value = done s do
  parameter ← known (pixel_store_parameter.from_code_of code)
  found ← alignment (cast_unsigned w32 value)
  Ok (with_alignment s parameter found)
