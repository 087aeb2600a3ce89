-- What commands make of their arguments before they keep them.
use Rattle.std.specs.Prelude.{ℕ, ℤ, pos, Bool, ◌&&◌, int_le, ◌%◌, List, [], ◌∷◌, unsigned_abs}
use Rattle.std.specs.Int.{w32, cast_unsigned}
use Rattle.fx_arith.specs.Number.{clamp}
use Rattle.fx_arith.specs.declared.fx.Fx.{Fx}
use Rattle.gl_records.specs.declared.params.Params.{Params}

-- the four numbers of a parameter, as a vector or as a colour R G B A
abbrev pub vector : Params → List Fx
vector values = values.0 ∷ values.1 ∷ values.2 ∷ values.3 ∷ []

-- the first of them as a word, where the parameter is a code or a truth value
abbrev pub word : Params → ℕ
word values = cast_unsigned w32 values.0.0

-- the eight low bits of a word, and of a number with a sign
abbrev pub low_byte : ℕ → ℕ
low_byte word = word % 256

abbrev pub low_byte_signed : ℤ → ℕ
low_byte_signed number = low_byte (cast_unsigned w32 number)

-- a number, or the end of 0..255 that it lies beyond
abbrev pub in_byte : ℤ → ℕ
in_byte number = unsigned_abs (clamp (pos 0) (pos 255) number)

-- an exponent of lighting: 0 to 128
abbrev pub is_exponent : Fx → Bool
is_exponent exponent = int_le (pos 0) exponent.0 && int_le exponent.0 (pos 8388608)
