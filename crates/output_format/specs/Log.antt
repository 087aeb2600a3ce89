-- The lines of the log.
use Rattle.std.specs.Prelude.{ℕ, ℤ, ◌+◌, ◌/◌, ◌%◌, List, [], ◌∷◌, ◌++◌, nat_lt, if◌then◌else◌, codes, decimal}
use Rattle.std.specs.Fmt.{signed_decimal}
use Rattle.std.specs.List.{flat_map}
use Rattle.gl_tokens.specs.declared.gl_error.GlError.{GlError}
use Rattle.gl_tokens.specs.GlError.{code_of}
use Rattle.trace_reader.specs.declared.cause.Cause.{Cause}
use Rattle.trace_reader.specs.declared.cause.Cause.TheVariants.{Short, BadMagic, BadSize, NoEnd, BadZero, UnknownOp, TooLong, BadLength, Trailing}
use Rattle.trace_reader.specs.Trace.{Ending, Ended, Malformed}

-- the digit of a number below 16: 48 is `0`, 55 + 10 is `A`
abbrev pub hex_digit : ℕ → ℕ
hex_digit n = if nat_lt n 10 then 48 + n else 55 + n

-- four upper-case hexadecimal digits
abbrev pub hex4 : ℕ → List ℕ
hex4 code = hex_digit (code / 4096 % 16) ∷ hex_digit (code / 256 % 16) ∷ hex_digit (code / 16 % 16) ∷ hex_digit (code % 16) ∷ []

-- the command of this record makes this error
abbrev pub raise_line : ℕ → GlError → List ℕ
raise_line index error = codes "raise " ++ decimal index ++ codes " 0x" ++ hex4 (code_of error) ++ codes "\n"

-- this record takes the error flag, whose code this is
abbrev pub error_line : ℕ → ℕ → List ℕ
error_line index code = codes "error " ++ decimal index ++ codes " 0x" ++ hex4 code ++ codes "\n"

-- numbers, a space before each
abbrev pub numbers : List ℤ → List ℕ
numbers values = flat_map (λ value. codes " " ++ signed_decimal value) values

-- this record's query answers these numbers
abbrev pub get_line : ℕ → List ℤ → List ℕ
get_line index values = codes "get " ++ decimal index ++ numbers values ++ codes "\n"

-- names, a space before each
abbrev pub name_words : List ℕ → List ℕ
name_words names = flat_map (λ name. codes " " ++ decimal name) names

-- this record is given these names of objects
abbrev pub names_line : ℕ → List ℕ → List ℕ
names_line index names = codes "names " ++ decimal index ++ name_words names ++ codes "\n"

-- the trace was read to its end; so many records stand before End
abbrev pub end_line : ℕ → List ℕ
end_line count = codes "end " ++ decimal count ++ codes "\n"

abbrev pub cause_name : Cause → List ℕ
cause_name Short = codes "Short"
cause_name BadMagic = codes "BadMagic"
cause_name BadSize = codes "BadSize"
cause_name NoEnd = codes "NoEnd"
cause_name BadZero = codes "BadZero"
cause_name UnknownOp = codes "UnknownOp"
cause_name TooLong = codes "TooLong"
cause_name BadLength = codes "BadLength"
cause_name Trailing = codes "Trailing"

-- the trace is malformed at this record and byte
abbrev pub refused_line : ℕ → ℕ → Cause → List ℕ
refused_line index offset cause = codes "refused " ++ decimal index ++ codes " " ++ decimal offset ++ codes " " ++ cause_name cause ++ codes "\n"

-- the last line, after so many records
abbrev pub last_line : ℕ → Ending → List ℕ
last_line count Ended = end_line count
last_line count (Malformed at) = refused_line at.index at.offset at.cause

-- the words are no command
abbrev pub bad_words_line : List ℕ
bad_words_line = codes "bad words\n"
