-- How long a command's payload is.
use Rattle.std.specs.Prelude.{ℕ, ◌*◌, ◌%◌, Bool, true, false, ◌==◌, nat_le}
use Rattle.trace_reader.specs.declared.shape.Shape.{Shape}
use Rattle.trace_reader.specs.declared.shape.Shape.TheVariants.{Exactly, AtLeast, Words}

-- how many words the payload begins with
abbrev pub words_of : Shape → ℕ
words_of (Exactly count) = count
words_of (AtLeast count) = count
words_of Words = 0

-- whether bytes follow these words: the piece, of any length, or a list of words
abbrev pub has_piece : Shape → Bool
has_piece (Exactly count) = false
has_piece (AtLeast count) = true
has_piece Words = true

-- whether a payload may have this many bytes
abbrev pub allows : Shape → ℕ → Bool
allows (Exactly count) bytes = bytes == 4 * count
allows (AtLeast count) bytes = nat_le (4 * count) bytes
allows Words bytes = bytes % 4 == 0
