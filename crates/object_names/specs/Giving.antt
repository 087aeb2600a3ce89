-- How commands give names, with their errors in order (OpenGL ES 1.1.12, 2.9 and 3.7.11). The limit is this project's.
use Rattle.std.specs.Prelude.{ℕ, ◌+◌, nat_lt, ℤ, pos, int_lt, nat_abs, Bool, not, ◌||◌, ◌&&◌, List, Result, Ok, Err}
use Rattle.std.specs.FinMap as map
use Rattle.gl_tokens.specs.Commands.{unless, ◌>>=◌}
use Rattle.gl_tokens.specs.declared.gl_error.GlError.{GlError}
use Rattle.gl_tokens.specs.declared.gl_error.GlError.TheVariants.{InvalidValue, OutOfMemory}
use Rattle.object_names.specs.Names.{LiveNames, free_names, with_names}

-- so many names may be live, and be asked for at once
abbrev pub most_names : ℕ
most_names = 65536

module _ {V : Type 0} where
  -- how many names a command gives that asks for so many, or the error
  abbrev pub allowed_count : LiveNames V → ℤ → Result ℕ GlError
  allowed_count names count =
      unless (int_lt count (pos 0) || int_lt (pos most_names) count) InvalidValue
      (unless (nat_lt most_names (map.len names + nat_abs count)) OutOfMemory (Ok (nat_abs count)))

  -- the names, the least that aren't live, or the error
  abbrev pub given_names : LiveNames V → ℤ → Result (List ℕ) GlError
  given_names names count = do
    allowed ← allowed_count names count
    Ok (free_names names allowed)

  -- the live names behind it: those that were given are live, and stand for no object yet
  abbrev pub behind_names : LiveNames V → Result (List ℕ) GlError → LiveNames V
  behind_names names (Ok given) = with_names names given
  behind_names names (Err error) = names

  -- a name that isn't live can't become it
  abbrev pub lacks_room : LiveNames V → ℕ → Bool
  lacks_room names name = not (map.contains_key names name) && nat_lt most_names (map.len names + 1)
