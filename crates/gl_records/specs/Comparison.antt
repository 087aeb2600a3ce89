-- How a test compares what comes in with the other value (OpenGL ES 1.1.12, 4.1.4 to 4.1.6).
use Rattle.std.specs.Prelude.{ℕ, Bool, true, false, not, ◌==◌, nat_lt, nat_le}
use Rattle.gl_tokens.specs.declared.compare.Compare.{Compare}
use Rattle.gl_tokens.specs.declared.compare.Compare.TheVariants.{Never, Less, Equal, LessOrEqual, Greater, NotEqual, GreaterOrEqual, Always}

-- the incoming value passes against the other one
abbrev pub passes : Compare → ℕ → ℕ → Bool
passes Never incoming other = false
passes Less incoming other = nat_lt incoming other
passes Equal incoming other = incoming == other
passes LessOrEqual incoming other = nat_le incoming other
passes Greater incoming other = nat_lt other incoming
passes NotEqual incoming other = not (incoming == other)
passes GreaterOrEqual incoming other = nat_le other incoming
passes Always incoming other = true
