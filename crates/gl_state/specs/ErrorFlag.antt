-- The error flag (OpenGL ES 1.1.12, 2.5): the first error since it was taken, or none.
use Rattle.std.specs.Prelude.{ℕ, Option, Some, None}
use Rattle.gl_tokens.specs.GlError.{code_of}
use Rattle.gl_tokens.specs.declared.gl_error.GlError.{GlError}

-- the first error stays
abbrev pub raised : Option GlError → GlError → Option GlError
raised (Some first) error = Some first
raised None error = Some error

-- what GetError answers: NO_ERROR, 0, where there is none
abbrev pub flag_code : Option GlError → ℕ
flag_code (Some error) = code_of error
flag_code None = 0
