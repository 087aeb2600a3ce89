-- The alpha test (OpenGL ES 1.1.12, 4.1.4): the fragment's alpha against a reference.
use Rattle.std.specs.Prelude.{ℕ, Bool, true, Option, Some, None}
use Rattle.gl_tokens.specs.declared.compare.Compare.{Compare}
use Rattle.gl_records.specs.Comparison.{passes}

-- where the test is off each alpha passes
abbrev pub alpha_passes : Option (Compare × ℕ) → ℕ → Bool
alpha_passes None alpha = true
alpha_passes (Some test) alpha = passes test.0 alpha test.1
