-- The depth test (OpenGL ES 1.1.12, 4.1.6), and whether depths are written (4.2.2).
use Rattle.std.specs.Prelude.{ℕ, Bool, true, Option, Some, None, if◌then◌else◌}
use Rattle.gl_tokens.specs.declared.compare.Compare.{Compare}
use Rattle.gl_records.specs.Comparison.{passes}

-- the fragment's depth against the stored one; where the test is off each depth passes
abbrev pub depth_passes : Option (Compare × Bool) → ℕ → ℕ → Bool
depth_passes None depth stored = true
depth_passes (Some test) depth stored = passes test.0 depth stored

-- the stored depth after a fragment that passed: the test alone writes, and only where the depth mask lets it
abbrev pub depth_after : Option (Compare × Bool) → ℕ → ℕ → ℕ
depth_after None depth stored = stored
depth_after (Some test) depth stored = if test.1 then depth else stored
