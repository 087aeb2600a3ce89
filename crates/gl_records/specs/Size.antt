-- The sides of a surface.
use Rattle.std.specs.Prelude.{◌≤◌}
use Rattle.gl_records.specs.declared.size.Size.{Size}
use Rattle.gl_records.specs.declared.size.TheConstants.{GREATEST_SIDE}

-- sides that a surface may have, in pixels
abbrev pub IsSize : Size → Type 0
IsSize size = (1 ≤ size.w) × (size.w ≤ GREATEST_SIDE) × (1 ≤ size.h) × (size.h ≤ GREATEST_SIDE)
