-- Where the centres of pixels are. Places are in units of 1/16 pixel, from the lower left of the surface.
use Rattle.std.specs.Prelude.{ℤ, pos, ◌+ℤ◌, ◌*ℤ◌}

-- the centre of the pixels of a column or of a row
abbrev pub center : ℤ → ℤ
center at = (pos 16 *ℤ at) +ℤ pos 8
