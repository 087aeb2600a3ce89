-- A line by its places along its major and its minor axis (this project's profile).
use Rattle.std.specs.Prelude.{ℤ, pos, negsuc, ◌≤ℤ◌, ◌≤◌, Bool}
use Rattle.coverage.specs.declared.line.Along.{Along}
use Rattle.gl_records.specs.LineCoverage.{covers_run, minor_place}

-- the line covers the pixel `along` of the major and `across` of the minor axis
abbrev pub covers_of : Along → ℤ → ℤ → Bool
covers_of line along across = covers_run line.width line.start line.minor_start line.end line.minor_end along across

-- where the line is on the minor axis, at a place on the major axis
abbrev pub place_of : Along → ℤ → ℤ
place_of line at = minor_place line.start line.minor_start line.end line.minor_end at

-- a place that some viewport has
pub record IsPlaceInRange (place : ℤ) : Type 0 where
  pub from : negsuc 65535 ≤ℤ place  -- -65536
  pub to : place ≤ℤ pos 98304

-- the line's places are in range, and so is its width
pub record IsAlongInRange (line : Along) : Type 0 where
  pub start : IsPlaceInRange line.start
  pub minor_start : IsPlaceInRange line.minor_start
  pub end : IsPlaceInRange line.end
  pub minor_end : IsPlaceInRange line.minor_end
  pub width_from : 1 ≤ line.width
  pub width_to : line.width ≤ 16
