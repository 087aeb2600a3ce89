-- The ranges of the state that set-up goes by (OpenGL ES 1.1.12, 2.10.1, 3.3 and 3.4; the limits are this
-- project's profile).
use Rattle.std.specs.Prelude.{ℕ, ℤ, pos, negsuc, ◌≤ℤ◌, ◌≤◌, slice_index_or}
use Rattle.fx_arith.specs.Number.{component}
use Rattle.gl_records.specs.declared.setup_rules.SetupRules.{SetupRules}

-- entry k of the viewport: x, y, width and height in pixels
abbrev pub viewport_entry : SetupRules → ℕ → ℤ
viewport_entry rules k = slice_index_or rules.viewport k (pos 0)

pub record AreRulesInRange (rules : SetupRules) : Type 0 where
  pub x_from : negsuc 4095 ≤ℤ viewport_entry rules 0  -- -4096
  pub x_to : viewport_entry rules 0 ≤ℤ pos 4096
  pub y_from : negsuc 4095 ≤ℤ viewport_entry rules 1
  pub y_to : viewport_entry rules 1 ≤ℤ pos 4096
  pub width_from : pos 0 ≤ℤ viewport_entry rules 2
  pub width_to : viewport_entry rules 2 ≤ℤ pos 2048
  pub height_from : pos 0 ≤ℤ viewport_entry rules 3
  pub height_to : viewport_entry rules 3 ≤ℤ pos 2048
  pub near_from : pos 0 ≤ℤ component rules.range 0
  pub near_to : component rules.range 0 ≤ℤ pos 65536
  pub far_from : pos 0 ≤ℤ component rules.range 1
  pub far_to : component rules.range 1 ≤ℤ pos 65536
  pub point_from : 1 ≤ rules.point
  pub point_to : rules.point ≤ 64
  pub line_from : 1 ≤ rules.line
  pub line_to : rules.line ≤ 16
