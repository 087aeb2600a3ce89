-- Live names whose objects are seen by a function of theirs.
use Rattle.std.specs.Prelude.{ℕ, Option, map as list_map}
use Rattle.std.specs.FinMap as map
use Rattle.std.specs.Option.{option_map}
use Rattle.object_names.specs.Names.{LiveNames}

module _ {V W : Type 0} where
  abbrev pub seen_entry : (V → W) → ℕ × Option V → ℕ × Option W
  seen_entry f entry = (entry.0, option_map f entry.1)

  -- the same names, each standing for what the function makes of its object
  unfoldable pub seen_as : (V → W) → LiveNames V → LiveNames W
  seen_as f names = map.from_sorted (list_map (seen_entry f) (map.entries names))
