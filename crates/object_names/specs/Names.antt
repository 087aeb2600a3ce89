-- The live names of the objects of one kind, and what each stands for (OpenGL ES 1.1.12, 2.9). A name that
-- was given and never bound stands for no object.
use Rattle.std.specs.Prelude.{ℕ, ◌+◌, Bool, not, List, Option, Some, None, take}
use Rattle.std.specs.List.{filter, fold, range_with_len, sum_by}
use Rattle.std.specs.Option.{option_flatten}
use Rattle.std.specs.Ordering.{nat_cmp}
use Rattle.std.specs.FinMap as map

-- live names to the objects that they stand for
abbrev pub LiveNames : Type 0 → Type 0
LiveNames V = map.FinMap nat_cmp (Option V)

module _ {V : Type 0} where
  -- the object that a name stands for
  abbrev pub object_at : LiveNames V → ℕ → Option V
  object_at names name = option_flatten (map.get names name)

  abbrev pub is_free : LiveNames V → ℕ → Bool
  is_free names name = not (map.contains_key names name)

  -- the least names above 0 that aren't live, so many, in rising order: they stand among the first `count` and as many
  -- more as are live
  abbrev pub free_names : LiveNames V → ℕ → List ℕ
  free_names names count = take count (filter (is_free names) (range_with_len 1 (count + map.len names)))

  -- these names are live as well, and stand for no object yet
  abbrev pub with_names : LiveNames V → List ℕ → LiveNames V
  with_names names given = fold (λ live name. map.insert live name None) names given

  -- the size of what a name may stand for: 0 where it is no object
  abbrev pub size_or_0 : (V → ℕ) → Option V → ℕ
  size_or_0 size None = 0
  size_or_0 size (Some object) = size object

  -- the sizes of all objects together
  abbrev pub total : (V → ℕ) → LiveNames V → ℕ
  total size names = sum_by (λ entry. size_or_0 size entry.1) (map.entries names)
