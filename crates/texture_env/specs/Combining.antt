-- Functions of COMBINE by the values of their arguments.
use Rattle.std.specs.Prelude.{ℕ, ℤ, ◌+ℤ◌, List, slice_index}
use Rattle.fx_arith.specs.Number.{floor_div}
use Rattle.gl_tokens.specs.declared.combine_func.CombineFunc.{CombineFunc}
use Rattle.gl_records.specs.Combining.{function_of, scaled, signed_product}

-- what a function makes of three arguments, with its scale
abbrev pub made_of : CombineFunc → ℕ → (a b c : ℕ) → ℕ
made_of func scale a b c = scaled scale (function_of func a b c)

-- the dot product of two arguments
abbrev pub dot_of : (a b : List ℕ) → ℤ
dot_of a b =
    floor_div (signed_product (slice_index a 0) (slice_index b 0)
    +ℤ signed_product (slice_index a 1) (slice_index b 1)
    +ℤ signed_product (slice_index a 2) (slice_index b 2)) 255
