-- The texture function COMBINE (OpenGL ES 1.1.12, 3.7.12): a function of three arguments for the colour and one for
-- alpha, each with a scale. Components are 0 to 255, which stand for 0 to 1; the rounding is this project's profile.
use Rattle.std.specs.Prelude.{ℕ, ℤ, pos, ◌+◌, ◌-◌, ◌*◌, ◌==◌, ◌+ℤ◌, ◌-ℤ◌, ◌*ℤ◌, Bool, true, false, List, if◌then◌else◌, slice_index, slice_index_or, unsigned_abs}
use Rattle.fx_arith.specs.Number.{clamp, floor_div}
use Rattle.gl_tokens.specs.declared.combine_func.CombineFunc.{CombineFunc}
use Rattle.gl_tokens.specs.declared.combine_func.CombineFunc.TheVariants.{Add, Replace, Modulate, Subtract, AddSigned, Interpolate, Dot3Rgb, Dot3Rgba}
use Rattle.gl_tokens.specs.declared.combine_operand.CombineOperand.{CombineOperand}
use Rattle.gl_tokens.specs.declared.combine_operand.CombineOperand.TheVariants.{SourceColor, OneMinusSourceColor, SourceAlpha, OneMinusSourceAlpha}
use Rattle.gl_tokens.specs.declared.combine_source.CombineSource.{CombineSource}
use Rattle.gl_tokens.specs.declared.combine_source.CombineSource.TheVariants.{Texture, Constant, PrimaryColor, Previous}
use Rattle.gl_records.specs.declared.combine.Combine.{Combine}
use Rattle.gl_records.specs.declared.env.Env.{Env}
use Rattle.gl_records.specs.Color.{alpha, alpha_place, color_of}
use Rattle.gl_records.specs.TextureFunction.{mixed, product}

-- the colour that a source names: the unit's texel, its constant colour, the primitive's colour before texturing, or
-- what the unit before left
abbrev pub source_color : CombineSource → (texel constant primary previous : List ℕ) → List ℕ
source_color Texture texel constant primary previous = texel
source_color Constant texel constant primary previous = constant
source_color PrimaryColor texel constant primary previous = primary
source_color Previous texel constant primary previous = previous

-- what an operand takes of a source for component k: of alpha (k = 3) a colour is the alpha
abbrev pub operand_of : CombineOperand → List ℕ → ℕ → ℕ
operand_of SourceColor color k = slice_index color k
operand_of OneMinusSourceColor color k = 255 - slice_index color k
operand_of SourceAlpha color k = alpha color
operand_of OneMinusSourceAlpha color k = 255 - alpha color

-- argument i of a function for component k, of the colours that sources name
abbrev pub argument : Combine → (CombineSource → List ℕ) → (i k : ℕ) → ℕ
argument combine color_from i k =
    operand_of (slice_index_or combine.operands i SourceColor) (color_from (slice_index_or combine.sources i Texture)) k

-- what a function makes of its arguments, before the scale; each component of a dot product is made of all three, by
-- dot_product below, and where such a function stands for alpha it is REPLACE
abbrev pub function_of : CombineFunc → (a b c : ℕ) → ℤ
function_of Replace a b c = pos a
function_of Modulate a b c = pos (product a b)
function_of Add a b c = pos (a + b)
function_of AddSigned a b c = pos (a + b) -ℤ pos 128
function_of Interpolate a b c = pos (mixed c b a)
function_of Subtract a b c = pos a -ℤ pos b
function_of Dot3Rgb a b c = pos a
function_of Dot3Rgba a b c = pos a

-- a result times its scale, between 0 and 1
abbrev pub scaled : ℕ → ℤ → ℕ
scaled scale result = unsigned_abs (clamp (pos 0) (pos 255) (result *ℤ pos scale))

-- a component as a number between -1 and 1, in 255ths
abbrev pub signed_component : ℕ → ℤ
signed_component a = pos (2 * a) -ℤ pos 255

abbrev pub signed_product : ℕ → ℕ → ℤ
signed_product a b = signed_component a *ℤ signed_component b

-- the dot product of the first two arguments, over red, green and blue, rounded down once
unfoldable pub dot_product : Combine → (CombineSource → List ℕ) → ℤ
dot_product combine color_from =
    floor_div (signed_product (argument combine color_from 0 0) (argument combine color_from 1 0)
    +ℤ signed_product (argument combine color_from 0 1) (argument combine color_from 1 1)
    +ℤ signed_product (argument combine color_from 0 2) (argument combine color_from 1 2)) 255

-- the function's result for component k, with its scale
unfoldable pub result_of : Combine → (CombineSource → List ℕ) → ℕ → ℕ
result_of combine color_from k =
    scaled combine.scale (function_of combine.func (argument combine color_from 0 k) (argument combine color_from 1 k) (argument combine color_from 2 k))

-- the dot product with the function's scale
abbrev pub scaled_dot : Combine → (CombineSource → List ℕ) → ℕ
scaled_dot combine color_from = scaled combine.scale (dot_product combine color_from)

-- a function whose result is a dot product
abbrev pub is_dot : CombineFunc → Bool
is_dot Add = false
is_dot Replace = false
is_dot Modulate = false
is_dot Subtract = false
is_dot AddSigned = false
is_dot Interpolate = false
is_dot Dot3Rgb = true
is_dot Dot3Rgba = true

-- a function for the colour that gives its result to alpha too
abbrev pub gives_alpha : CombineFunc → Bool
gives_alpha Add = false
gives_alpha Replace = false
gives_alpha Modulate = false
gives_alpha Subtract = false
gives_alpha AddSigned = false
gives_alpha Interpolate = false
gives_alpha Dot3Rgb = false
gives_alpha Dot3Rgba = true

-- component k of the colour, red, green or blue, by the function for the colour
abbrev pub rgb_component : Combine → (CombineSource → List ℕ) → ℕ → ℕ
rgb_component rgb color_from k = if is_dot rgb.func then scaled_dot rgb color_from else result_of rgb color_from k

-- alpha by the function for alpha; a dot product that alpha is given has the scale of the colour
abbrev pub alpha_component : (rgb alpha : Combine) → (CombineSource → List ℕ) → ℕ
alpha_component rgb alpha color_from =
    if gives_alpha rgb.func then scaled_dot rgb color_from else result_of alpha color_from alpha_place

-- the combined colour, of the colours that sources name
abbrev pub combined_of : Env → (CombineSource → List ℕ) → List ℕ
combined_of env color_from =
    color_of (λ k. if k == alpha_place then alpha_component env.rgb env.alpha color_from else rgb_component env.rgb color_from k)

-- the combined colour of a unit; what components its texels have makes no difference
unfoldable pub combined : Env → (texel primary previous : List ℕ) → List ℕ
combined env texel primary previous = combined_of env (λ source. source_color source texel env.color primary previous)
