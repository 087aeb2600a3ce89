-- The texture functions REPLACE, MODULATE, DECAL, BLEND and ADD (OpenGL ES 1.1.12, 3.7.12): what a unit makes of the
-- colour that comes in and of its texel. Components are 0 to 255, which stand for 0 to 1; the rounding is this
-- project's profile.
use Rattle.std.specs.Prelude.{ℕ, ◌+◌, ◌-◌, ◌*◌, ◌==◌, Bool, true, false, List, if◌then◌else◌, min, slice_index}
use Rattle.gl_tokens.specs.declared.base_format.BaseFormat.{BaseFormat}
use Rattle.gl_tokens.specs.declared.base_format.BaseFormat.TheVariants.{Alpha, Rgb, Rgba, Luminance, LuminanceAlpha}
use Rattle.gl_records.specs.Blending.{component_of_products}
use Rattle.gl_records.specs.Color.{alpha, alpha_place, color_of}

-- texels of this format have a colour
abbrev pub has_color : BaseFormat → Bool
has_color Alpha = false
has_color Rgb = true
has_color Rgba = true
has_color Luminance = true
has_color LuminanceAlpha = true

-- texels of this format have an alpha
abbrev pub has_alpha : BaseFormat → Bool
has_alpha Alpha = true
has_alpha Rgb = false
has_alpha Rgba = true
has_alpha Luminance = false
has_alpha LuminanceAlpha = true

-- texels of this format have component k
abbrev pub has_component : BaseFormat → ℕ → Bool
has_component format k = if k == alpha_place then has_alpha format else has_color format

-- of what was made, the components that texels of this format have; the others are left as they come in
abbrev pub kept : BaseFormat → (incoming made : List ℕ) → List ℕ
kept format incoming made =
    color_of (λ k. if has_component format k then slice_index made k else slice_index incoming k)

-- a product of two components
abbrev pub product : ℕ → ℕ → ℕ
product a b = component_of_products (a * b)

-- the first of two components, and the second as much as the weight says
abbrev pub mixed : (weight first second : ℕ) → ℕ
mixed weight first second = component_of_products (first * (255 - weight) + second * weight)

-- REPLACE: the texel
abbrev pub replaced : BaseFormat → (incoming texel : List ℕ) → List ℕ
replaced format incoming texel = kept format incoming texel

-- MODULATE: the product of both
abbrev pub modulated_component : (incoming texel : List ℕ) → ℕ → ℕ
modulated_component incoming texel k = product (slice_index incoming k) (slice_index texel k)

abbrev pub modulated : BaseFormat → (incoming texel : List ℕ) → List ℕ
modulated format incoming texel = kept format incoming (color_of (modulated_component incoming texel))

-- BLEND: from the incoming colour to the constant one by the texel's colour; the product of both alphas
abbrev pub blended_component : (constant incoming texel : List ℕ) → ℕ → ℕ
blended_component constant incoming texel k =
    if k == alpha_place then modulated_component incoming texel k
    else mixed (slice_index texel k) (slice_index incoming k) (slice_index constant k)

abbrev pub blended : BaseFormat → (constant incoming texel : List ℕ) → List ℕ
blended format constant incoming texel = kept format incoming (color_of (blended_component constant incoming texel))

-- ADD: the sum of both colours, at most 1; the product of both alphas
abbrev pub added_component : (incoming texel : List ℕ) → ℕ → ℕ
added_component incoming texel k =
    if k == alpha_place then modulated_component incoming texel k
    else min (slice_index incoming k + slice_index texel k) 255

abbrev pub added : BaseFormat → (incoming texel : List ℕ) → List ℕ
added format incoming texel = kept format incoming (color_of (added_component incoming texel))

-- DECAL: the texel's colour, by its alpha where it has one; the incoming colour where the texel isn't RGB or RGBA
abbrev pub decal_component : BaseFormat → (incoming texel : List ℕ) → ℕ → ℕ
decal_component Alpha incoming texel k = slice_index incoming k
decal_component Rgb incoming texel k = slice_index texel k
decal_component Rgba incoming texel k = mixed (alpha texel) (slice_index incoming k) (slice_index texel k)
decal_component Luminance incoming texel k = slice_index incoming k
decal_component LuminanceAlpha incoming texel k = slice_index incoming k

-- alpha stays as it comes in
abbrev pub decaled : BaseFormat → (incoming texel : List ℕ) → List ℕ
decaled format incoming texel =
    color_of (λ k. if k == alpha_place then alpha incoming else decal_component format incoming texel k)
