-- Blending (OpenGL ES 1.1.12, 4.1.7), on components of 0 to 255, which stand for 0 to 1.
use Rattle.std.specs.Prelude.{ℕ, ◌+◌, ◌-◌, ◌*◌, ◌/◌, ◌==◌, List, if◌then◌else◌, min, slice_index}
use Rattle.gl_tokens.specs.declared.blend_factor.BlendFactor.{BlendFactor}
use Rattle.gl_tokens.specs.declared.blend_factor.BlendFactor.TheVariants.{Zero, One, SourceColor, OneMinusSourceColor, SourceAlpha, OneMinusSourceAlpha, DestinationAlpha, OneMinusDestinationAlpha, DestinationColor, OneMinusDestinationColor, SourceAlphaSaturate}
use Rattle.gl_records.specs.Color.{alpha, alpha_place, color_of}

-- the smaller of the source's alpha and of what the destination's lacks; 1 for alpha
abbrev pub saturate : List ℕ → List ℕ → ℕ → ℕ
saturate source destination k = if k == alpha_place then 255 else min (alpha source) (255 - alpha destination)

-- what component k is multiplied by, of these two colours
abbrev pub factor : BlendFactor → List ℕ → List ℕ → ℕ → ℕ
factor Zero source destination k = 0
factor One source destination k = 255
factor SourceColor source destination k = slice_index source k
factor OneMinusSourceColor source destination k = 255 - slice_index source k
factor SourceAlpha source destination k = alpha source
factor OneMinusSourceAlpha source destination k = 255 - alpha source
factor DestinationAlpha source destination k = alpha destination
factor OneMinusDestinationAlpha source destination k = 255 - alpha destination
factor DestinationColor source destination k = slice_index destination k
factor OneMinusDestinationColor source destination k = 255 - slice_index destination k
factor SourceAlphaSaturate source destination k = saturate source destination k

-- a sum of products of two components as a component, rounded to the nearest
abbrev pub component_of_products : ℕ → ℕ
component_of_products products = (products + 127) / 255

-- the sum of two components with their factors, at most 1
abbrev pub blended_component : ℕ → ℕ → ℕ → ℕ → ℕ
blended_component source source_factor destination destination_factor =
    min (component_of_products (source * source_factor + destination * destination_factor)) 255

-- component k of the blended colour, with the factors of the source and of the destination
abbrev pub blended : BlendFactor × BlendFactor → List ℕ → List ℕ → ℕ → ℕ
blended factors source destination k =
    blended_component
    (slice_index source k) (factor factors.0 source destination k)
    (slice_index destination k) (factor factors.1 source destination k)

abbrev pub blended_color : BlendFactor × BlendFactor → List ℕ → List ℕ → List ℕ
blended_color factors source destination = color_of (blended factors source destination)
