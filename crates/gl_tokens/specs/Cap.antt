-- Capabilities (OpenGL ES 1.1.12, 6.2).
use Rattle.std.specs.Prelude.{ℕ, List, [], ◌∷◌, Option}
use Rattle.gl_tokens.specs.declared.cap.Cap.{Cap}
use Rattle.gl_tokens.specs.declared.cap.Cap.TheVariants.{PointSmooth, LineSmooth, CullFace, Lighting, ColorMaterial, Fog, DepthTest, StencilTest, Normalize, AlphaTest, Dither, Blend, ColorLogicOp, ScissorTest, Texture2D, ClipPlane0, Light0, Light1, Light2, Light3, Light4, Light5, Light6, Light7, PolygonOffsetFill, RescaleNormal, Multisample, SampleAlphaToCoverage, SampleAlphaToOne, SampleCoverage}
use Rattle.gl_tokens.specs.Coded.{coded}

abbrev pub code_of : Cap → ℕ
code_of PointSmooth = 0x0B10
code_of LineSmooth = 0x0B20
code_of CullFace = 0x0B44
code_of Lighting = 0x0B50
code_of ColorMaterial = 0x0B57
code_of Fog = 0x0B60
code_of DepthTest = 0x0B71
code_of StencilTest = 0x0B90
code_of Normalize = 0x0BA1
code_of AlphaTest = 0x0BC0
code_of Dither = 0x0BD0
code_of Blend = 0x0BE2
code_of ColorLogicOp = 0x0BF2
code_of ScissorTest = 0x0C11
code_of Texture2D = 0x0DE1
code_of ClipPlane0 = 0x3000
code_of Light0 = 0x4000
code_of Light1 = 0x4001
code_of Light2 = 0x4002
code_of Light3 = 0x4003
code_of Light4 = 0x4004
code_of Light5 = 0x4005
code_of Light6 = 0x4006
code_of Light7 = 0x4007
code_of PolygonOffsetFill = 0x8037
code_of RescaleNormal = 0x803A
code_of Multisample = 0x809D
code_of SampleAlphaToCoverage = 0x809E
code_of SampleAlphaToOne = 0x809F
code_of SampleCoverage = 0x80A0

abbrev pub family : List Cap
family = PointSmooth ∷ LineSmooth ∷ CullFace ∷ Lighting ∷ ColorMaterial ∷ Fog ∷ DepthTest ∷ StencilTest ∷ Normalize ∷ AlphaTest ∷ Dither ∷ Blend ∷ ColorLogicOp ∷ ScissorTest ∷ Texture2D ∷ ClipPlane0 ∷ Light0 ∷ Light1 ∷ Light2 ∷ Light3 ∷ Light4 ∷ Light5 ∷ Light6 ∷ Light7 ∷ PolygonOffsetFill ∷ RescaleNormal ∷ Multisample ∷ SampleAlphaToCoverage ∷ SampleAlphaToOne ∷ SampleCoverage ∷ []

abbrev pub from_code_of : ℕ → Option Cap
from_code_of = coded code_of family
