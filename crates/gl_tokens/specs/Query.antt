-- Values that Get answers (OpenGL ES 1.1.12, 6.2).
use Rattle.std.specs.Prelude.{ℕ, List, [], ◌∷◌, Option}
use Rattle.gl_tokens.specs.declared.query.Query.{Query}
use Rattle.gl_tokens.specs.declared.query.Query.TheVariants.{CurrentColor, CurrentNormal, CurrentTextureCoords, PointSize, LineWidth, CullFaceMode, FrontFace, ShadeModel, DepthRange, DepthWriteMask, DepthClearValue, DepthFunc, StencilClearValue, StencilFunc, StencilValueMask, StencilFail, StencilPassDepthFail, StencilPassDepthPass, StencilRef, StencilWriteMask, MatrixMode, Viewport, ModelviewStackDepth, ProjectionStackDepth, TextureStackDepth, ModelviewMatrix, ProjectionMatrix, TextureMatrix, AlphaTestFunc, AlphaTestRef, BlendDst, BlendSrc, LogicOpMode, ScissorBox, ColorClearValue, ColorWriteMask, UnpackAlignment, PackAlignment, MaxLights, MaxClipPlanes, MaxTextureSize, MaxModelviewStackDepth, MaxProjectionStackDepth, MaxTextureStackDepth, MaxViewportDims, SubpixelBits, RedBits, GreenBits, BlueBits, AlphaBits, DepthBits, StencilBits, TextureBinding2D, ActiveTexture, ClientActiveTexture, MaxTextureUnits, ArrayBufferBinding, ElementArrayBufferBinding}
use Rattle.gl_tokens.specs.Coded.{coded}

abbrev pub code_of : Query → ℕ
code_of CurrentColor = 0x0B00
code_of CurrentNormal = 0x0B02
code_of CurrentTextureCoords = 0x0B03
code_of PointSize = 0x0B11
code_of LineWidth = 0x0B21
code_of CullFaceMode = 0x0B45
code_of FrontFace = 0x0B46
code_of ShadeModel = 0x0B54
code_of DepthRange = 0x0B70
code_of DepthWriteMask = 0x0B72
code_of DepthClearValue = 0x0B73
code_of DepthFunc = 0x0B74
code_of StencilClearValue = 0x0B91
code_of StencilFunc = 0x0B92
code_of StencilValueMask = 0x0B93
code_of StencilFail = 0x0B94
code_of StencilPassDepthFail = 0x0B95
code_of StencilPassDepthPass = 0x0B96
code_of StencilRef = 0x0B97
code_of StencilWriteMask = 0x0B98
code_of MatrixMode = 0x0BA0
code_of Viewport = 0x0BA2
code_of ModelviewStackDepth = 0x0BA3
code_of ProjectionStackDepth = 0x0BA4
code_of TextureStackDepth = 0x0BA5
code_of ModelviewMatrix = 0x0BA6
code_of ProjectionMatrix = 0x0BA7
code_of TextureMatrix = 0x0BA8
code_of AlphaTestFunc = 0x0BC1
code_of AlphaTestRef = 0x0BC2
code_of BlendDst = 0x0BE0
code_of BlendSrc = 0x0BE1
code_of LogicOpMode = 0x0BF0
code_of ScissorBox = 0x0C10
code_of ColorClearValue = 0x0C22
code_of ColorWriteMask = 0x0C23
code_of UnpackAlignment = 0x0CF5
code_of PackAlignment = 0x0D05
code_of MaxLights = 0x0D31
code_of MaxClipPlanes = 0x0D32
code_of MaxTextureSize = 0x0D33
code_of MaxModelviewStackDepth = 0x0D36
code_of MaxProjectionStackDepth = 0x0D38
code_of MaxTextureStackDepth = 0x0D39
code_of MaxViewportDims = 0x0D3A
code_of SubpixelBits = 0x0D50
code_of RedBits = 0x0D52
code_of GreenBits = 0x0D53
code_of BlueBits = 0x0D54
code_of AlphaBits = 0x0D55
code_of DepthBits = 0x0D56
code_of StencilBits = 0x0D57
code_of TextureBinding2D = 0x8069
code_of ActiveTexture = 0x84E0
code_of ClientActiveTexture = 0x84E1
code_of MaxTextureUnits = 0x84E2
code_of ArrayBufferBinding = 0x8894
code_of ElementArrayBufferBinding = 0x8895

abbrev pub family : List Query
family = CurrentColor ∷ CurrentNormal ∷ CurrentTextureCoords ∷ PointSize ∷ LineWidth ∷ CullFaceMode ∷ FrontFace ∷ ShadeModel ∷ DepthRange ∷ DepthWriteMask ∷ DepthClearValue ∷ DepthFunc ∷ StencilClearValue ∷ StencilFunc ∷ StencilValueMask ∷ StencilFail ∷ StencilPassDepthFail ∷ StencilPassDepthPass ∷ StencilRef ∷ StencilWriteMask ∷ MatrixMode ∷ Viewport ∷ ModelviewStackDepth ∷ ProjectionStackDepth ∷ TextureStackDepth ∷ ModelviewMatrix ∷ ProjectionMatrix ∷ TextureMatrix ∷ AlphaTestFunc ∷ AlphaTestRef ∷ BlendDst ∷ BlendSrc ∷ LogicOpMode ∷ ScissorBox ∷ ColorClearValue ∷ ColorWriteMask ∷ UnpackAlignment ∷ PackAlignment ∷ MaxLights ∷ MaxClipPlanes ∷ MaxTextureSize ∷ MaxModelviewStackDepth ∷ MaxProjectionStackDepth ∷ MaxTextureStackDepth ∷ MaxViewportDims ∷ SubpixelBits ∷ RedBits ∷ GreenBits ∷ BlueBits ∷ AlphaBits ∷ DepthBits ∷ StencilBits ∷ TextureBinding2D ∷ ActiveTexture ∷ ClientActiveTexture ∷ MaxTextureUnits ∷ ArrayBufferBinding ∷ ElementArrayBufferBinding ∷ []

abbrev pub from_code_of : ℕ → Option Query
from_code_of = coded code_of family
