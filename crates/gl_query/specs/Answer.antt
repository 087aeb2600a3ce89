-- What Get and IsEnabled answer of the state and of what is bound, each value as it is kept (OpenGL ES 1.1.12, 6.1 and 6.2).
use Rattle.std.specs.Prelude.{ℤ, pos, List, [], ◌∷◌, length, map, slice_index, Option, Some, None, Result, Ok, Err}
use Rattle.gl_records.specs.declared.rec.Rec.{Rec}
use Rattle.gl_records.specs.declared.rec.Rec.TheVariants.{Get, IsEnabled}
use Rattle.gl_state.specs.declared.state.State.{State}
use Rattle.gl_state.specs.Current.{coordinates}
use Rattle.gl_state.specs.Pixels.{bytes_of}
use Rattle.gl_state.specs.State.{unit_number}
use Rattle.gl_state.specs.Switches.{is_on}
use Rattle.gl_tokens.specs.BlendFactor as blend_factor
use Rattle.gl_tokens.specs.Cap as cap
use Rattle.gl_tokens.specs.Commands.{known, ◌>>=◌}
use Rattle.gl_tokens.specs.Compare as compare
use Rattle.gl_tokens.specs.Face as face
use Rattle.gl_tokens.specs.LogicOp as logic_op
use Rattle.gl_tokens.specs.MatrixMode as matrix_mode
use Rattle.gl_tokens.specs.Query as queries
use Rattle.gl_tokens.specs.ShadeModel as shade_model
use Rattle.gl_tokens.specs.StencilOp as stencil_op
use Rattle.gl_tokens.specs.TextureUnit as texture_unit
use Rattle.gl_tokens.specs.Winding as winding
use Rattle.gl_tokens.specs.declared.gl_error.GlError.{GlError}
use Rattle.gl_tokens.specs.declared.gl_error.GlError.TheVariants.{InvalidEnum}
use Rattle.gl_tokens.specs.declared.matrix_mode.MatrixMode.TheVariants.{Modelview, Projection, Texture}
use Rattle.gl_tokens.specs.declared.query.Query.{Query}
use Rattle.gl_tokens.specs.declared.query.Query.TheVariants.{CurrentColor, CurrentNormal, CurrentTextureCoords, PointSize, LineWidth, CullFaceMode, FrontFace, ShadeModel, DepthRange, DepthWriteMask, DepthClearValue, DepthFunc, StencilClearValue, StencilFunc, StencilValueMask, StencilFail, StencilPassDepthFail, StencilPassDepthPass, StencilRef, StencilWriteMask, MatrixMode, Viewport, ModelviewStackDepth, ProjectionStackDepth, TextureStackDepth, ModelviewMatrix, ProjectionMatrix, TextureMatrix, AlphaTestFunc, AlphaTestRef, BlendDst, BlendSrc, LogicOpMode, ScissorBox, ColorClearValue, ColorWriteMask, UnpackAlignment, PackAlignment, MaxLights, MaxClipPlanes, MaxTextureSize, MaxModelviewStackDepth, MaxProjectionStackDepth, MaxTextureStackDepth, MaxViewportDims, SubpixelBits, RedBits, GreenBits, BlueBits, AlphaBits, DepthBits, StencilBits, ActiveTexture, ClientActiveTexture, MaxTextureUnits, TextureBinding2D, ArrayBufferBinding, ElementArrayBufferBinding}
use Rattle.matrix_stacks.specs.Stack.{top}
use Rattle.matrix_stacks.specs.Stacks.{stack_of}
use Rattle.gl_query.specs.declared.bound.Bound.{Bound}
use Rattle.gl_query.specs.Values.{raw, raws, truth, one, code}

-- current values; texture coordinates are those of the active unit.
abbrev pub current : State → Query → Option (List ℤ)
current s CurrentColor = Some (raws s.current.color)
current s CurrentNormal = Some (raws s.current.normal)
current s CurrentTextureCoords = Some (raws (coordinates s.current s.current.unit))
current s ActiveTexture = Some (code (texture_unit.code_of s.current.unit))
current s ClientActiveTexture = Some (code (texture_unit.code_of s.current.client_unit))
current s query = None

-- matrices and how many each stack has; textures go by the active unit
abbrev pub matrices : State → Query → Option (List ℤ)
matrices s MatrixMode = Some (code (matrix_mode.code_of s.stacks.mode))
matrices s ModelviewStackDepth = Some (code (length (stack_of s.stacks Modelview 0)))
matrices s ProjectionStackDepth = Some (code (length (stack_of s.stacks Projection 0)))
matrices s TextureStackDepth = Some (code (length (stack_of s.stacks Texture (unit_number s.current.unit))))
matrices s ModelviewMatrix = Some (raws (top (stack_of s.stacks Modelview 0)).0)
matrices s ProjectionMatrix = Some (raws (top (stack_of s.stacks Projection 0)).0)
matrices s TextureMatrix = Some (raws (top (stack_of s.stacks Texture (unit_number s.current.unit))).0)
matrices s query = None

-- viewport and rasterisation
abbrev pub raster : State → Query → Option (List ℤ)
raster s Viewport = Some (s.raster.x ∷ s.raster.y ∷ s.raster.width ∷ s.raster.height ∷ [])
raster s DepthRange = Some (raw s.raster.near ∷ raw s.raster.far ∷ [])
raster s CullFaceMode = Some (code (face.code_of s.raster.culled))
raster s FrontFace = Some (code (winding.code_of s.raster.front))
raster s ShadeModel = Some (code (shade_model.code_of s.raster.shade_model))
raster s PointSize = Some (one (raw s.raster.point_size))
raster s LineWidth = Some (one (raw s.raster.line_width))
raster s query = None

-- tests of fragments
abbrev pub tests : State → Query → Option (List ℤ)
tests s AlphaTestFunc = Some (code (compare.code_of s.tests.alpha_comparison))
tests s AlphaTestRef = Some (one (raw s.tests.alpha_reference))
tests s StencilFunc = Some (code (compare.code_of s.tests.stencil_comparison))
tests s StencilRef = Some (code s.tests.stencil_reference)
tests s StencilValueMask = Some (code s.tests.stencil_mask)
tests s StencilFail = Some (code (stencil_op.code_of s.tests.stencil_fail))
tests s StencilPassDepthFail = Some (code (stencil_op.code_of s.tests.depth_fail))
tests s StencilPassDepthPass = Some (code (stencil_op.code_of s.tests.depth_pass))
tests s StencilWriteMask = Some (code s.tests.stencil_write)
tests s DepthFunc = Some (code (compare.code_of s.tests.depth_comparison))
tests s DepthWriteMask = Some (one (truth s.tests.depth_write))
tests s ScissorBox = Some (s.tests.scissor_x ∷ s.tests.scissor_y ∷ s.tests.scissor_width ∷ s.tests.scissor_height ∷ [])
tests s query = None

-- blending and masks
abbrev pub blending : State → Query → Option (List ℤ)
blending s BlendSrc = Some (code (blend_factor.code_of s.blending.source))
blending s BlendDst = Some (code (blend_factor.code_of s.blending.destination))
blending s LogicOpMode = Some (code (logic_op.code_of s.blending.operation))
blending s ColorWriteMask = Some (map truth s.blending.mask)
blending s query = None

-- the values of Clears
abbrev pub clears : State → Query → Option (List ℤ)
clears s ColorClearValue = Some (raws s.clears.color)
clears s DepthClearValue = Some (one (raw s.clears.depth))
clears s StencilClearValue = Some (code s.clears.stencil)
clears s query = None

-- rows of pixels
abbrev pub pixels : State → Query → Option (List ℤ)
pixels s UnpackAlignment = Some (code (bytes_of s.pixels.unpack))
pixels s PackAlignment = Some (code (bytes_of s.pixels.pack))
pixels s query = None

-- the names of what is bound; the texture is that of the active unit
abbrev pub bindings : State → Bound → Query → Option (List ℤ)
bindings s bound TextureBinding2D = Some (code (slice_index bound.textures (unit_number s.current.unit)))
bindings s bound ArrayBufferBinding = Some (code bound.array)
bindings s bound ElementArrayBufferBinding = Some (code bound.element)
bindings s bound query = None

-- limits (this project's profile)
abbrev pub limits : Query → Option (List ℤ)
limits MaxLights = Some (code 8)
limits MaxClipPlanes = Some (code 1)
limits MaxTextureSize = Some (code 1024)
limits MaxModelviewStackDepth = Some (code 16)
limits MaxProjectionStackDepth = Some (code 2)
limits MaxTextureStackDepth = Some (code 2)
limits MaxViewportDims = Some (pos 2048 ∷ pos 2048 ∷ [])
limits MaxTextureUnits = Some (code 2)
limits SubpixelBits = Some (code 4)
limits RedBits = Some (code 8)
limits GreenBits = Some (code 8)
limits BlueBits = Some (code 8)
limits AlphaBits = Some (code 8)
limits DepthBits = Some (code 24)
limits StencilBits = Some (code 8)
limits query = None

-- the first of two answers, where there is one
abbrev pub or : Option (List ℤ) → Option (List ℤ) → Option (List ℤ)
or (Some values) later = Some values
or None later = later

-- what a query answers
abbrev pub values_of : State → Bound → Query → Option (List ℤ)
values_of s bound query =
    or (current s query) (or (matrices s query) (or (raster s query) (or (tests s query) (or (blending s query) (or (clears s query)
    (or (pixels s query) (or (bindings s bound query) (limits query))))))))

-- Get: InvalidEnum where there is no such query. IsEnabled: InvalidEnum where there is no such capability.
abbrev pub answer_of : State → Bound → Rec → Result (List ℤ) GlError
answer_of s bound (Get query) = do
  found ← known (queries.from_code_of query)
  known (values_of s bound found)
answer_of s bound (IsEnabled capability) = do
  found ← known (cap.from_code_of capability)
  Ok (one (truth (is_on s.switches s.current.unit found)))
answer_of s bound rec = Err InvalidEnum
