-- Commands of the way from primitives to pixels: the window, culling, shading, sizes and hints. Opcodes 0x38 to 0x42.
use Rattle.std.specs.Prelude.{ℕ, ◌==◌, [], ◌∷◌, Option, Some, None, if◌then◌else◌}
use Rattle.gl_records.specs.declared.rec.Rec.{Rec}
use Rattle.gl_records.specs.declared.rec.Rec.TheVariants.{Viewport, DepthRangex, CullFace, FrontFace, ShadeModel, PointSizex, LineWidthx, PolygonOffsetx, ClipPlanex, Hint, SampleCoveragex}
use Rattle.trace_reader.specs.declared.shape.Shape.TheVariants.{Exactly}
use Rattle.trace_reader.specs.Command.{Layout, params, word, signed, fixed, truth, Command, signed_bits, bits, truth_bits}

abbrev pub raster_row : ℕ → Option Layout
raster_row opcode =
    if opcode == 0x38 then Some (Exactly 4, λ n. Viewport (signed n 0) (signed n 1) (signed n 2) (signed n 3)) else
    if opcode == 0x39 then Some (Exactly 2, λ n. DepthRangex (fixed n 0) (fixed n 1)) else
    if opcode == 0x3A then Some (Exactly 1, λ n. CullFace (word n 0)) else
    if opcode == 0x3B then Some (Exactly 1, λ n. FrontFace (word n 0)) else
    if opcode == 0x3C then Some (Exactly 1, λ n. ShadeModel (word n 0)) else
    if opcode == 0x3D then Some (Exactly 1, λ n. PointSizex (fixed n 0)) else
    if opcode == 0x3E then Some (Exactly 1, λ n. LineWidthx (fixed n 0)) else
    if opcode == 0x3F then Some (Exactly 2, λ n. PolygonOffsetx (fixed n 0) (fixed n 1)) else
    if opcode == 0x40 then Some (Exactly 5, λ n. ClipPlanex (word n 0) (params n 1)) else
    if opcode == 0x41 then Some (Exactly 2, λ n. Hint (word n 0) (word n 1)) else
    if opcode == 0x42 then Some (Exactly 2, λ n. SampleCoveragex (fixed n 0) (truth n 1)) else None

abbrev pub raster_spelling : Rec → Option Command
raster_spelling (Viewport x y width height) =
    Some (record { opcode = 0x38; words = signed_bits x ∷ signed_bits y ∷ signed_bits width ∷ signed_bits height ∷ []; piece = [] })
raster_spelling (DepthRangex near far) = Some (record { opcode = 0x39; words = bits near ∷ bits far ∷ []; piece = [] })
raster_spelling (CullFace face) = Some (record { opcode = 0x3A; words = face ∷ []; piece = [] })
raster_spelling (FrontFace winding) = Some (record { opcode = 0x3B; words = winding ∷ []; piece = [] })
raster_spelling (ShadeModel model) = Some (record { opcode = 0x3C; words = model ∷ []; piece = [] })
raster_spelling (PointSizex size) = Some (record { opcode = 0x3D; words = bits size ∷ []; piece = [] })
raster_spelling (LineWidthx width) = Some (record { opcode = 0x3E; words = bits width ∷ []; piece = [] })
raster_spelling (PolygonOffsetx factor units) =
    Some (record { opcode = 0x3F; words = bits factor ∷ bits units ∷ []; piece = [] })
raster_spelling (ClipPlanex plane equation) =
    Some (record { opcode = 0x40; words = plane ∷ bits equation.0 ∷ bits equation.1 ∷ bits equation.2 ∷ bits equation.3 ∷ []; piece = [] })
raster_spelling (Hint target mode) = Some (record { opcode = 0x41; words = target ∷ mode ∷ []; piece = [] })
raster_spelling (SampleCoveragex value invert) =
    Some (record { opcode = 0x42; words = bits value ∷ truth_bits invert ∷ []; piece = [] })
raster_spelling _ = None
