-- Normals in eye coordinates (OpenGL ES 1.1.12, 2.10.3).
use Rattle.std.specs.Prelude.{List, if◌then◌else◌}
use Rattle.fx_arith.specs.declared.fx.Fx.{Fx}
use Rattle.fx_arith.specs.Vector.{normalise3}
use Rattle.gl_records.specs.declared.vertex_state.VertexState.{VertexState}
use Rattle.matrix_stacks.specs.Eye.{normal_to_eye, rescaled_normal}

-- RESCALE_NORMAL, where it is on
abbrev pub rescaled : VertexState → List Fx → List Fx
rescaled state normal = if state.rescale then rescaled_normal state.modelview normal else normal

-- NORMALIZE, where it is on
abbrev pub normalized : VertexState → List Fx → List Fx
normalized state normal = if state.normalize then normalise3 normal else normal

-- a normal in eye coordinates: it is rescaled before it is normalised
abbrev pub eye_normal : VertexState → List Fx → List Fx
eye_normal state normal = normalized state (rescaled state (normal_to_eye state.modelview normal))
