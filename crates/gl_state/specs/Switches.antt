-- What Enable and Disable switch (OpenGL ES 1.1.12, 2.3 and 6.2). Texturing is switched for each texture unit.
use Rattle.std.specs.Prelude.{Bool, true, false, replicate, slice_index_or, slice_set}
use Rattle.gl_tokens.specs.declared.cap.Cap.{Cap}
use Rattle.gl_tokens.specs.declared.cap.Cap.TheVariants.{PointSmooth, LineSmooth, CullFace, Lighting, ColorMaterial, Fog, DepthTest, StencilTest, Normalize, AlphaTest, Dither, Blend, ColorLogicOp, ScissorTest, Texture2D, ClipPlane0, Light0, Light1, Light2, Light3, Light4, Light5, Light6, Light7, PolygonOffsetFill, RescaleNormal, Multisample, SampleAlphaToCoverage, SampleAlphaToOne, SampleCoverage}
use Rattle.gl_tokens.specs.declared.texture_unit.TextureUnit.{TextureUnit}
use Rattle.gl_tokens.specs.declared.texture_unit.TextureUnit.TheVariants.{Texture0, Texture1}
use Rattle.gl_state.specs.declared.switches.Switches.{Switches}

-- dithering and multisampling are on, and all else is off
abbrev pub opening_switches : Switches
opening_switches = record {
  point_smooth = false;
  line_smooth = false;
  cull_face = false;
  lighting = false;
  color_material = false;
  fog = false;
  depth_test = false;
  stencil_test = false;
  normalize = false;
  alpha_test = false;
  dither = true;
  blend = false;
  color_logic_op = false;
  scissor_test = false;
  texture0 = false;
  texture1 = false;
  clip_plane0 = false;
  lights = replicate 8 false;
  polygon_offset_fill = false;
  rescale_normal = false;
  multisample = true;
  sample_alpha_to_coverage = false;
  sample_alpha_to_one = false;
  sample_coverage = false;
}

-- whether texturing is on for a unit
abbrev pub is_textured : Switches → TextureUnit → Bool
is_textured s Texture0 = s.texture0
is_textured s Texture1 = s.texture1

abbrev pub with_texturing : Switches → TextureUnit → Bool → Switches
with_texturing s Texture0 on = record s { texture0 = on }
with_texturing s Texture1 on = record s { texture1 = on }

-- whether a capability is on, while this texture unit is active
abbrev pub is_on : Switches → TextureUnit → Cap → Bool
is_on s unit PointSmooth = s.point_smooth
is_on s unit LineSmooth = s.line_smooth
is_on s unit CullFace = s.cull_face
is_on s unit Lighting = s.lighting
is_on s unit ColorMaterial = s.color_material
is_on s unit Fog = s.fog
is_on s unit DepthTest = s.depth_test
is_on s unit StencilTest = s.stencil_test
is_on s unit Normalize = s.normalize
is_on s unit AlphaTest = s.alpha_test
is_on s unit Dither = s.dither
is_on s unit Blend = s.blend
is_on s unit ColorLogicOp = s.color_logic_op
is_on s unit ScissorTest = s.scissor_test
is_on s unit Texture2D = is_textured s unit
is_on s unit ClipPlane0 = s.clip_plane0
is_on s unit Light0 = slice_index_or s.lights 0 false
is_on s unit Light1 = slice_index_or s.lights 1 false
is_on s unit Light2 = slice_index_or s.lights 2 false
is_on s unit Light3 = slice_index_or s.lights 3 false
is_on s unit Light4 = slice_index_or s.lights 4 false
is_on s unit Light5 = slice_index_or s.lights 5 false
is_on s unit Light6 = slice_index_or s.lights 6 false
is_on s unit Light7 = slice_index_or s.lights 7 false
is_on s unit PolygonOffsetFill = s.polygon_offset_fill
is_on s unit RescaleNormal = s.rescale_normal
is_on s unit Multisample = s.multisample
is_on s unit SampleAlphaToCoverage = s.sample_alpha_to_coverage
is_on s unit SampleAlphaToOne = s.sample_alpha_to_one
is_on s unit SampleCoverage = s.sample_coverage

-- a capability on or off, and the others as they were
abbrev pub switched : Switches → TextureUnit → Cap → Bool → Switches
switched s unit PointSmooth on = record s { point_smooth = on }
switched s unit LineSmooth on = record s { line_smooth = on }
switched s unit CullFace on = record s { cull_face = on }
switched s unit Lighting on = record s { lighting = on }
switched s unit ColorMaterial on = record s { color_material = on }
switched s unit Fog on = record s { fog = on }
switched s unit DepthTest on = record s { depth_test = on }
switched s unit StencilTest on = record s { stencil_test = on }
switched s unit Normalize on = record s { normalize = on }
switched s unit AlphaTest on = record s { alpha_test = on }
switched s unit Dither on = record s { dither = on }
switched s unit Blend on = record s { blend = on }
switched s unit ColorLogicOp on = record s { color_logic_op = on }
switched s unit ScissorTest on = record s { scissor_test = on }
switched s unit Texture2D on = with_texturing s unit on
switched s unit ClipPlane0 on = record s { clip_plane0 = on }
switched s unit Light0 on = record s { lights = slice_set s.lights 0 on }
switched s unit Light1 on = record s { lights = slice_set s.lights 1 on }
switched s unit Light2 on = record s { lights = slice_set s.lights 2 on }
switched s unit Light3 on = record s { lights = slice_set s.lights 3 on }
switched s unit Light4 on = record s { lights = slice_set s.lights 4 on }
switched s unit Light5 on = record s { lights = slice_set s.lights 5 on }
switched s unit Light6 on = record s { lights = slice_set s.lights 6 on }
switched s unit Light7 on = record s { lights = slice_set s.lights 7 on }
switched s unit PolygonOffsetFill on = record s { polygon_offset_fill = on }
switched s unit RescaleNormal on = record s { rescale_normal = on }
switched s unit Multisample on = record s { multisample = on }
switched s unit SampleAlphaToCoverage on = record s { sample_alpha_to_coverage = on }
switched s unit SampleAlphaToOne on = record s { sample_alpha_to_one = on }
switched s unit SampleCoverage on = record s { sample_coverage = on }
