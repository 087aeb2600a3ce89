-- The items of a draw (OpenGL ES 1.1.12, 2.6 to 2.12).
use Rattle.std.specs.Prelude.{ℕ, ℤ, List, [], ◌∷◌, map, Option, Some, None, if◌then◌else◌, unsigned_abs}
use Rattle.draw_primitives.specs.declared.draw_state.DrawState.{DrawState}
use Rattle.draw_primitives.specs.Draw.{primitives_of}
use Rattle.draw_primitives.specs.Memory.{Memory, Source}
use Rattle.gl_records.specs.declared.frag_state.FragState.{FragState}
use Rattle.gl_records.specs.declared.rec.Rec.{Rec}
use Rattle.gl_records.specs.declared.size.Size.{Size}
use Rattle.gl_records.specs.declared.item.Item.{Item}
use Rattle.gl_records.specs.declared.item.Item.TheVariants as item
use Rattle.gl_records.specs.declared.level.ImageSet.{ImageSet}
use Rattle.gl_records.specs.declared.prim.Primitive.{Primitive}
use Rattle.gl_records.specs.declared.unit_state.UnitState.{UnitState}
use Rattle.gl_records.specs.Captured.{Captured, captured_by}
use Rattle.gl_records.specs.Captured as captured
use Rattle.gl_records.specs.Complete.{is_complete}
use Rattle.gl_records.specs.Shading.{unit_at}
use Rattle.gl_state.specs.declared.state.State.{State}
use Rattle.gl_state.specs.Current.{attribs}
use Rattle.gl_state.specs.FragState.{Image, frag_state}
use Rattle.gl_state.specs.Raster.{is_flat}
use Rattle.gl_state.specs.State.{setup_rules}
use Rattle.gl_state.specs.VertexState.{vertex_state}
use Rattle.gl_tokens.specs.Mode as mode_codes
use Rattle.gl_tokens.specs.declared.array_kind.ArrayKind.TheVariants.{Vertex}
use Rattle.gl_tokens.specs.declared.mode.Mode.{Mode}
use Rattle.vertex_fetch.specs.Arrays.{is_enabled}
use Rattle.std.specs.Option.{option_map}
use Rattle.texture_store.specs.Answers.{format_of}
use Rattle.texture_store.specs.Textures.{Texture, TextureObjects, bound_texture}
use Rattle.draw_front.specs.Context.{Context}

-- what the state fixes for a draw
unfoldable pub draw_state : State → DrawState
draw_state s = record {
  vertex = vertex_state s;
  current = attribs s.current;
  flat = is_flat s.raster.shade_model;
  rules = setup_rules s;
}

-- the image of a texture for a unit, where the texture is complete: its format and how it is read. Its version stands for
-- nothing, and is that of number 0.
abbrev pub given_image : Texture → Option Image
given_image texture =
    if is_complete texture.image texture.parameters.sampler
    then option_map (λ format. (record { 0 = 0 }, format, texture.parameters.sampler)) (format_of texture.image)
    else None

-- whatever version it names
abbrev pub unversioned_image : Option Image → Option Image
unversioned_image None = None
unversioned_image (Some image) = Some (record { 0 = 0 }, image.1, image.2)

-- the images that the textures give which are bound to both units
abbrev pub given_images : TextureObjects → List (Option Image)
given_images textures = given_image (bound_texture textures 0) ∷ given_image (bound_texture textures 1) ∷ []

-- what happens to the fragments of a draw
unfoldable pub fragments_of : State → TextureObjects → FragState
fragments_of s textures = frag_state s (given_images textures)

-- the image that a unit reads, none where it is off
abbrev pub unit_content : Option UnitState → TextureObjects → ℕ → Option ImageSet
unit_content None textures k = None
unit_content (Some unit) textures k = Some (bound_texture textures k).image

-- a primitive with what happens to its fragments, captured with the images of the textures that are bound
abbrev pub captured_draw : TextureObjects → Primitive → FragState → Captured
captured_draw textures prim state =
    captured_by (item.Draw prim state) (unit_content (unit_at state 0) textures 0) (unit_content (unit_at state 1) textures 1)

-- the image that an item reads by unit k
abbrev pub content_in : TextureObjects → Item → ℕ → Option ImageSet
content_in textures (item.Draw prim state) k = unit_content (unit_at state k) textures k
content_in textures (item.Clear clear) k = None

-- an item, captured likewise
abbrev pub captured_in : TextureObjects → Item → Captured
captured_in textures (item.Draw prim state) = captured_draw textures prim state
captured_in textures (item.Clear clear) = captured.Clear clear

-- what vertices are read from
abbrev pub memory_of : Context → Memory
memory_of context = record { arrays = context.arrays; buffers = context.buffers; regions = context.regions }

-- where a draw takes its vertices from
abbrev pub source : Context → Rec → Source
source context rec = record { rec = rec; element = context.buffers.bindings.element_array; memory = memory_of context }

-- the items of a draw of n vertices; without the vertex array it has none
abbrev pub drawn : Size → Context → Rec → Option Mode → ℕ → List Captured
drawn size context rec (Some mode) n =
    if is_enabled context.arrays Vertex
    then map (λ prim. captured_draw context.textures prim (fragments_of context.state context.textures)) (primitives_of (draw_state context.state) (source context rec) size mode n)
    else []
drawn size context rec None n = []

-- the items of a draw without error
abbrev pub draw_items : Size → Context → Rec → ℕ → ℤ → List Captured
draw_items size context rec mode count = drawn size context rec (mode_codes.from_code_of mode) (unsigned_abs count)
