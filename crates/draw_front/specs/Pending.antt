-- The items of a record that are still to come, as the front keeps them.
use Rattle.std.specs.Prelude.{ℕ, ℤ, List, [], ◌∷◌, map, Option, Some, None, if◌then◌else◌, unsigned_abs}
use Rattle.draw_primitives.specs.Draw.{Rest, all_of, primitives_left}
use Rattle.draw_primitives.specs.Known.{AreKnown}
use Rattle.gl_records.specs.declared.clear.ClearItem.{ClearItem}
use Rattle.gl_records.specs.declared.frag_state.FragState.{FragState}
use Rattle.gl_records.specs.declared.rec.Rec.{Rec}
use Rattle.gl_records.specs.declared.rec.Rec.TheVariants as rec
use Rattle.gl_records.specs.declared.size.Size.{Size}
use Rattle.gl_records.specs.Captured.{Captured, without_versions}
use Rattle.gl_records.specs.Captured as captured
use Rattle.gl_records.specs.Shading.{AreReadable, unit_at}
use Rattle.gl_records.specs.Valid.{IsValidClear}
use Rattle.gl_state.specs.ClearItem.{clear_item}
use Rattle.gl_tokens.specs.Mode as mode_codes
use Rattle.gl_tokens.specs.declared.array_kind.ArrayKind.TheVariants.{Vertex}
use Rattle.gl_tokens.specs.declared.gl_error.GlError.{GlError}
use Rattle.gl_tokens.specs.declared.mode.Mode.{Mode}
use Rattle.vertex_fetch.specs.Arrays.{is_enabled}
use Rattle.vertex_fetch.specs.Draws.{draw_error}
use Rattle.draw_front.specs.declared.pending.Pending.{Pending}
use Rattle.draw_front.specs.declared.pending.Pending.TheVariants.{Nothing, Clear, Draw}
use Rattle.draw_front.specs.Context.{Context}
use Rattle.draw_front.specs.Draws.{captured_draw, draw_state, fragments_of, memory_of, unit_content}

-- the items themselves
abbrev pub items_left : Size → Context → Pending → List Captured
items_left size context Nothing = []
items_left size context (Clear clear) = captured.Clear clear ∷ []
items_left size context (Draw fragments rest) = map (λ prim. captured_draw context.textures prim fragments) (primitives_left (memory_of context) size rest)

-- what holds of a draw: the images that its units read are complete, and what is known of its vertices is so
pub record IsPendingDraw (context : Context) (fragments : FragState) (rest : Rest) : Type 0 where
  pub readable : AreReadable (without_versions fragments) (unit_content (unit_at fragments 0) context.textures 0) (unit_content (unit_at fragments 1) context.textures 1)
  pub known : AreKnown (memory_of context) rest

-- what holds of the items: a Clear can be drawn
abbrev pub IsPending : Size → Context → Pending → Type 0
IsPending size context Nothing = Unit {0}
IsPending size context (Clear clear) = IsValidClear clear size
IsPending size context (Draw fragments rest) = IsPendingDraw context fragments rest

-- the same items, whatever versions their units name
abbrev pub unversioned : Pending → Pending
unversioned Nothing = Nothing
unversioned (Clear clear) = Clear clear
unversioned (Draw fragments rest) = Draw (without_versions fragments) rest

-- how a Clear is kept
abbrev pub pending_clear : Option ClearItem → Pending
pending_clear (Some clear) = Clear clear
pending_clear None = Nothing

-- how a draw of n vertices is kept: nothing where it has an error, or where there is no vertex array
abbrev pub pending_vertices : Context → Rec → Option GlError → Option Mode → ℕ → Pending
pending_vertices context rec None (Some mode) n =
    if is_enabled context.arrays Vertex then Draw (fragments_of context.state context.textures) (all_of (draw_state context.state) rec context.buffers.bindings.element_array mode n) else Nothing
pending_vertices context rec _ _ n = Nothing

abbrev pub pending_draw : Context → Rec → ℕ → ℤ → Pending
pending_draw context rec mode count = pending_vertices context rec (draw_error context.buffers.bindings.element_array rec) (mode_codes.from_code_of mode) (unsigned_abs count)

-- how they are kept before the first one
abbrev pub pending_of : Size → Context → Rec → Pending
pending_of size context (rec.DrawArrays mode first count) = pending_draw context (rec.DrawArrays mode first count) mode count
pending_of size context (rec.DrawElements mode count kind region offset) =
    pending_draw context (rec.DrawElements mode count kind region offset) mode count
pending_of size context (rec.Clear mask) = pending_clear (clear_item context.state mask size)
pending_of size context _ = Nothing
