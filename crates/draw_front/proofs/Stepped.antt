-- A command that makes no error: what the front keeps of it is what it asks for.
use Rattle.std.proofs.Common.{◌≡◌, ◌∙◌, ◌+◌, ◌++◌, ℕ, Bool, true, false, List, [], ◌∷◌, length, map, Option, Some, None, refl, sym, ap, subst}
use Rattle.std.specs.Prelude.{option_to_list, if◌then◌else◌, unsigned_abs}
use Rattle.draw_primitives.specs.Draw.{all_of, primitives_of}
use Rattle.gl_records.specs.declared.clear.ClearItem.{ClearItem}
use Rattle.gl_records.specs.declared.frag_state.FragState.{FragState}
use Rattle.gl_records.specs.declared.prim.Primitive.{Primitive}
use Rattle.gl_records.specs.declared.rec.Rec.{Rec}
use Rattle.gl_records.specs.declared.rec.Rec.TheVariants.{DrawArrays, DrawElements, Clear}
use Rattle.gl_records.specs.declared.size.Size.{Size}
use Rattle.gl_records.specs.Captured.{Captured, without_version}
use Rattle.gl_records.specs.declared.unit_state.UnitState.{UnitState}
use Rattle.gl_records.specs.Shading.{unit_at}
use Rattle.texture_store.specs.Textures.{TextureObjects}
use Rattle.draw_primitives.specs.Draw.{primitives_left}
use Rattle.draw_front.specs.declared.pending.Pending.{Pending}
use Rattle.gl_records.specs.Captured as captured
use Rattle.gl_state.specs.ClearItem.{clear_item}
use Rattle.gl_state.specs.FragState.{unit}
use Rattle.gl_tokens.specs.Mode as mode_codes
use Rattle.gl_tokens.specs.declared.array_kind.ArrayKind.TheVariants.{Vertex}
use Rattle.gl_tokens.specs.declared.gl_error.GlError.{GlError}
use Rattle.gl_tokens.specs.declared.mode.Mode.{Mode}
use Rattle.trace_reader.specs.Reading.{index_after}
use Rattle.vertex_fetch.specs.Arrays.{is_enabled}
use Rattle.vertex_fetch.specs.Draws.{draw_error}
use Rattle.draw_front.specs.declared.pending.Pending.TheVariants as pending
use Rattle.draw_front.specs.Call.{answered, commanded, items_of, line_of}
use Rattle.draw_front.specs.Collecting.{Collecting, after_call, stepped}
use Rattle.draw_front.specs.Context.{Context}
use Rattle.draw_front.specs.Draws.{captured_draw, draw_state, drawn, fragments_of, memory_of, source, unit_content}
use Rattle.draw_front.specs.Immediate.{joined}
use Rattle.draw_front.specs.Pending.{IsPending, items_left, pending_clear, pending_of, pending_vertices, unversioned}

-- a draw without error that is kept, whether there is a vertex array or not
drawn-left : (size : Size) (context : Context) (rec : Rec) (mode : Mode) (n : ℕ) (on : Bool)
    → items_left size context (if on then pending.Draw (fragments_of context.state context.textures) (all_of (draw_state context.state) rec context.buffers.bindings.element_array mode n) else pending.Nothing)
    ≡ (if on then map (λ (prim : Primitive). captured_draw context.textures prim (fragments_of context.state context.textures)) (primitives_of (draw_state context.state) (source context rec) size mode n) else [])
drawn-left size context rec mode n true = refl
drawn-left size context rec mode n false = refl

draw-left : (size : Size) (context : Context) (rec : Rec) (error : Option GlError) (mode : Option Mode) (n : ℕ) → error ≡ None
    → items_left size context (pending_vertices context rec error mode n) ≡ drawn size context rec mode n
draw-left size context rec None (Some mode) n is = drawn-left size context rec mode n (is_enabled context.arrays Vertex)
draw-left size context rec None None n is = refl
draw-left size context rec (Some error) mode n is = absurd cc

clear-left : (size : Size) (context : Context) (found : Option ClearItem) → items_left size context (pending_clear found) ≡ map captured.Clear (option_to_list found)
clear-left size context (Some clear) = refl
clear-left size context None = refl

-- what is pending of a command, seen from the context after it, are its items
pub left-of : (size : Size) (context later : Context) (rec : Rec) → (later, None) ≡ commanded context rec → items_left size later (pending_of size context rec) ≡ items_of size context rec
left-of size context later (DrawArrays mode first count) is =
    let rec = DrawArrays mode first count in
    ap (λ (c : Context). items_left size c (pending_of size context rec)) (ap (λ (answer : Context × Option GlError). answer.0) is)
    ∙ draw-left size context rec (draw_error context.buffers.bindings.element_array rec) (mode_codes.from_code_of mode) (unsigned_abs count) (sym (ap (λ (answer : Context × Option GlError). answer.1) is))
left-of size context later (DrawElements mode count kind region offset) is =
    let rec = DrawElements mode count kind region offset in
    ap (λ (c : Context). items_left size c (pending_of size context rec)) (ap (λ (answer : Context × Option GlError). answer.0) is)
    ∙ draw-left size context rec (draw_error context.buffers.bindings.element_array rec) (mode_codes.from_code_of mode) (unsigned_abs count) (sym (ap (λ (answer : Context × Option GlError). answer.1) is))
left-of size context later (Clear mask) is = clear-left size later (clear_item context.state mask size)
left-of size context later _ is = refl

-- versions make no difference to the items that are left
content-without : (unit : Option UnitState) (textures : TextureObjects) (k : ℕ) → unit_content (without_version unit) textures k ≡ unit_content unit textures k
content-without None textures k = refl
content-without (Some unit) textures k = refl

without-twice : (unit : Option UnitState) → without_version (without_version unit) ≡ without_version unit
without-twice None = refl
without-twice (Some unit) = refl

pub left-unversioned : (size : Size) (context : Context) (p : Pending) → items_left size context (unversioned p) ≡ items_left size context p
left-unversioned size context pending.Nothing = refl
left-unversioned size context (pending.Clear clear) = refl
left-unversioned size context (pending.Draw fragments rest) =
    let one = unit_at fragments 0 in
    let two = unit_at fragments 1 in
    let state : List (Option UnitState) → FragState = λ units. record fragments { units = units } in
    λ i. map (λ (prim : Primitive). captured.Draw prim (state (without-twice one i ∷ without-twice two i ∷ [])) (content-without one context.textures 0 i) (content-without two context.textures 1 i))
    (primitives_left (memory_of context) size rest)

-- what holds of the items goes on to hold while nothing but a draw is pending, or the context stays
abbrev is_draw : Pending → Bool
is_draw pending.Nothing = false
is_draw (pending.Clear clear) = false
is_draw (pending.Draw fragments rest) = true

draw-unversioned : (p : Pending) → is_draw (unversioned p) ≡ is_draw p
draw-unversioned pending.Nothing = refl
draw-unversioned (pending.Clear clear) = refl
draw-unversioned (pending.Draw fragments rest) = refl

clear-no_draw : (found : Option ClearItem) → is_draw (pending_clear found) ≡ false
clear-no_draw None = refl
clear-no_draw (Some clear) = refl

later-by : (size : Size) (context later : Context) (p : Pending) → is_draw p ≡ false → IsPending size context p → IsPending size later p
later-by size context later pending.Nothing no_draw is = tt
later-by size context later (pending.Clear clear) no_draw is = is
later-by size context later (pending.Draw fragments rest) no_draw is = absurd cc

pub pending-later : (size : Size) (context later : Context) (rec : Rec) (p : Pending) → (later, None) ≡ commanded context rec → unversioned p ≡ pending_of size context rec → IsPending size context p → IsPending size later p
pending-later size context later (DrawArrays mode first count) p is value valid =
    subst (λ (c : Context). IsPending size c p) (sym (ap (λ (answer : Context × Option GlError). answer.0) is)) valid
pending-later size context later (DrawElements mode count kind region offset) p is value valid =
    subst (λ (c : Context). IsPending size c p) (sym (ap (λ (answer : Context × Option GlError). answer.0) is)) valid
pending-later size context later (Clear mask) p is value valid =
    later-by size context later p (sym (draw-unversioned p) ∙ ap is_draw value ∙ clear-no_draw (clear_item context.state mask size)) valid
pending-later size context later _ p is value valid = later-by size context later p (sym (draw-unversioned p) ∙ ap is_draw value) valid

-- the front after a record that makes no error, from what is kept of it
pub stepped-ran : (now : Collecting) (rec : Rec) (later : Context) (left : List Captured) (lines : List ℕ) (made index : ℕ)
    → (later, None) ≡ commanded now.context rec
    → left ≡ items_of now.size now.context rec
    → lines ≡ now.lines ++ joined (option_to_list (line_of now.context now.index rec))
    → made ≡ length (option_to_list (line_of now.context now.index rec))
    → index ≡ index_after now.index rec
    → (let next : Collecting = record now { context = later; left = left; lines = lines; line_count = now.line_count + made; index = index } in next)
    ≡ stepped now rec
stepped-ran now rec later left lines made index is left_is lines_is made_is index_is =
    let next : List Captured → List ℕ → ℕ → ℕ → Collecting = λ left lines made index.
    record now { context = later; left = left; lines = lines; line_count = now.line_count + made; index = index } in
    let line = option_to_list (line_of now.context now.index rec) in
    let called : Context × Option GlError → Collecting = λ answer.
    record (after_call now (answered now.index (items_of now.size now.context rec) (line_of now.context now.index rec) answer)) { index = index_after now.index rec } in
    ap (λ (l : List Captured). next l lines made index) left_is
    ∙ ap (λ (l : List ℕ). next (items_of now.size now.context rec) l made index) lines_is
    ∙ ap (λ (n : ℕ). next (items_of now.size now.context rec) (now.lines ++ joined line) n index) made_is
    ∙ ap (λ (n : ℕ). next (items_of now.size now.context rec) (now.lines ++ joined line) (length line) n) index_is
    ∙ ap called is
