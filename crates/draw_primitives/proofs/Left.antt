-- What is left of a draw from a place on, piece by piece and primitive by primitive.
use Rattle.std.proofs.Common.{◌≡◌, ◌∙◌, ◌<◌, ◌≤◌, ◌+◌, ◌-◌, ◌++◌, ℕ, zero, suc, List, [], ◌∷◌, Option, Some, length, map, drop, sym, ap, arith}
use Rattle.std.specs.Prelude.{is_some, option_to_list, slice_get}
use Rattle.std.specs.List.{range_with_len}
use Rattle.std.proofs.lemmas.List.{append_assoc}
use Rattle.gl_records.specs.declared.clip_vertex.ClipVertex.{ClipVertex}
use Rattle.gl_records.specs.declared.prim.PrimKind.{PrimKind}
use Rattle.gl_records.specs.declared.prim.Primitive.{Primitive}
use Rattle.gl_records.specs.declared.setup_rules.SetupRules.{SetupRules}
use Rattle.gl_records.specs.declared.size.Size.{Size}
use Rattle.primitive_setup.specs.Setup.{setup_of}
use Rattle.draw_primitives.specs.declared.draw_state.DrawState.{DrawState}
use Rattle.draw_primitives.specs.Draw.{corners_of, set_up_of, set_up_all}
use Rattle.draw_primitives.specs.Memory.{Source}
use Rattle.draw_primitives.specs.Fan.{clipped, fan, fan_from, piece, set_up}

-- the pieces of a fan from one on are that one, and then those from the next one on
pub fan-next : (polygon : List ClipVertex) (i : ℕ) → i < length polygon - 2 → fan_from polygon i ≡ piece polygon i ∷ fan_from polygon (i + 1)
fan-next polygon i some =
    let count : length polygon - 2 - i ≡ suc (length polygon - 2 - (i + 1)) = omega arith in
    ap (λ (n : ℕ). map (piece polygon) (range_with_len i n)) count

-- behind the last there are none
pub fan-none : (polygon : List ClipVertex) (i : ℕ) → length polygon - 2 ≤ i → fan_from polygon i ≡ []
fan-none polygon i none =
    let count : length polygon - 2 - i ≡ 0 = omega arith in
    ap (λ (n : ℕ). map (piece polygon) (range_with_len i n)) count

-- what set-up makes of a piece, and then of those from the next one on
pub fan-set-up : (rules : SetupRules) (kind : PrimKind) (size : Size) (polygon : List ClipVertex) (i : ℕ) (prim : Option Primitive) → i < length polygon - 2
    → setup_of rules kind (piece polygon i) size ≡ prim
    → set_up rules kind size (fan_from polygon i) ≡ option_to_list prim ++ set_up rules kind size (fan_from polygon (i + 1))
fan-set-up rules kind size polygon i prim some is =
    ap (set_up rules kind size) (fan-next polygon i some) ∙ ap (λ (p : Option Primitive). option_to_list p ++ set_up rules kind size (fan_from polygon (i + 1))) is

-- a list from place k on, by its element there
drop-next : {A : Type 0} (all : List A) (k : ℕ) (x : A) → slice_get all k ≡ Some x → drop k all ≡ x ∷ drop (suc k) all
drop-next [] k x is = absurd cc
drop-next (y ∷ all) zero x is = cc
drop-next (y ∷ all) (suc k) x is = drop-next all k x is

-- the pieces of a primitive, of which set-up makes this one and what it makes of the later ones
set-up-next : (state : DrawState) (source : Source) (size : Size) (kind : PrimKind) (numbers : List ℕ) (prim : Option Primitive) (pieces later : List (List ClipVertex))
    → pieces ≡ fan (clipped kind (is_some state.vertex.plane) (corners_of state source numbers))
    → set_up state.rules kind size pieces ≡ option_to_list prim ++ set_up state.rules kind size later
    → set_up_of state source size kind numbers ≡ option_to_list prim ++ set_up state.rules kind size later
unfolding set_up_of
set-up-next state source size kind numbers prim pieces later is made = ap (set_up state.rules kind size) (sym is) ∙ made

-- the primitives from number k on, of which set-up makes this one, those of the pieces left, and those behind
pub left-next : (state : DrawState) (source : Source) (size : Size) (kind : PrimKind) (all : List (List ℕ)) (k : ℕ) (numbers : List ℕ) (prim : Option Primitive) (pieces later : List (List ClipVertex))
    → slice_get all k ≡ Some numbers
    → pieces ≡ fan (clipped kind (is_some state.vertex.plane) (corners_of state source numbers))
    → set_up state.rules kind size pieces ≡ option_to_list prim ++ set_up state.rules kind size later
    → set_up_all state source size kind (drop k all)
    ≡ option_to_list prim ++ (set_up state.rules kind size later ++ set_up_all state source size kind (drop (k + 1) all))
left-next state source size kind all k numbers prim pieces later at is made =
    let after : suc k ≡ k + 1 = omega arith in
    ap (set_up_all state source size kind) (drop-next all k numbers at ∙ ap (λ (n : ℕ). numbers ∷ drop n all) after)
    ∙ ap (λ (own : List Primitive). own ++ set_up_all state source size kind (drop (k + 1) all)) (set-up-next state source size kind numbers prim pieces later is made)
    ∙ append_assoc (option_to_list prim) (set_up state.rules kind size later) (set_up_all state source size kind (drop (k + 1) all))
