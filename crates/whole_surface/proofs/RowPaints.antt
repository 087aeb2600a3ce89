-- The colours of a row that are asked for, and what is painted with them.
use Rattle.std.proofs.Common.{◌≡◌, ◌≢◌, ◌∙◌, ◌<◌, ◌≤◌, ◌+◌, ◌-◌, ◌*◌, ◌⊎◌, inl, inr, ℕ, Bool, true, sym, ap, arith}
use Rattle.std.specs.Prelude.{List, [], get_or, if◌then◌else◌}
use Rattle.std.specs.Int.{bit_at}
use Rattle.std.proofs.lemmas.Bool.{and_parts, cases_eq}
use Rattle.gl_records.specs.Scissor.{scissor_holds}
use Rattle.surface_tiles.specs.declared.tile.Tile.{Tile}
use Rattle.texture_env.specs.Rows.{AreCovered, HaveColors}
use Rattle.texture_env.specs.Shaders.{OnTile, color_of}
use Rattle.whole_surface.specs.Asked.{AreAsked, ArePaints, IsUnasked}
use Rattle.whole_surface.specs.Parts.{IsSpan, pixel_in}
use Rattle.whole_surface.specs.Subjects.{covered_on, drawn_on, drawn_with, shown_on, step_on}
use Rattle.whole_surface.proofs.Bits.{cases_bit, clear_bit, set_bit, step_shown, step_unshown}
use Rattle.whole_surface.proofs.Spans.{span_same}

-- ---- which are asked for
-- all of them may be
pub asked_all : (on : OnTile) (row : ℕ) (keeps : Bool) (tile : Tile) (bits : ℕ) → AreAsked on row keeps tile bits bits
asked_all on row keeps tile bits = record {
  among = λ i within set. set;
  others = λ i within set clear. absurd (omega arith);
}

among_after : (bits asked after i : ℕ) → ((j : ℕ) → j < 16 → bit_at asked j ≡ 1 → bit_at bits j ≡ 1)
    → ((j : ℕ) → j < 16 → j ≢ i → bit_at after j ≡ bit_at asked j) → (bit_at after i ≡ 1 → bit_at asked i ≡ 1)
    → (j : ℕ) → j < 16 → (j ≡ i) ⊎ (j ≡ i → ⊥) → bit_at after j ≡ 1 → bit_at bits j ≡ 1
among_after bits asked after i among others here j within (inl same) set = among j within (rw same (here (rw same at set)))
among_after bits asked after i among others here j within (inr other) set = among j within (sym (others j within other) ∙ set)

others_after : {on : OnTile} {row : ℕ} {keeps : Bool} {tile : Tile} {bits : ℕ} (asked after i : ℕ) → AreAsked on row keeps tile bits asked
    → ((j : ℕ) → j < 16 → j ≢ i → bit_at after j ≡ bit_at asked j)
    → (bit_at asked i ≡ 1 → bit_at after i ≡ 0 → IsUnasked on i row keeps (pixel_in tile (16 * row + i)))
    → (j : ℕ) → j < 16 → bit_at bits j ≡ 1 → bit_at after j ≡ 0 → (j ≡ i) ⊎ (j ≡ i → ⊥) → (bit_at asked j ≡ 1) ⊎ (bit_at asked j ≡ 0)
    → IsUnasked on j row keeps (pixel_in tile (16 * row + j))
others_after asked after i are others unasked j within set clear (inl same) (inl was) = rw same (unasked (rw same at was) (rw same at clear))
others_after asked after i are others unasked j within set clear same (inr was) = are.others j within set was
others_after asked after i are others unasked j within set clear (inr other) was = are.others j within set (sym (others j within other) ∙ clear)

-- without one that isn't
pub asked_after : {on : OnTile} {row : ℕ} {keeps : Bool} {tile : Tile} {bits : ℕ} (asked after i : ℕ) → AreAsked on row keeps tile bits asked
    → ((j : ℕ) → j < 16 → j ≢ i → bit_at after j ≡ bit_at asked j) → (bit_at after i ≡ 1 → bit_at asked i ≡ 1)
    → (bit_at asked i ≡ 1 → bit_at after i ≡ 0 → IsUnasked on i row keeps (pixel_in tile (16 * row + i)))
    → AreAsked on row keeps tile bits after
asked_after {bits} asked after i are others here unasked = record {
  among = λ j within set. among_after bits asked after i are.among others here j within (cases_eq j i) set;
  others = λ j within set clear. others_after asked after i are others unasked j within set clear (cases_eq j i) (cases_bit asked j);
}

-- ---- what is painted
-- the row's bits say which pixels are shown
pub covered_by : (on : OnTile) (row bits : ℕ) → ((i : ℕ) → i < 16 → bit_at bits i ≡ (if shown_on on i row then 1 else 0)) → AreCovered on bits row
covered_by on row bits told i within set =
    (and_parts (covered_on on i row) (scissor_holds on.subject.state.scissor (on.rect.x0 + i) (on.rect.y0 + row)) (set_bit _ _ (told i within) set)).0

painted_by : {on : OnTile} {row : ℕ} {keeps : Bool} {tile : Tile} {bits asked : ℕ} (colors : List (List ℕ)) → AreAsked on row keeps tile bits asked
    → HaveColors asked (λ i. color_of on.subject (on.rect.x0 + i) (on.rect.y0 + row)) colors
    → (i : ℕ) → i < 16 → bit_at bits i ≡ 1 → (bit_at asked i ≡ 1) ⊎ (bit_at asked i ≡ 0)
    → drawn_with on i row (get_or colors i []) (pixel_in tile (16 * row + i)) ≡ drawn_on on i row (pixel_in tile (16 * row + i))
painted_by {on} {row} {keeps} {tile} colors are found i within set (inl is) =
    ap (λ (rgba : List ℕ). drawn_with on i row rgba (pixel_in tile (16 * row + i))) (found i within is)
painted_by colors are found i within set (inr not) = (are.others i within set not).for_any (get_or colors i [])

left_by : {on : OnTile} {row : ℕ} {keeps : Bool} {tile : Tile} {bits asked : ℕ} → ((i : ℕ) → i < 16 → bit_at bits i ≡ (if shown_on on i row then 1 else 0))
    → AreAsked on row keeps tile bits asked → keeps ≡ true
    → (i : ℕ) → i < 16 → bit_at asked i ≡ 0 → (bit_at bits i ≡ 1) ⊎ (bit_at bits i ≡ 0)
    → pixel_in tile (16 * row + i) ≡ step_on on (16 * row + i) (pixel_in tile (16 * row + i))
left_by {on} {row} told are keeps i within clear (inl set) =
    sym ((are.others i within set clear).stays keeps) ∙ sym (step_shown on row i _ within (set_bit _ _ (told i within) set))
left_by {on} {row} told are keeps i within clear (inr none) = sym (step_unshown on row i _ within (clear_bit _ _ (told i within) none))

-- all pixels that are shown are painted
pub paints_all : {on : OnTile} {row : ℕ} {keeps : Bool} {tile : Tile} {bits asked : ℕ} (colors : List (List ℕ))
    → ((i : ℕ) → i < 16 → bit_at bits i ≡ (if shown_on on i row then 1 else 0)) → AreAsked on row keeps tile bits asked
    → HaveColors asked (λ i. color_of on.subject (on.rect.x0 + i) (on.rect.y0 + row)) colors
    → ArePaints on row tile bits colors
paints_all {on} {row} {bits} {asked} colors told are found = record {
  covered = covered_by on row bits told;
  painted = λ i within set.
      painted_by colors are found i within set (cases_bit asked i) ∙ sym (step_shown on row i _ within (set_bit _ _ (told i within) set));
  left = λ i within none. sym (step_unshown on row i _ within (clear_bit _ _ (told i within) none));
}

-- those that are asked for are, where the others stay
pub paints_asked : {on : OnTile} {row : ℕ} {keeps : Bool} {tile : Tile} {bits asked : ℕ} (colors : List (List ℕ))
    → ((i : ℕ) → i < 16 → bit_at bits i ≡ (if shown_on on i row then 1 else 0)) → AreAsked on row keeps tile bits asked
    → HaveColors asked (λ i. color_of on.subject (on.rect.x0 + i) (on.rect.y0 + row)) colors → keeps ≡ true
    → ArePaints on row tile asked colors
paints_asked {on} {row} {bits} {asked} colors told are found keeps = record {
  covered = λ i within set. covered_by on row bits told i within (are.among i within set);
  painted = λ i within set.
      painted_by colors are found i within (are.among i within set) (inl set)
      ∙ sym (step_shown on row i _ within (set_bit _ _ (told i within) (are.among i within set)));
  left = λ i within clear. left_by told are keeps i within clear (cases_bit bits i);
}

-- a part of the row with no bit is as it is to be, also once other parts were painted
pub left_run : {on : OnTile} {row bits : ℕ} {colors : List (List ℕ)} {old : Tile} → ArePaints on row old bits colors → (new : Tile) (from to : ℕ) → to ≤ 16
    → ((i : ℕ) → from ≤ i → i < to → bit_at bits i ≡ 0) → ((k : ℕ) → 16 * row + from ≤ k → k < 16 * row + to → pixel_in new k ≡ pixel_in old k)
    → IsSpan (step_on on) (16 * row + from) (16 * row + to) new new
left_run {on} {row} {bits} {colors} {old} paints new from to within none same =
    span_same _ _ _ _ (λ k low high.
    let i = k - 16 * row in
    let at : 16 * row + i ≡ k = omega arith in
    let less : i < 16 = omega arith in
    let begun : from ≤ i = omega arith in
    let not_ended : i < to = omega arith in
    let is : pixel_in old k ≡ step_on on k (pixel_in old k) = rw at at (paints.left i less (none i begun not_ended)) in
    rw (same k low high) (sym is))
