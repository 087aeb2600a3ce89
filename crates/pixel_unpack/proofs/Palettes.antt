-- Palettes, the indices into them, and the levels from one to the next.
use Rattle.std.proofs.Common.{if◌then◌else◌, ◌≡◌, ◌<◌, ◌≤◌, ◌+◌, ◌*◌, ◌/◌, ◌%◌, ◌^◌, ◌==◌, ℕ, true, false, List, [], ◌∷◌, ◌++◌, length, map, get_or, All, subst, refl, sym, add_assoc, ap, ◌∙◌, arith}
use Rattle.std.specs.List.{range_with_len}
use Rattle.std.proofs.lemmas.List.FromFn.{length-map-range_with_len, get_or-map-range_with_len, map-range_with_len_more}
use Rattle.std.proofs.Math.Nat.{div-eq_of_lt}
use Rattle.std.proofs.Math.Pow.{pow_mono}
use Rattle.gl_tokens.specs.declared.palette_format.PaletteFormat.{PaletteFormat}
use Rattle.gl_records.specs.declared.level.Level.{Level}
use Rattle.pixel_unpack.specs.Texel.{texel_at}
use Rattle.pixel_unpack.specs.Image.{texel_row}
use Rattle.pixel_unpack.specs.Palette.{index_bits, entry_format, entry_kind, entry_bytes, entry, entries, entries_bytes, index_at, named_texels, level_texels, level_side, level_bytes, level, level_at, palette_size, palette_levels}
use Rattle.pixel_unpack.proofs.Ranges.{maps_same, sums_more}

-- the entries are a row of texels at the front of the piece
pub row-entries : (format : PaletteFormat) (piece : List ℕ) → texel_row (entry_format format) (entry_kind format) (2 ^ index_bits format) piece 0 ≡ entries format piece
row-entries format piece =
    let near : (k : ℕ) → 0 + k * entry_bytes format ≡ k * entry_bytes format = λ k. omega arith in
    maps_same (λ k. texel_at (entry_format format) (entry_kind format) piece (0 + k * entry_bytes format)) (λ k. entry format piece k)
    (λ k. ap (λ (start : ℕ). texel_at (entry_format format) (entry_kind format) piece start) (near k)) (range_with_len 0 (2 ^ index_bits format))

-- an index names an entry
pub at-entries : (format : PaletteFormat) (piece : List ℕ) (index : ℕ) → index < 2 ^ index_bits format → get_or (entries format piece) index 0 ≡ entry format piece index
at-entries format piece index within =
    let place : 0 + index ≡ index = omega arith in
    get_or-map-range_with_len (λ k. entry format piece k) 0 (2 ^ index_bits format) index index 0 within place

-- the texels that indices name, through the entries as they were made
pub named-entries : (format : PaletteFormat) (piece palette : List ℕ) (bits start count : ℕ) → palette ≡ entries format piece → index_bits format ≡ bits
    → ((k : ℕ) → index_at bits piece start k < 2 ^ bits)
    → named_texels palette bits piece start count ≡ level_texels format piece start count
named-entries format piece palette bits start count made is within =
    let index = λ (k : ℕ). index_at bits piece start k in
    let below : (k : ℕ) → index k < 2 ^ index_bits format = λ k. rw is (within k) in
    ap (λ (all : List ℕ). map (λ k. get_or all (index k) 0) (range_with_len 0 count)) made
    ∙ maps_same (λ k. get_or (entries format piece) (index k) 0) (λ k. entry format piece (index k))
    (λ k. at-entries format piece (index k) (below k)) (range_with_len 0 count)
    ∙ ap (λ (n : ℕ). map (λ k. entry format piece (index_at n piece start k)) (range_with_len 0 count)) (sym is)

-- indices of so many bits
pub nibble-below : (piece : List ℕ) (start k : ℕ) → ((i : ℕ) → get_or piece i 0 < 256) → index_at 4 piece start k < 16
nibble-below piece start k bytes =
    let byte = get_or piece (start + k / 2) 0 in
    let small : byte < 256 = bytes (start + k / 2) in
    let high : byte / 16 < 16 = omega arith in
    let low : byte % 16 < 16 = omega arith in
    elim (k % 2 == 0) as (λ even. (if even then byte / 16 else byte % 16) < 16) [ true ↦ high | false ↦ low ]

-- a side that is halved more often than it has bits
pub halved-far : (side level : ℕ) → side < 65536 → 16 ≤ level → side / 2 ^ level ≡ 0
halved-far side level small far =
    let bits : 2 ^ 16 ≤ 2 ^ level = pow_mono far in
    let less : side < 2 ^ level = omega arith in
    div-eq_of_lt less

-- no level takes a byte, and one more its own
pub size-nil : (format : PaletteFormat) (w h : ℕ) → palette_size format w h 0 ≡ entries_bytes format
unfolding palette_size
size-nil format w h = omega arith

pub size_more : (format : PaletteFormat) (w h i : ℕ) → palette_size format w h (i + 1) ≡ palette_size format w h i + level_bytes format w h i
unfolding palette_size
size_more format w h i =
    let more = sums_more (λ j. level_bytes format w h j) i in
    ap (λ (n : ℕ). entries_bytes format + n) more ∙ sym (add_assoc _ _ _)

-- no level, and one more
pub levels-nil : (format : PaletteFormat) (w h : ℕ) (piece : List ℕ) → palette_levels format w h 0 piece ≡ []
unfolding palette_levels
levels-nil format w h piece = refl

pub levels_more : (format : PaletteFormat) (w h i : ℕ) (piece : List ℕ) → palette_levels format w h (i + 1) piece ≡ palette_levels format w h i piece ++ level format w h piece i ∷ []
unfolding palette_levels
levels_more format w h i piece =
    let place : 0 + i ≡ i = omega arith in
    map-range_with_len_more (λ j. level format w h piece j) 0 i i place

-- the next level is behind those so far
pub levels_push : (format : PaletteFormat) (w h i w_i h_i start : ℕ) (piece : List ℕ) (all : List Level) (made : Level)
    → all ≡ palette_levels format w h i piece → w_i ≡ level_side w i → h_i ≡ level_side h i → start ≡ palette_size format w h i
    → made ≡ level_at format w_i h_i piece start → all ++ made ∷ [] ≡ palette_levels format w h (i + 1) piece
levels_push format w h i w_i h_i start piece all made so_far wide high behind is =
    ap (λ (front : List Level). front ++ made ∷ []) so_far
    ∙ ap (λ (last : Level). palette_levels format w h i piece ++ last ∷ [])
    (is ∙ ap (λ (x : ℕ). level_at format x h_i piece start) wide
    ∙ ap (λ (y : ℕ). level_at format (level_side w i) y piece start) high
    ∙ ap (λ (z : ℕ). level_at format (level_side w i) (level_side h i) piece z) behind)
    ∙ sym (levels_more format w h i piece)

-- so many levels, each with as many texels as its sides say
pub length-levels : (format : PaletteFormat) (w h levels : ℕ) (piece : List ℕ) → length (palette_levels format w h levels piece) ≡ levels
unfolding palette_levels
length-levels format w h levels piece = length-map-range_with_len (λ i. level format w h piece i) 0 levels

pub filled-levels : (format : PaletteFormat) (w h levels : ℕ) (piece : List ℕ) → All (λ level. length level.texels ≡ level.w * level.h) (palette_levels format w h levels piece)
unfolding palette_levels
filled-levels format w h levels piece = λ k d within.
    let of = λ (i : ℕ). level format w h piece i in
    let inside : k < levels = omega (arith, length-map-range_with_len of 0 levels) in
    let place : 0 + k ≡ k = omega arith in
    let P : Level → Type 0 = λ made. length made.texels ≡ made.w * made.h in
    let texels = length-map-range_with_len (λ j. entry format piece (index_at (index_bits format) piece (palette_size format w h k) j)) 0 (level_side w k * level_side h k) in
    subst P (sym (get_or-map-range_with_len of 0 levels k k d inside place)) texels
