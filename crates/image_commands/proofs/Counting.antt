-- What an image counts for limits after a write.
use Rattle.std.proofs.Common.{◌≡◌, ◌<◌, ◌≤◌, ◌+◌, ◌*◌, ◌==◌, ◌||◌, ◌&&◌, ℕ, Bool, true, false, not, if◌then◌else◌, List, [], ◌∷◌, get_or, slice_set, Option, None, Some, inl, inr, refl, sym, ap, subst, ◌∙◌, arith}
use Rattle.std.specs.List.{range_with_len, sum_by}
use Rattle.std.proofs.lemmas.Bool.{cases_lt, le-ltb, lt-ltb}
use Rattle.std.proofs.lemmas.Bool.Decides.{eqb_tells}
use Rattle.std.proofs.lemmas.List.Sums.{get_or-le-sum_by, sum_by-set}
use Rattle.gl_tokens.specs.declared.base_format.BaseFormat.{BaseFormat}
use Rattle.gl_tokens.specs.declared.palette_format.PaletteFormat.{PaletteFormat}
use Rattle.gl_tokens.specs.declared.texel_type.TexelType.{TexelType}
use Rattle.gl_records.specs.Complete.{level_at}
use Rattle.gl_records.specs.ImageBytes.{image_bytes, level_bytes}
use Rattle.gl_records.specs.declared.level.ImageSet.{ImageSet}
use Rattle.gl_records.specs.declared.level.Level.{Level as TexelLevel}
use Rattle.pixel_unpack.specs.Image.{image as unpacked}
use Rattle.pixel_unpack.specs.Palette.{palette_levels}
use Rattle.pixel_unpack.proofs.Images.{length-image}
use Rattle.image_levels.specs.Levels.{given_level, level_or, with_levels}
use Rattle.image_levels.specs.Mipmaps.{IsFirst, blank_levels, bytes_behind, remade, remade_from}
use Rattle.image_levels.specs.SubImage.{sub_image_of, with_sub_image, with_sub_image_in}
use Rattle.image_levels.specs.declared.texel_box.TexelBox.{TexelBox}
use Rattle.image_levels.proofs.Making.{remade-bytes, sums-same}
use Rattle.image_levels.proofs.Rows.{length-texels_by}
use Rattle.image_commands.specs.Bytes.{palette_bytes, palette_level_bytes}
use Rattle.image_commands.specs.Written.{IsGood, IsPalette, given, new_level, with_level_or_none, written}
use Rattle.image_commands.specs.declared.image_write.ImageWrite.TheVariants.{Level, Area, Palette}
use Rattle.image_commands.proofs.Good.{IsFull, new_level-full, palette_level-at, palette_level-first, palette_level-past, sub_image-full}
use Rattle.image_commands.proofs.Preparing.{at-first, makes-first, remade-none}

-- one level counts no more than all
pub level-part : (image : ImageSet) (k : ℕ) → IsGood image → k < 11 → level_bytes (level_at image k) ≤ image_bytes image
unfolding image_bytes
level-part image k good small = get_or-le-sum_by level_bytes image.levels k None (omega (arith, small, good.count))

-- with another level in a place
level-counted : (image : ImageSet) (k : ℕ) (new : Option TexelLevel) → IsGood image → k < 11
    → image_bytes (with_level_or_none image k new) + level_bytes (level_at image k) ≡ image_bytes image + level_bytes new
unfolding image_bytes
level-counted image k new good small = sum_by-set level_bytes image.levels k new None (omega (arith, small, good.count))

-- what TexImage2D gives
new_level-bytes : (format : BaseFormat) (kind : TexelType) (w h align : ℕ) (piece : List ℕ) → level_bytes (new_level format kind w h align piece) ≡ 4 * (w * h)
new_level-bytes format kind w h align piece = elim (eqb_tells w 0) [
  | inl none ↦ rw none.0 (let w_is = none.1 in rw w_is (omega arith))
  | inr some ↦ elim (eqb_tells h 0) [
    | inl none ↦ rw (some.0, none.0) (let h_is = none.1 in rw h_is (omega arith))
    | inr high ↦ rw (some.0, high.0) (ap (λ (n : ℕ). 4 * n) (length-image format kind align w h piece))
  ]
]

-- what the levels behind level 0 count doesn't hang on level 0
behind-same : (levels : List (Option TexelLevel)) (new : Option TexelLevel) (w h : ℕ)
    → bytes_behind (record { levels = slice_set levels 0 new }) w h ≡ bytes_behind (record { levels = levels }) w h
unfolding bytes_behind
behind-same [] new w h = refl
behind-same (l ∷ ls) new w h = refl

-- the image with levels that are made
remade-counted : (set : ImageSet) (first : TexelLevel) → level_at set 0 ≡ Some first → IsFirst first
    → image_bytes (remade set) ≡ 4 * (first.w * first.h) + bytes_behind set first.w first.h
unfolding image_bytes remade
remade-counted set first at is =
    ap (λ (found : Option TexelLevel). sum_by level_bytes (remade_from found set.levels)) at
    ∙ remade-bytes (Some first) set (blank_levels first.w first.h first.format) at (is, refl)

-- a level 0 that is given, and the levels that are made of it
made-counted : (image : ImageSet) (k : ℕ) (first : TexelLevel) → IsGood image → k ≡ 0 → IsFirst first
    → image_bytes (remade (with_level_or_none image k (Some first))) ≡ 4 * (first.w * first.h) + bytes_behind image first.w first.h
made-counted image k first good is first_is =
    remade-counted (with_level_or_none image k (Some first)) first (at-first image k (Some first) good is) first_is
    ∙ ap (λ (i : ℕ). 4 * (first.w * first.h) + bytes_behind (with_level_or_none image i (Some first)) first.w first.h) is
    ∙ ap (λ (n : ℕ). 4 * (first.w * first.h) + n) (behind-same image.levels (Some first) first.w first.h)

-- ---- TexImage2D

-- where no level is made, the level is all that is given
plain-level : (image : ImageSet) (k : ℕ) (new : Option TexelLevel) (makes : Bool) → IsGood image → (makes ≡ true → k ≡ 0) → (makes ≡ true → new ≡ None)
    → (if makes then remade (with_level_or_none image k new) else with_level_or_none image k new) ≡ with_level_or_none image k new
plain-level image k new false good first none = refl
plain-level image k new true good first none = remade-none (with_level_or_none image k new) (at-first image k new good (first refl) ∙ none refl)

not-false : (b : Bool) → not b ≡ false → b ≡ true
not-false true e = refl
not-false false e = absurd (cc)

none-there : (format : BaseFormat) (kind : TexelType) (w h align : ℕ) (piece : List ℕ) (makes : Bool) → (makes && not (w == 0 || h == 0)) ≡ false → makes ≡ true
    → new_level format kind w h align piece ≡ None
none-there format kind w h align piece true none is = rw (not-false (w == 0 || h == 0) none) refl
none-there format kind w h align piece false none is = absurd (cc)

pub level-plain : (image : ImageSet) (k : ℕ) (format : BaseFormat) (kind : TexelType) (w h : ℕ) (remakes : Bool) (align : ℕ) (piece : List ℕ) (result : ℕ)
    → IsGood image → k < 11 → (remakes && (k == 0) && not ((w == 0) || (h == 0))) ≡ false
    → result + level_bytes (level_at image k) ≡ image_bytes image + 4 * (w * h)
    → result ≡ image_bytes (written image (Level k format kind w h) remakes align piece)
unfolding written given
level-plain image k format kind w h remakes align piece result good small none is =
    let new = new_level format kind w h align piece in
    let makes = remakes && (k == 0) in
    let after = plain-level image k new makes good (makes-first remakes k) (none-there format kind w h align piece makes none) in
    let counted = level-counted image k new good small in
    let size = new_level-bytes format kind w h align piece in
    let all : result ≡ image_bytes (with_level_or_none image k new) = omega (arith, is, counted, size) in
    all ∙ ap image_bytes (sym after)

and-true : (a b : Bool) → (a && b) ≡ true → (a ≡ true) × (b ≡ true)
and-true true b e = (refl, e)
and-true false b e = absurd (cc)

not-true : (b : Bool) → not b ≡ true → b ≡ false
not-true true e = absurd (cc)
not-true false e = refl

pub level-made : (image : ImageSet) (k : ℕ) (format : BaseFormat) (kind : TexelType) (w h : ℕ) (remakes : Bool) (align : ℕ) (piece : List ℕ) (result : ℕ)
    → IsGood image → w ≤ 1024 → h ≤ 1024 → (remakes && (k == 0) && not ((w == 0) || (h == 0))) ≡ true
    → result ≡ 4 * (w * h) + bytes_behind image w h
    → result ≡ image_bytes (written image (Level k format kind w h) remakes align piece)
unfolding written given
level-made image k format kind w h remakes align piece result good w_most h_most makes is =
    let both = and-true (remakes && (k == 0)) (not ((w == 0) || (h == 0))) makes in
    let first = makes-first remakes k both.0 in
    let some = not-true ((w == 0) || (h == 0)) both.1 in
    let new : TexelLevel = record { w = w; h = h; format = format; texels = unpacked format kind align w h piece } in
    let there : new_level format kind w h align piece ≡ Some new = rw some refl in
    let full : IsFirst new = let f : IsFull (Some new) = subst IsFull there (new_level-full format kind w h align piece w_most h_most) in f in
    rw (both.0, some) (is ∙ sym (made-counted image k new good first full))

-- ---- TexSubImage2D

sub_image-bytes : (found : Option TexelLevel) (area : TexelBox) (texels : List ℕ) → IsFull found → level_bytes (sub_image_of found area texels) ≡ level_bytes found
sub_image-bytes None area texels full = refl
sub_image-bytes (Some old) area texels full = ap (λ (n : ℕ). 4 * n) (length-texels_by old.w old.h _ ∙ sym full.filled)

area-counted : (image : ImageSet) (k : ℕ) (area : TexelBox) (texels : List ℕ) → IsGood image → k < 11 → image_bytes (with_sub_image_in image k area texels) ≡ image_bytes image
area-counted image k area texels good small =
    let counted = level-counted image k (sub_image_of (level_at image k) area texels) good small in
    let same = sub_image-bytes (level_at image k) area texels (good.each k) in
    omega (arith, counted, same)

pub area-plain : (image : ImageSet) (k : ℕ) (area : TexelBox) (format : BaseFormat) (kind : TexelType) (remakes : Bool) (align : ℕ) (piece : List ℕ)
    → IsGood image → k < 11 → (remakes && (k == 0)) ≡ false
    → image_bytes image ≡ image_bytes (written image (Area k area format kind) remakes align piece)
unfolding written given
area-plain image k area format kind remakes align piece good small none =
    rw none (sym (area-counted image k area (unpacked format kind align area.w area.h piece) good small))

-- no level 0 is there
pub area-none : (image : ImageSet) (k : ℕ) (area : TexelBox) (format : BaseFormat) (kind : TexelType) (remakes : Bool) (align : ℕ) (piece : List ℕ)
    → IsGood image → k < 11 → (remakes && (k == 0)) ≡ true → level_at image 0 ≡ None
    → image_bytes image ≡ image_bytes (written image (Area k area format kind) remakes align piece)
unfolding written given
area-none image k area format kind remakes align piece good small makes none =
    let texels = unpacked format kind align area.w area.h piece in
    let first = makes-first remakes k makes in
    let gone : sub_image_of (level_at image k) area texels ≡ None =
    ap (λ (i : ℕ). sub_image_of (level_at image i) area texels) first ∙ ap (λ (found : Option TexelLevel). sub_image_of found area texels) none in
    let same = remade-none (with_sub_image_in image k area texels) (at-first image k (sub_image_of (level_at image k) area texels) good first ∙ gone) in
    rw makes (sym (area-counted image k area texels good small) ∙ ap image_bytes (sym same))

pub area-made : (image : ImageSet) (k : ℕ) (area : TexelBox) (format : BaseFormat) (kind : TexelType) (remakes : Bool) (align : ℕ) (piece : List ℕ) (old : TexelLevel) (result : ℕ)
    → IsGood image → (remakes && (k == 0)) ≡ true → level_at image 0 ≡ Some old
    → result ≡ 4 * (old.w * old.h) + bytes_behind image old.w old.h
    → result ≡ image_bytes (written image (Area k area format kind) remakes align piece)
unfolding written given
area-made image k area format kind remakes align piece old result good makes there is =
    let texels = unpacked format kind align area.w area.h piece in
    let first = makes-first remakes k makes in
    let new = with_sub_image old area texels in
    let full : IsFirst new = let f : IsFull (Some new) = sub_image-full (Some old) area texels (subst IsFull there (good.each 0)) in f in
    let given_is : sub_image_of (level_at image k) area texels ≡ Some new =
    ap (λ (i : ℕ). sub_image_of (level_at image i) area texels) first ∙ ap (λ (found : Option TexelLevel). sub_image_of found area texels) there in
    rw makes (is ∙ sym (ap (λ (found : Option TexelLevel). image_bytes (remade (with_level_or_none image k found))) given_is ∙ made-counted image k new good first full))

-- ---- CompressedTexImage2D

palette-each : (image : ImageSet) (format : PaletteFormat) (w h levels : ℕ) (piece : List ℕ) (k : ℕ) → IsPalette w h levels
    → level_bytes (given_level (palette_levels format w h levels piece) image.levels k) ≡ palette_level_bytes image w h levels k
palette-each image format w h levels piece k is = elim (cases_lt k levels) [
  | inl inside ↦
      ap (λ (new : Option TexelLevel). level_bytes (level_or new (get_or image.levels k None))) (palette_level-at format w h levels piece k inside)
      ∙ ap (λ (n : ℕ). 4 * n) (palette_level-first format w h levels piece k is).filled ∙ rw (lt-ltb k levels inside) refl
  | inr past ↦
      ap (λ (new : Option TexelLevel). level_bytes (level_or new (get_or image.levels k None))) (palette_level-past format w h levels piece k past)
      ∙ rw (le-ltb k levels past) refl
]

palette-given : (image : ImageSet) (format : PaletteFormat) (w h levels : ℕ) (piece : List ℕ) → IsPalette w h levels
    → image_bytes (with_levels image (palette_levels format w h levels piece)) ≡ palette_bytes image w h levels
unfolding image_bytes with_levels palette_bytes
palette-given image format w h levels piece is =
    sums-same (λ k. given_level (palette_levels format w h levels piece) image.levels k) (λ k. palette_level_bytes image w h levels k) (range_with_len 0 11)
    (λ k. palette-each image format w h levels piece k is)

pub palette-counted : (image : ImageSet) (format : PaletteFormat) (w h levels : ℕ) (remakes : Bool) (align : ℕ) (piece : List ℕ) → IsPalette w h levels
    → palette_bytes image w h levels ≡ image_bytes (written image (Palette format w h levels) remakes align piece)
unfolding written given
palette-counted image format w h levels true align piece is = sym (palette-given image format w h levels piece is)
palette-counted image format w h levels false align piece is = sym (palette-given image format w h levels piece is)
