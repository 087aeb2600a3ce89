-- What holds of an image before a write holds after it.
use Rattle.std.proofs.Common.{◌≡◌, ◌<◌, ◌≤◌, ◌*◌, ◌/◌, ◌^◌, ◌&&◌, ℕ, Bool, true, false, if◌then◌else◌, List, Option, None, Some, IfSome, All, length, map, get_or, slice_set, inl, inr, refl, sym, ap, subst, ◌∙◌, arith}
use Rattle.std.specs.Prelude.{slice_get}
use Rattle.std.specs.List.{range_with_len}
use Rattle.std.proofs.lemmas.Bool.{cases_lt}
use Rattle.std.proofs.lemmas.Bool.Decides.{eqb_tells}
use Rattle.std.proofs.lemmas.List.{get_or-set_other, get_or-set_same, get_or_default, get_or-replicate, get_or_past, length-set}
use Rattle.std.proofs.lemmas.List.FromFn.{get_or-map-range_with_len, length-map-range_with_len}
use Rattle.std.proofs.lemmas.List.Sums.{sum_by-le}
use Rattle.std.proofs.lemmas.Option.{slice_get-get_or, slice_get_past}
use Rattle.std.proofs.Math.Nat.{div-le_self, max-le, le-max_right, mul-le-mul}
use Rattle.gl_tokens.specs.declared.base_format.BaseFormat.{BaseFormat}
use Rattle.gl_tokens.specs.declared.palette_format.PaletteFormat.{PaletteFormat}
use Rattle.gl_tokens.specs.declared.texel_type.TexelType.{TexelType}
use Rattle.gl_records.specs.Complete.{halved, last_of, level_at}
use Rattle.gl_records.specs.ImageBytes.{empty_image, image_bytes, level_bytes}
use Rattle.gl_records.specs.declared.level.ImageSet.{ImageSet}
use Rattle.gl_records.specs.declared.level.Level.{Level as TexelLevel}
use Rattle.pixel_unpack.specs.Palette.{entry, index_at, index_bits, level, level_side, palette_levels, palette_size}
use Rattle.pixel_unpack.proofs.Images.{length-image}
use Rattle.image_levels.specs.Levels.{given_level, level_or, with_levels}
use Rattle.image_levels.specs.Mipmaps.{IsFirst, made_level, mipmap_level, remade}
use Rattle.image_levels.specs.SubImage.{is_among, sub_image_of}
use Rattle.image_levels.specs.declared.texel_box.TexelBox.{TexelBox}
use Rattle.image_levels.proofs.Chains.{mipmap_level-filled, mipmap_level-h, mipmap_level-w}
use Rattle.image_levels.proofs.Rows.{length-texels_by}
use Rattle.image_commands.specs.Written.{IsGood, IsPalette, IsPossible, given, makes_levels, new_level, with_level_or_none, written}
use Rattle.image_commands.specs.declared.image_write.ImageWrite.{ImageWrite}
use Rattle.image_commands.specs.declared.image_write.ImageWrite.TheVariants.{Level, Area, Palette}

-- a level that is there has texels
abbrev pub IsFull : Option TexelLevel → Type 0
IsFull found = IfSome found IsFirst

-- with another level, or none, in a place
pub set-good : (image : ImageSet) (k : ℕ) (new : Option TexelLevel) → IsGood image → k < 11 → IsFull new → IsGood (with_level_or_none image k new)
set-good image k new good small full = record {
  count = length-set image.levels k new ∙ good.count;
  each = λ j. elim (eqb_tells j k) [
    | inl is ↦
        let inside : k < length image.levels = omega (arith, small, good.count) in
        let here : get_or (slice_set image.levels k new) j None ≡ new =
        ap (λ (i : ℕ). get_or (slice_set image.levels k new) i None) is.1 ∙ get_or-set_same image.levels k new None inside in
        subst IsFull (sym here) full
    | inr isnt ↦ subst IsFull (sym (get_or-set_other image.levels k j new None isnt.1)) (good.each j)
  ];
}

-- a level that TexImage2D gives
pub new_level-full : (format : BaseFormat) (kind : TexelType) (w h align : ℕ) (piece : List ℕ) → w ≤ 1024 → h ≤ 1024 → IsFull (new_level format kind w h align piece)
new_level-full format kind w h align piece w_most h_most = elim (eqb_tells w 0) [
  | inl none ↦ rw none.0 tt
  | inr some ↦ elim (eqb_tells h 0) [
    | inl none ↦ rw (some.0, none.0) tt
    | inr high ↦
        rw (some.0, high.0) (record {
          filled = length-image format kind align w h piece;
          w_least = omega (arith, some.1);
          w_most = w_most;
          h_least = omega (arith, high.1);
          h_most = h_most;
        })
  ]
]

-- a level with a sub-image
pub sub_image-full : (found : Option TexelLevel) (area : TexelBox) (texels : List ℕ) → IsFull found → IsFull (sub_image_of found area texels)
sub_image-full None area texels full = tt
sub_image-full (Some old) area texels full = record {
  filled = length-texels_by old.w old.h _;
  w_least = full.w_least;
  w_most = full.w_most;
  h_least = full.h_least;
  h_most = full.h_most;
}

-- eleven levels by their numbers
by_number-good : (f : ℕ → Option TexelLevel) → ((k : ℕ) → IsFull (f k)) → IsGood (record { levels = map f (range_with_len 0 11) })
by_number-good f full = record {
  count = length-map-range_with_len f 0 11;
  each = λ k. elim (cases_lt k 11) [
    | inl inside ↦ subst IsFull (sym (get_or-map-range_with_len f 0 11 k k None inside (omega arith))) (full k)
    | inr past ↦ subst IsFull (sym (get_or_past (map f (range_with_len 0 11)) k None (omega (arith, past, length-map-range_with_len f 0 11)))) tt
  ];
}

-- sides of the levels that are made of level 0
halved-least : (side k : ℕ) → 1 ≤ halved side k
halved-least side k = le-max_right (side / 2 ^ k) 1

halved-most : (side k : ℕ) → side ≤ 1024 → halved side k ≤ 1024
halved-most side k most = let less = div-le_self side (2 ^ k) in max-le (omega (arith, less, most)) (omega arith)

-- a level that is made of level 0
pub made-first : (first : TexelLevel) (k : ℕ) → IsFirst first → IsFirst (mipmap_level first k)
made-first first k is =
    let w = mipmap_level-w first k is.w_least in
    let h = mipmap_level-h first k is.h_least in
    record {
      filled = mipmap_level-filled first k is.filled;
      w_least = rw w (halved-least first.w k);
      w_most = rw w (halved-most first.w k is.w_most);
      h_least = rw h (halved-least first.h k);
      h_most = rw h (halved-most first.h k is.h_most);
    }

made_level-full : (first : TexelLevel) (n : ℕ) (levels : List (Option TexelLevel)) (k : ℕ) → IsFirst first → IsFull (get_or levels k None) → IsFull (made_level first n levels k)
made_level-full first n levels k is full =
    elim (is_among 1 n k) as (λ among. IsFull (if among then Some (mipmap_level first k) else get_or levels k None)) [
      | true ↦ made-first first k is
      | false ↦ full
    ]

remade-by : (image : ImageSet) (found : Option TexelLevel) → level_at image 0 ≡ found → IsGood image → IsGood (remade image)
unfolding remade
remade-by image None is good = rw is good
remade-by image (Some first) is good =
    let first_is : IsFirst first = let full : IsFull (Some first) = subst IsFull is (good.each 0) in full in
    rw is (by_number-good (λ k. made_level first (last_of first) image.levels k) (λ k. made_level-full first (last_of first) image.levels k first_is (good.each k)))

-- with the levels behind level 0 made of it
pub remade-good : (image : ImageSet) → IsGood image → IsGood (remade image)
remade-good image good = remade-by image (level_at image 0) refl good

-- a side of a level with a palette
level_side-least : (side i : ℕ) → 1 ≤ side → 1 ≤ level_side side i
level_side-least side i least = let some = le-max_right (side / 2 ^ i) 1 in omega (arith, some, least)

level_side-most : (side i : ℕ) → side ≤ 1024 → level_side side i ≤ 1024
level_side-most side i most = omega (arith, most)

pub palette_level-first : (format : PaletteFormat) (w h levels : ℕ) (piece : List ℕ) (i : ℕ) → IsPalette w h levels → IsFirst (level format w h piece i)
palette_level-first format w h levels piece i is = record {
  filled = length-map-range_with_len (λ k. entry format piece (index_at (index_bits format) piece (palette_size format w h i) k)) 0 (level_side w i * level_side h i);
  w_least = level_side-least w i is.w_least;
  w_most = level_side-most w i is.w_most;
  h_least = level_side-least h i is.h_least;
  h_most = level_side-most h i is.h_most;
}

-- a level that a palette gives is in its place
pub palette_level-at : (format : PaletteFormat) (w h levels : ℕ) (piece : List ℕ) (k : ℕ) → k < levels → slice_get (palette_levels format w h levels piece) k ≡ Some (level format w h piece k)
unfolding palette_levels
palette_level-at format w h levels piece k inside =
    let f = λ (i : ℕ). level format w h piece i in
    let within : k < length (map f (range_with_len 0 levels)) = omega (arith, inside, length-map-range_with_len f 0 levels) in
    slice_get-get_or (map f (range_with_len 0 levels)) k (f k) within ∙ ap Some (get_or-map-range_with_len f 0 levels k k (f k) inside (omega arith))

pub palette_level-past : (format : PaletteFormat) (w h levels : ℕ) (piece : List ℕ) (k : ℕ) → levels ≤ k → slice_get (palette_levels format w h levels piece) k ≡ None
unfolding palette_levels
palette_level-past format w h levels piece k past =
    let f = λ (i : ℕ). level format w h piece i in
    slice_get_past (map f (range_with_len 0 levels)) k (omega (arith, past, length-map-range_with_len f 0 levels))

-- with levels that a palette gives
pub palette-good : (image : ImageSet) (format : PaletteFormat) (w h levels : ℕ) (piece : List ℕ) → IsGood image → IsPalette w h levels
    → IsGood (with_levels image (palette_levels format w h levels piece))
unfolding with_levels
palette-good image format w h levels piece good is =
    let all = palette_levels format w h levels piece in
    by_number-good (λ k. given_level all image.levels k) (λ k. elim (cases_lt k levels) [
      | inl inside ↦
          let found : given_level all image.levels k ≡ Some (level format w h piece k) =
          ap (λ (new : Option TexelLevel). level_or new (get_or image.levels k None)) (palette_level-at format w h levels piece k inside) in
          subst IsFull (sym found) (palette_level-first format w h levels piece k is)
      | inr past ↦
          let found : given_level all image.levels k ≡ get_or image.levels k None =
          ap (λ (new : Option TexelLevel). level_or new (get_or image.levels k None)) (palette_level-past format w h levels piece k past) in
          subst IsFull (sym found) (good.each k)
    ])

pub given-good : (image : ImageSet) (write : ImageWrite) (align : ℕ) (piece : List ℕ) → IsGood image → IsPossible image write → IsGood (given image write align piece)
unfolding given
given-good image (Level k format kind w h) align piece good is = set-good image k _ good is.number (new_level-full format kind w h align piece is.w_most is.h_most)
given-good image (Area k area format kind) align piece good is = set-good image k _ good is.number (sub_image-full (level_at image k) area _ (good.each k))
given-good image (Palette format w h levels) align piece good is = palette-good image format w h levels piece good is

-- an image stays what it is under each write
pub written-good : (image : ImageSet) (write : ImageWrite) (remakes : Bool) (align : ℕ) (piece : List ℕ) → IsGood image → IsPossible image write
    → IsGood (written image write remakes align piece)
unfolding written
written-good image write remakes align piece good is =
    let after = given-good image write align piece good is in
    elim (remakes && makes_levels write) as (λ makes. IsGood (if makes then remade (given image write align piece) else given image write align piece)) [
      | true ↦ remade-good (given image write align piece) after
      | false ↦ after
    ]

-- an image of which no level was given
pub empty_is_good : IsGood empty_image
empty_is_good = record { count = refl; each = λ k. subst IsFull (sym (none k)) tt }
  where
    none : (k : ℕ) → level_at empty_image k ≡ None
    none k = elim (cases_lt k 11) [
      | inl inside ↦ get_or-replicate 11 k None None inside
      | inr past ↦ get_or_past empty_image.levels k None past
    ]

-- a level has so many texels at most
level-few : (found : Option TexelLevel) → IsFull found → level_bytes found ≤ 4194304
level-few None full = omega arith
level-few (Some old) full =
    let area : old.w * old.h ≤ 1024 * 1024 = mul-le-mul full.w_most full.h_most in
    let filled = full.filled in
    omega (arith, area, filled)

-- what an image counts
pub good-bytes : (image : ImageSet) → IsGood image → image_bytes image < 2 ^ 26
unfolding image_bytes
good-bytes image good =
    let each : All (λ found. level_bytes found ≤ 4194304) image.levels =
    λ k d inside. rw (get_or_default image.levels k d None inside) (level-few (get_or image.levels k None) (good.each k)) in
    let most = sum_by-le level_bytes 4194304 image.levels each in
    let count = good.count in
    omega (arith, most, count)
