-- How many texels an image has, and each by its column and row.
use Rattle.std.proofs.Common.{◌≡◌, ◌<◌, ◌+◌, ◌*◌, ℕ, zero, suc, List, ◌++◌, length, get_or, ap, ◌∙◌, arith, length-append}
use Rattle.std.specs.List.{flat_map, range_with_len}
use Rattle.std.proofs.Math.ListN.{get_or-append}
use Rattle.std.proofs.lemmas.List.{get_or-append-add}
use Rattle.std.proofs.lemmas.List.FromFn.{length-map-range_with_len, get_or-map-range_with_len}
use Rattle.gl_tokens.specs.declared.base_format.BaseFormat.{BaseFormat}
use Rattle.gl_tokens.specs.declared.texel_type.TexelType.{TexelType}
use Rattle.pixel_unpack.specs.Texel.{texel_at, texel_bytes}
use Rattle.pixel_unpack.specs.Image.{row_start, texel_row, image}

-- rows of one length, from row a on
length-rows : (f : ℕ → List ℕ) (w a n : ℕ) → ((y : ℕ) → length (f y) ≡ w) → length (flat_map f (range_with_len a n)) ≡ n * w
length-rows f w a zero same = omega arith
length-rows f w a (suc n) same =
    let rest = length-rows f w (a + 1) n same in
    let more : suc n * w ≡ w + n * w = grind arith in
    let both = length-append (f a) (flat_map f (range_with_len (a + 1) n)) in
    let first = same a in
    omega arith

at-rows : (f : ℕ → List ℕ) (w a n y x : ℕ) → ((y : ℕ) → length (f y) ≡ w) → x < w → y < n → get_or (flat_map f (range_with_len a n)) (y * w + x) 0 ≡ get_or (f (a + y)) x 0
at-rows f w a zero y x same across up = absurd (omega arith)
at-rows f w a (suc n) zero x same across up =
    let here : zero * w + x ≡ x = omega arith in
    let row : a ≡ a + zero = omega arith in
    let inside : x < length (f a) = let first = same a in omega arith in
    ap (λ (k : ℕ). get_or (f a ++ flat_map f (range_with_len (a + 1) n)) k 0) here
    ∙ get_or-append (f a) (flat_map f (range_with_len (a + 1) n)) 0 x inside
    ∙ ap (λ (k : ℕ). get_or (f k) x 0) row
at-rows f w a (suc n) (suc y) x same across up =
    let first = same a in
    let above : y < n = omega arith in
    let more : suc y * w ≡ w + y * w = grind arith in
    let place : suc y * w + x ≡ length (f a) + (y * w + x) = omega arith in
    let row : a + 1 + y ≡ a + suc y = omega arith in
    ap (λ (k : ℕ). get_or (f a ++ flat_map f (range_with_len (a + 1) n)) k 0) place
    ∙ get_or-append-add (f a) (flat_map f (range_with_len (a + 1) n)) (y * w + x) 0
    ∙ at-rows f w (a + 1) n y x same across above
    ∙ ap (λ (k : ℕ). get_or (f k) x 0) row

length-row : (format : BaseFormat) (kind : TexelType) (w : ℕ) (piece : List ℕ) (start : ℕ) → length (texel_row format kind w piece start) ≡ w
length-row format kind w piece start = length-map-range_with_len (λ x. texel_at format kind piece (start + x * texel_bytes format kind)) 0 w

-- w by h texels
pub length-image : (format : BaseFormat) (kind : TexelType) (align w h : ℕ) (piece : List ℕ) → length (image format kind align w h piece) ≡ w * h
unfolding image
length-image format kind align w h piece =
    let row = λ (y : ℕ). texel_row format kind w piece (row_start format kind align w y) in
    let turned : h * w ≡ w * h = grind arith in
    length-rows row w 0 h (λ y. length-row format kind w piece (row_start format kind align w y)) ∙ turned

-- texel x of row y
pub at-image : (format : BaseFormat) (kind : TexelType) (align w h : ℕ) (piece : List ℕ) (x y : ℕ) → x < w → y < h
    → get_or (image format kind align w h piece) (y * w + x) 0 ≡ texel_at format kind piece (row_start format kind align w y + x * texel_bytes format kind)
unfolding image
at-image format kind align w h piece x y across up =
    let row = λ (y : ℕ). texel_row format kind w piece (row_start format kind align w y) in
    let start = row_start format kind align w y in
    let column : 0 + x ≡ x = omega arith in
    let column-up : 0 + y ≡ y = omega arith in
    at-rows row w 0 h y x (λ k. length-row format kind w piece (row_start format kind align w k)) across up
    ∙ ap (λ (k : ℕ). get_or (row k) x 0) column-up
    ∙ get_or-map-range_with_len (λ k. texel_at format kind piece (start + k * texel_bytes format kind)) 0 w x x 0 across column
