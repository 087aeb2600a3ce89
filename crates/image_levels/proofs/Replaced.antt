-- The texels of a level while rows of an area in it are replaced, one after the other.
use Rattle.std.proofs.Common.{◌≡◌, ◌<◌, ◌≤◌, ◌+◌, ◌-◌, ◌*◌, ◌&&◌, ℕ, suc, Bool, true, false, List, if◌then◌else◌, get_or, inl, inr, refl, sym, ap, ◌∙◌, arith}
use Rattle.std.proofs.lemmas.Bool.{cases_lt, le-leb, le-ltb, lt-leb, lt-ltb}
use Rattle.std.proofs.Math.Nat.{mul-le-mul_right}
use Rattle.image_levels.specs.SubImage.{is_among, replaced_texel}
use Rattle.image_levels.specs.Texels.{texel_of}
use Rattle.image_levels.specs.declared.texel_box.TexelBox.{TexelBox}

pub among-in : (first count place : ℕ) → first ≤ place → place < first + count → is_among first count place ≡ true
among-in first count place low high = rw (le-leb first place low, lt-ltb place (first + count) high) refl

pub among-below : (first count place : ℕ) → place < first → is_among first count place ≡ false
among-below first count place low = rw (lt-leb first place low) refl

pub among-above : (first count place : ℕ) → first + count ≤ place → is_among first count place ≡ false
among-above first count place high =
    let low : first ≤ place = omega (arith, high) in
    rw (le-leb first place low, le-ltb place (first + count) high) refl

-- no row is replaced yet
pub replaced-none : (across : ℕ) (area : TexelBox) (old texels : List ℕ) (x y : ℕ) → texel_of across old x y ≡ replaced_texel across area 0 old texels x y
replaced-none across area old texels x y = elim (cases_lt y area.y) [
  | inl below ↦ outside (among-below area.y 0 y below)
  | inr above ↦ let over : area.y + 0 ≤ y = omega (arith, above) in outside (among-above area.y 0 y over)
]
  where
    outside : is_among area.y 0 y ≡ false → texel_of across old x y ≡ replaced_texel across area 0 old texels x y
    outside gone = rw gone (by_column (is_among area.x area.w x))
      where
        by_column : (column : Bool) → texel_of across old x y ≡ (if column && false then texel_of area.w texels (x - area.x) (y - area.y) else texel_of across old x y)
        by_column true = refl
        by_column false = refl

-- as many rows or not makes no difference outside of them
rows-same : (across : ℕ) (area : TexelBox) (n m : ℕ) (old texels : List ℕ) (x y : ℕ) → is_among area.y n y ≡ is_among area.y m y
    → replaced_texel across area n old texels x y ≡ replaced_texel across area m old texels x y
rows-same across area n m old texels x y same =
    ap (λ (row : Bool). if is_among area.x area.w x && row then texel_of area.w texels (x - area.x) (y - area.y) else texel_of across old x y) same

-- nor does it outside of the columns
columns-outside : (across : ℕ) (area : TexelBox) (n m : ℕ) (old texels : List ℕ) (x y : ℕ) → is_among area.x area.w x ≡ false
    → replaced_texel across area n old texels x y ≡ replaced_texel across area m old texels x y
columns-outside across area n m old texels x y outside = rw outside refl

-- a texel of the row
row-inside : (across : ℕ) (area : TexelBox) (n : ℕ) (old texels : List ℕ) (x y : ℕ) → area.x ≤ x → x < area.x + area.w → y ≡ area.y + n
    → texel_of area.w texels (x - area.x) n ≡ replaced_texel across area (n + 1) old texels x y
row-inside across area n old texels x y low high here =
    let column = among-in area.x area.w x low high in
    let row = among-in area.y (n + 1) y (omega (arith, here)) (omega (arith, here)) in
    let down : n ≡ y - area.y = omega (arith, here) in
    rw (column, row) (ap (λ (r : ℕ). texel_of area.w texels (x - area.x) r) down)

-- one row more
pub row-replaced : (across up : ℕ) (area : TexelBox) (n : ℕ) (old texels before after : List ℕ)
    → area.x + area.w ≤ across
    → ((x y : ℕ) → x < across → y < up → texel_of across before x y ≡ replaced_texel across area n old texels x y)
    → ((k : ℕ) → k < area.w → get_or after ((area.y + n) * across + area.x + k) 0 ≡ texel_of area.w texels k n)
    → ((p : ℕ) → p < (area.y + n) * across + area.x → get_or after p 0 ≡ get_or before p 0)
    → ((p : ℕ) → (area.y + n) * across + area.x + area.w ≤ p → get_or after p 0 ≡ get_or before p 0)
    → (x y : ℕ) → x < across → y < up → texel_of across after x y ≡ replaced_texel across area (n + 1) old texels x y
row-replaced across up area n old texels before after inside so_far written front back x y column row =
    elim (cases_lt y (area.y + n)) [
      | inl below ↦
          let rows : suc y * across ≤ (area.y + n) * across = mul-le-mul_right across (omega (arith, below)) in
          let more : suc y * across ≡ across + y * across = grind arith in
          let same : is_among area.y n y ≡ is_among area.y (n + 1) y =
          rw (lt-ltb y (area.y + n) below, lt-ltb y (area.y + (n + 1)) (omega (arith, below))) refl in
          front (y * across + x) (omega (arith, rows, more, column)) ∙ so_far x y column row ∙ rows-same across area n (n + 1) old texels x y same
      | inr from ↦ elim (cases_lt (area.y + n) y) [
        | inl above ↦
            let rows : suc (area.y + n) * across ≤ y * across = mul-le-mul_right across (omega (arith, above)) in
            let more : suc (area.y + n) * across ≡ across + (area.y + n) * across = grind arith in
            let same = among-above area.y n y (omega (arith, above)) ∙ sym (among-above area.y (n + 1) y (omega (arith, above))) in
            back (y * across + x) (omega (arith, rows, more, inside)) ∙ so_far x y column row ∙ rows-same across area n (n + 1) old texels x y same
        | inr to ↦
            let here : y ≡ area.y + n = omega (arith, from, to) in
            let place : y * across ≡ (area.y + n) * across = ap (λ (r : ℕ). r * across) here in
            elim (cases_lt x area.x) [
              | inl left ↦
                  front (y * across + x) (omega (arith, place, left)) ∙ so_far x y column row
                  ∙ columns-outside across area n (n + 1) old texels x y (among-below area.x area.w x left)
              | inr low ↦ elim (cases_lt x (area.x + area.w)) [
                | inl high ↦
                    let k : ℕ = x - area.x in
                    let at : y * across + x ≡ (area.y + n) * across + area.x + k = omega (arith, place, low) in
                    ap (λ (p : ℕ). get_or after p 0) at ∙ written k (omega (arith, low, high)) ∙ row-inside across area n old texels x y low high here
                | inr right ↦
                    back (y * across + x) (omega (arith, place, right)) ∙ so_far x y column row
                    ∙ columns-outside across area n (n + 1) old texels x y (among-above area.x area.w x right)
              ]
            ]
      ]
    ]
