-- Spans of the places of a tile join.
use Rattle.std.proofs.Common.{◌≡◌, ◌∙◌, ◌<◌, ◌≤◌, ◌⊎◌, inl, inr, ℕ, refl, sym, ap, arith}
use Rattle.std.proofs.lemmas.Bool.{cases_lt}
use Rattle.gl_records.specs.declared.pixel.Pixel.{Pixel}
use Rattle.surface_tiles.specs.declared.tile.Tile.{Tile}
use Rattle.whole_surface.specs.Parts.{IsSpan, pixel_in}

pub span_same : (make : ℕ → Pixel → Pixel) (from to : ℕ) (tile : Tile) → ((k : ℕ) → from ≤ k → k < to → make k (pixel_in tile k) ≡ pixel_in tile k)
    → IsSpan make from to tile tile
span_same make from to tile same = record {
  made = λ k low high within. sym (same k low high);
  before = λ k less. refl;
  behind = λ k more. refl;
}

pub span_none : (make : ℕ → Pixel → Pixel) (from : ℕ) (tile : Tile) → IsSpan make from from tile tile
span_none make from tile = span_same make from from tile (λ k low high. absurd (omega arith))

joined : {make : ℕ → Pixel → Pixel} {a b c : ℕ} {old mid new : Tile} → IsSpan make a b old mid → IsSpan make b c mid new
    → (k : ℕ) → a ≤ k → k < c → k < 256 → (k < b) ⊎ (b ≤ k) → pixel_in new k ≡ make k (pixel_in old k)
joined first second k low high within (inl less) = second.before k less ∙ first.made k low less within
joined {make} first second k low high within (inr more) = second.made k more high within ∙ ap (λ (pixel : Pixel). make k pixel) (first.behind k more)

pub span_join : {make : ℕ → Pixel → Pixel} {a b c : ℕ} {old mid new : Tile} → a ≤ b → b ≤ c → IsSpan make a b old mid → IsSpan make b c mid new
    → IsSpan make a c old new
span_join {make} {a} {b} {c} low high first second = record {
  made = λ k from to within. joined first second k from to within (cases_lt k b);
  before = λ k less. let lower : k < b = omega arith in second.before k lower ∙ first.before k less;
  behind = λ k more. let higher : b ≤ k = omega arith in second.behind k more ∙ first.behind k higher;
}

-- the same span, made in another way that agrees on it
pub span_as : {f g : ℕ → Pixel → Pixel} {a b : ℕ} {old new : Tile} → ((k : ℕ) (pixel : Pixel) → a ≤ k → k < b → f k pixel ≡ g k pixel) → IsSpan f a b old new
    → IsSpan g a b old new
span_as {f} {g} {a} {b} {old} {new} same span = record {
  made = λ k from to within. span.made k from to within ∙ same k (pixel_in old k) from to;
  before = span.before;
  behind = span.behind;
}
