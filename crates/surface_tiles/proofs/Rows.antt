-- Rows of a surface, pixel by pixel.
use Rattle.std.proofs.Common.{◌≡◌, ◌+◌, ℕ, [], ◌++◌, map, sym, ap, ◌∙◌, arith}
use Rattle.std.specs.List.{range_with_len}
use Rattle.std.proofs.lemmas.List.{flat_map_more}
use Rattle.std.proofs.lemmas.List.FromFn.{map-range_with_len_more}
use Rattle.gl_records.specs.declared.pixel.Pixel.{Pixel}
use Rattle.gl_records.specs.Surface.{row_bytes}

-- one pixel more
pub row_bytes-more : (f : ℕ → Pixel) (x : ℕ) → row_bytes (map f (range_with_len 0 x)) ++ (f x).rgba ≡ row_bytes (map f (range_with_len 0 (x + 1)))
row_bytes-more f x =
    let place : 0 + x ≡ x = omega arith in
    flat_map_more (λ (pixel : Pixel). pixel.rgba) [] (map f (range_with_len 0 x)) (f x)
    ∙ ap row_bytes (sym (map-range_with_len_more f 0 x x place))
