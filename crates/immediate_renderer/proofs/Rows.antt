-- The bytes of a surface, row after row.
use Rattle.std.proofs.Common.{◌≡◌, ◌<◌, ◌+◌, ℕ, zero, suc, List, [], ◌∷◌, ◌++◌, length, get_or, take, drop, refl, sym, ap, ◌∙◌, append_assoc, arith}
use Rattle.std.proofs.lemmas.List.{append-nil}
use Rattle.gl_records.specs.declared.pixel.Pixel.{Pixel}
use Rattle.gl_records.specs.Surface.{Surface, row_bytes, surface_bytes}

-- the rows before a row, it, and those after it
pub surface_split : (rows : Surface) (i : ℕ) (d : List Pixel) → i < length rows
    → surface_bytes rows ≡ surface_bytes (take i rows) ++ (row_bytes (get_or rows i d) ++ surface_bytes (drop (suc i) rows))
surface_split [] i d within = absurd (omega arith)
surface_split (row ∷ rows) zero d within = refl
surface_split (row ∷ rows) (suc i) d within =
    ap (λ (l : List ℕ). row_bytes row ++ l) (surface_split rows i d (omega arith))
    ∙ sym (append_assoc (row_bytes row) (surface_bytes (take i rows)) (row_bytes (get_or rows i d) ++ surface_bytes (drop (suc i) rows)))

-- one row more
pub surface_more : (rows : Surface) (i : ℕ) (d : List Pixel) → i < length rows → surface_bytes (take i rows) ++ row_bytes (get_or rows i d) ≡ surface_bytes (take (i + 1) rows)
surface_more [] i d within = absurd (omega arith)
surface_more (row ∷ rows) zero d within = sym (append-nil (row_bytes row))
surface_more (row ∷ rows) (suc i) d within =
    let next : suc (i + 1) ≡ suc i + 1 = omega arith in
    append_assoc (row_bytes row) (surface_bytes (take i rows)) (row_bytes (get_or rows i d))
    ∙ ap (λ (l : List ℕ). row_bytes row ++ l) (surface_more rows i d (omega arith))
    ∙ ap (λ (n : ℕ). surface_bytes (take n (row ∷ rows))) next
