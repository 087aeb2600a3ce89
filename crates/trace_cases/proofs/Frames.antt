-- The parts of a frame.
use Rattle.std.proofs.Common.{◌≡◌, ◌≤◌, ◌+◌, ◌-◌, ℕ, List, ◌++◌, length, take, drop, refl, sym, ap, ◌∙◌, arith}
use Rattle.std.specs.Prelude.{codes}
use Rattle.std.proofs.lemmas.List.{take-append-drop, drop-drop, append_assoc, length-drop, take_all}
use Rattle.byteorder.specs.Endian.{little_bytes, little_number}
use Rattle.trace_cases.proofs.Numbers.{AreBytes, AreBytes-drop, two_bytes, four_bytes}
use Rattle.output_format.specs.Frames.{frame_header}

-- what begins at a byte is a piece and what begins behind it
piece : (k n m : ℕ) (bytes own : List ℕ) → m ≡ k + n → own ≡ take n (drop k bytes) → drop k bytes ≡ own ++ drop m bytes
piece k n m bytes own place is =
    rw (is, place) (sym (take-append-drop n (drop k bytes)) ∙ ap (λ (rest : List ℕ). take n (drop k bytes) ++ rest) (drop-drop n k bytes))

joined : (first second third fourth rest bytes at4 at8 at10 : List ℕ) → bytes ≡ first ++ at4 → at4 ≡ second ++ at8 → at8 ≡ third ++ at10 → at10 ≡ fourth ++ rest
    → bytes ≡ (first ++ (second ++ (third ++ fourth))) ++ rest
joined first second third fourth rest bytes at4 at8 at10 e4 e8 e10 e12 =
    rw (e4, e8, e10, e12, append_assoc first (second ++ (third ++ fourth)) rest, append_assoc second (third ++ fourth) rest, append_assoc third fourth rest) refl

-- a header of this magic and these numbers is spelled by the first twelve bytes
pub header_spelled : (bytes : List ℕ) (index w h : ℕ) → AreBytes bytes → 12 ≤ length bytes → codes "GLF1" ≡ take 4 bytes
    → index ≡ little_number 4 (drop 4 bytes) → w ≡ little_number 2 (drop 8 bytes) → h ≡ little_number 2 (drop 10 bytes)
    → bytes ≡ frame_header index (record { w = w; h = h }) ++ drop 12 bytes
header_spelled bytes index w h fits long magic index_is w_is h_is =
    let four : little_bytes 4 index ≡ take 4 (drop 4 bytes) = rw index_is (four_bytes 0 (drop 4 bytes) (AreBytes-drop 4 bytes fits) (omega (arith, length-drop 4 bytes))) in
    let wide : little_bytes 2 w ≡ take 2 (drop 8 bytes) = rw w_is (two_bytes 0 (drop 8 bytes) (AreBytes-drop 8 bytes fits) (omega (arith, length-drop 8 bytes))) in
    let high : little_bytes 2 h ≡ take 2 (drop 10 bytes) = rw h_is (two_bytes 0 (drop 10 bytes) (AreBytes-drop 10 bytes fits) (omega (arith, length-drop 10 bytes))) in
    joined (codes "GLF1") (little_bytes 4 index) (little_bytes 2 w) (little_bytes 2 h) (drop 12 bytes) bytes (drop 4 bytes) (drop 8 bytes) (drop 10 bytes)
    (piece 0 4 4 bytes _ refl magic) (piece 4 4 8 bytes _ refl four) (piece 8 2 10 bytes _ refl wide) (piece 10 2 12 bytes _ refl high)

-- all that is left from a place on
pub all_from : (k : ℕ) (bytes : List ℕ) → take (length bytes - k) (drop k bytes) ≡ drop k bytes
all_from k bytes = take_all (length bytes - k) (drop k bytes) (omega (arith, length-drop k bytes))
