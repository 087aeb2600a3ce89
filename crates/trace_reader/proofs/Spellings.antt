-- A record, a header and a whole trace: what is spelled is read again.
use Rattle.std.proofs.Common.{◌≡◌, ◌≤◌, ◌<◌, ◌+◌, ◌*◌, ◌^◌, ℕ, suc, true, false, ◌&&◌, eqb, ltb, List, [], ◌∷◌, ◌++◌, length, take, drop, Option, Some, None, Ok, refl, sym, ap, subst, ◌∙◌, All, lit<, lit≤, arith}
use Rattle.std.specs.Prelude.{codes, nat_eq}
use Rattle.std.specs.List.{starts_with}
use Rattle.std.proofs.lemmas.Bool.{le-leb, le-ltb, ne_eqb, and_from}
use Rattle.std.proofs.lemmas.List.{take_at, drop_at, length-append}
use Rattle.std.proofs.lemmas.List.Elements.{All-nil}
use Rattle.byteorder.specs.Endian.{little_bytes}
use Rattle.byteorder.specs.Numbers.{little_number-reads_back}
use Rattle.gl_records.specs.declared.rec.Rec.{Rec}
use Rattle.gl_records.specs.declared.rec.Rec.TheVariants.{End}
use Rattle.gl_records.specs.declared.size.Size.{Size}
use Rattle.gl_records.specs.Size.{IsSize}
use Rattle.trace_reader.specs.Command.{Layout, Command}
use Rattle.trace_reader.specs.Numbers.{number_at, words}
use Rattle.trace_reader.specs.Outcome.{IsTail}
use Rattle.trace_reader.specs.Shape.{words_of, allows}
use Rattle.trace_reader.specs.Lists.{words_bytes}
use Rattle.trace_reader.specs.Spelling.{ReadsBack, spelling, payload, command_bytes, record_bytes, records_bytes, spell, IsPlain, Fits}
use Rattle.trace_reader.specs.Table.{row, with_piece, record_from}
use Rattle.trace_reader.specs.Trace.{Ended, Readable, head, body, record_of, record_at, header, is_side, trace_of, greatest_payload, greatest_trace}
use Rattle.trace_reader.proofs.Bodies.{IsAllowed, body-passes}
use Rattle.trace_reader.proofs.Bytes.{length-words_bytes, words-words_bytes}
use Rattle.trace_reader.proofs.Outcomes.{trace_of-only}

-- ---- a record is read again

head-fields : (opcode len : ℕ) (bytes : List ℕ) → 8 ≤ length bytes → number_at 2 0 bytes ≡ opcode → number_at 2 2 bytes ≡ 0 → number_at 4 4 bytes ≡ len → head bytes ≡ Ok (record { opcode = opcode; length = len })
head-fields opcode len bytes long first second third =
    let some : eqb (length bytes) 0 ≡ false = ne_eqb _ _ (λ e. omega arith) in
    let whole : ltb (length bytes) 8 ≡ false = le-ltb _ _ long in
    rw (some, whole, second, first, third) refl

head-command : (command : Command) (rest : List ℕ) → command.opcode < 2 ^ 16 → length (payload command) < 2 ^ 32 → head (command_bytes command ++ rest) ≡ Ok (record { opcode = command.opcode; length = length (payload command) })
head-command command rest opcode_fits length_fits =
    head-fields command.opcode (length (payload command)) (command_bytes command ++ rest) (omega arith)
    (little_number-reads_back 2 command.opcode (little_bytes 2 0 ++ little_bytes 4 (length (payload command)) ++ payload command ++ rest) opcode_fits) refl (little_number-reads_back 4 (length (payload command)) (payload command ++ rest) length_fits)

-- the row of a command's opcode makes the record of its payload
record IsRow (rec : Rec) (command : Command) : Type 0 where
  layout : Layout
  found : row command.opcode ≡ Some layout
  allowed : allows layout.0 (length (payload command)) ≡ true
  makes : record_from layout (payload command) ≡ rec

is_row : (rec : Rec) (command : Command) (found : Option Layout) → ReadsBack rec command → row command.opcode ≡ found → IsRow rec command
is_row rec command None back is = absurd (rw is at back.gives.made)
is_row rec command (Some layout) back is =
    let given = rw is at back.gives.made in
    let ns = command.words in
    let own : List ℕ = payload command in
    let counted : words_of layout.0 ≡ length ns = given.0 in
    let front : length (words_bytes ns) ≡ 4 * words_of layout.0 = length-words_bytes ns ∙ ap (λ (m : ℕ). 4 * m) (sym counted) in
    let size : length own ≡ 4 * length ns + length command.piece = omega (arith, length-append (words_bytes ns) command.piece, length-words_bytes ns) in
    record {
      layout = layout;
      found = is;
      allowed = ap (allows layout.0) size ∙ given.1;
      makes =
          ap (λ (piece : List ℕ). with_piece piece (layout.1 (words own))) (drop_at (words_bytes ns) command.piece (4 * words_of layout.0) front)
          ∙ ap (λ (n : List ℕ). with_piece command.piece (layout.1 n)) (words-words_bytes ns command.piece back.writable.words back.writable.few)
          ∙ given.2 (drop (length ns) (words own));
    }

record_at-command : (offset : ℕ) (rec : Rec) (command : Command) (rest : List ℕ) → ReadsBack rec command → length (payload command) ≤ greatest_payload → offset + length (command_bytes command) ≤ greatest_trace
    → record_at offset (command_bytes command ++ rest) ≡ Ok (rec, length (command_bytes command))
record_at-command offset rec command rest back short ends =
    let is = is_row rec command _ back refl in
    let own : List ℕ = payload command in
    let begun = head-command command rest back.writable.opcode (omega arith) in
    let taken : take (length own) (own ++ rest) ≡ own = take_at own rest (length own) refl in
    let met : IsAllowed offset (length own) is.layout.0 = record { short = short; ends = omega arith; allowed = is.allowed } in
    let passes = body-passes offset (length own) (own ++ rest) is.layout met (omega (arith, length-append own rest)) in
    let made : record_from is.layout (take (length own) (own ++ rest)) ≡ rec = ap (record_from is.layout) taken ∙ is.makes in
    let sum : 8 + length own ≡ length (command_bytes command) = omega arith in
    ap (record_of offset (own ++ rest)) begun
    ∙ ap (body offset (length own) (own ++ rest)) is.found
    ∙ passes
    ∙ ap (λ (read : Rec). Ok (read, 8 + length own)) made
    ∙ ap (λ (n : ℕ). Ok (rec, n)) sum

end-reads_back : ReadsBack End (spelling End)
end-reads_back = record {
  writable = record { opcode = lit< tt; words = All-nil (λ word. word < 2 ^ 32); few = lit≤ tt; piece = All-nil (λ byte. byte < 2 ^ 8) };
  gives = record { made = (refl, refl, λ later. refl) };
}

tail-records_bytes : (index offset : ℕ) (records : List Rec) → All IsPlain records → offset + length (records_bytes records) ≤ greatest_trace → IsTail index offset (records_bytes records) records Ended
tail-records_bytes index offset [] plain ends = record_at-command offset End (spelling End) [] end-reads_back (lit≤ tt) ends
tail-records_bytes index offset (rec ∷ records) plain ends =
    let own : List ℕ = record_bytes rec in
    let later : List ℕ = records_bytes records in
    let first : IsPlain rec = plain 0 rec (omega arith) in
    let sum : length (own ++ later) ≡ length own + length later = length-append own later in
    let behind : drop (length own) (own ++ later) ≡ later = drop_at own later (length own) refl in
    let rest : IsTail (index + 1) (offset + length own) later records Ended = tail-records_bytes (index + 1) (offset + length own) records (λ k d lt. plain (suc k) d (omega arith)) (omega arith) in
    (first.plain, (length own, record_at-command offset rec (spelling rec) later first.back first.short (omega arith), subst (λ (bytes : List ℕ). IsTail (index + 1) (offset + length own) bytes records Ended) (sym behind) rest))

-- ---- the header

header-fields : (w h : ℕ) (bytes : List ℕ) → 8 ≤ length bytes → starts_with nat_eq bytes (codes "GLT1") ≡ true → number_at 2 4 bytes ≡ w → number_at 2 6 bytes ≡ h → (is_side w && is_side h) ≡ true → header bytes ≡ Ok (record { w = w; h = h })
header-fields w h bytes long magic first second sides =
    let whole : ltb (length bytes) 8 ≡ false = le-ltb _ _ long in
    rw (whole, magic, first, second, sides) refl

side_is : (side : ℕ) → 1 ≤ side → side ≤ 1024 → is_side side ≡ true
side_is side low high = and_from _ _ (le-leb 1 side low) (le-leb side 1024 high)

header-spell : (size : Size) (rest : List ℕ) → IsSize size → header (codes "GLT1" ++ little_bytes 2 size.w ++ little_bytes 2 size.h ++ rest) ≡ Ok size
header-spell size rest sides =
    header-fields size.w size.h (codes "GLT1" ++ little_bytes 2 size.w ++ little_bytes 2 size.h ++ rest) (omega arith) refl
    (little_number-reads_back 2 size.w (little_bytes 2 size.h ++ rest) (omega (arith, sides.1)))
    (little_number-reads_back 2 size.h rest (omega (arith, sides.3)))
    (and_from _ _ (side_is size.w sides.0 sides.1) (side_is size.h sides.2 sides.3))

-- ---- the whole trace

pub trace_of-spell : (size : Size) (records : List Rec) → Fits size records → trace_of (spell size records) ≡ Readable size (record { records = records; ending = Ended })
trace_of-spell size records fits =
    let within : length (spell size records) ≤ greatest_trace = fits.within in
    trace_of-only (spell size records) (Readable size (record { records = records; ending = Ended }))
    (header-spell size (records_bytes records) fits.sides, tail-records_bytes 0 8 records fits.plain (omega arith))
