use Rattle.std.proofs.Common.{◌≡◌, ◌<◌, ◌^◌, ◌++◌, List, ℕ, length, take, replicate, drop, ap, ◌∙◌, refl, arith}
use Rattle.std.proofs.lemmas.List.{take_at}
use Rattle.trace_reader.specs.Lists.{words_bytes}
use Rattle.trace_reader.proofs.Lists.{all_below}
use Rattle.trace_reader.proofs.SpelledBytes.{writable}
use Rattle.trace_reader.proofs.spelled.Spelled.of_parts.Goals as goal

pub returns-clause-writable : goal.returns-clause-writable
returns-clause-writable c =
    let words : List ℕ = c.args.front.now in
    let piece : List ℕ = words_bytes c.args.list.now ++ c.args.bytes.now in
    let opcode_fits : c.args.opcode < 2 ^ 16 = let fits = c.ranges.opcode in omega arith in
    let words_fit = all_below (2 ^ 32) words (λ (k : ℕ). let fits = c.type_inv.front k in omega arith) in
    let each = all_below (2 ^ 8) c.args.bytes.now (λ (k : ℕ). let fits = c.type_inv.bytes k in omega arith) in
    let later : List ℕ = drop (length words) (replicate 16 0) in
    let taken : take (length words) (c.copy_from_slice.new.self ++ later) ≡ words = ap (λ (own : List ℕ). take (length words) (own ++ later)) c.copy_from_slice.ensures.after ∙ take_at words later (length words) refl in
    let parts : record { opcode = c.args.opcode; words = take (length words) (c.copy_from_slice.new.self ++ later); piece = piece } ≡ record { opcode = c.args.opcode; words = words; piece = piece } =
    ap (λ (own : List ℕ). record { opcode = c.args.opcode; words = own; piece = piece }) taken in
    writable _ c.args.opcode words c.args.list.now c.args.bytes.now parts opcode_fits words_fit c.requires each
