use Rattle.std.proofs.Common.{◌++◌, List, ℕ, take, sym, ap, ◌∙◌, arith}
use Rattle.std.specs.Prelude.{codes}
use Rattle.std.proofs.lemmas.List.{take-append-drop}
use Rattle.std.proofs.lemmas.Slice.Eq.{bytes_eq-Decides}
use Rattle.output_format.specs.Frames.{frame_header}
use Rattle.trace_cases.proofs.Frames.{header_spelled, all_from}
use Rattle.trace_cases.proofs.frame.first_frame.Goals as goal

pub returns-clause-spelled : goal.returns-clause-spelled
returns-clause-spelled c =
    let bytes = c.args.bytes.now in
    let magic = (bytes_eq-Decides (codes "GLF1") (take 4 bytes)).0 (sym c.if-not-starts_with.ensures.value) in
    let index = rw (all_from 4 bytes) at c.read_u32-index.ensures in
    let w = rw (all_from 8 bytes) at c.read_u16-w.ensures in
    let h = rw (all_from 10 bytes) at c.read_u16-h.ensures in
    let header = header_spelled bytes _ _ _ (λ (i : ℕ). let fits = c.type_inv.bytes i in omega arith) c.if-bytes-lt12.false magic index w h in
    let sides = c.split_at.ensures.front_len in
    let front = c.split_at.ensures.front in
    let back = c.split_at.ensures.back in
    record {
      spelled = header ∙ ap (λ (rest : List ℕ). frame_header c.read_u32-index.result (record { w = c.read_u16-w.result; h = c.read_u16-h.result }) ++ rest) (sym (rw (front, back) (take-append-drop _ _ ∙ all_from 12 bytes)));
      whole = rw (c.from.ensures, c.from-2.ensures) at sides;
    }
