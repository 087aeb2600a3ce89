use Rattle.std.proofs.Common.{◌^◌, ℕ, [], ◌++◌, arith}
use Rattle.std.proofs.lemmas.List.{append-nil}
use Rattle.trace_reader.specs.Lists.{words_bytes}
use Rattle.trace_reader.proofs.GivenBack.{reads_back}
use Rattle.trace_reader.proofs.Lists.{all_below}
use Rattle.trace_reader.proofs.spelled.Spelled.listed.Goals as goal

pub returns-clause-back : goal.returns-clause-back
returns-clause-back c =
    let given = c.requires.gives (all_below (2 ^ 32) c.args.list.now (λ (k : ℕ). let fits = c.type_inv.list k in omega arith)) in
    reads_back c.args.rec.now c.of_parts.result c.args.opcode [] (words_bytes c.args.list.now ++ []) (words_bytes c.args.list.now) c.of_parts.ensures.parts (append-nil (words_bytes c.args.list.now)) c.of_parts.ensures.writable given
