use Rattle.std.proofs.Common.{◌≡◌, ◌∙◌, length, rules}
use Rattle.std.proofs.lemmas.List.{take_at}
use Rattle.trace_reader.proofs.Lists.{words_are}
use Rattle.trace_reader.proofs.table.words_from.Goals as goal

pub returns : goal.returns
returns c =
    let whole : length c.read_u32_into.new.dst ≡ c.in_ok-words.words.len = search rules in
    rw c.new.ensures (take_at c.read_u32_into.new.dst _ _ whole ∙ words_are c.args.bytes.now c.read_u32_into.new.dst _ (search rules) (search rules) c.read_u32_into.ensures)
