use Rattle.std.proofs.Common.{◌++◌}
use Rattle.trace_reader.specs.Lists.{words_bytes}
use Rattle.trace_reader.proofs.GivenBack.{reads_back}
use Rattle.trace_reader.proofs.spelled.Spelled.new.Goals as goal

pub returns-clause-back : goal.returns-clause-back
returns-clause-back c = reads_back c.args.rec.now c.of_parts.result c.args.opcode c.args.front.now (words_bytes c.piece_of.result.0.now ++ c.piece_of.result.1.now) _ c.of_parts.ensures.parts c.piece_of.ensures c.of_parts.ensures.writable c.requires.gives
