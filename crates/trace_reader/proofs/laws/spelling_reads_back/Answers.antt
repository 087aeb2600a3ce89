use Rattle.trace_reader.proofs.SpelledBytes.{spell-bytes}
use Rattle.trace_reader.proofs.Spellings.{trace_of-spell}
use Rattle.trace_reader.proofs.laws.spelling_reads_back.Goals as goal

pub returns-clause-bytes : goal.returns-clause-bytes
returns-clause-bytes c = spell-bytes

pub returns-clause-back : goal.returns-clause-back
returns-clause-back c = trace_of-spell
