use Rattle.std.proofs.Common.{◌≡◌, ◌++◌, take}
use Rattle.output_format.specs.Log.{name_words}
use Rattle.output_format.proofs.lines.append_name_words.Given as goal

abbrev pub invariant-names : goal.invariant-names
invariant-names l = l.line.items ≡ l.initial.line.items ++ name_words (take l.name-index l.names)
