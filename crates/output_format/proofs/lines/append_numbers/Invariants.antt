use Rattle.std.proofs.Common.{◌≡◌, ◌++◌, take}
use Rattle.output_format.specs.Log.{numbers}
use Rattle.output_format.proofs.lines.append_numbers.Given as goal

abbrev pub invariant-numbers : goal.invariant-numbers
invariant-numbers l = l.line.items ≡ l.initial.line.items ++ numbers (take l.value-index l.values)
