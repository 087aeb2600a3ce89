use Rattle.std.proofs.Common.{◌≡◌, take}
use Rattle.gl_query.specs.Values.{raws}
use Rattle.gl_query.proofs.values.raws.Given as goal

abbrev pub invariant-numbers : goal.invariant-numbers
invariant-numbers l = l.values.items ≡ raws (take l.number-index l.list)
