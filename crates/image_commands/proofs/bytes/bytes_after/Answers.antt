use Rattle.std.proofs.Common.{[], arith}
use Rattle.image_commands.specs.Written.{written}
use Rattle.image_commands.proofs.Good.{good-bytes, written-good}
use Rattle.image_commands.proofs.bytes.bytes_after.Goals as goal

pub overflow_cast-result : goal.overflow_cast-result
overflow_cast-result c =
    let few = good-bytes (written c.args.image.now c.args.write c.args.remakes 1 []) (written-good c.args.image.now c.args.write c.args.remakes 1 [] c.requires.good c.requires.possible) in
    omega (arith, few, c.all_bytes.ensures 1 [])

pub returns-clause-few : goal.returns-clause-few
returns-clause-few c =
    let few = good-bytes (written c.args.image.now c.args.write c.args.remakes 1 []) (written-good c.args.image.now c.args.write c.args.remakes 1 [] c.requires.good c.requires.possible) in
    omega (arith, few, c.all_bytes.ensures 1 [])
