use Rattle.std.proofs.Common.{sym, subst}
use Rattle.image_commands.specs.Prepared.{IsReady}
use Rattle.texture_store.proofs.change.change_beside.Goals as goal

pub put-requires : goal.put-requires
put-requires c = subst (λ image. IsReady image c.args.prepared) (sym c.in_ok-image.ensures) (c.requires.ready c.get.result.now c.get.ensures)
