use Rattle.texture_store.proofs.change.change_version.Goals as goal

pub put-requires : goal.put-requires
put-requires c = c.requires.ready c.exchange-image.result c.exchange-image.ensures.was
