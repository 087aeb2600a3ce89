use Rattle.std.proofs.Common.{Some, None, sym}
use Rattle.texture_store.proofs.ByValue.{seen_is}
use Rattle.texture_store.proofs.textures.Textures.is_texture.Goals as goal

pub returns-in-Some : goal.returns-in-Some
returns-in-Some c = rw (← c.self.view_is) (sym (seen_is c.self.inside.names c.args.name (Some c.in-Some.field-0.now) c.in-Some.ensures))

pub returns-in-None : goal.returns-in-None
returns-in-None c = rw (← c.self.view_is) (sym (seen_is c.self.inside.names c.args.name None c.in-None.ensures))
