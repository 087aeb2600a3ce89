use Rattle.std.proofs.Common.{◌∙◌, sym}
use Rattle.std.proofs.lemmas.Int.{to_z-of_z}
use Rattle.object_names.proofs.Seen.{given-seen}
use Rattle.texture_store.specs.Stored.{texture_of}
use Rattle.texture_store.proofs.textures.Textures.names_for.Goals as goal

pub returns : goal.returns
returns c = rw (← c.self.view_is) ((simp (to_z-of_z, c.ranges.count) at c.in_ok-names.ensures) ∙ sym (given-seen texture_of c.self.inside.names c.args.count))
