use Rattle.std.proofs.Common.{◌≡◌, ◌∙◌, sym}
use Rattle.std.proofs.lemmas.Int.{to_z-of_z}
use Rattle.object_names.specs.Giving as giving
use Rattle.object_names.proofs.Seen.{given-seen}
use Rattle.texture_store.specs.Stored.{StoredTextures, texture_of}
use Rattle.texture_store.proofs.Keeping.{bytes-given, kept_given}
use Rattle.texture_store.proofs.ByValue.{objects-behind}
use Rattle.texture_store.proofs.textures.Textures.make_names.Goals as goal

abbrev was : goal.In_ok-names → StoredTextures
was c = record { names = c.self.inside.names; unnamed = c.self.inside.unnamed; bound = c.self.inside.bound; versions = c.self.inside.images.value }

live : (c : goal.In_ok-names) → c.make_names.new.self ≡ giving.behind_names (was c).names (giving.given_names (was c).names c.args.count)
live c = simp (to_z-of_z, c.ranges.count) at c.in_ok-names.ensures.live

pub invariant_of-self-2 : goal.invariant_of-self-2
invariant_of-self-2 c =
    rw (live c) (c.self.invariant.0 ∙ sym (bytes-given (was c) c.args.count), kept_given (was c) c.args.count c.self.invariant.1)

pub returns-clause-names : goal.returns-clause-names
returns-clause-names c = rw (← c.self.view_is) ((simp (to_z-of_z, c.ranges.count) at c.in_ok-names.ensures.names) ∙ sym (given-seen texture_of (was c).names c.args.count))

pub returns-clause-run : goal.returns-clause-run
returns-clause-run c = rw (← c.self.view_is) (rw (live c) (objects-behind (was c) c.args.count))
