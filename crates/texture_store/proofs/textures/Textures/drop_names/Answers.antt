use Rattle.std.proofs.Common.{◌<◌, ◌∙◌, ℕ, length, sym, ap, arith}
use Rattle.std.specs.Prelude.{slice_index_or}
use Rattle.std.proofs.lemmas.List.Sums.{fold_more}
use Rattle.texture_store.specs.Commands.{without_name}
use Rattle.texture_store.specs.Stored.{objects_of}
use Rattle.texture_store.specs.Textures.{TextureObjects}
use Rattle.texture_store.proofs.Dropping.{pinned_then}
use Rattle.texture_store.proofs.textures.Textures.drop_names.Goals as goal

pub loop-name-preserved : goal.loop-name-preserved
loop-name-preserved c =
    let inside : c.loop-name.name-index < length c.args.names.now = omega (arith, c.loop-name-test.true) in
    let name : ℕ = slice_index_or c.args.names.now c.loop-name.name-index 0 in
    record {
      objects = c.in-Done.ensures.answer ∙ ap (λ (t : TextureObjects). without_name t name) c.loop-name.invariant.objects
          ∙ sym (fold_more without_name (objects_of c.args.self.now) c.args.names.now c.loop-name.name-index 0 inside);
      of = c.drop_name.ensures.of;
      lent = c.drop_name.ensures.lent ∙ c.loop-name.invariant.lent;
      pinned = pinned_then c.args.images.now c.loop-name.images c.drop_name.new.images c.loop-name.invariant.pinned c.drop_name.ensures.pinned;
      unpinned = λ unpinned. (c.drop_name.ensures.unpinned (c.loop-name.invariant.unpinned unpinned)).0;
    }
