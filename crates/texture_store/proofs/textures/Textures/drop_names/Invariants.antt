use Rattle.std.proofs.Common.{◌≡◌, take}
use Rattle.texture_store.specs.Answers.{AreUnpinned, KeepPinned}
use Rattle.texture_store.specs.Commands.{without_names}
use Rattle.texture_store.specs.Stored.{AreOf, objects_of}
use Rattle.texture_store.proofs.textures.Textures.drop_names.Given as goal

abbrev pub invariant-loop-name : goal.invariant-loop-name
invariant-loop-name l = record {
  objects : objects_of l.self ≡ without_names (objects_of l.fn.self) (take l.name-index l.names);
  of : AreOf l.self l.images;
  lent : l.images.lent ≡ l.fn.images.lent;
  pinned : KeepPinned l.fn.images l.images;
  unpinned : AreUnpinned l.fn.images → AreUnpinned l.images;
}
