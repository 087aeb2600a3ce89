use Rattle.std.proofs.Common.{◌≡◌, ◌≤◌, ◌∙◌, refl, ap, sym, subst, Some}
use Rattle.image_commands.specs.Prepared.{IsReady, put_of}
use Rattle.image_commands.specs.Written.{IsGood}
use Rattle.texture_store.specs.Changes.{image_at}
use Rattle.texture_store.specs.Kept.{IsKept}
use Rattle.texture_store.specs.Stored.{image_of_name, objects_of, stored_at}
use Rattle.texture_store.specs.Textures.{live_bytes, most_bytes}
use Rattle.texture_store.specs.Writes.{with_image}
use Rattle.texture_store.proofs.Writing.{image_is, image_by, kept_put, objects_put}
use Rattle.texture_store.proofs.textures.Textures.put.Goals as goal

pub change-requires-clause-ready : goal.change-requires-clause-ready
change-requires-clause-ready c image is =
    let kept = subst IsKept c.self.view_is c.self.invariant.1 in
    subst (λ i. IsReady i c.args.prepared) (image_is c.args.self.now c.args.images.now c.args.name c.version-version.result image c.requires.object c.version-version.ensures c.requires.of kept is) c.requires.ready

value_of : (c : goal.After-keep-arg-1) → c.in_ok-made.image.value ≡ put_of (image_of_name c.args.self.now c.args.name) c.args.prepared
value_of c =
    let kept = subst IsKept c.self.view_is c.self.invariant.1 in
    c.in_ok-made.ensures.image (image_of_name c.args.self.now c.args.name)
    (ap (image_at c.args.images.now) c.version-version.ensures ∙ image_by c.args.self.now c.args.images.now c.args.name (stored_at c.args.self.now c.args.name) refl c.requires.object c.requires.of kept)

live_of : (c : goal.After-keep-arg-1) → c.args.live ≡ live_bytes (with_image (objects_of c.args.self.now) c.args.name c.in_ok-made.image.value)
live_of c = c.requires.live ∙ ap (λ i. live_bytes (with_image (objects_of c.args.self.now) c.args.name i)) (sym (value_of c))

pub keep-requires-clause-kept : goal.keep-requires-clause-kept
keep-requires-clause-kept c =
    let kept = subst IsKept c.self.view_is c.self.invariant.1 in
    kept_put c.args.self.now c.args.images.now c.change.new.images c.args.name c.version-version.result c.in_ok-made.made c.in_ok-made.image.value c.requires.object c.version-version.ensures
    c.requires.of kept c.in_ok-made.ensures.moved (subst IsGood (sym (value_of c)) c.requires.good) (subst (λ n. n ≤ most_bytes) (live_of c) c.requires.few)

pub keep-requires-clause-live : goal.keep-requires-clause-live
keep-requires-clause-live c =
    live_of c ∙ ap live_bytes (sym (objects_put c.args.self.now c.args.name (Some c.in_ok-made.made) c.in_ok-made.image.value c.requires.object))

pub returns-clause-objects : goal.returns-clause-objects
returns-clause-objects c =
    ap objects_of c.keep.ensures
    ∙ objects_put c.args.self.now c.args.name (Some c.in_ok-made.made) c.in_ok-made.image.value c.requires.object
    ∙ ap (with_image (objects_of c.args.self.now) c.args.name) (value_of (c.before))
