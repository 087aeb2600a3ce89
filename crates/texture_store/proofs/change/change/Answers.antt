use Rattle.std.proofs.Common.{◌∙◌, ap, sym, subst, Option, IfSome}
use Rattle.gl_records.specs.ImageBytes.{empty_image}
use Rattle.gl_records.specs.declared.version_id.VersionId.{VersionId}
use Rattle.texture_ghosts.specs.Versions.{waits, at, IsCurrent}
use Rattle.texture_store.specs.Changes.{image_at, rule_at}
use Rattle.texture_store.proofs.change.change.Goals as goal

pub add_version-requires-clause-ready : goal.add_version-requires-clause-ready
add_version-requires-clause-ready c = c.requires.ready empty_image (ap (image_at c.args.images.now) c.in_default.is)

pub change_version-requires-clause-ready : goal.change_version-requires-clause-ready
change_version-requires-clause-ready c image is = c.requires.ready image (ap (image_at c.args.images.now) c.in-Some.is ∙ is)

pub change_beside-requires : goal.change_beside-requires
change_beside-requires c = record {
  lent = c.requires.lent;
  allowed = (subst (λ (o : Option VersionId). IfSome o (λ v. IsCurrent (at c.args.images.now v.0))) c.in-Some.is c.requires.current, ap waits (ap (rule_at c.args.images.now) (sym c.in-Some.is) ∙ sym c.requires.rule) ∙ c.requires.now);
  ready = λ image is. c.requires.ready image (ap (image_at c.args.images.now) c.in-Some.is ∙ is);
}
