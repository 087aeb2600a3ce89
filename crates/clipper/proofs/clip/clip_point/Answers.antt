use Rattle.std.proofs.Common.{◌≡◌, rules, true}
use Rattle.std.specs.List.{list_all}
use Rattle.clipper.specs.Planes.{is_inside, planes}
use Rattle.clipper.proofs.Fronts.{point-in_front}
use Rattle.clipper.proofs.clip.clip_point.Goals as goal

pub returns-clause-in_front : goal.returns-clause-in_front
returns-clause-in_front c =
    let whole : list_all (λ side. is_inside side c.args.v.now) (planes c.args.plane) ≡ true = search rules in
    λ _. point-in_front c.args.plane c.args.v.now whole
