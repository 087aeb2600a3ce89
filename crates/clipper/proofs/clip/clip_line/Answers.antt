use Rattle.std.proofs.Common.{◌≡◌, rules, subst, List, Option, Some, IfSome}
use Rattle.std.specs.List.{All}
use Rattle.gl_records.specs.declared.clip_vertex.ClipVertex.{ClipVertex}
use Rattle.clipper.specs.Planes.{planes, IsInFront}
use Rattle.clipper.specs.Segment.{clipped_segment}
use Rattle.clipper.proofs.Segments.{segment-in_front}
use Rattle.clipper.proofs.clip.clip_line.Goals as goal

pub returns-clause-in_front : goal.returns-clause-in_front
returns-clause-in_front c =
    let whole : clipped_segment c.args.v.now (planes c.args.plane) ≡ Some c.loop-side.ends = search rules in
    let P : Option (List ClipVertex) → Type 0 = λ left. IfSome left (λ part. All IsInFront part) in
    subst P whole (segment-in_front c.args.plane c.args.v.now)
