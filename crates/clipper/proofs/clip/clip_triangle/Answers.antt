use Rattle.std.proofs.Common.{◌≡◌, ◌<◌, ◌≤◌, rules, arith, ap, sym, subst, ◌∙◌, get_or, length, List}
use Rattle.std.specs.List.{All}
use Rattle.std.proofs.lemmas.List.Sums.{fold_more}
use Rattle.gl_records.specs.declared.clip_vertex.ClipVertex.{ClipVertex}
use Rattle.clipper.specs.declared.planes.Plane.TheVariants.{LeastW}
use Rattle.clipper.specs.Planes.{planes, IsInFront}
use Rattle.clipper.specs.Polygon.{clipped, clipped_polygon}
use Rattle.clipper.proofs.Polygons.{length-clipped, length-polygon, polygon-in_front}
use Rattle.clipper.proofs.clip.clip_triangle.Goals as goal

pub loop-side-preserved : goal.loop-side-preserved
loop-side-preserved c =
    let i = c.loop-side.side-index in
    let sides = c.planes-side-items.result.now in
    let side = get_or sides i LeastW in
    record {
      done = c.clip_by.ensures ∙ ap (λ corners. clipped corners side) c.loop-side.invariant.done
          ∙ sym (fold_more clipped c.args.v.now sides i LeastW c.loop-side-test.true);
      amount = omega (arith, ap length c.clip_by.ensures, (length-clipped c.loop-side.polygon.items side).0, c.loop-side.invariant.amount);
    }

pub returns-clause-in_front : goal.returns-clause-in_front
returns-clause-in_front c =
    let whole : clipped_polygon c.args.v.now (planes c.args.plane) ≡ c.loop-side.polygon.items = search rules in
    let P : List ClipVertex → Type 0 = λ corners. All IsInFront corners in
    subst P whole (polygon-in_front c.args.plane c.args.v.now)

pub returns-clause-at_least : goal.returns-clause-at_least
returns-clause-at_least c =
    let whole : clipped_polygon c.args.v.now (planes c.args.plane) ≡ c.loop-side.polygon.items = search rules in
    let P : List ClipVertex → Type 0 = λ corners. 0 < length corners → 3 ≤ length corners in
    subst P whole (length-polygon c.args.v.now (planes c.args.plane) (λ _. omega (arith, c.told-v)))
