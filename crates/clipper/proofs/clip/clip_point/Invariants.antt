use Rattle.std.proofs.Common.{◌≡◌, take, true}
use Rattle.std.specs.List.{list_all}
use Rattle.clipper.specs.Planes.{is_inside}
use Rattle.clipper.proofs.clip.clip_point.Given as goal

abbrev pub invariant-loop-side : goal.invariant-loop-side
invariant-loop-side l = list_all (λ side. is_inside side l.v) (take l.side-index l.side-items) ≡ true
