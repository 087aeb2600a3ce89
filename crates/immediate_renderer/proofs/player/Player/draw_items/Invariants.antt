use Rattle.std.proofs.Common.{◌≡◌, length}
use Rattle.gl_records.specs.Surface.{IsShaped, drawn}
use Rattle.draw_front.specs.Collecting.{Collecting}
use Rattle.immediate_renderer.proofs.player.Player.draw_items.Given as goal

abbrev pub invariant-items : goal.invariant-items
invariant-items g l = record {
  rest : drawn l.self.front.left l.self.surface ≡ drawn l.initial.self.front.left l.initial.self.surface;
  front : l.self.front ≡ (let next : Collecting = record l.initial.self.front { left = l.self.front.left } in next);
  shaped : IsShaped l.self.front.size l.self.surface;
}

abbrev pub decreases-items : goal.decreases-items
decreases-items g l = length l.self.front.left
