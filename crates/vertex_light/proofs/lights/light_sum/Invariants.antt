use Rattle.std.proofs.Common.{◌≡◌, take}
use Rattle.std.specs.List.{fold}
use Rattle.std.specs.Option.{option_map}
use Rattle.vertex_light.specs.Lit.{material_at, with_light}
use Rattle.vertex_light.proofs.lights.light_sum.Given as goal

abbrev pub invariant-loop-light : goal.invariant-loop-light
invariant-loop-light l =
    l.sum
    ≡ fold (λ before light. with_light (material_at l.state l.color) l.normal l.eye before (option_map (λ p. p.light) light)) l.fn.scene (take l.light-index l.lights)
