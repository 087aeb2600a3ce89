use Rattle.std.proofs.Common.{◌∙◌, ap}
use Rattle.gl_records.specs.Captured.{without_versions}
use Rattle.draw_front.proofs.Fragments.{fragments-is}
use Rattle.draw_front.proofs.draw_state.fragments.Goals as goal

pub returns-clause-value : goal.returns-clause-value
returns-clause-value c =
    ap without_versions c.frag_state.ensures ∙ fragments-is c.args.state.now c.args.textures.now c.unit_image-first.result c.unit_image-second.result c.unit_image-first.ensures.value c.unit_image-second.ensures.value
