use Rattle.std.proofs.Common.{◌≡◌}
use Rattle.std.specs.Prelude.{get_or, slice_index, []}
use Rattle.fx_arith.specs.Number.{component}
use Rattle.gl_records.proofs.Completes.{complete-first}
use Rattle.texel_sampler.proofs.Rows.{unasked-texel}
use Rattle.texel_sampler.proofs.image_sampler.ImageSampler.wrapped_texels.Goals as goal

pub first_row-requires : goal.first_row-requires
first_row-requires g c = complete-first c.self.inside.set.now c.self.inside.sampler c.self.invariant.complete

pub returns-else-self : goal.returns-else-self
returns-else-self g c i inside set =
    let image = c.self.inside in
    let wrap_s : image.sampler.wrap_s ≡ g.S.Wrapping.wrap = rw (← c.self.view_is) at c.requires.wrap_s in
    let wrap_t : image.sampler.wrap_t ≡ g.T.Wrapping.wrap = rw (← c.self.view_is) at c.requires.wrap_t in
    rw (← c.self.view_is)
    (unasked-texel image.set.now image.sampler (get_or c.first_row.new.texels i []) (component c.args.s.now i) (component c.args.t.now i) (slice_index c.args.rhos.now i)
    c.is_linear-linear.result g.S.Wrapping.wrap g.T.Wrapping.wrap
    (c.self.invariant.unasked c.if-self.false (slice_index c.args.rhos.now i)) c.is_linear-linear.ensures wrap_s wrap_t (c.first_row.ensures i inside set))
