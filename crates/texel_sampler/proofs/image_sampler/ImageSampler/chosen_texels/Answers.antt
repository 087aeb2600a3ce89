use Rattle.std.proofs.Common.{◌≡◌, true, false, sym}
use Rattle.texel_sampler.proofs.Rows.{row-levels, row-linear, row-texels}
use Rattle.texel_sampler.proofs.image_sampler.ImageSampler.chosen_texels.Goals as goal

pub filter_row-requires-clause-levels : goal.filter_row-requires-clause-levels
filter_row-requires-clause-levels g c =
    let image = c.self.inside in
    row-levels image.set.now image.sampler image.last c.args.bits c.choose_row.new.choices c.args.rhos.now c.choose_row.ensures c.self.invariant.complete c.self.invariant.last_is

pub filter_row-requires-in-false-false-clause-levels : goal.filter_row-requires-in-false-false-clause-levels
filter_row-requires-in-false-false-clause-levels g c =
    let image = c.self.inside in
    row-levels image.set.now image.sampler image.last c.args.bits c.choose_row.new.choices c.args.rhos.now c.choose_row.ensures c.self.invariant.complete c.self.invariant.last_is

pub filter_row-requires-in_default-clause-levels : goal.filter_row-requires-in_default-clause-levels
filter_row-requires-in_default-clause-levels g c =
    let image = c.self.inside in
    row-levels image.set.now image.sampler image.last c.args.bits c.choose_row.new.choices c.args.rhos.now c.choose_row.ensures c.self.invariant.complete c.self.invariant.last_is

pub filter_row-requires-clause-filter : goal.filter_row-requires-clause-filter
filter_row-requires-clause-filter g c =
    let image = c.self.inside in
    row-linear image.set.now image.sampler image.last c.args.bits c.choose_row.new.choices c.args.rhos.now c.choose_row.ensures true
    (sym c.in-true-true.ensures) (sym c.in-true-true.ensures')

pub filter_row-requires-in-false-false-clause-filter : goal.filter_row-requires-in-false-false-clause-filter
filter_row-requires-in-false-false-clause-filter g c =
    let image = c.self.inside in
    row-linear image.set.now image.sampler image.last c.args.bits c.choose_row.new.choices c.args.rhos.now c.choose_row.ensures false
    (sym c.in-false-false.ensures) (sym c.in-false-false.ensures')

pub returns-in-true-true : goal.returns-in-true-true
returns-in-true-true g c =
    let image = c.self.inside in
    let wrap_s : image.sampler.wrap_s ≡ g.S.Wrapping.wrap = rw (← c.self.view_is) at c.requires.wrap_s in
    let wrap_t : image.sampler.wrap_t ≡ g.T.Wrapping.wrap = rw (← c.self.view_is) at c.requires.wrap_t in
    rw (← c.self.view_is)
    (row-texels image.set.now image.sampler image.last c.args.bits c.choose_row.new.choices c.args.rhos.now c.choose_row.ensures
    c.args.s.now c.args.t.now c.filter_row.new.texels g.S.Wrapping.wrap g.T.Wrapping.wrap c.self.invariant.last_is wrap_s wrap_t c.filter_row.ensures)

pub returns-in-false-false : goal.returns-in-false-false
returns-in-false-false g c =
    let image = c.self.inside in
    let wrap_s : image.sampler.wrap_s ≡ g.S.Wrapping.wrap = rw (← c.self.view_is) at c.requires.wrap_s in
    let wrap_t : image.sampler.wrap_t ≡ g.T.Wrapping.wrap = rw (← c.self.view_is) at c.requires.wrap_t in
    rw (← c.self.view_is)
    (row-texels image.set.now image.sampler image.last c.args.bits c.choose_row.new.choices c.args.rhos.now c.choose_row.ensures
    c.args.s.now c.args.t.now c.filter_row-in-false-false.new.texels g.S.Wrapping.wrap g.T.Wrapping.wrap c.self.invariant.last_is wrap_s wrap_t c.filter_row-in-false-false.ensures)

pub returns-in_default : goal.returns-in_default
returns-in_default g c =
    let image = c.self.inside in
    let wrap_s : image.sampler.wrap_s ≡ g.S.Wrapping.wrap = rw (← c.self.view_is) at c.requires.wrap_s in
    let wrap_t : image.sampler.wrap_t ≡ g.T.Wrapping.wrap = rw (← c.self.view_is) at c.requires.wrap_t in
    rw (← c.self.view_is)
    (row-texels image.set.now image.sampler image.last c.args.bits c.choose_row.new.choices c.args.rhos.now c.choose_row.ensures
    c.args.s.now c.args.t.now c.filter_row-in_default.new.texels g.S.Wrapping.wrap g.T.Wrapping.wrap c.self.invariant.last_is wrap_s wrap_t c.filter_row-in_default.ensures)
