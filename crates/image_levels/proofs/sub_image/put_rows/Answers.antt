use Rattle.std.proofs.Common.{◌≡◌, ◌<◌, ◌+◌, ◌*◌, ℕ, get_or, refl, sym, ap, arith, ◌∙◌}
use Rattle.image_levels.specs.SubImage.{replaced_texel}
use Rattle.image_levels.specs.Texels.{texel_of}
use Rattle.image_levels.proofs.Replaced.{replaced-none, row-replaced}
use Rattle.image_levels.proofs.Rows.{row-fits, texels_by-is}
use Rattle.image_levels.proofs.sub_image.put_rows.Goals as goal

pub row_of-requires : goal.row_of-requires
row_of-requires c =
    let low : c.loop-row.row < c.args.area.h = omega (arith, c.loop-row-test.true, c.from-h.ensures) in
    let fits = row-fits c.args.area.w c.args.area.h 0 c.args.area.w c.loop-row.row (omega arith) low in
    rw c.from-w.ensures (record { inside = omega (arith, fits, c.requires.count) })

pub put_row-requires : goal.put_row-requires
put_row-requires c =
    let low : c.args.area.y + c.loop-row.row < c.args.up = omega (arith, c.loop-row-test.true, c.from-h.ensures, c.requires.inside.1) in
    let fits = row-fits c.args.across c.args.up c.args.area.x c.args.area.w (c.args.area.y + c.loop-row.row) c.requires.inside.0 low in
    rw (c.row_of.ensures.count, c.from-y.ensures, c.from.ensures, c.from-x.ensures, c.from-w.ensures)
    (record { inside = omega (arith, fits, c.requires.filled, c.loop-row.invariant.count) })

pub loop-row-init : goal.loop-row-init
loop-row-init c = record {
  count = refl;
  so_far = λ x y column row. replaced-none c.args.across c.args.area c.args.into.now c.args.texels.now x y;
}

pub loop-row-preserved : goal.loop-row-preserved
loop-row-preserved c =
    let after = c.put_row.new.into in
    let w = c.from-w.ensures in
    let size = c.row_of.ensures.count ∙ w in
    let start : (c.from-y.result + c.loop-row.row) * c.from.result + c.from-x.result ≡ (c.args.area.y + c.loop-row.row) * c.args.across + c.args.area.x =
    rw (c.from-y.ensures, c.from.ensures, c.from-x.ensures) refl in
    record {
      count = c.put_row.ensures.count ∙ c.loop-row.invariant.count;
      so_far = row-replaced c.args.across c.args.up c.args.area c.loop-row.row c.args.into.now c.args.texels.now c.loop-row.into after
          c.requires.inside.0 c.loop-row.invariant.so_far
          (λ k within.
          ap (λ (p : ℕ). get_or after (p + k) 0) (sym start)
          ∙ c.put_row.ensures.written k (omega (arith, size, within))
          ∙ c.row_of.ensures.each k (omega (arith, w, within))
          ∙ ap (λ (across : ℕ). texel_of across c.args.texels.now k c.loop-row.row) w)
          (λ p front. c.put_row.ensures.before p (rw start front))
          (λ p back. c.put_row.ensures.behind p (rw (size, start) back));
    }

pub returns-clause-value : goal.returns-clause-value
returns-clause-value c =
    let last : c.loop-row.row ≡ c.args.area.h = omega (arith, c.loop-row-test.false, c.loop-row.auto.row-end, c.from-h.ensures) in
    texels_by-is c.args.across c.args.up (replaced_texel c.args.across c.args.area c.args.area.h c.args.into.now c.args.texels.now) c.loop-row.into
    (c.loop-row.invariant.count ∙ c.requires.filled)
    (λ x y column row.
    c.loop-row.invariant.so_far x y column row
    ∙ ap (λ (n : ℕ). replaced_texel c.args.across c.args.area n c.args.into.now c.args.texels.now x y) last)

pub returns-clause-count : goal.returns-clause-count
returns-clause-count c = c.loop-row.invariant.count ∙ c.requires.filled
