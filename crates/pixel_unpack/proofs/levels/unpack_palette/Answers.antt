use Rattle.std.proofs.Common.{◌≡◌, ◌*◌, List, length, All, subst, ap, sym, ◌∙◌, arith}
use Rattle.gl_records.specs.declared.level.Level.{Level}
use Rattle.pixel_unpack.proofs.Palettes.{size-nil, size_more, levels-nil, levels_push, length-levels, filled-levels}
use Rattle.pixel_unpack.proofs.levels.unpack_palette.Goals as goal

pub loop-i-init : goal.loop-i-init
loop-i-init c = record {
  so_far = c.in_ok-all.ensures.items ∙ sym (levels-nil c.args.format c.args.w c.args.h c.args.piece.now);
  behind = c.entries_bytes-start.ensures.value ∙ sym (size-nil c.args.format c.args.w c.args.h);
  most = omega arith;
}

pub loop-i-preserved : goal.loop-i-preserved
loop-i-preserved c =
    let more = size_more c.args.format c.args.w c.args.h c.loop-i.i in
    record {
      so_far = c.in_ok-push.ensures.items
          ∙ levels_push c.args.format c.args.w c.args.h c.loop-i.i _ _ _ c.args.piece.now _ _ c.loop-i.invariant.so_far c.level_side-w_i.ensures c.level_side-h_i.ensures c.loop-i.invariant.behind c.in_ok-unpack_level.ensures;
      behind = cc;
      most = omega arith;
    }

pub returns-clause-count : goal.returns-clause-count
returns-clause-count c =
    let all = c.loop-i.all in
    let made = ap (λ (levels : List Level). length levels) c.loop-i.invariant.so_far in
    let count = length-levels c.args.format c.args.w c.args.h c.loop-i.i c.args.piece.now in
    omega (arith, all.ok.0)

pub returns-clause-filled : goal.returns-clause-filled
returns-clause-filled c =
    let P : List Level → Type 0 = λ levels. All (λ level. length level.texels ≡ level.w * level.h) levels in
    subst P (sym c.loop-i.invariant.so_far) (filled-levels c.args.format c.args.w c.args.h c.loop-i.i c.args.piece.now)
