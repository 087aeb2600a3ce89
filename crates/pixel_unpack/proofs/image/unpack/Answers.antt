use Rattle.std.proofs.Common.{◌≡◌, ◌*◌, ◌+◌, ℕ, List, length, get_or, ap, ◌∙◌, arith}
use Rattle.std.specs.List.{flat_map, range_with_len}
use Rattle.pixel_unpack.specs.Image.{texel_row, row_start, image}
use Rattle.pixel_unpack.proofs.Images.{length-image, at-image}
use Rattle.pixel_unpack.proofs.Ranges.{rows_more}
use Rattle.pixel_unpack.proofs.image.unpack.Goals as goal

pub loop-y-preserved : goal.loop-y-preserved
loop-y-preserved c =
    let row = λ (start : ℕ). texel_row c.args.format c.args.kind c.args.w c.args.piece.now start in
    let f = λ (y : ℕ). row (row_start c.args.format c.args.kind c.args.align c.args.w y) in
    let is = ap (λ (stride : ℕ). row (c.loop-y.y * stride)) c.row_stride-stride.ensures.value in
    c.in_ok-push_texels.ensures ∙ rows_more f _ _ c.loop-y.y c.loop-y.invariant is

the_value : (c : goal.After-new) → c.new.result ≡ image c.args.format c.args.kind c.args.align c.args.w c.args.h c.args.piece.now
unfolding image
the_value c =
    let f = λ (y : ℕ). texel_row c.args.format c.args.kind c.args.w c.args.piece.now (row_start c.args.format c.args.kind c.args.align c.args.w y) in
    let last : c.loop-y.y ≡ c.args.h = omega arith in
    c.new.ensures ∙ c.loop-y.invariant ∙ ap (λ (n : ℕ). flat_map f (range_with_len 0 n)) last

pub returns-clause-value : goal.returns-clause-value
returns-clause-value c = the_value c

pub returns-clause-count : goal.returns-clause-count
returns-clause-count c = ap (λ (texels : List ℕ). length texels) (the_value c) ∙ length-image c.args.format c.args.kind c.args.align c.args.w c.args.h c.args.piece.now

pub returns-clause-placed : goal.returns-clause-placed
returns-clause-placed c = λ x y across up.
    ap (λ (texels : List ℕ). get_or texels (y * c.args.w + x) 0) (the_value c)
    ∙ at-image c.args.format c.args.kind c.args.align c.args.w c.args.h c.args.piece.now x y across up
