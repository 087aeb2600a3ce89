use Rattle.std.proofs.Common.{◌≡◌, ◌∙◌, sym}
use Rattle.gl_records.specs.Interpolation.{component}
use Rattle.interpolation.proofs.Sums.{component-is}
use Rattle.interpolation.proofs.color.interpolated_color.Goals as goal

pub returns : goal.returns
returns c x y shares =
    let p = c.args.prim.now in
    let red : c.mean.result ≡ component p 0 x y = c.mean.ensures ∙ sym (component-is c.args.shares.now p 0 x y c.requires shares) in
    let green : c.mean-2.result ≡ component p 1 x y = c.mean-2.ensures ∙ sym (component-is c.args.shares.now p 1 x y c.requires shares) in
    let blue : c.mean-3.result ≡ component p 2 x y = c.mean-3.ensures ∙ sym (component-is c.args.shares.now p 2 x y c.requires shares) in
    let alpha : c.mean-4.result ≡ component p 3 x y = c.mean-4.ensures ∙ sym (component-is c.args.shares.now p 3 x y c.requires shares) in
    rw (red, green, blue, alpha)
