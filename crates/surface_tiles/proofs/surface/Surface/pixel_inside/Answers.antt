use Rattle.std.proofs.Common.{◌≡◌, ◌∙◌, ◌<◌, ◌≤◌, Some, sym, ap, rules}
use Rattle.gl_records.specs.declared.pixel.Pixel.{Pixel}
use Rattle.surface_tiles.specs.Tiled.{kept_pixel}
use Rattle.surface_tiles.proofs.Whole.{pixel_at-inside, pixel_at-above, pixel_at-right}
use Rattle.surface_tiles.proofs.surface.Surface.pixel_inside.Goals as goal
use Rattle.surface_tiles.proofs.surface.Surface.pixel_inside.Goals.{else-x-from-via-then-x-from+else-y-from, else-x-from-via-else-x-from}

pub returns-then-y-from : goal.returns-then-y-from
returns-then-y-from c =
    let tiled = c.args.self.now in
    let column : c.args.x < tiled.size.w = search rules in
    let row : c.args.y < tiled.size.h = search rules in
    let is : c.kept.result ≡ kept_pixel tiled c.args.x c.args.y = search rules in
    ap (λ (pixel : Pixel). Some pixel) is ∙ sym (pixel_at-inside tiled c.args.x c.args.y column row)

pub returns-else-x-from : goal.returns-else-x-from
returns-else-x-from c =
    let tiled = c.args.self.now in
    elim c.else-x-from.branch [
      | else-x-from-via-then-x-from+else-y-from w ↦
          let above : tiled.size.h ≤ c.args.y = search rules in
          sym (pixel_at-above tiled c.args.x c.args.y above)
      | else-x-from-via-else-x-from w ↦
          let right : tiled.size.w ≤ c.args.x = search rules in
          sym (pixel_at-right tiled c.args.x c.args.y right)
    ]
