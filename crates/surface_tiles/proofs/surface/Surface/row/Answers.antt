use Rattle.std.proofs.Common.{◌≡◌, ◌∙◌, ◌+◌, ◌*◌, ◌++◌, ℕ, List, map, ap, rules, arith}
use Rattle.std.specs.List.{range_with_len}
use Rattle.gl_records.specs.declared.pixel.Pixel.{Pixel}
use Rattle.gl_records.specs.Surface.{row_bytes}
use Rattle.surface_tiles.specs.Tiled.{kept_pixel}
use Rattle.surface_tiles.proofs.Rows.{row_bytes-more}
use Rattle.surface_tiles.proofs.surface.Surface.row.Goals as goal

pub loop-x-preserved : goal.loop-x-preserved
loop-x-preserved c =
    let x = c.loop-x.x in
    let pixel : ℕ → Pixel = λ x. kept_pixel c.args.self.now x c.args.y in
    let same : c.from.result ≡ x = search rules in
    let put = rw same at c.put_color.ensures.front in
    let next : 4 * (x + 1) ≡ 4 * x + 4 = omega arith in
    record {
      len = c.put_color.ensures.len ∙ c.loop-x.invariant.len;
      front = rw next (put
          ∙ ap (λ (l : List ℕ). l ++ c.kept.result.rgba) c.loop-x.invariant.front
          ∙ ap (λ (p : Pixel). row_bytes (map pixel (range_with_len 0 x)) ++ p.rgba) c.kept.ensures
          ∙ row_bytes-more pixel x);
    }
