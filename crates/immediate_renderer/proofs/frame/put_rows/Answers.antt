use Rattle.std.proofs.Common.{◌≡◌, ◌∙◌, ◌+◌, ◌<◌, ◌≤◌, ◌++◌, ℕ, List, [], get_or, length, take, sym, ap, rules, arith}
use Rattle.std.specs.Io.KnownBytes.{Appends}
use Rattle.std.proofs.lemmas.List.{take_all}
use Rattle.std.proofs.lemmas.Result.{err_from_is_err_and}
use Rattle.gl_records.specs.Surface.{Surface, row_bytes, surface_bytes}
use Rattle.output_format.proofs.Growth.{front_after, front_goes_on}
use Rattle.immediate_renderer.proofs.Rows.{surface_more, surface_split}
use Rattle.immediate_renderer.proofs.frame.put_rows.Goals as goal

pub returns-in_err-put-clause-rows : goal.returns-in_err-put-clause-rows
returns-in_err-put-clause-rows g c =
    let p = err_from_is_err_and c.from_residual-in_err-put.result c.from_residual-in_err-put.ensures.1 in
    let within : c.loop-y.y < length c.args.surface.now = omega (arith, c.requires.height) in
    let split = surface_split c.args.surface.now c.loop-y.y [] within in
    let bytes : c.deref.result.now ≡ row_bytes (get_or c.args.surface.now c.loop-y.y []) = c.deref.ensures.value ∙ c.read_row.ensures.row in
    let front = rw bytes at c.in_err-put.ensures.piece in
    rw (p.1, split) (front_after _ _ _ _ _ c.loop-y.invariant.put (front_goes_on _ _ _ _ front))

pub returns-clause-rows : goal.returns-clause-rows
returns-clause-rows g c =
    let past : length c.args.surface.now ≤ c.loop-y.y = omega (arith, c.requires.height) in
    rw (take_all c.loop-y.y c.args.surface.now past) at c.loop-y.invariant.put
