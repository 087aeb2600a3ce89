use Rattle.std.proofs.lemmas.Result.{err_from_is_err_and}
use Rattle.gl_records.specs.Surface.{surface_bytes}
use Rattle.output_format.specs.Frames.{frame_header}
use Rattle.output_format.proofs.Growth.{front_goes_on, puts_after}
use Rattle.immediate_renderer.proofs.frame.put_frame.Goals as goal

pub returns-in_err-put-clause-frame : goal.returns-in_err-put-clause-frame
returns-in_err-put-clause-frame g c =
    let p = err_from_is_err_and c.from_residual.result c.from_residual.ensures.1 in
    let front = rw c.frame_header.ensures at c.in_err-put.ensures.piece in
    rw p.1 (front_goes_on _ _ (frame_header c.args.index c.args.size) (surface_bytes c.args.surface.now) front)

pub returns-clause-frame : goal.returns-clause-frame
returns-clause-frame g c =
    let header = rw c.frame_header.ensures at c.in_ok-put.ensures.piece in
    let rows = c.put_rows.ensures.rows in
    puts_after c.put_rows.result _ _ _ (frame_header c.args.index c.args.size) (surface_bytes c.args.surface.now) header rows
