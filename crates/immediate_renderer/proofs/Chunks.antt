-- The chunk of a record is what its step presents.
use Rattle.std.proofs.Common.{◌≡◌, ℕ, Option, Some, None, refl, sym}
use Rattle.std.specs.Prelude.{option_to_list}
use Rattle.std.proofs.lemmas.List.{append-nil}
use Rattle.gl_records.specs.declared.rec.Rec.{Rec}
use Rattle.gl_records.specs.declared.rec.Rec.TheVariants.{Swap}
use Rattle.gl_records.specs.declared.size.Size.{Size}
use Rattle.gl_records.specs.Surface.{Surface}
use Rattle.gl_tokens.specs.declared.gl_error.GlError.{GlError}
use Rattle.output_format.specs.Frames.{frame}
use Rattle.draw_front.specs.Call.{chunk_of}
use Rattle.draw_front.specs.Collecting.{answer_of}
use Rattle.draw_front.specs.Immediate.{joined}
use Rattle.immediate_renderer.specs.Settled.{presented}

pub presented-chunk : (size : Size) (surface : Surface) (index : ℕ) (rec : Rec) (error : Option GlError)
    → presented size surface index (answer_of rec error) ≡ joined (option_to_list (chunk_of size surface index rec error))
presented-chunk size surface index rec (Some error) = refl
presented-chunk size surface index Swap None = sym (append-nil (frame index size surface))
presented-chunk size surface index rec None = refl
