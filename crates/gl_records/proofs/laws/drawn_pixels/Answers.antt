use Rattle.gl_records.proofs.Drawings.{pixel_at-drawn}
use Rattle.gl_records.proofs.laws.drawn_pixels.Goals as goal

pub returns : goal.returns
returns c = pixel_at-drawn
