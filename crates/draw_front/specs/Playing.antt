-- A trace that is being played: the immediate renderer between two records.
use Rattle.std.specs.Prelude.{ℕ, ◌+◌}
use Rattle.gl_records.specs.declared.rec.Rec.{Rec}
use Rattle.gl_records.specs.declared.size.Size.{Size}
use Rattle.gl_records.specs.Surface.{Surface, opening_surface, drawn}
use Rattle.draw_front.specs.Call.{Called, called}
use Rattle.draw_front.specs.Context.{Context, opening_context}

pub record Playing : Type 0 where
  pub size : Size
  pub context : Context
  pub surface : Surface
  -- the records that were run
  pub index : ℕ

abbrev pub opening : Size → Playing
opening size = record { size = size; context = opening_context size; surface = opening_surface size; index = 0 }

-- the next record's command, on the surface before it
abbrev pub call : Playing → Rec → Called
call now rec = called now.size now.context now.surface now.index rec

-- after it each of its items is drawn, wholly before the next
abbrev pub ran : Playing → Rec → Playing
ran now rec = record now {
  context = (call now rec).context;
  surface = drawn (call now rec).items now.surface;
  index = now.index + 1;
}
