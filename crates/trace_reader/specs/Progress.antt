-- How far a reader has come.
use Rattle.std.specs.Prelude.{ℕ}
use Rattle.trace_reader.specs.declared.stage.Stage.{Stage}
use Rattle.trace_reader.specs.declared.stage.Stage.TheVariants.{Reading}

pub record Progress : Type 0 where
  -- the whole records that it has read, without End
  pub index : ℕ
  -- the bytes of the header and of the records that it has read, End among them
  pub offset : ℕ
  -- whether it reads on
  pub stage : Stage

-- behind the header
abbrev pub at_first_record : Progress
at_first_record = record { index = 0; offset = 8; stage = Reading }
