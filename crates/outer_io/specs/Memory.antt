-- Sources and sinks in memory, some of whose calls fail.
use Rattle.std.specs.Prelude.{ℕ, ◌+◌, ◌==◌, Bool, List, ◌++◌, drop, min}
use Rattle.std.specs.List.{list_any}
use Rattle.outer_io.specs.Faults.{greatest_count}

-- a source or a sink in memory
pub record Memory : Type 0 where
  -- of a source, the bytes that are left; of a sink, the bytes that it holds
  pub bytes : List ℕ
  -- how many calls were made
  pub calls : ℕ
  -- how many of them failed
  pub faults : ℕ
  -- the numbers of the calls that fail
  pub fails : List ℕ

-- the next call is one of those that fail
abbrev pub is_listed : Memory → Bool
is_listed memory = list_any (λ call. call == memory.calls) memory.fails

-- one more, up to the greatest count
abbrev pub counted : ℕ → ℕ
counted count = min (count + 1) greatest_count

-- after a call that moves no bytes
abbrev pub called : Memory → Memory
called memory = record memory { calls = counted memory.calls }

-- after a call that fails: it moves no bytes, and it is counted as a call and as a fault
abbrev pub failed : Memory → Memory
failed memory = record (called memory) { faults = counted memory.faults }

-- after a call that takes so many bytes
abbrev pub taken_from : Memory → ℕ → Memory
taken_from memory count = record (called memory) { bytes = drop count memory.bytes }

-- after a call that puts a piece
abbrev pub with_piece : Memory → List ℕ → Memory
with_piece memory piece = record (called memory) { bytes = memory.bytes ++ piece }
