-- What a put does to the bytes that a sink holds, where they are known.
use Rattle.std.specs.Prelude.{◌≡◌, ℕ, Bool, true, false, List, ◌++◌, Option, Result, Err}
use Rattle.std.specs.Io.KnownBytes.{Appends, Keeps}
use Rattle.outer_io.specs.declared.sink.PutFault.{PutFault}
use Rattle.outer_io.specs.declared.sink.PutFault.TheVariants.{Failed, NoMemory}

-- known bytes grew by a front of the piece, none or all of it included
abbrev pub AppendsFront : Option (List ℕ) → Option (List ℕ) → List ℕ → Type 0
AppendsFront old new piece = (front : List ℕ) × (back : List ℕ) × (piece ≡ front ++ back) × Appends old new front

-- what a put that failed left: a front of the piece, or for want of memory the bytes as they were
abbrev pub PutsAtMost : Option (List ℕ) → Option (List ℕ) → List ℕ → PutFault → Type 0
PutsAtMost old new piece Failed = AppendsFront old new piece
PutsAtMost old new piece NoMemory = Keeps old new

-- whether a put answered that the outside failed
abbrev pub is_failed : {A : Type 0} → Result A PutFault → Bool
is_failed (Err Failed) = true
is_failed _ = false
