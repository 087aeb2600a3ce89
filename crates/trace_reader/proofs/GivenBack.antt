-- A command whose row gives the record back.
use Rattle.std.proofs.Common.{◌≡◌, ℕ, List}
use Rattle.gl_records.specs.declared.rec.Rec.{Rec}
use Rattle.trace_reader.specs.Command.{Command}
use Rattle.trace_reader.specs.Spelling.{IsWritable, Gives, ReadsBack}

pub reads_back : (rec : Rec) (command : Command) (opcode : ℕ) (words piece own : List ℕ) → command ≡ record { opcode = opcode; words = words; piece = piece } → piece ≡ own → IsWritable command → Gives opcode words own rec → ReadsBack rec command
reads_back rec command opcode words piece own parts piece_is writable given = record { writable = writable; gives = rw (parts, piece_is) given }
