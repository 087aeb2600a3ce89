-- The status of a run that ends without a fault.
use Rattle.std.proofs.Common.{◌≡◌, ℕ, List, Option, Ok}
use Rattle.trace_reader.specs.Trace.{Ending, Ended, Malformed, Outcome, BadHeader, Readable}
use Rattle.output_format.specs.Answer.{IsAnswer, Plays, PlaysOutcome, status_of_ending, status_of_outcome}
use Rattle.output_format.specs.declared.status.Status.{Status}
use Rattle.output_format.specs.declared.status.Status.TheVariants.{Done, BadWords, Refused, NoMemory, ReadFault, WriteFault}

is_answer : (status expected : Status) → status ≡ expected → IsAnswer status expected
is_answer Done expected is = is
is_answer BadWords expected is = is
is_answer Refused expected is = is
is_answer NoMemory expected is = tt
is_answer ReadFault expected is = tt
is_answer WriteFault expected is = tt

ended : (ending : Ending) (status : Status) (left : Option (List ℕ)) → Plays ending (Ok status) left → IsAnswer status (status_of_ending ending)
ended Ended status left plays = is_answer status Done plays.0
ended (Malformed at) status left plays = is_answer status Refused plays

pub answered : (outcome : Outcome) (status : Status) (left : Option (List ℕ)) → PlaysOutcome outcome (Ok status) left → IsAnswer status (status_of_outcome outcome)
answered (BadHeader cause) status left plays = is_answer status Refused plays
answered (Readable size tail) status left plays = ended tail.ending status left plays
