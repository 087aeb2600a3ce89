-- A trace that is played up to a record.
use Rattle.std.proofs.Common.{◌≡◌, ◌∙◌, ℕ, suc, ◌+◌, Bool, true, false, List, [], ◌∷◌, ◌++◌, length, Option, Some, None, IfSome, IsSomeAnd, Result, Ok, Err, refl, sym, ap, subst, append_assoc, arith}
use Rattle.std.specs.Prelude.{option_to_list}
use Rattle.std.specs.Io.KnownBytes.{Appends}
use Rattle.std.proofs.KnownBytes.{Appends-trans, Appends-nil}
use Rattle.std.proofs.lemmas.List.{append-nil}
use Rattle.gl_records.specs.declared.rec.Rec.{Rec}
use Rattle.gl_records.specs.declared.rec.Rec.TheVariants.{End}
use Rattle.outer_io.specs.Bytes.{AppendsFront}
use Rattle.trace_reader.specs.declared.cause.Cause.{Cause}
use Rattle.trace_reader.specs.declared.cause.ReadEnd.{ReadEnd}
use Rattle.trace_reader.specs.declared.cause.ReadEnd.TheVariants as read
use Rattle.trace_reader.specs.Progress.{Progress}
use Rattle.trace_reader.specs.Reading.{Reads, tail_of}
use Rattle.trace_reader.specs.Trace.{Tail, Ending, Ended, Malformed, with_record, is_end}
use Rattle.trace_reader.proofs.Outcomes.{is_end-end}
use Rattle.draw_front.specs.Call.{Called}
use Rattle.draw_front.specs.Immediate.{Output, joined, immediate, output_of_tail}
use Rattle.output_format.specs.Answer.{Plays, Puts, Stops, stop_line}
use Rattle.output_format.specs.declared.fault.Fault.{Fault}
use Rattle.output_format.specs.declared.status.Status.{Status}
use Rattle.output_format.specs.declared.status.Status.TheVariants.{Done}
use Rattle.output_format.specs.Log.{end_line, refused_line, last_line}
use Rattle.draw_front.specs.Playing.{Playing, call, ran}
use Rattle.output_format.proofs.Growth.{front_after, front_goes_on}

-- what a command makes, as bytes
abbrev pub call_output : Called → Output
call_output done = record { frames = joined (option_to_list done.chunk); log = joined done.lines }

-- one output after the other
abbrev pub then_output : Output → Output → Output
then_output first later = record { frames = first.frames ++ later.frames; log = first.log ++ later.log }

joined-append : (first later : List (List ℕ)) → joined (first ++ later) ≡ joined first ++ joined later
joined-append [] later = refl
joined-append (piece ∷ first) later = ap (λ (l : List ℕ). piece ++ l) (joined-append first later) ∙ sym (append_assoc piece (joined first) (joined later))

-- what a tail makes is what its first record makes, and then what the rest makes
pub output_of_tail-with_record : (now : Playing) (rec : Rec) (tail : Tail) → output_of_tail now (with_record rec tail) ≡ then_output (call_output (call now rec)) (output_of_tail (ran now rec) tail)
output_of_tail-with_record now rec tail =
    let count : now.index + suc (length tail.records) ≡ now.index + 1 + length tail.records = omega arith in
    let rest = immediate (ran now rec) tail.records in
    let chunks = option_to_list (call now rec).chunk in
    let lines = (call now rec).lines in
    let made : List ℕ → List ℕ → Output = λ frames log. record { frames = frames; log = log } in
    ap (λ (n : ℕ). made (joined (chunks ++ rest.chunks)) (joined (lines ++ rest.lines) ++ last_line n tail.ending)) count
    ∙ ap (λ (f : List ℕ). made f (joined (lines ++ rest.lines) ++ last_line (now.index + 1 + length tail.records) tail.ending)) (joined-append chunks rest.chunks)
    ∙ ap (λ (l : List ℕ). made (joined chunks ++ joined rest.chunks) (l ++ last_line (now.index + 1 + length tail.records) tail.ending)) (joined-append lines rest.lines)
    ∙ ap (made (joined chunks ++ joined rest.chunks)) (append_assoc (joined lines) (joined rest.lines) (last_line (now.index + 1 + length tail.records) tail.ending))

-- of all that is to be put, a front was put, and this is left
pub record IsSoFar (all left : Output) (f g l m : Option (List ℕ)) : Type 0 where
  pub frames : List ℕ
  pub log : List ℕ
  pub all_frames : all.frames ≡ frames ++ left.frames
  pub all_log : all.log ≡ log ++ left.log
  pub frames_put : Appends f g frames
  pub log_put : Appends l m log

-- from one place to another of a trace whose bytes are known
pub record IsPlayed (reader now : Progress) (player then : Playing) (known left f g l m : Option (List ℕ)) : Type 0 where
  pub so_far : IfSome known (λ bytes. IsSomeAnd left (λ rest. IsSoFar (output_of_tail player (tail_of reader bytes)) (output_of_tail then (tail_of now rest)) f g l m))
  pub same_ending : IfSome known (λ bytes. IsSomeAnd left (λ rest. (tail_of reader bytes).ending ≡ (tail_of now rest).ending))

pub nothing_played : (reader : Progress) (player : Playing) (known f l : Option (List ℕ)) → IsPlayed reader reader player player known known f f l l
nothing_played reader player None f l = record { so_far = tt; same_ending = tt }
nothing_played reader player (Some bytes) f l = record {
  so_far = record { frames = []; log = []; all_frames = refl; all_log = refl; frames_put = Appends-nil f; log_put = Appends-nil l };
  same_ending = refl;
}

so_far_more : (all left later : Output) (done : Output) (f g h l m n : Option (List ℕ)) → IsSoFar all left f g l m → left ≡ then_output done later → Appends g h done.frames → Appends m n done.log
    → IsSoFar all later f h l n
so_far_more all left later done f g h l m n so is frames log = record {
  frames = so.frames ++ done.frames;
  log = so.log ++ done.log;
  all_frames = so.all_frames ∙ ap (λ (o : Output). so.frames ++ o.frames) is ∙ sym (append_assoc so.frames done.frames later.frames);
  all_log = so.all_log ∙ ap (λ (o : Output). so.log ++ o.log) is ∙ sym (append_assoc so.log done.log later.log);
  frames_put = Appends-trans f g h so.frames done.frames so.frames_put frames;
  log_put = Appends-trans l m n so.log done.log so.log_put log;
}

-- after a fault in what comes next, a front of all was put
so_far_front : (all left later : Output) (done : Output) (f g h l m n : Option (List ℕ)) → IsSoFar all left f g l m → left ≡ then_output done later → AppendsFront g h done.frames → AppendsFront m n done.log
    → AppendsFront f h all.frames × AppendsFront l n all.log
so_far_front all left later done f g h l m n so is frames log =
    let all_frames : all.frames ≡ so.frames ++ (done.frames ++ later.frames) = so.all_frames ∙ ap (λ (o : Output). so.frames ++ o.frames) is in
    let all_log : all.log ≡ so.log ++ (done.log ++ later.log) = so.all_log ∙ ap (λ (o : Output). so.log ++ o.log) is in (
      subst (AppendsFront f h) (sym all_frames) (front_after f g h so.frames (done.frames ++ later.frames) so.frames_put (front_goes_on g h done.frames later.frames frames)),
      subst (AppendsFront l n) (sym all_log) (front_after l m n so.log (done.log ++ later.log) so.log_put (front_goes_on m n done.log later.log log)),
    )

-- a record that isn't End was read, and what it makes comes next
next_output : (now next : Progress) (then : Playing) (rec : Rec) (rest later : List ℕ) → tail_of now rest ≡ with_record rec (tail_of next later)
    → output_of_tail then (tail_of now rest) ≡ then_output (call_output (call then rec)) (output_of_tail (ran then rec) (tail_of next later))
next_output now next then rec rest later step = ap (output_of_tail then) step ∙ output_of_tail-with_record then rec (tail_of next later)

-- what `next` answered, where it is no End
next_tail : (now next : Progress) (rec : Rec) (rest : List ℕ) (after : Option (List ℕ)) → is_end rec ≡ false → Reads now rest (Ok rec) next after → IsSomeAnd after (λ later. tail_of now rest ≡ with_record rec (tail_of next later))
next_tail now next rec rest after other reads = rw other at reads

pub played_more : (reader now next : Progress) (player then : Playing) (known left after f g h l m n : Option (List ℕ)) (rec : Rec) → IsPlayed reader now player then known left f g l m
    → is_end rec ≡ false → IfSome left (λ rest. Reads now rest (Ok rec) next after) → Appends g h (joined (option_to_list (call then rec).chunk)) → Appends m n (joined (call then rec).lines)
    → IsPlayed reader next player (ran then rec) known after f h l n
played_more reader now next player then None left after f g h l m n rec played other reads frames log = record { so_far = tt; same_ending = tt }
played_more reader now next player then (Some bytes) None after f g h l m n rec played other reads frames log = absurd played.so_far
played_more reader now next player then (Some bytes) (Some rest) None f g h l m n rec played other reads frames log = absurd (next_tail now next rec rest None other reads)
played_more reader now next player then (Some bytes) (Some rest) (Some later) f g h l m n rec played other reads frames log =
    let step = next_tail now next rec rest (Some later) other reads in
    record {
      so_far = so_far_more _ _ _ (call_output (call then rec)) f g h l m n played.so_far (next_output now next then rec rest later step) frames log;
      same_ending = played.same_ending ∙ ap (λ (tail : Tail). tail.ending) step;
    }

pub run_front : (reader now next : Progress) (player then : Playing) (known left after f g h l m n : Option (List ℕ)) (rec : Rec) → IsPlayed reader now player then known left f g l m
    → is_end rec ≡ false → IfSome left (λ rest. Reads now rest (Ok rec) next after) → AppendsFront g h (joined (option_to_list (call then rec).chunk)) → AppendsFront m n (joined (call then rec).lines)
    → IfSome known (λ bytes. AppendsFront f h (output_of_tail player (tail_of reader bytes)).frames) × IfSome known (λ bytes. AppendsFront l n (output_of_tail player (tail_of reader bytes)).log)
run_front reader now next player then None left after f g h l m n rec played other reads frames log = (tt, tt)
run_front reader now next player then (Some bytes) None after f g h l m n rec played other reads frames log = absurd played.so_far
run_front reader now next player then (Some bytes) (Some rest) None f g h l m n rec played other reads frames log = absurd (next_tail now next rec rest None other reads)
run_front reader now next player then (Some bytes) (Some rest) (Some later) f g h l m n rec played other reads frames log =
    so_far_front _ _ _ (call_output (call then rec)) f g h l m n played.so_far (next_output now next then rec rest later (next_tail now next rec rest (Some later) other reads)) frames log

-- the last line alone is left
last_front : (then : Playing) (tail : Tail) (all : Output) (ending : Ending) (f g l m n : Option (List ℕ)) → IsSoFar all (output_of_tail then tail) f g l m → tail ≡ (let last : Tail = record { records = []; ending = ending } in last)
    → AppendsFront m n (last_line then.index ending) → AppendsFront l n all.log
last_front then tail all ending f g l m n so is line =
    let count : then.index + 0 ≡ then.index = omega arith in
    let left : (output_of_tail then tail).log ≡ last_line then.index ending = ap (λ (t : Tail). (output_of_tail then t).log) is ∙ ap (λ (k : ℕ). last_line k ending) count in
    subst (AppendsFront l n) (sym (so.all_log ∙ ap (λ (k : List ℕ). so.log ++ k) left)) (front_after l m n so.log (last_line then.index ending) so.log_put line)

-- the last line, and all was put
last_whole : (then : Playing) (tail : Tail) (all : Output) (ending : Ending) (f g l m n : Option (List ℕ)) → IsSoFar all (output_of_tail then tail) f g l m → tail ≡ (let last : Tail = record { records = []; ending = ending } in last)
    → Appends m n (last_line then.index ending) → Appends l n all.log
last_whole then tail all ending f g l m n so is line =
    let count : then.index + 0 ≡ then.index = omega arith in
    let left : (output_of_tail then tail).log ≡ last_line then.index ending = ap (λ (t : Tail). (output_of_tail then t).log) is ∙ ap (λ (k : ℕ). last_line k ending) count in
    subst (Appends l n) (sym (so.all_log ∙ ap (λ (k : List ℕ). so.log ++ k) left)) (Appends-trans l m n so.log (last_line then.index ending) so.log_put line)

-- what was put is a front of all
pub played_front : (reader now : Progress) (player then : Playing) (known left f g l m : Option (List ℕ)) → IsPlayed reader now player then known left f g l m
    → IfSome known (λ bytes. AppendsFront f g (output_of_tail player (tail_of reader bytes)).frames) × IfSome known (λ bytes. AppendsFront l m (output_of_tail player (tail_of reader bytes)).log)
played_front reader now player then None left f g l m played = (tt, tt)
played_front reader now player then (Some bytes) None f g l m played = absurd played.so_far
played_front reader now player then (Some bytes) (Some rest) f g l m played =
    let so = played.so_far in
    ((so.frames, (output_of_tail then (tail_of now rest)).frames, so.all_frames, so.frames_put), (so.log, (output_of_tail then (tail_of now rest)).log, so.all_log, so.log_put))

pub end_whole : (reader now next : Progress) (player then : Playing) (known left after f g l m n : Option (List ℕ)) → IsPlayed reader now player then known left f g l m
    → IfSome left (λ rest. Reads now rest (Ok End) next after) → Appends m n (end_line then.index) → IfSome known (λ bytes. Appends l n (output_of_tail player (tail_of reader bytes)).log)
end_whole reader now next player then None left after f g l m n played reads line = tt
end_whole reader now next player then (Some bytes) None after f g l m n played reads line = absurd played.so_far
end_whole reader now next player then (Some bytes) (Some rest) after f g l m n played reads line = last_whole then (tail_of now rest) _ Ended f g l m n played.so_far reads.0 line

-- End makes no frame
frames_whole : (then : Playing) (tail : Tail) (all : Output) (f g l m : Option (List ℕ)) → IsSoFar all (output_of_tail then tail) f g l m → tail ≡ (let last : Tail = record { records = []; ending = Ended } in last) → Appends f g all.frames
frames_whole then tail all f g l m so is =
    let none : (output_of_tail then tail).frames ≡ [] = ap (λ (t : Tail). (output_of_tail then t).frames) is in
    subst (Appends f g) (sym (so.all_frames ∙ ap (λ (k : List ℕ). so.frames ++ k) none ∙ append-nil so.frames)) so.frames_put

pub end_frames : (reader now next : Progress) (player then : Playing) (known left after f g l m : Option (List ℕ)) → IsPlayed reader now player then known left f g l m
    → IfSome left (λ rest. Reads now rest (Ok End) next after) → IfSome known (λ bytes. Appends f g (output_of_tail player (tail_of reader bytes)).frames)
end_frames reader now next player then None left after f g l m played reads = tt
end_frames reader now next player then (Some bytes) None after f g l m played reads = absurd played.so_far
end_frames reader now next player then (Some bytes) (Some rest) after f g l m played reads = frames_whole then (tail_of now rest) _ f g l m played.so_far reads.0

-- the trace ends there, and nothing of it is left
plays_end : (ending : Ending) (after : Option (List ℕ)) → ending ≡ Ended → after ≡ Some [] → Plays ending (Ok Done) after
plays_end ending after is none = rw is (refl, none)

pub end_plays : (reader now next : Progress) (player then : Playing) (known left after f g l m : Option (List ℕ)) → IsPlayed reader now player then known left f g l m
    → IfSome left (λ rest. Reads now rest (Ok End) next after) → IfSome known (λ bytes. Plays (tail_of reader bytes).ending (Ok Done) after)
end_plays reader now next player then None left after f g l m played reads = tt
end_plays reader now next player then (Some bytes) None after f g l m played reads = absurd played.so_far
end_plays reader now next player then (Some bytes) (Some rest) after f g l m played reads =
    plays_end _ after (played.same_ending ∙ ap (λ (t : Tail). t.ending) reads.0) reads.1

pub refused_whole : (reader now next : Progress) (player then : Playing) (known left after f g l m n : Option (List ℕ)) (index offset : ℕ) (cause : Cause) → IsPlayed reader now player then known left f g l m
    → IfSome left (λ rest. Reads now rest (Err (read.Malformed index offset cause)) next after) → Appends m n (refused_line index offset cause)
    → IfSome known (λ bytes. Appends l n (output_of_tail player (tail_of reader bytes)).log)
refused_whole reader now next player then None left after f g l m n index offset cause played reads line = tt
refused_whole reader now next player then (Some bytes) None after f g l m n index offset cause played reads line = absurd played.so_far
refused_whole reader now next player then (Some bytes) (Some rest) after f g l m n index offset cause played reads line =
    last_whole then (tail_of now rest) _ (Malformed (record { index = index; offset = offset; cause = cause })) f g l m n played.so_far reads line

pub end_front : (reader now next : Progress) (player then : Playing) (known left after f g l m n : Option (List ℕ)) → IsPlayed reader now player then known left f g l m
    → IfSome left (λ rest. Reads now rest (Ok End) next after) → AppendsFront m n (end_line then.index) → IfSome known (λ bytes. AppendsFront l n (output_of_tail player (tail_of reader bytes)).log)
end_front reader now next player then None left after f g l m n played reads line = tt
end_front reader now next player then (Some bytes) None after f g l m n played reads line = absurd played.so_far
end_front reader now next player then (Some bytes) (Some rest) after f g l m n played reads line = last_front then (tail_of now rest) _ Ended f g l m n played.so_far reads.0 line

pub refused_front : (reader now next : Progress) (player then : Playing) (known left after f g l m n : Option (List ℕ)) (index offset : ℕ) (cause : Cause) → IsPlayed reader now player then known left f g l m
    → IfSome left (λ rest. Reads now rest (Err (read.Malformed index offset cause)) next after) → AppendsFront m n (refused_line index offset cause)
    → IfSome known (λ bytes. AppendsFront l n (output_of_tail player (tail_of reader bytes)).log)
refused_front reader now next player then None left after f g l m n index offset cause played reads line = tt
refused_front reader now next player then (Some bytes) None after f g l m n index offset cause played reads line = absurd played.so_far
refused_front reader now next player then (Some bytes) (Some rest) after f g l m n index offset cause played reads line =
    last_front then (tail_of now rest) _ (Malformed (record { index = index; offset = offset; cause = cause })) f g l m n played.so_far reads line

-- ---- End makes nothing
grown_no_more : (a b c : Option (List ℕ)) (x : List ℕ) → Appends a b x → Appends b c [] → Appends a c x
grown_no_more a b c x grew none = subst (Appends a c) (append-nil x) (Appends-trans a b c x [] grew none)

front_of_none : (a b : Option (List ℕ)) → AppendsFront a b [] → Appends a b []
front_of_none a b ([], back, is, grew) = grew
front_of_none a b (x ∷ front, back, is, grew) = absurd cc

-- where nothing more was put
pub still_played : (reader now : Progress) (player then : Playing) (known left f g h l m n : Option (List ℕ)) → IsPlayed reader now player then known left f g l m
    → Appends g h [] → Appends m n [] → IsPlayed reader now player then known left f h l n
still_played reader now player then None left f g h l m n played frames log = record { so_far = tt; same_ending = tt }
still_played reader now player then (Some bytes) None f g h l m n played frames log = absurd played.so_far
still_played reader now player then (Some bytes) (Some rest) f g h l m n played frames log =
    let so = played.so_far in
    record {
      so_far = record {
        frames = so.frames;
        log = so.log;
        all_frames = so.all_frames;
        all_log = so.all_log;
        frames_put = grown_no_more f g h so.frames so.frames_put frames;
        log_put = grown_no_more l m n so.log so.log_put log;
      };
      same_ending = played.same_ending;
    }

no_chunk : (then : Playing) (rec : Rec) → rec ≡ End → joined (option_to_list (call then rec).chunk) ≡ []
no_chunk then rec last = ap (λ (r : Rec). joined (option_to_list (call then r).chunk)) last

no_line : (then : Playing) (rec : Rec) → rec ≡ End → joined (call then rec).lines ≡ []
no_line then rec last = ap (λ (r : Rec). joined (call then r).lines) last

pub played_to_end : (reader now : Progress) (player then : Playing) (known left f g h l m n : Option (List ℕ)) (rec : Rec) → IsPlayed reader now player then known left f g l m → is_end rec ≡ true
    → Appends g h (joined (option_to_list (call then rec).chunk)) → Appends m n (joined (call then rec).lines) → IsPlayed reader now player then known left f h l n
played_to_end reader now player then known left f g h l m n rec played last frames log =
    let end = is_end-end rec last in
    still_played reader now player then known left f g h l m n played (subst (Appends g h) (no_chunk then rec end) frames) (subst (Appends m n) (no_line then rec end) log)

-- where the reader answers no record, its line is the last, or it has none
pub stop_log : (reader now next : Progress) (player then : Playing) (known left after f g l m n : Option (List ℕ)) (end : ReadEnd) (result : Result Status Fault) → IsPlayed reader now player then known left f g l m
    → IfSome left (λ rest. Reads now rest (Err end) next after) → Puts result m n (stop_line end) → Stops end result → IfSome known (λ bytes. Puts result l n (output_of_tail player (tail_of reader bytes)).log)
stop_log reader now next player then known left after f g l m n (read.Malformed index offset cause) (Ok status) played reads line stops =
    refused_whole reader now next player then known left after f g l m n index offset cause played reads line
stop_log reader now next player then known left after f g l m n (read.Malformed index offset cause) (Err fault) played reads line stops =
    refused_front reader now next player then known left after f g l m n index offset cause played reads line
stop_log reader now next player then known left after f g l m n read.ReadFault (Ok status) played reads line stops = absurd cc
stop_log reader now next player then known left after f g l m n read.ReadFault (Err fault) played reads line stops =
    (played_front reader now player then known left f g l n (still_played reader now player then known left f g g l m n played (Appends-nil g) (front_of_none m n line))).1
stop_log reader now next player then known left after f g l m n read.NoMemory (Ok status) played reads line stops = absurd cc
stop_log reader now next player then known left after f g l m n read.NoMemory (Err fault) played reads line stops =
    (played_front reader now player then known left f g l n (still_played reader now player then known left f g g l m n played (Appends-nil g) (front_of_none m n line))).1

-- after a fault in a record, whichever it is
record_front_by : (reader now next : Progress) (player then : Playing) (known left after f g h l m n : Option (List ℕ)) (rec : Rec) (last : Bool) → is_end rec ≡ last → IsPlayed reader now player then known left f g l m
    → IfSome left (λ rest. Reads now rest (Ok rec) next after) → AppendsFront g h (joined (option_to_list (call then rec).chunk)) → AppendsFront m n (joined (call then rec).lines)
    → IfSome known (λ bytes. AppendsFront f h (output_of_tail player (tail_of reader bytes)).frames) × IfSome known (λ bytes. AppendsFront l n (output_of_tail player (tail_of reader bytes)).log)
record_front_by reader now next player then known left after f g h l m n rec false other played reads frames log =
    run_front reader now next player then known left after f g h l m n rec played other reads frames log
record_front_by reader now next player then known left after f g h l m n rec true last played reads frames log =
    let end = is_end-end rec last in
    let no_frames = front_of_none g h (subst (AppendsFront g h) (no_chunk then rec end) frames) in
    let no_lines = front_of_none m n (subst (AppendsFront m n) (no_line then rec end) log) in
    played_front reader now player then known left f h l n (still_played reader now player then known left f g h l m n played no_frames no_lines)

pub record_front : (reader now next : Progress) (player then : Playing) (known left after f g h l m n : Option (List ℕ)) (rec : Rec) → IsPlayed reader now player then known left f g l m
    → IfSome left (λ rest. Reads now rest (Ok rec) next after) → AppendsFront g h (joined (option_to_list (call then rec).chunk)) → AppendsFront m n (joined (call then rec).lines)
    → IfSome known (λ bytes. AppendsFront f h (output_of_tail player (tail_of reader bytes)).frames) × IfSome known (λ bytes. AppendsFront l n (output_of_tail player (tail_of reader bytes)).log)
record_front reader now next player then known left after f g h l m n rec played reads frames log =
    record_front_by reader now next player then known left after f g h l m n rec (is_end rec) refl played reads frames log
