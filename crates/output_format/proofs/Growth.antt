-- How outputs grow, step after step.
use Rattle.std.proofs.Common.{◌∙◌, ℕ, List, [], ◌++◌, Option, Some, None, IfSome, Result, Ok, Err, refl, sym, ap, append_assoc}
use Rattle.std.specs.Io.KnownBytes.{Appends}
use Rattle.std.proofs.KnownBytes.{Appends-trans, Appends-nil}
use Rattle.std.proofs.lemmas.List.{append-nil}
use Rattle.outer_io.specs.Bytes.{AppendsFront}
use Rattle.output_format.specs.Answer.{Puts}

-- what grew by the whole grew by a front of it
pub front_whole : (a b : Option (List ℕ)) (x : List ℕ) → Appends a b x → AppendsFront a b x
front_whole a b x grew = (x, [], sym (append-nil x), grew)

-- nothing was put yet
pub front_none : (a : Option (List ℕ)) (x : List ℕ) → AppendsFront a a x
front_none a x = ([], x, refl, Appends-nil a)

-- a front of x is a front of what goes on after it
pub front_goes_on : (a b : Option (List ℕ)) (x y : List ℕ) → AppendsFront a b x → AppendsFront a b (x ++ y)
front_goes_on a b x y f = (f.0, f.1 ++ y, ap (λ (l : List ℕ). l ++ y) f.2 ∙ append_assoc f.0 f.1 y, f.3)

-- a front of y after the whole of x
pub front_after : (a b c : Option (List ℕ)) (x y : List ℕ) → Appends a b x → AppendsFront b c y → AppendsFront a c (x ++ y)
front_after a b c x y grew f = (x ++ f.0, f.1, ap (λ (l : List ℕ). x ++ l) f.2 ∙ sym (append_assoc x f.0 f.1), Appends-trans a b c x f.0 grew f.3)

-- a step after the whole of x
pub puts_after : {A E : Type 0} (r : Result A E) (a b c : Option (List ℕ)) (x y : List ℕ) → Appends a b x → Puts r b c y → Puts r a c (x ++ y)
puts_after (Ok value) a b c x y grew put = Appends-trans a b c x y grew put
puts_after (Err fault) a b c x y grew put = front_after a b c x y grew put

-- a step that puts nothing
pub puts_nothing : {A E : Type 0} (r : Result A E) (a : Option (List ℕ)) → Puts r a a []
puts_nothing (Ok value) a = Appends-nil a
puts_nothing (Err fault) a = front_none a []

-- nothing of anything was put
pub none_of_known : (known a : Option (List ℕ)) (whole : List ℕ → List ℕ) → IfSome known (λ bytes. AppendsFront a a (whole bytes))
none_of_known None a whole = tt
none_of_known (Some bytes) a whole = front_none a (whole bytes)
