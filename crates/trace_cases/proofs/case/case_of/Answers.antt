use Rattle.std.proofs.Common.{[], ◌∷◌, refl, inl, inr}
use Rattle.trace_cases.proofs.Words.{one_word, two_words, three_words, five_words, with_second, with_second_and_fourth}
use Rattle.trace_cases.proofs.case.case_of.Goals as goal
use Rattle.trace_cases.proofs.case.case_of.Goals.{in-len1, in-text, in-then, in-cut+in_ok-number_of-in-cut, in-cut-2+in_ok-number_of-in-cut-2}

pub returns : goal.returns
returns c =
    elim c.if-words-lt2.branch [
      | in-len1 w ↦
          let words = one_word c.args.words.now _ w.in-len1.len_at_least w.in-len1.len_below in
          rw w.front-is ([], [], words, refl, inl (refl, refl))
      | in-text w ↦
          let words = two_words c.args.words.now _ w.in-text.len_at_least w.in-text.len_below in
          rw w.front-is (_ ∷ [], [], with_second _ _ _ _ _ words w.in-text.is-text, refl, inl (refl, refl))
      | in-then w ↦
          let words = three_words c.args.words.now _ w.in-then.len_at_least w.in-then.len_below in
          rw w.front-is ([], _ ∷ _ ∷ [], with_second _ _ _ _ _ words w.in-then.is-then, refl, inr refl)
      | in-cut+in_ok-number_of-in-cut w ↦
          let words = three_words c.args.words.now _ w.in-cut.len_at_least w.in-cut.len_below in
          let number = w.in_ok-number_of-in-cut.ensures in
          rw w.front-is (_ ∷ _ ∷ [], [], with_second _ _ _ _ _ words w.in-cut.is-cut, (_, refl, number), inl (refl, refl))
      | in-cut-2+in_ok-number_of-in-cut-2 w ↦
          let words = five_words c.args.words.now _ w.in-cut-2.len_at_least w.in-cut-2.len_below in
          let number = w.in_ok-number_of-in-cut-2.ensures in
          rw w.front-is (_ ∷ _ ∷ [], _ ∷ _ ∷ [], with_second_and_fourth _ _ _ _ _ _ _ _ words w.in-cut-2.is-cut w.in-cut-2.is-then, (_, refl, number), inr refl)
    ]
