use Rattle.std.proofs.Common.{◌≡◌, [], ◌∷◌, arith, rules, subst, sym}
use Rattle.std.specs.Prelude.{Contains}
use Rattle.fault_lists.specs.Kinds.{Chooses, words_of}
use Rattle.fault_lists.proofs.Words.{behind_first, first_word, is_first, last_word}
use Rattle.fault_lists.proofs.kinds.choice_named.Goals as goal

pub returns-in-None-clause-none : goal.returns-in-None-clause-none
returns-in-None-clause-none c =
    let rest = c.loop-word.rest.now in
    let word = c.in-Some.word.now in
    let behind = c.in-Some.behind.now in
    let cut = c.in-Some.ensures.byte (omega arith) (λ w o h. h) in
    let words : words_of rest ≡ word ∷ words_of behind = first_word rest word behind cut.0 cut.1 cut.2 in
    (c.in-None.ensures.none, c.loop-word.invariant.words word (subst (λ ws. Contains ws word) (sym words) (is_first word (words_of behind))))

pub loop-word-preserved : goal.loop-word-preserved
loop-word-preserved c =
    let rest = c.loop-word.rest.now in
    let word = c.in-Some.word.now in
    let behind = c.in-Some.behind.now in
    let choice = c.loop-word.choice in
    let more = c.in-Some-with_kind.more in
    let cut = c.in-Some.ensures.byte (omega arith) (λ w o h. h) in
    let words : words_of rest ≡ word ∷ words_of behind = first_word rest word behind cut.0 cut.1 cut.2 in
    record {
      text = search rules;
      chosen = λ after h. c.loop-word.invariant.chosen after (subst (λ ws. Chooses ws choice after) (sym words) (more, c.in-Some-with_kind.ensures.some, h));
      words = λ w h. c.loop-word.invariant.words w (subst (λ ws. Contains ws w) (sym words) (behind_first word w (words_of behind) h));
    }

pub returns-in-None-with_kind-clause-none : goal.returns-in-None-with_kind-clause-none
returns-in-None-with_kind-clause-none c =
    let rest = c.loop-word.rest.now in
    let only : words_of rest ≡ rest ∷ [] = last_word rest (c.in_default.ensures.byte (omega arith) (λ w o h. h)) in
    (c.in-None-with_kind.ensures.none, c.loop-word.invariant.words _ (subst (λ ws. Contains ws rest) (sym only) (is_first rest [])))
