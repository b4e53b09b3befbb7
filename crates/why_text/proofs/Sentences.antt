-- One more entry's sentence is written.
use Rattle.std.proofs.Common.{◌≡◌, ◌∙◌, ◌+◌, ◌<◌, ℕ, Bool, List, ◌∷◌, ◌++◌, length, drop, take, get_or, sym, ap, subst, append_assoc}
use Rattle.std.proofs.lemmas.List.{drop_more}
use Rattle.meaning.specs.Births.{Bearing}
use Rattle.event_log.specs.Entries.{Entry}
use Rattle.event_log.specs.Events.{refused_next}
use Rattle.log_words.specs.declared.contents.Contents.{Contents}
use Rattle.why_text.specs.Moments.{Moment, moment_after}
use Rattle.why_text.specs.Runs.{Subject}
use Rattle.why_text.specs.Entries.{sentence}
use Rattle.why_text.specs.Text.{sentences}

pub next_sentence : (how : Contents) (s : Subject) (births : List Bearing) (lines : List ℕ) (log : List Entry) (place : ℕ) (m next : Moment) (x : Entry) (refused : Bool)
    (mid new whole : List ℕ) → place < length log → x ≡ get_or log place x →
    next ≡ moment_after lines m x → refused ≡ refused_next (drop (place + 1) log) →
    mid ++ sentences how s births lines log place m (drop place log) ≡ whole →
    new ≡ mid ++ sentence how s births lines (take place log) next x refused →
    new ++ sentences how s births lines log (place + 1) next (drop (place + 1) log) ≡ whole
next_sentence how s births lines log place m next x refused mid new whole h e moved asked told put =
    let rest : List Entry = drop (place + 1) log in
    let after : Moment = moment_after lines m x in
    let others : Moment → List ℕ = λ n. sentences how s births lines log (place + 1) n rest in
    let one : Moment → Bool → List ℕ = λ n b. sentence how s births lines (take place log) n x b in
    let shown : mid ++ (one after (refused_next rest) ++ others after) ≡ whole =
    subst (λ l. mid ++ sentences how s births lines log place m l ≡ whole) (drop_more log place x h ∙ ap (λ y. y ∷ rest) (sym e)) told in
    let timed : mid ++ (one next (refused_next rest) ++ others next) ≡ whole =
    subst (λ n. mid ++ (one n (refused_next rest) ++ others n) ≡ whole) (sym moved) shown in
    let whole_of : mid ++ (one next refused ++ others next) ≡ whole =
    subst (λ b. mid ++ (one next b ++ others next) ≡ whole) (sym asked) timed in
    ap (λ t. t ++ others next) put ∙ append_assoc mid (one next refused) (others next) ∙ whole_of
