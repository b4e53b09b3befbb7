-- What is said of one more entry is written.
use Rattle.std.proofs.Common.{◌≡◌, ◌∙◌, ◌+◌, ◌<◌, ℕ, Bool, List, ◌∷◌, ◌++◌, length, drop, take, get_or, sym, ap, subst, append_assoc}
use Rattle.std.proofs.lemmas.List.{drop_more}
use Rattle.event_log.specs.Entries.{Entry}
use Rattle.event_log.specs.Events.{refused_next}
use Rattle.why_text.specs.Moments.{Moment, moment_after}
use Rattle.endpoint_text.specs.Told.{told}

pub next_told : (says : List Entry → Moment → Entry → Bool → List ℕ) (lines : List ℕ) (log : List Entry) (place : ℕ) (m next : Moment) (x : Entry)
    (refused : Bool) (mid new whole : List ℕ) → place < length log → x ≡ get_or log place x →
    next ≡ moment_after lines m x → refused ≡ refused_next (drop (place + 1) log) →
    mid ++ told says lines log place m (drop place log) ≡ whole →
    new ≡ mid ++ says (take place log) next x refused →
    new ++ told says lines log (place + 1) next (drop (place + 1) log) ≡ whole
next_told says lines log place m next x refused mid new whole h e moved asked so put =
    let rest : List Entry = drop (place + 1) log in
    let after : Moment = moment_after lines m x in
    let others : Moment → List ℕ = λ n. told says lines log (place + 1) n rest in
    let one : Moment → Bool → List ℕ = λ n b. says (take place log) n x b in
    let shown : mid ++ (one after (refused_next rest) ++ others after) ≡ whole =
    subst (λ l. mid ++ told says lines log place m l ≡ whole) (drop_more log place x h ∙ ap (λ y. y ∷ rest) (sym e)) so in
    let timed : mid ++ (one next (refused_next rest) ++ others next) ≡ whole =
    subst (λ n. mid ++ (one n (refused_next rest) ++ others n) ≡ whole) (sym moved) shown in
    let whole_of : mid ++ (one next refused ++ others next) ≡ whole =
    subst (λ b. mid ++ (one next b ++ others next) ≡ whole) (sym asked) timed in
    ap (λ t. t ++ others next) put ∙ append_assoc mid (one next refused) (others next) ∙ whole_of
