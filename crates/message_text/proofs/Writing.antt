-- What is written in two steps, and messages one after the other.
use Rattle.std.proofs.Common.{◌≡◌, ◌∙◌, ◌+◌, ◌<◌, ℕ, List, ◌∷◌, ◌++◌, length, drop, get_or, sym, ap, subst, append_assoc, arith}
use Rattle.std.specs.Prelude.{Result, Ok, Err, OnOk}
use Rattle.std.proofs.lemmas.List.{drop_more}
use Rattle.log_words.specs.declared.contents.Contents.{Contents}
use Rattle.protocol_data.specs.declared.message.Envelope.{Envelope}
use Rattle.message_text.specs.Envelopes.{envelope_line, envelopes_text}

-- what is written behind the first step
pub both_written : {X E : Type 0} (old mid new a b : List ℕ) (r : Result X E) →
    mid ≡ old ++ a → OnOk r (new ≡ mid ++ b) → OnOk r (new ≡ old ++ (a ++ b))
both_written old mid new a b (Ok x) e f = f ∙ ap (λ t. t ++ b) e ∙ append_assoc old a b
both_written old mid new a b (Err y) e f = f

-- one more line is written
pub next_envelope : (how : Contents) (mid new whole : List ℕ) (before place : ℕ) (ls : List Envelope) (x : Envelope) → place < length ls → x ≡ get_or ls place x →
    mid ++ envelopes_text how (before + place) (drop place ls) ≡ whole → new ≡ mid ++ envelope_line how (before + place + 1) x →
    new ++ envelopes_text how (before + (place + 1)) (drop (place + 1) ls) ≡ whole
next_envelope how mid new whole before place ls x h e told put =
    let k : ℕ = before + place + 1 in
    let rest : List Envelope = drop (place + 1) ls in
    let shown : mid ++ (envelope_line how k x ++ envelopes_text how k rest) ≡ whole =
    subst (λ l. mid ++ envelopes_text how (before + place) l ≡ whole) (drop_more ls place x h ∙ ap (λ y. y ∷ rest) (sym e)) told in
    let same : ◌≡◌ {A = ℕ} (before + place + 1) (before + (place + 1)) = omega arith in
    subst (λ n. new ++ envelopes_text how n rest ≡ whole) same
    (ap (λ t. t ++ envelopes_text how k rest) put ∙ append_assoc mid (envelope_line how k x) (envelopes_text how k rest) ∙ shown)
