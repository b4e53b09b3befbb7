-- Arrows that begin one after the other.
use Rattle.std.proofs.Common.{◌≡◌, ◌∙◌, ◌+◌, ◌<◌, ℕ, List, [], ◌∷◌, ◌++◌, length, drop, get_or, sym, ap, subst, append_assoc, arith}
use Rattle.std.specs.Prelude.{if◌then◌else◌, ◌==◌}
use Rattle.std.proofs.lemmas.List.{drop_more}
use Rattle.serde_json.specs.Data.{Data}
use Rattle.protocol_data.specs.declared.message.Envelope.{Envelope}
use Rattle.timeline.specs.declared.rows.Row.{Row}
use Rattle.timeline.specs.Arrows.{arrival, arrow_begins, begin_data}

abbrev own_begin : List ℕ → List Row → ℕ → ℕ → Envelope → List Data
own_begin arrivals rows clock k l = if arrival arrivals k == 0 then [] else begin_data rows clock (k + 1) l ∷ []

-- one more message is passed
pub next_begin : (mid new whole : List Data) (arrivals : List ℕ) (rows : List Row) (clock before place : ℕ) (ls : List Envelope) (x : Envelope) →
    place < length ls → x ≡ get_or ls place x → mid ++ arrow_begins arrivals rows clock (before + place) (drop place ls) ≡ whole →
    new ≡ mid ++ own_begin arrivals rows clock (before + place) x →
    new ++ arrow_begins arrivals rows clock (before + (place + 1)) (drop (place + 1) ls) ≡ whole
next_begin mid new whole arrivals rows clock before place ls x h e told put =
    let k : ℕ = before + place in
    let rest : List Envelope = drop (place + 1) ls in
    let shown : mid ++ (own_begin arrivals rows clock k x ++ arrow_begins arrivals rows clock (k + 1) rest) ≡ whole =
    subst (λ l. mid ++ arrow_begins arrivals rows clock k l ≡ whole) (drop_more ls place x h ∙ ap (λ y. y ∷ rest) (sym e)) told in
    let same : ◌≡◌ {A = ℕ} (before + place + 1) (before + (place + 1)) = omega arith in
    subst (λ n. new ++ arrow_begins arrivals rows clock n rest ≡ whole) same
    (ap (λ t. t ++ arrow_begins arrivals rows clock (k + 1) rest) put ∙ append_assoc mid (own_begin arrivals rows clock k x) (arrow_begins arrivals rows clock (k + 1) rest)
    ∙ shown)
