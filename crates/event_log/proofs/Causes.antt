-- The cause of each fault stands earlier in the log.
use Rattle.std.proofs.Common.{◌≡◌, List, [], ◌∷◌, ◌++◌, sym, ap, ◌∙◌, subst}
use Rattle.script_laws.specs.of_meaning.Values.{Id}
use Rattle.event_log.specs.Entries.{Attempt, Fault, Entry, Faulted, Resolved}
use Rattle.event_log.specs.Rules.{Setting, Allowed}
use Rattle.event_log.specs.Legal.{Legal, opening}
use Rattle.event_log.specs.Laws.{LegalFaultsHaveCauses}
use Rattle.event_log.proofs.Growing.{entries_have_their_needs}

-- the entry is one of the two of the opening, or stands behind them
abbrev BehindOpening : List Entry → Type 0
BehindOpening before = (xs : List Entry) × (before ≡ opening ++ xs)

behind_fault : (before rest : List Entry) (a : Attempt) (y : Id) (f : Fault) (es : List Entry) → opening ++ rest ≡ before ++ Faulted a y f ∷ es → BehindOpening before
behind_fault [] rest a y f es h = absurd (cc)
behind_fault (x ∷ []) rest a y f es h = absurd (cc)
behind_fault (x ∷ z ∷ xs) rest a y f es h = (xs, cc)

behind_resolved : (before rest : List Entry) (o : Id) (f : Fault) (es : List Entry) → opening ++ rest ≡ before ++ Resolved o f ∷ es → BehindOpening before
behind_resolved [] rest o f es h = absurd (cc)
behind_resolved (x ∷ []) rest o f es h = absurd (cc)
behind_resolved (x ∷ z ∷ xs) rest o f es h = (xs, cc)

-- what an entry behind the opening needs
needs : (s : Setting) (log : List Entry) → Legal s log → (before : List Entry) (x : Entry) (es : List Entry) → BehindOpening before → log ≡ before ++ x ∷ es → Allowed s before x
needs s log h before x es b e =
    subst (λ p. Allowed s p x) (sym b.1) (entries_have_their_needs s log h b.0 x es (e ∙ ap (λ p. p ++ x ∷ es) b.1)).allowed

pub legal_faults_have_causes : LegalFaultsHaveCauses
legal_faults_have_causes s log h = record {
  faulted = λ before a y f es e. (needs s log h before (Faulted a y f) es (behind_fault before h.rest a y f es (sym h.begins ∙ e)) e).cause;
  resolved = λ before o f es e. (needs s log h before (Resolved o f) es (behind_resolved before h.rest o f es (sym h.begins ∙ e)) e).cause;
}
