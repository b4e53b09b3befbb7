-- A legal log, its beginnings, and one more event.
use Rattle.std.proofs.Common.{◌≡◌, ℕ, true, false, List, [], ◌∷◌, ◌++◌, refl, sym, ap, ◌∙◌, subst, append-nil, append_assoc}
use Rattle.event_log.specs.Entries.{Event, Entry, In, Refused}
use Rattle.event_log.specs.Entries.{Refusal}
use Rattle.event_log.specs.Events.{refused_next, ends_with_in}
use Rattle.event_log.specs.Rules.{Setting}
use Rattle.event_log.specs.Causes.{MayRefuse}
use Rattle.event_log.specs.Legal.{of_event, has_event, Unless, Happens, Answered, EachAllowed, LegalFrom, Legal, opening}
use Rattle.event_log.specs.Laws.{BeginningsAreLegal, MayAdd, LegalLogsGrow, HasItsNeeds, EntriesHaveTheirNeeds}

-- ---- what comes up to the next event

pub of_event-next : (es : List Entry) (e : Event) (seat : ℕ) (rest : List Entry) → of_event (es ++ In e seat ∷ rest) ≡ of_event es
of_event-next [] e seat rest = refl
of_event-next (In f q ∷ es) e seat rest = refl
of_event-next (x ∷ es) e seat rest = ap (λ xs. x ∷ xs) (of_event-next es e seat rest)

pub has_event-next : (es : List Entry) (e : Event) (seat : ℕ) (rest : List Entry) → has_event (es ++ In e seat ∷ rest) ≡ true
has_event-next [] e seat rest = refl
has_event-next (In f q ∷ es) e seat rest = refl
has_event-next (x ∷ es) e seat rest = has_event-next es e seat rest

pub refused_next-next : (es : List Entry) (e : Event) (seat : ℕ) (rest : List Entry) → refused_next (es ++ In e seat ∷ rest) ≡ refused_next es
refused_next-next [] e seat rest = refl
refused_next-next (Refused code ∷ es) e seat rest = refl
refused_next-next (x ∷ es) e seat rest = refl

pub no_event_left : (x : Entry) (es : List Entry) → has_event (x ∷ es) ≡ false → has_event es ≡ false
no_event_left (In f q) es h = absurd (cc)
no_event_left x es h = h

pub of_no_event : (es : List Entry) → has_event es ≡ false → of_event es ≡ es
of_no_event [] h = refl
of_no_event (In f q ∷ es) h = absurd (cc)
of_no_event (x ∷ es) h = ap (λ xs. x ∷ xs) (of_no_event es h)

module _ (s : Setting) where
  -- ---- an event of which a further one follows

  answered_alone : (before : List Entry) (x : Entry) (es : List Entry) (e : Event) (seat : ℕ) (rest : List Entry) → Answered s before x (es ++ In e seat ∷ rest) → Answered s before x es
  answered_alone before (In f q) es e seat rest h =
      let h1 = subst (λ b. Unless b (Happens s before f (of_event (es ++ In e seat ∷ rest)))) (refused_next-next es e seat rest) h in
      subst (λ xs. Unless (refused_next es) (Happens s before f xs)) (of_event-next es e seat rest) h1
  answered_alone before x es e seat rest h = tt

  answered_more : (before : List Entry) (x : Entry) (es : List Entry) (e : Event) (seat : ℕ) (rest : List Entry) → Answered s before x es → Answered s before x (es ++ In e seat ∷ rest)
  answered_more before (In f q) es e seat rest h =
      let h1 = subst (λ xs. Unless (refused_next es) (Happens s before f xs)) (sym (of_event-next es e seat rest)) h in
      subst (λ b. Unless b (Happens s before f (of_event (es ++ In e seat ∷ rest)))) (sym (refused_next-next es e seat rest)) h1
  answered_more before x es e seat rest h = tt

  -- ---- beginnings

  pub legal_first : (before es : List Entry) (e : Event) (seat : ℕ) (rest : List Entry) → LegalFrom s before (es ++ In e seat ∷ rest) → LegalFrom s before es
  legal_first before [] e seat rest h = tt
  legal_first before (x ∷ es) e seat rest h = (h.0, answered_alone before x es e seat rest h.1, legal_first (before ++ x ∷ []) es e seat rest h.2)

  pub legal_then : (before es : List Entry) (e : Event) (seat : ℕ) (rest : List Entry) → LegalFrom s before es → LegalFrom s (before ++ es) (In e seat ∷ rest) → LegalFrom s before (es ++ In e seat ∷ rest)
  legal_then before [] e seat rest h k = subst (λ b. LegalFrom s b (In e seat ∷ rest)) (append-nil before) k
  legal_then before (x ∷ es) e seat rest h k =
      (h.0, answered_more before x es e seat rest h.1, legal_then (before ++ x ∷ []) es e seat rest h.2 (subst (λ b. LegalFrom s b (In e seat ∷ rest)) (sym (append_assoc before (x ∷ []) es)) k))

  -- ---- one more event

  answered_plain : (before : List Entry) (x : Entry) (es : List Entry) → has_event (x ∷ es) ≡ false → Answered s before x es
  answered_plain before (In f q) es h = absurd (cc)
  answered_plain before x es h = tt

  each_legal : (before es : List Entry) → has_event es ≡ false → EachAllowed s before es → LegalFrom s before es
  each_legal before [] h k = tt
  each_legal before (x ∷ es) h k = (k.0, answered_plain before x es h, each_legal (before ++ x ∷ []) es (no_event_left x es h) k.1)

  grows : (log : List Entry) (e : Event) (seat : ℕ) (es : List Entry) → Legal s log → LegalFrom s log (In e seat ∷ es) → Legal s (log ++ In e seat ∷ es)
  grows log e seat es h k = record {
    rest = h.rest ++ In e seat ∷ es;
    begins = ap (λ l. l ++ In e seat ∷ es) h.begins ∙ append_assoc opening h.rest (In e seat ∷ es);
    each = legal_then opening h.rest e seat es h.each (subst (λ l. LegalFrom s l (In e seat ∷ es)) h.begins k);
  }

  happens_added : (log : List Entry) (e : Event) (seat : ℕ) (es : List Entry) → MayAdd s log e seat es → Answered s log (In e seat) es
  happens_added log e seat es h =
      let h1 = subst (λ xs. Happens s log e xs) (sym (of_no_event es h.no_event)) h.happens in
      subst (λ b. Unless b (Happens s log e (of_event es))) (sym h.unrefused) h1

-- a refusal stands directly behind an event
in_last : (log : List Entry) (e : Event) (seat : ℕ) → ends_with_in (log ++ In e seat ∷ []) ≡ true
unfolding ends_with_in
in_last [] e seat = refl
in_last (x ∷ []) e seat = refl
in_last (x ∷ y ∷ log) e seat = in_last (y ∷ log) e seat

pub refusal_ends : (s : Setting) (before : List Entry) (code : Refusal) → MayRefuse s before code → ends_with_in before ≡ true
refusal_ends s before code h = ap ends_with_in h.parts ∙ in_last h.log h.event h.seat

pub legal_logs_grow : LegalLogsGrow
legal_logs_grow s log e seat h = record {
  refused = λ code cause. grows s log e seat (Refused code ∷ []) h (tt, tt, (record { log = log; event = e; seat = seat; parts = refl; cause = cause }, tt, tt));
  added = λ es k. grows s log e seat es h (tt, happens_added s log e seat es k, each_legal s (log ++ In e seat ∷ []) es k.no_event k.each);
}

event_is_no_opening : (e : Event) (seat : ℕ) (xs ys : List Entry) → In e seat ∷ xs ≡ opening ++ ys → ⊥
event_is_no_opening e seat xs ys h = absurd (cc)

event_is_no_beginning : (x : Entry) (e : Event) (seat : ℕ) (xs ys : List Entry) → x ∷ In e seat ∷ xs ≡ opening ++ ys → ⊥
event_is_no_beginning x e seat xs ys h = absurd (cc)

tails : (x y : Entry) (xs ys : List Entry) → x ∷ xs ≡ y ∷ ys → xs ≡ ys
tails x y xs ys h = cc

heads : (x y : Entry) (xs ys : List Entry) → x ∷ xs ≡ y ∷ ys → x ≡ y
heads x y xs ys h = cc

both : (x y u v : Entry) (xs : List Entry) → x ≡ u → y ≡ v → ◌≡◌ {A = List Entry} (x ∷ y ∷ xs) (u ∷ v ∷ xs)
both x y u v xs h k = cc

pub beginnings_are_legal : BeginningsAreLegal
beginnings_are_legal s [] e seat rest h = absurd (event_is_no_opening e seat rest h.rest h.begins)
beginnings_are_legal s (x ∷ []) e seat rest h = absurd (event_is_no_beginning x e seat rest h.rest h.begins)
beginnings_are_legal s (x ∷ y ∷ log) e seat rest h =
    let first = tails x _ _ _ h.begins in
    let second = tails y _ _ _ first in
    record {
      rest = log;
      begins = both x y _ _ log (heads x _ _ _ h.begins) (heads y _ _ _ first);
      each = legal_first s opening log e seat rest (subst (λ l. LegalFrom s opening l) (sym second) h.each);
    }

-- ---- each entry

needs_from : (s : Setting) (before xs : List Entry) (x : Entry) (es : List Entry) → LegalFrom s before (xs ++ x ∷ es) → HasItsNeeds s (before ++ xs) x es
needs_from s before [] x es h = subst (λ b. HasItsNeeds s b x es) (sym (append-nil before)) (record { allowed = h.0; answered = h.1 })
needs_from s before (y ∷ xs) x es h = subst (λ b. HasItsNeeds s b x es) (append_assoc before (y ∷ []) xs) (needs_from s (before ++ y ∷ []) xs x es h.2)

pub entries_have_their_needs : EntriesHaveTheirNeeds
entries_have_their_needs s log h before x es e =
    let same = sym h.begins ∙ e in
    let rest = tails _ _ _ _ (tails _ _ _ _ same) in
    needs_from s opening before x es (subst (λ l. LegalFrom s opening l) rest h.each)
