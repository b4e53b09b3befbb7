-- One own object changes, but not how it is made, whose it is, its fault or its release.
use Rattle.std.proofs.Common.{◌≡◌, ℕ, Bool, List, Some, inl, inr, refl, sym, ap, ◌∙◌, subst}
use Rattle.std.specs.Prelude.{◌⊎◌}
use Rattle.meaning.specs.Values.{Birth, Id}
use Rattle.kind_laws.specs.of_event_log.Entries.{Entry}
use Rattle.kind_laws.specs.of_event_log.Breaks.{Among}
use Rattle.kind_laws.specs.of_event_log.Words.{bearers_of}
use Rattle.step_laws.specs.of_protocol.Numbered.{item_at, changed_at}
use Rattle.step_laws.specs.of_protocol.Sets.{object_id}
use Rattle.step_laws.specs.of_protocol.Tables.{Beside, ByTask, ObjectSource, Object, Execution, WasPut, Worker, first_by, without_askers}
use Rattle.step_laws.specs.of_protocol.Steps.{WorkerContext, with_worker}
use Rattle.protocol_legal.specs.Past.{Asking, Past}
use Rattle.protocol_legal.specs.Knows.{HasAccepted, HasStopped, IsPartOf, IsPlaced, IsSpent, KnowsSource, KnowsPut, KnowsResult, kept_until, listed, once}
use Rattle.protocol_legal.specs.Names.{NamesOf}
use Rattle.protocol_legal.specs.During.{Frame, SoundHere}
use Rattle.protocol_legal.proofs.Growing.{grows_same}
use Rattle.protocol_legal.proofs.Keeping.{source_quiet, rows_stay}
use Rattle.protocol_legal.proofs.Steps.{StaysWanted, here_changes, nothing_said, now, with_changed}

module _ (f : Frame) (asked : List Asking) (h : WorkerContext) (s : SoundHere f asked h) (k : ℕ) (fn : Object → Object)
    (same_source : (z : Object) → (fn z).source ≡ z.source) (same_release : (z : Object) → (fn z).is_released ≡ z.is_released) (same_fault : (z : Object) → (fn z).fault ≡ z.fault) (same_bearer : (z : Object) → (fn z).bearer ≡ z.bearer)
    (stays : StaysWanted f asked h s k fn)
    (puts : (z : Object) → item_at h.worker.objects k ≡ Some z → KnowsPut (now f asked h s).log h.worker.node (object_id h.me k) z → KnowsPut (now f asked h s).log h.worker.node (object_id h.me k) (fn z))
    (results : (z : Object) → item_at h.worker.objects k ≡ Some z → (z.source ≡ WasPut → ⊥) → (first : Id) (spec : Birth) (place : ℕ) → IsPartOf (now f asked h s).log (object_id h.me k) first spec place → (pending : Bool) → KnowsResult (now f asked h s).log (object_id h.me k) first place z pending → KnowsResult (now f asked h s).log (object_id h.me k) first place (fn z) pending)
    (names_stay : (z : Object) → item_at h.worker.objects k ≡ Some z → NamesOf (now f asked h s).log (object_id h.me k) z → NamesOf (now f asked h s).log (object_id h.me k) (fn z)) where
  abbrev p : Past
  p = now f asked h s

  abbrev o : Id
  o = object_id h.me k

  abbrev ys : List Object
  ys = changed_at h.worker.objects k fn

  moves : (z : Object) → item_at h.worker.objects k ≡ Some z → (m : ObjectSource) → z.source ≡ m → KnowsSource p h.worker.node ys o z m → KnowsSource p h.worker.node ys o (fn z) m
  moves z i WasPut e km = puts z i km
  moves z i (ByTask task) e km = (km.0, (km.1.0, km.1.1, km.1.2, km.1.3, results z i (λ d. absurd (cc)) (object_id h.me k) task.spec km.1.0 km.1.3 (Rattle.step_laws.specs.of_protocol.Tables.is_pending_task task) km.1.4))
  moves z i (Beside n) e km = (km.0, km.1, (km.2.0, km.2.1, km.2.2, km.2.3, results z i (λ d. absurd (cc)) (object_id h.me n) km.0.spec km.2.0 km.2.3 (Rattle.step_laws.specs.of_protocol.Tables.is_pending_task km.0) km.2.4))

  pub changed_sound : SoundHere f asked (with_worker h (with_changed h.worker k fn))
  changed_sound =
      here_changes f asked h s k fn same_source same_release stays
      (λ z i ko.
      let stay = rows_stay p p (grows_same p) nothing_said f.setting h.me h.worker k fn s.there.calm s.knows same_source same_release stays in
      let km = source_quiet p p (grows_same p) (λ n. Unit {0}) h.worker.objects ys stay o h.worker.node z z.source i refl (record { runs = refl; accepts = λ j. refl; asked = λ j l a. a }) tt ko.source in
      record {
        bearer = subst (λ b. Among b (bearers_of o p.log)) (sym (same_bearer z)) ko.bearer;
        stopped = subst (λ b. HasStopped p.log b ⊎ ((run : Execution) × (h.worker.run ≡ Some run) × (run.attempt ≡ b))) (sym (same_bearer z)) ko.stopped;
        resolved = ko.resolved ∙ ap listed (sym (same_fault z));
        known = λ g e. ko.known g (sym (same_fault z) ∙ e);
        released = ko.released ∙ ap (λ b. once b o) (sym (same_release z));
        source = subst (KnowsSource p h.worker.node ys o (fn z)) (sym (same_source z)) (moves z i z.source refl km);
        names = names_stay z i ko.names;
      })

-- its content stays, with what the owner keeps of it
pub accepted_same : (log : List Entry) (first : Id) (number place : ℕ) (z v : Object) → v.is_released ≡ z.is_released → v.kept ≡ z.kept → HasAccepted log first number place z → HasAccepted log first number place v
accepted_same log first number place z v er ek a = record { accepted = a.accepted; contents = a.contents; ended = a.ended; content = a.content; has = a.has; small = ek ∙ a.small ∙ ap (λ b. kept_until b a.content) (sym er) }

-- where its locations and its content stay too
pub plain_result : (log : List Entry) (o first : Id) (place : ℕ) (pending : Bool) (z v : Object) → v.settled ≡ z.settled → v.locations ≡ z.locations → v.fault ≡ z.fault → v.is_released ≡ z.is_released → v.kept ≡ z.kept →
    KnowsResult log o first place z pending → KnowsResult log o first place v pending
plain_result log o first place pending z v es ep ef er ek r = record {
  made = λ number e. accepted_same log first number place z v er ek (r.made number (sym es ∙ e));
  bare = λ e. let b = r.bare (sym es ∙ e) in (ep ∙ b.0, ek ∙ b.1);
  rests = λ e g. let t = r.rests e (sym ef ∙ g) in record {
    number = t.number;
    settled = es ∙ t.settled;
    accepted = accepted_same log first t.number place z v er ek t.accepted;
    placed = λ u. placed t.number (t.placed (sym er ∙ u));
  };
  spent = λ e. r.spent (sym ef ∙ e);
}
  where
    placed : (number : ℕ) → IsPlaced log first number z ⊎ IsSpent log first → IsPlaced log first number v ⊎ IsSpent log first
    placed number (inl a) = inl (record { last = a.last; worker = a.worker; runs = a.runs; node = a.node; home = a.home; there = λ n. elim (a.there (sym ek ∙ n)) [ inl e ↦ inl (ap (λ ps. Rattle.step_laws.specs.of_protocol.Sets.has ps a.node) ep ∙ e) | inr l ↦ inr l ] })
    placed number (inr a) = inr a

-- askers are no part of what is known
pub without_askers_sound : (f : Frame) (asked : List Asking) (h : WorkerContext) (s : SoundHere f asked h) (k : ℕ) → SoundHere f asked (with_worker h (with_changed h.worker k without_askers))
without_askers_sound f asked h s k =
    changed_sound f asked h s k without_askers (λ z. refl) (λ z. refl) (λ z. refl) (λ z. refl) (λ z i p e. e)
    (λ z i kp. record { value = kp.value; born = kp.born; part = kp.part; unbegun = kp.unbegun; settled = kp.settled; stored = kp.stored; placed = kp.placed })
    (λ z i d first spec place part pending r. plain_result (now f asked h s).log (object_id h.me k) first place pending z (without_askers z) refl refl refl refl refl r)
    (λ z i na. na)
