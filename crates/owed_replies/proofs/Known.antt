-- What an attempt waits for, and what stands in its births and its end, was born.
use Rattle.std.proofs.Common.{◌≡◌, ℕ, zero, suc, List, [], ◌∷◌, Some, refl, ap, sym, subst, inl, inr}
use Rattle.std.specs.Prelude.{Bool, true}
use Rattle.script_laws.proofs.Given.{stop_by_piece}
use Rattle.script_laws.proofs.Ids.{births_keep}
use Rattle.meaning.specs.Births.{birth_at, numbered}
use Rattle.meaning.specs.Ids.{ObjectsIn, OutcomesIn, StopIn}
use Rattle.meaning.specs.Meaning.{replay, run_birth}
use Rattle.meaning.specs.Readings.{IsBorn}
use Rattle.meaning.specs.Runs.{Piece}
use Rattle.meaning.specs.Values.{Birth, Id, Outcome, others_of, results_of}
use Rattle.values.specs.Listed.{each_once, ids_in_outcome}
use Rattle.event_log.specs.Breaks as B
use Rattle.event_log.specs.Entries as logged
use Rattle.event_log.specs.Entries.{Attempt, Entry}
use Rattle.event_log.specs.Holding.{ids_of_birth}
use Rattle.event_log.specs.Rules.{Setting}
use Rattle.event_log.specs.Words.{answers_of, births, own_births}
use Rattle.holding.specs.Legal.{IsPart}
use Rattle.holding.proofs.Bridge.{one_made}
use Rattle.meaning.specs.Runs.{next_id}
use Rattle.holding.specs.Past.{Accepted, Among, Born, Ended, Has, IsFilled, IsOneOf}
use Rattle.holding.specs.Tells.{IsFactOf, Stands, Tells, facts_in, ids_in_each, is_put}
use Rattle.holding.proofs.Words.{IsBorn as IsBornPast, agree, born_known, ended_known}
use Rattle.lease_discipline.proofs.of_holding_steps.Committing.{once_among}
use Rattle.lease_discipline.proofs.of_holding_steps.Known.{known_born}
use Rattle.event_log.proofs.WordLaws.{deeds}
use Rattle.meaning_laws.proofs.Good.{GoodLog, Stands as StandsSo, Told, objects_born, spec_named}
use Rattle.meaning_laws.proofs.LogLaw.{good_log}
use Rattle.protocol.specs.Tables.{HasEnded, HasFaulted, Out, Phase, Ready, Execution, Waits, Worker, object_needed}
use Rattle.protocol.specs.Cluster.{ClusterState, worker_at}
use Rattle.lease_discipline.specs.of_protocol_legal.Knows.{KnowsPhase, KnowsRun, piece_of}
use Rattle.lease_discipline.specs.of_protocol_legal.Whole.{Between, setting_of}
use Rattle.lease_discipline.specs.of_protocol_laws.Sound.{IsSound}
use Rattle.owed_replies.specs.Kept.{IsBornIn}

-- ---- what is waited for

module _ (s : Setting) (log : List Entry) (c : ClusterState) (b : Between s log c) where
  abbrev P : Id → Type 0
  P = IsBorn (births log)

  good : GoodLog s.script log
  good = good_log (setting_of s c) log b.legal

  answers_known : (a : Attempt) (spec : Birth) → birth_at (births log) a.object ≡ Some spec → OutcomesIn P (answers_of a log)
  answers_known a spec e = told.answers_in
    where
      told : Told s.script (births log) spec (deeds a log)
      told = subst (λ o. StandsSo s.script (births log) o (deeds a log)) e (good.told a)

  pub need_known : (w : ℕ) (x : Worker) (run : Execution) → worker_at c w ≡ Some x → x.is_live ≡ true → x.run ≡ Some run → (y : Id) → object_needed run.phase ≡ Some y → P y
  need_known w x run at live e y needs = by_phase run.phase refl needs
    where
      knows : KnowsRun (setting_of s c) log w x run
      knows = (b.knows.workers w x at live).run run e

      waits : (z : Id) → replay s.script run.spec run.base run.answers ≡ piece_of run.births run.prints z → P z
      waits z replayed =
          let named = spec_named s.script (births log) (λ a. own_births a log) (λ a. deeds a log) good run.attempt.object run.spec knows.spec in
          let spec = births_keep P s.script run.spec named in
          let answers : OutcomesIn P run.answers = subst (OutcomesIn P) knows.answers (answers_known run.attempt run.spec knows.spec) in
          let own : ObjectsIn P (numbered run.base run.births) = subst (ObjectsIn P) knows.own (objects_born (births log) (own_births run.attempt log) (good.born run.attempt)) in
          let objects : ObjectsIn P (numbered run.base (replay s.script run.spec run.base run.answers).births) =
          subst (λ (p : Piece). ObjectsIn P (numbered run.base p.births)) (sym replayed) own in
          let stop : StopIn P (replay s.script run.spec run.base run.answers).stop = (stop_by_piece P (results_of run.spec) (run_birth s.script run.spec) run.base run.answers spec answers objects).0 in
          subst (λ (p : Piece). StopIn P p.stop) replayed stop

      by_phase : (p : Phase) → run.phase ≡ p → object_needed p ≡ Some y → P y
      by_phase (Waits z f) g n =
          let same : z ≡ y = cc in
          subst P same (waits z (subst (λ q. KnowsPhase (setting_of s c) log x run q) g knows.phase).1)
      by_phase Ready g n = absurd (cc)
      by_phase (Out j) g n = absurd (cc)
      by_phase (HasEnded d) g n = absurd (cc)
      by_phase (HasFaulted f) g n = absurd (cc)

-- ---- what stands in births and ends

to_among : (z : Id) (xs : List Id) → B.Among z xs → Among z xs
to_among z [] (k, e) = absurd (cc)
to_among z (x ∷ xs) (zero, e) = let same : x ≡ z = cc in inl (sym same)
to_among z (x ∷ xs) (suc k, e) = inr (to_among z xs (k, e))

to_stands : (log : List Entry) (x : Entry) → B.Among x log → Stands x log
to_stands [] x (k, e) = absurd (cc)
to_stands (y ∷ log) x (zero, e) = let same : y ≡ x = cc in inl (sym same)
to_stands (y ∷ log) x (suc k, e) = inr (to_stands log x (k, e))

pub from_stands : (log : List Entry) (x : Entry) → Stands x log → B.Among x log
from_stands [] x h = absurd h
from_stands (y ∷ log) x (inl e) = (zero, ap (λ z. Some z) (sym e))
from_stands (y ∷ log) x (inr h) = let r = from_stands log x h in (suc r.0, r.1)

-- the place of a content among those of an end
filled_at : (first : Id) (cs : List Outcome) (d : Outcome) → B.Among d cs → (e : Id) × IsFilled first (ids_in_each cs) e (ids_in_outcome d)
filled_at first [] d (k, e) = absurd (cc)
filled_at first (c ∷ cs) d (zero, e) = let same : c ≡ d = cc in (first, inl (refl, ap ids_in_outcome (sym same)))
filled_at first (c ∷ cs) d (suc k, e) = let r = filled_at (next_id first) cs d (k, e) in (r.0, inr r.1)

module _ (s : Setting) (log : List Entry) (c : ClusterState) (sound : IsSound s log c) where
  abbrev tells : Tells log sound.past
  tells = sound.held.joined.tells

  module _ (o : Id) (a : Attempt) (put : Bool) (others : ℕ) (ids : List Id) (z : Id) (one : IsOneOf o others z) where
    same_births : (p : Id) (b : Attempt) (birth : Birth) → Born o a put others ids ≡ Born p b (is_put birth) (others_of birth) (ids_of_birth birth) →
        IsOneOf p (others_of birth) z
    same_births p b birth e = let f : o ≡ p = cc in let g : others ≡ others_of birth = cc in subst (λ q. IsOneOf q (others_of birth) z) f (subst (λ n. IsOneOf o n z) g one)

    born_entry : (x : Entry) → Has (Born o a put others ids) (facts_in x) → B.Among x log → IsBornIn log z
    born_entry (logged.Born p b birth) (inl e) i = (p, b, birth, i, one_made (record { object = p; birth = birth }) z (same_births p b birth e))
    born_entry (logged.Born p b birth) (inr h) i = absurd h
    born_entry (logged.Begun b w) (inl e) i = absurd (cc)
    born_entry (logged.Begun b w) (inr h) i = absurd h
    born_entry (logged.Got b y d) (inl e) i = absurd (cc)
    born_entry (logged.Got b y d) (inr h) i = absurd h
    born_entry (logged.Ended b d) (inl e) i = absurd (cc)
    born_entry (logged.Ended b d) (inr h) i = absurd h
    born_entry (logged.Faulted b y f) (inl e) i = absurd (cc)
    born_entry (logged.Faulted b y f) (inr h) i = absurd h
    born_entry (logged.Accepted b) (inl e) i = absurd (cc)
    born_entry (logged.Accepted b) (inr h) i = absurd h
    born_entry (logged.Released p) (inl e) i = absurd (cc)
    born_entry (logged.Released p) (inr h) i = absurd h
    born_entry (logged.In e seat) h i = absurd h
    born_entry (logged.Refused code) h i = absurd h
    born_entry (logged.Opened w n) h i = absurd h
    born_entry (logged.Printed v) h i = absurd h
    born_entry (logged.Resolved p f) h i = absurd h

  accepted_entry : (a : Attempt) (x : Entry) → Has (Accepted a) (facts_in x) → B.Among x log → B.Among (logged.Accepted a) log
  accepted_entry a (logged.Accepted b) (inl e) i = let same : a ≡ b = cc in subst (λ q. B.Among (logged.Accepted q) log) (sym same) i
  accepted_entry a (logged.Accepted b) (inr h) i = absurd h
  accepted_entry a (logged.Born p b birth) (inl e) i = absurd (cc)
  accepted_entry a (logged.Born p b birth) (inr h) i = absurd h
  accepted_entry a (logged.Begun b w) (inl e) i = absurd (cc)
  accepted_entry a (logged.Begun b w) (inr h) i = absurd h
  accepted_entry a (logged.Got b y d) (inl e) i = absurd (cc)
  accepted_entry a (logged.Got b y d) (inr h) i = absurd h
  accepted_entry a (logged.Ended b d) (inl e) i = absurd (cc)
  accepted_entry a (logged.Ended b d) (inr h) i = absurd h
  accepted_entry a (logged.Faulted b y f) (inl e) i = absurd (cc)
  accepted_entry a (logged.Faulted b y f) (inr h) i = absurd h
  accepted_entry a (logged.Released p) (inl e) i = absurd (cc)
  accepted_entry a (logged.Released p) (inr h) i = absurd h
  accepted_entry a (logged.In e seat) h i = absurd h
  accepted_entry a (logged.Refused code) h i = absurd h
  accepted_entry a (logged.Opened w n) h i = absurd h
  accepted_entry a (logged.Printed v) h i = absurd h
  accepted_entry a (logged.Resolved p f) h i = absurd h

  pub accepted_by_past : (a : Attempt) → Has (Accepted a) sound.past → B.Among (logged.Accepted a) log
  accepted_by_past a h =
      let m : IsFactOf log (Accepted a) = tells.meant (Accepted a) refl h in
      accepted_entry a m.entry m.fact (from_stands log m.entry m.stands)

  -- whether an object was put is told once
  pub made_so : (z first second : Id) (h : IsPart sound.past first z) (k : IsPart sound.past second z) → h.put ≡ k.put
  made_so z first second h k = (agree sound.past sound.held.joined.legal first second z h k).puts

  pub born_by_past : (o : Id) → IsBornPast sound.past o → IsBornIn log o
  born_by_past o (first, h) =
      let m : IsFactOf log (Born first h.bearer h.put h.others h.ids) = tells.meant (Born first h.bearer h.put h.others h.ids) refl h.born in
      born_entry first h.bearer h.put h.others h.ids o h.one m.entry m.fact (from_stands log m.entry m.stands)

  -- in a birth
  pub named_in_birth : (p : Id) (a : Attempt) (birth : Birth) → B.Among (logged.Born p a birth) log → (o : Id) → B.Among o (each_once (ids_of_birth birth)) → IsBornIn log o
  named_in_birth p a birth i o j =
      let fact : Has (Born p a (is_put birth) (others_of birth) (ids_of_birth birth)) sound.past = tells.said (logged.Born p a birth) _ (to_stands log _ i) (inl refl) in
      born_by_past o (known_born sound.past sound.held.joined.legal a o
      (born_known sound.past sound.held.joined.legal p a (is_put birth) (others_of birth) (ids_of_birth birth) o fact (once_among o (ids_of_birth birth) (to_among o _ j))))

  -- in a content of an end
  pub named_in_end : (a : Attempt) (cs : List Outcome) → B.Among (logged.Ended a cs) log → (d : Outcome) → B.Among d cs → (o : Id) →
      B.Among o (each_once (ids_in_outcome d)) → IsBornIn log o
  named_in_end a cs i d k o j =
      let fact : Has (Ended a (ids_in_each cs)) sound.past = tells.said (logged.Ended a cs) _ (to_stands log _ i) (inl refl) in
      let at = filled_at a.object cs d k in
      born_by_past o (known_born sound.past sound.held.joined.legal a o
      (ended_known sound.past sound.held.joined.legal a (ids_in_each cs) at.0 (ids_in_outcome d) o fact at.1 (once_among o (ids_in_outcome d) (to_among o _ j))))
