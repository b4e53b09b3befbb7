-- A legal log reads as the serial run.
use Rattle.std.proofs.Common.{◌≡◌, ℕ, List, [], ◌∷◌, ◌++◌, length, map, Some, None, refl, sym, ap, ◌∙◌, subst, append-nil, append_assoc}
use Rattle.std.specs.Prelude.{if◌then◌else◌, slice_get}
use Rattle.std.specs.List.{flat_map}
use Rattle.meaning.specs.Values.{Outcome, Birth, results_of, main_birth}
use Rattle.meaning.specs.Syntax.{Script}
use Rattle.meaning.specs.Runs.{serial_trace}
use Rattle.meaning.specs.Meaning.{run_birth}
use Rattle.meaning.specs.Births.{birth_at}
use Rattle.meaning.specs.Readings.{Reading, read, read_outcome, read_birth, den}
use Rattle.meaning.specs.Law.{gets_of, get_after}
use Rattle.meaning.proofs.BirthLaws.{same_id-refl, none_grouped}
use Rattle.event_log.specs.Entries.{Attempt, Entry, In, Refused, Opened, Begun, Born, Got, Printed, Ended, Accepted, Faulted, Resolved, Released, main_object, main_attempt}
use Rattle.event_log.specs.Words.{births, born_in, Lack, Content, Lacking, main_bearing, ends_of}
use Rattle.event_log.specs.Rules.{Setting, Allowed}
use Rattle.event_log.specs.Legal.{LegalFrom, Legal, opening}
use Rattle.event_log.specs.Serial.{AnswersBegin, IsWhole, BeginsRun}
use Rattle.event_log.proofs.WordLaws.{deeds, nothing_done}
use Rattle.meaning_laws.specs.Law.{LegalLogsReadAsSerial}
use Rattle.meaning_laws.proofs.Traces.{answers_begin, FaultsFit, none_after}
use Rattle.meaning_laws.proofs.Good.{Told, Stands, Good, GoodLog, end_at}
use Rattle.meaning_laws.proofs.Births.{good_birth}
use Rattle.meaning_laws.proofs.Steps.{silent, got, faulted, ended, printed, born}

-- no birth at all
good_nothing : (script : Script) → Good script [] (λ a. []) (λ a. nothing_done)
good_nothing script = record {
  hold = λ o p e. absurd (cc);
  named = λ o p e. absurd (cc);
  earlier = tt;
  bound = λ o b. let e = b.1 in absurd (cc);
  grouped = none_grouped;
  born = λ a. tt;
  told = λ a. refl;
}

-- main's birth, before any entry
good_main : (script : Script) → GoodLog script []
good_main script = good_birth script [] main_bearing (λ a. []) (λ a. nothing_done) (good_nothing script) refl tt

pub step : (s : Setting) (log : List Entry) (e : Entry) → GoodLog s.script log → Allowed s log e → GoodLog s.script (log ++ e ∷ [])
step s log (In x seat) g h = silent s.script log (In x seat) refl (λ _. refl) (λ _. refl) g
step s log (Refused code) g h = silent s.script log (Refused code) refl (λ _. refl) (λ _. refl) g
step s log (Opened w n) g h = silent s.script log (Opened w n) refl (λ _. refl) (λ _. refl) g
step s log (Begun a w) g h = silent s.script log (Begun a w) refl (λ _. refl) (λ _. refl) g
step s log (Born o a b) g h = born s log g o a b h
step s log (Got a y c) g h = got s log g a y c h
step s log (Printed v) g h = printed s log g v h
step s log (Ended a c) g h = ended s log g a c h
step s log (Accepted a) g h = silent s.script log (Accepted a) refl (λ _. refl) (λ _. refl) g
step s log (Faulted a y f) g h = faulted s log g a y f h
step s log (Resolved o f) g h = silent s.script log (Resolved o f) refl (λ _. refl) (λ _. refl) g
step s log (Released o) g h = silent s.script log (Released o) refl (λ _. refl) (λ _. refl) g

steps : (s : Setting) (before es : List Entry) → GoodLog s.script before → LegalFrom s before es → GoodLog s.script (before ++ es)
steps s before [] g h = subst (λ log. GoodLog s.script log) (sym (append-nil before)) g
steps s before (e ∷ es) g h =
    subst (λ log. GoodLog s.script log) (append_assoc before (e ∷ []) es) (steps s (before ++ e ∷ []) es (step s before e g h.0) h.2)

pub good_opening : (script : Script) → GoodLog script opening
good_opening script =
    silent script (Opened 1 1 ∷ []) (Begun main_attempt 1) refl (λ _. refl) (λ _. refl)
    (silent script [] (Opened 1 1) refl (λ _. refl) (λ _. refl) (good_main script))

pub good_log : (s : Setting) (log : List Entry) → Legal s log → GoodLog s.script log
good_log s log h = subst (λ l. GoodLog s.script l) (sym h.begins) (steps s opening h.rest (good_opening s.script) h.each)

-- where nothing is got next there is no fault
no_lacks : (reading : Reading) (xs : List Lack) → FaultsFit None (map (λ (x : Lack). reading x.object) xs) → xs ≡ []
no_lacks reading [] h = refl
no_lacks reading (x ∷ []) h = absurd (cc)
no_lacks reading (x ∷ y ∷ xs) h = absurd h

-- what was told, in the law's words
begins_run : (script : Script) (log : List Entry) (a : Attempt) (spec : Birth) → Told script (births log) spec (deeds a log) →
    BeginsRun (den script (births log)) log a (results_of spec) (run_birth script (read_birth (den script (births log)) spec))
begins_run script log a spec t =
    let r = den script (births log) in
    let run = run_birth script (read_birth r spec) in
    let d = deeds a log in
    record {
      answers = subst (λ xs. AnswersBegin r xs (gets_of (serial_trace run))) (sym t.order) (answers_begin r d.answers d.faults (serial_trace run) t.fits.answers t.fits.faulted);
      prints = t.fits.prints;
      ended = whole;
    }
  where
    whole : (k : ℕ) (c : List Outcome) → slice_get (ends_of a log) k ≡ Some c → IsWhole (den script (births log)) log a (results_of spec) (run_birth script (read_birth (den script (births log)) spec)) c
    whole k c e =
        let r = den script (births log) in
        let run = run_birth script (read_birth r spec) in
        let d = deeds a log in
        let f = end_at (results_of spec) run (map (read_outcome r) d.answers) (map (read r) d.prints) (map (read_outcome r)) d.ends k c t.fits.ended e in
        let last : get_after (length (map (read_outcome r) d.answers)) (serial_trace run) ≡ None =
        subst (λ cs. get_after (length cs) (serial_trace run) ≡ None) f.0 (none_after (serial_trace run)) in
        let clear : d.faults ≡ [] = no_lacks r d.faults (subst (λ o. FaultsFit o (map (λ (x : Lack). r x.object) d.faults)) last t.fits.faulted) in
        record { no_fault = t.order ∙ ap (λ fs. map Content d.answers ++ map Lacking fs) clear ∙ append-nil (map Content d.answers); gets = f.0; prints = f.1; outcome = f.2 }

pub legal_logs_read : LegalLogsReadAsSerial
legal_logs_read s log h =
    let script = s.script in
    let g = good_log s log h in
    let each = λ (a : Attempt) (spec : Birth) (e : birth_at (births log) a.object ≡ Some spec). begins_run script log a spec (subst (λ o. Stands script (births log) o (deeds a log)) e (g.told a)) in
    let main_born : birth_at (births log) main_object ≡ Some main_birth = ap (λ t. if t then Some main_birth else birth_at (flat_map born_in log) main_object) (same_id-refl main_object) in
    record {
      earlier = g.earlier;
      hold = g.hold;
      each = each;
      main = each main_attempt main_birth main_born;
    }
