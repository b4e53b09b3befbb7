-- A legal log keeps kinds.
use Rattle.std.proofs.Common.{◌≡◌, List, [], ◌∷◌, ◌++◌, Some, sym, subst, append-nil, append_assoc}
use Rattle.std.specs.Prelude.{if◌then◌else◌, Bool, true, false, None}
use Rattle.meaning.specs.Values.{Named, Outcome, results_of, Id, main_birth}
use Rattle.meaning.specs.Syntax.{Number, Script}
use Rattle.meaning.specs.Runs.{Piece, Needs, piece}
use Rattle.meaning.specs.Meaning.{run_birth}
use Rattle.meaning.specs.Births.{numbered, is_made_by, Part, part_of}
use Rattle.meaning.specs.Kinds.{ScriptChecks, IsBirthOf, AnswersFit}
use Rattle.meaning.specs.Readings.{read_birth, den, BirthsHold}
use Rattle.script_laws.proofs.KeptKinds.{law_of_kinds, birth_read}
use Rattle.meaning.proofs.BirthLaws.{first_is_made}
use Rattle.meaning_laws.specs.of_event_log.Entries.{Attempt, Entry}
use Rattle.meaning_laws.specs.of_event_log.Words.{births, answers_of, own_births, main_bearing}
use Rattle.meaning_laws.specs.of_event_log.Rules.{Setting, Stops, HasContent}
use Rattle.meaning_laws.specs.of_event_log.Legal.{LegalFrom, Legal, opening}
use Rattle.meaning_laws.proofs.of_event_log.WordLaws.{deeds}
use Rattle.meaning_laws.proofs.Good.{AllBorn, Told, Stands, GoodLog, births_hold}
use Rattle.meaning_laws.proofs.LogLaw.{step, good_opening, good_log}
use Rattle.meaning_laws.proofs.Steps.{content_is}
use Rattle.kind_laws.specs.Law.{HasKinds, LegalLogsKeepKinds}
use Rattle.kind_laws.proofs.Typed.{Typed, typed_step}

pub typed_opening : (script : Script) → IsBirthOf script main_birth (Number ∷ []) → Typed script (births opening)
typed_opening script h o p e = go (is_made_by main_bearing o) e
  where
    go : (t : Bool) → (if t then Some (part_of main_bearing o) else None) ≡ Some p → HasKinds script (read_birth (den script (births opening)) p.born.birth)
    go true e' = let same : part_of main_bearing o ≡ p = cc in subst (λ (q : Part). HasKinds script (read_birth (den script (births opening)) q.born.birth)) same (Number ∷ [], h)
    go false e' = absurd (cc)

steps : (s : Setting) → ScriptChecks s.script s.script → (before es : List Entry) → GoodLog s.script before → Typed s.script (births before) → LegalFrom s before es → Typed s.script (births (before ++ es))
steps s checks before [] g t h = subst (λ log. Typed s.script (births log)) (sym (append-nil before)) t
steps s checks before (e ∷ es) g t h =
    subst (λ log. Typed s.script (births log)) (append_assoc before (e ∷ []) es)
    (steps s checks (before ++ e ∷ []) es (step s before e g h.0) (typed_step s checks before g t e h.0) h.2)

typed_log : (s : Setting) (log : List Entry) → ScriptChecks s.script s.script → IsBirthOf s.script main_birth (Number ∷ []) → Legal s log → Typed s.script (births log)
typed_log s log checks main h =
    subst (λ l. Typed s.script (births l)) (sym h.begins) (steps s checks opening h.rest (good_opening s.script) (typed_opening s.script main) h.each)

pub kept_fit : (s : Setting) (log : List Entry) → ScriptChecks s.script s.script → GoodLog s.script log → Typed s.script (births log) →
    (a : Attempt) (y : Id) (c : Outcome) (h : Stops s log a (Needs (Named y))) → HasContent log y c → AnswersFit (run_birth s.script h.replays.spec) h.base (answers_of a log ++ c ∷ [])
kept_fit s log checks g typed a y c h content =
    let script = s.script in
    let bs = births log in
    let reading = den script bs in
    let r = h.replays in
    let t : Told script bs r.spec (deeds a log) = subst (λ p. Stands script bs p (deeds a log)) r.born (g.told a) in
    let kind = typed a.object _ (g.grouped.whole a.object a.object r.spec r.born (first_is_made (record { object = a.object; birth = r.spec }))) in
    let own : own_births a log ≡ numbered h.base (piece (results_of r.spec) (run_birth script r.spec) h.base (answers_of a log)).births = subst (λ (q : Piece). own_births a log ≡ numbered h.base q.births) r.replayed h.own in
    let holds : BirthsHold reading script h.base (piece (results_of r.spec) (run_birth script r.spec) h.base (answers_of a log)).births = births_hold script bs h.base _ g.hold (subst (λ xs. AllBorn bs xs) own (g.born a)) in
    let keeps = (law_of_kinds script checks reading r.spec kind.0 h.base (answers_of a log) kind.1 t.fits.answers).keeps holds in
    let needs = subst (λ (q : Piece). q.stop ≡ Needs (Named y)) r.replayed h.stopped in
    keeps.more (Named y) c needs (content_is s log g y c content).0

pub legal_logs_keep : LegalLogsKeepKinds
legal_logs_keep s log checks main h =
    let g = good_log s log h in
    let typed = typed_log s log checks main h in
    record {
      kinds = λ o b e. let k = typed o _ (g.grouped.whole o o b e (first_is_made (record { object = o; birth = b }))) in (k.0, birth_read s.script (den s.script (births log)) b k.0 k.1);
      next = kept_fit s log checks g typed;
    }
