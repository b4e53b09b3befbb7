-- Whoever waits for an object by log and network waits for it by its tables.
use Rattle.std.proofs.Common.{◌≡◌, ℕ, true, List, [], ◌∷◌, Some, None, Option, refl, ap, sym, subst, ◌∙◌}
use Rattle.meaning.specs.Births.{Bearing, birth_at, numbered}
use Rattle.meaning.specs.Meaning.{replay, run_birth}
use Rattle.meaning.specs.Runs.{Bears, Ends, Gets, Needs, Piece, Prints, Run, piece, with_print}
use Rattle.meaning.specs.Values.{Birth, results_of, Id, Named, Outcome, Trapped, Val, Value}
use Rattle.event_log.specs.Entries.{Attempt}
use Rattle.event_log.specs.Rules.{Setting, Stops}
use Rattle.event_log.specs.Words.{answers_of, births, own_births}
use Rattle.protocol.specs.Tables.{Fetching, HasEnded, HasFaulted, Out, Phase, Ready, Waits, Worker}
use Rattle.protocol.specs.Tables as T
use Rattle.protocol.specs.Cluster.{ClusterState, worker_at}
use Rattle.lease_discipline.specs.of_protocol_legal.Knows.{KnowsPhase, KnowsRun, piece_of}
use Rattle.lease_discipline.specs.of_protocol_legal.Whole.{Between, setting_of}
use Rattle.protocol_owed.specs.Courses.{Rests, WaitsFor, course}
use Rattle.protocol_owed.specs.Runs.{Running, seen}
use Rattle.protocol_owed.specs.Told.{IsAsTold, attempt_by, pace_by, pace_in}
use Rattle.lease_discipline.specs.Told.{IsInStep}
use Rattle.lease_discipline.proofs.Told.{lives_there, logs_tell}

-- ---- where nothing is born, the base of births doesn't matter

same_piece : (n : ℕ) (run : Run) (base other : Id) (answers : List Outcome) → (piece n run base answers).births ≡ [] → piece n run base answers ≡ piece n run other answers
same_piece n (Ends c) base other answers e = refl
same_piece n (Prints v next) base other answers e = ap (with_print v) (same_piece n next base other answers e)
same_piece n (Bears b made_by next) base other answers e = absurd (cc)
same_piece n (Gets t r next) base other [] e = refl
same_piece n (Gets t r next) base other (Val v ∷ rest) e = same_piece n (next v) base other rest e
same_piece n (Gets t r next) base other (Trapped x ∷ rest) e = refl

-- two accounts of the same births and the same replay stop alike
stops_alike : (n : ℕ) (run : Run) (base other : Id) (answers : List Outcome) (p : Piece) (bs : List Birth) (vs : List Value) (y z : Id) → p ≡ piece n run base answers →
    piece n run other answers ≡ piece_of bs vs z → numbered base p.births ≡ numbered other bs → p.stop ≡ Needs (Named y) → y ≡ z
stops_alike n run base other answers p [] vs y z e f same stop =
    let none : (piece n run other answers).births ≡ [] = ap (λ (q : Piece). q.births) f in
    let is : p ≡ piece_of [] vs z = e ∙ sym (same_piece n run other base answers none) ∙ f in
    same_needs y z (sym stop ∙ ap (λ (q : Piece). q.stop) is)
  where
    same_needs : (y z : Id) → Needs (Named y) ≡ Needs (Named z) → y ≡ z
    same_needs y z g = cc
stops_alike n run base other answers p (b ∷ bs) vs y z e f same stop =
    let bases : base ≡ other = by_births p.births same in
    let is : p ≡ piece_of (b ∷ bs) vs z = e ∙ ap (λ o. piece n run o answers) bases ∙ f in
    same_needs y z (sym stop ∙ ap (λ (q : Piece). q.stop) is)
  where
    same_needs : (y z : Id) → Needs (Named y) ≡ Needs (Named z) → y ≡ z
    same_needs y z g = cc

    by_births : (cs : List Birth) → numbered base cs ≡ numbered other (b ∷ bs) → base ≡ other
    by_births [] g = absurd (cc)
    by_births (c ∷ cs) g = ap (λ (x : Bearing). x.object) (firsts (record { object = base; birth = c }) (record { object = other; birth = b }) _ _ g)
      where
        firsts : (x u : Bearing) (xs us : List Bearing) → x ∷ xs ≡ u ∷ us → x ≡ u
        firsts x u xs us h = cc

-- ---- a worker that waits

pub record IsWaitingHere (c : ClusterState) (w : ℕ) (a : Attempt) (y : Id) : Type 0 where
  pub worker : Worker
  pub there : worker_at c w ≡ Some worker
  pub lives : worker.is_live ≡ true
  pub run : T.Execution
  pub at : worker.run ≡ Some run
  pub present : run.attempt ≡ a
  pub fetching : Option Fetching
  pub waits : run.phase ≡ Waits y fetching

pub waits_for : (s : Setting) (r : Running) → IsInStep s r.log r.whole → (w : ℕ) (a : Attempt) (y : Id) → WaitsFor (seen s r) w a y →
    IsWaitingHere r.whole w a y
waits_for s r step w a y waits =
    let x = lives_there s r.log r.whole step.sound.between w waits.lives in
    let told : IsAsTold (course (seen s r) w) x.0 = logs_tell s r.log r.whole step w x.0 x.1 x.2 in
    by_run x.0 x.1 x.2 x.0.run refl (sym told.last ∙ waits.present) (sym told.pace ∙ waits.rests)
  where
    b : Between s r.log r.whole
    b = step.sound.between

    same_attempt_of : (run : T.Execution) → ◌≡◌ {A = Option Attempt} (Some run.attempt) (Some a) → run.attempt ≡ a
    same_attempt_of run e = cc

    same_birth : (v u : Birth) → ◌≡◌ {A = Option Birth} (Some v) (Some u) → v ≡ u
    same_birth v u e = cc

    alike : (x : Worker) → worker_at r.whole w ≡ Some x → x.is_live ≡ true → (run : T.Execution) → x.run ≡ Some run → run.attempt ≡ a →
        (z : Id) (f : Option Fetching) →
        run.phase ≡ Waits z f → y ≡ z
    alike x there lives run at present z f phase =
        let k : KnowsRun (setting_of s r.whole) r.log w x run = (b.knows.workers w x there lives).run run at in
        let q : KnowsPhase (setting_of s r.whole) r.log x run (Waits z f) = subst (KnowsPhase (setting_of s r.whole) r.log x run) phase k.phase in
        let stops : Stops s r.log a (Needs (Named y)) = waits.needs in
        let born : birth_at (births r.log) a.object ≡ Some run.spec = ap (λ (i : Attempt). birth_at (births r.log) i.object) (sym present) ∙ k.spec in
        let spec : stops.replays.spec ≡ run.spec = same_birth stops.replays.spec run.spec (sym stops.replays.born ∙ born) in
        let answers : answers_of a r.log ≡ run.answers = ap (λ i. answers_of i r.log) (sym present) ∙ k.answers in
        stops_alike (results_of run.spec) (run_birth s.script run.spec) stops.base run.base run.answers stops.p run.births run.prints y z
        (stops.replays.replayed ∙ ap (λ i. replay s.script i stops.base (answers_of a r.log)) spec ∙ ap (replay s.script run.spec stops.base) answers) q.1
        (sym stops.own ∙ ap (λ i. own_births i r.log) (sym present) ∙ k.own) stops.stopped

    by_phase : (x : Worker) → worker_at r.whole w ≡ Some x → x.is_live ≡ true → (run : T.Execution) → x.run ≡ Some run → run.attempt ≡ a → (p : Phase) →
        run.phase ≡ p → pace_in p ≡ Rests → IsWaitingHere r.whole w a y
    by_phase x there lives run at present (Waits z f) e g =
        let is : y ≡ z = alike x there lives run at present z f e in
        record {
          worker = x;
          there = there;
          lives = lives;
          run = run;
          at = at;
          present = present;
          fetching = f;
          waits = e ∙ ap (λ i. Waits i f) (sym is);
        }
    by_phase x there lives run at present Ready e g = absurd (cc)
    by_phase x there lives run at present (Out j) e g = absurd (cc)
    by_phase x there lives run at present (HasEnded c) e g = absurd (cc)
    by_phase x there lives run at present (HasFaulted f) e g = absurd (cc)

    by_run : (x : Worker) → worker_at r.whole w ≡ Some x → x.is_live ≡ true → (o : Option T.Execution) → x.run ≡ o → attempt_by o ≡ Some a → pace_by o ≡ Rests →
        IsWaitingHere r.whole w a y
    by_run x there lives None at last pace = absurd (cc)
    by_run x there lives (Some run) at last pace = by_phase x there lives run at (same_attempt_of run last) run.phase refl pace
