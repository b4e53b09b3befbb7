-- The history of a run that came of events replays to the run.
use Rattle.std.proofs.Common.{◌≡◌, ◌<◌, ◌≤◌, ℕ, zero, suc, ◌+◌, Bool, true, false, List, [], ◌∷◌, ◌++◌, length, map, Option, Some, None}
use Rattle.std.proofs.Common.{refl, sym, ap, ◌∙◌, subst, arith, inl, inr, length-append, append_assoc}
use Rattle.std.proofs.lemmas.List.{length-map}
use Rattle.std.proofs.lemmas.Bool.{true≢false}
use Rattle.meaning.specs.Mains.{KeepsMainApart}
use Rattle.meaning.specs.Syntax.{Script}
use Rattle.segment.specs.Jobs.{Done}
use Rattle.event_log.specs.Entries.{Commit, Entry, Event, In, Refused}
use Rattle.event_log.specs.Entries.{NoJob, Refusal}
use Rattle.event_log.specs.Rules.{Setting}
use Rattle.event_files.specs.LogHistory.{recorded_in}
use Rattle.protocol.specs.Answers.{Answer, answer, decided, logged}
use Rattle.protocol.specs.Jobs.{JobRecord, CommitInput}
use Rattle.protocol.specs.Numbered.{item_at}
use Rattle.protocol.specs.Refusals.{refusal}
use Rattle.protocol.specs.Cluster.{ClusterState}
use Rattle.migration.specs.of_protocol_board.Cores.{beside}
use Rattle.migration.specs.of_protocol_board.Cores.{Applies, IsApplied, IsHanded}
use Rattle.protocol_laws.specs.Sound.{IsSound}
use Rattle.protocol_laws.proofs.Laws.{event_keeps_sound, opening_is_sound}
use Rattle.migration.specs.of_protocol_board.Cores.{Answers, Follows, Reply, RunState, first_state}
use Rattle.migration.specs.of_protocol_board.Replays.{AllPlay, IsAnswered, Play, Step, given_by, left_by, next_line, with_given}
use Rattle.migration.specs.of_seats.Counted.{ClaimsGaveJobs}
use Rattle.migration.proofs.of_seats.Counted.{answers_counted, fresh_claims}
use Rattle.migration.specs.Migration.{SaidPlays, said_by, said_from}
use Rattle.migration.proofs.Alike.{one_run}
use Rattle.migration.proofs.Migrating.{all_more, count_from, follows_said, none_play, recorded_plays, said, said-append, same_said}
use Rattle.migration.specs.of_run_paths.Handing.{HandsInOnce, has_commit}
use Rattle.migration.specs.of_run_paths.Paths.{Comes, ComesIn, IsTrueDone}
use Rattle.migration.proofs.of_run_paths.Paths.{none_lead, one_more_leads}
use Rattle.replay_laws.specs.Replaying.{CameSo, IsFirst, LogsReplay, RunsReplay, RunsReplayToThemselves}
use Rattle.replay_laws.proofs.Handing.{HandsAgain, IsOfJob, KeepsJob, commit_again, of_job, right}
use Rattle.replay_laws.proofs.Steps.{keeps_behind, logged_first, long_behind, told_memory}

-- ---- what is true of a log is true of its beginnings

begun_once : (log es : List Entry) → HandsInOnce (log ++ es) → HandsInOnce log
begun_once log es h = record {
  out = λ before after j seat is.
      h.out before (after ++ es) j seat (ap (λ l. l ++ es) is ∙ append_assoc before (In (Commit j) seat ∷ Refused NoJob ∷ after) es);
  once = λ before after j seat is.
      h.once before (after ++ es) j seat (ap (λ l. l ++ es) is ∙ append_assoc before (In (Commit j) seat ∷ after) es);
}

said_more : (log rest : List Entry) (e : Event) (seat : ℕ) → length (said_from 0 log) < length (said_from 0 (log ++ In e seat ∷ rest))
said_more log rest e seat =
    let a = ap length (said-append 0 log (In e seat ∷ rest) refl) ∙ length-append (said_from 0 log) (said_from (count_from 0 log) (In e seat ∷ rest)) in
    omega (arith, a)

answered_more : (log : List Entry) (e : Event) (seat : ℕ) (a : Answer) → length (said_from 0 log) < length (said_from 0 (log ++ logged e seat a))
answered_more log e seat a =
    let f = logged_first e seat a in
    subst (λ es. length (said_from 0 log) < length (said_from 0 (log ++ es))) (sym f.1) (said_more log f.0 e seat)

-- ---- a run that goes on went on before

unhalted : (before after : RunState) (e : Event) (seat : ℕ) (d : Option Done) (told : Reply) → Answers before e seat d after told →
    after.is_halted ≡ false → before.is_halted ≡ false
unhalted before after e seat d told h goes_on = by_halt before.is_halted refl
  where
    by_halt : (b : Bool) → before.is_halted ≡ b → before.is_halted ≡ false
    by_halt false is = is
    by_halt true is = absurd (true≢false (sym is ∙ sym (ap (λ (c : RunState). c.is_halted) (h.halted is).0) ∙ goes_on))

applies : (before after : RunState) (e : Event) (seat : ℕ) (d : Option Done) (told : Reply) → Answers before e seat d after told → after.is_halted ≡ false →
    Applies before e seat d after told
applies before after e seat d told h goes_on = go (h.follows (unhalted before after e seat d told h goes_on))
  where
    go : Follows before e seat d after told → Applies before e seat d after told
    go (inl out) = absurd (true≢false (sym out.halted ∙ goes_on))
    go (inr applied) = applied

-- ---- the replay of the run so far

record Reached (script : Script) (nodes : ℕ) (first : Play) (now : RunState) : Type 0 where
  pub play : Play
  pub plays : AllPlay (SaidPlays script) (said_from 0 now.log) first play
  pub run : play.run ≡ now
  pub sound : IsSound (beside script nodes []) now.log now.whole
  pub given : ClaimsGaveJobs now
  pub long : length play.jobs ≡ length now.whole.jobs
  pub jobs : (j : ℕ) (g : JobRecord) → item_at now.whole.jobs j ≡ Some g → has_commit j now.log ≡ false → KeepsJob play.jobs now.whole j
  pub applied : play.applied ≡ length (said_from 0 now.log)

no_given : (j : ℕ) (g : JobRecord) → item_at [] j ≡ Some g → ⊥
no_given zero g e = absurd (cc)
no_given (suc k) g e = absurd (cc)

at_first : (script : Script) (nodes slots : ℕ) (first : Play) → 0 < nodes → IsFirst nodes slots first → Reached script nodes first (first_state nodes slots)
at_first script nodes slots first some h = record {
  play = first;
  plays = none_play (SaidPlays script) first;
  run = h.run;
  sound = opening_is_sound (beside script nodes []) slots some;
  given = fresh_claims (first_state nodes slots) (refl, refl, refl);
  long = ap length h.jobs;
  jobs = λ j g at _. absurd (no_given j g at);
  applied = h.applied;
}

module _ (script : Script) (apart : KeepsMainApart script) (nodes : ℕ) (first : Play) where
  module _ (before now : RunState) (e : Event) (seat : ℕ) (d : Option Done) (told : Reply)
      (r : Reached script nodes first before) (is_true : IsTrueDone script d) (h : Answers before e seat d now told)
      (goes_on : now.is_halted ≡ false) (once : HandsInOnce now.log) (few : length (said_from 0 now.log) ≤ 100000) where
    abbrev c : ClusterState
    c = before.whole

    abbrev s : Setting
    s = beside script nodes []

    abbrev ran : before.is_halted ≡ false
    ran = unhalted before now e seat d told h goes_on

    abbrev made : Applies before e seat d now told
    made = applies before now e seat d told h goes_on

    abbrev handed : CommitInput
    handed = made.0

    abbrev is : IsApplied before now e seat handed told
    is = made.2

    -- what is handed in again
    again : HandsAgain script c e r.play.jobs handed
    again = by_event e made.0 made.1 is.log
      where
        not_out : (j : ℕ) (hd : CommitInput) → now.log ≡ before.log ++ logged (Commit j) seat (answer c (Commit j) hd) → refusal c (Commit j) hd ≡ Some NoJob → ⊥
        not_out j hd log refused =
            once.out before.log [] j seat (log ∙ ap (λ (o : Option Refusal). before.log ++ logged (Commit j) seat (decided c (Commit j) hd o)) refused)

        by_event : (x : Event) (hd : CommitInput) → IsHanded c x d hd → now.log ≡ before.log ++ logged x seat (answer c x hd) → HandsAgain script c x r.play.jobs hd
        by_event (Commit j) hd is_handed log =
            let o : IsOfJob hd (item_at c.jobs j) = of_job c j hd (item_at c.jobs j) (not_out j hd log) in
            let f = logged_first (Commit j) seat (answer c (Commit j) hd) in
            let uncommitted : has_commit j before.log ≡ false = once.once before.log f.0 j seat (log ∙ ap (λ es. before.log ++ es) f.1) in
            commit_again script c j r.play.jobs d hd o.work o.handed is_true is_handed (r.jobs j o.given o.there uncommitted)
        by_event x hd is_handed log = record { done = None; is_done = refl; is_handed = is_handed }

    abbrev next : Play
    next = record {
      run = now;
      jobs = with_given told (left_by e r.play.jobs);
      applied = r.play.applied + 1;
      sent = r.play.sent ++ length now.whole.network ∷ [];
      begun = r.play.begun + 1;
      lines = r.play.lines ++ (r.play.begun + 1) ∷ [];
    }

    more : length (said_from 0 before.log) < length (said_from 0 now.log)
    more = subst (λ l. length (said_from 0 before.log) < length (said_from 0 l)) (sym is.log) (answered_more before.log e seat (answer c e handed))

    replied : IsAnswered script (next_line r.play) e seat now told
    replied = (
      again.done,
      again.is_done,
      subst (λ b. Answers b e seat again.done now told) (sym r.run) (record {
        halted = λ out. absurd (true≢false (sym out ∙ ran));
        follows = λ _. inr (handed, again.is_handed, is);
      }),
    )

    step : Step script (next_line r.play) e seat next
    step = record {
      within = let a = r.applied in let b = more in omega (arith, a, b, few);
      told = told;
      answered = replied;
      goes_on = told_memory c e handed told is.told_so;
      jobs = refl;
      counted = refl;
      sent = refl;
      same_line = refl;
      lines = refl;
    }

    behind : Reached script nodes first now
    unfolding step
    behind =
        let f = follows_said before now e seat d told (r.given ran) (told_memory c e handed told is.told_so) (h.follows ran) in
        let sound = event_keeps_sound s apart before.log c e seat handed r.sound (right s c e d handed made.1 is_true) in
        let n = ap length f.says ∙ length-append (said_from 0 before.log) (said seat e (given_by e told) ∷ []) in
        let a = r.applied in
        record {
          play = next;
          plays = subst (λ xs. AllPlay (SaidPlays script) xs first next) (sym f.says)
              (all_more (SaidPlays script) (said_from 0 before.log) (said seat e (given_by e told)) first r.play next r.plays (step, refl));
          run = refl;
          sound = subst (λ l. IsSound s l now.whole) (sym is.log)
              (subst (λ w. IsSound s (before.log ++ logged e seat (answer c e handed)) w) (sym is.whole) sound);
          given = (answers_counted before now e seat d told r.given h).jobs;
          long = long_behind s before.log c r.sound r.play.jobs r.long handed told e is.told_so ∙ sym (ap (λ (w : ClusterState). length w.jobs) is.whole);
          jobs = λ j g at uncommitted. subst (λ w. KeepsJob next.jobs w j) (sym is.whole)
              (keeps_behind s before.log c r.sound r.play.jobs r.long handed told r.jobs e seat is.told_so j g
              (ap (λ (w : ClusterState). item_at w.jobs j) (sym is.whole) ∙ at)
              (ap (has_commit j) (sym is.log) ∙ uncommitted));
          applied = omega (arith, n, a);
        }

  reached : (slots : ℕ) → 0 < nodes → IsFirst nodes slots first → (n : ℕ) (now : RunState) → ComesIn script n (first_state nodes slots) now →
      now.is_halted ≡ false → HandsInOnce now.log → length (said_from 0 now.log) ≤ 100000 → Reached script nodes first now
  unfolding ComesIn
  reached slots some begins zero now came goes_on once few = subst (Reached script nodes first) (sym came) (at_first script nodes slots first some begins)
  reached slots some begins (suc n) now (before, e, seat, d, told, came, is_true, h) goes_on once few =
      let made = applies before now e seat d told h goes_on in
      let more = answered_more before.log e seat (answer before.whole e made.0) in
      let less : length (said_from 0 before.log) ≤ 100000 =
      (let l = ap (λ l. length (said_from 0 l)) made.2.log in omega (arith, more, l, few)) in
      behind before now e seat d told
      (reached slots some begins n before came (unhalted before now e seat d told h goes_on)
      (begun_once before.log (logged e seat (answer before.whole e made.0)) (subst HandsInOnce made.2.log once)) less)
      is_true h goes_on once few

pub runs_replay : RunsReplay
runs_replay script apart nodes slots now came goes_on log same few first begins =
    let says : said_from 0 now.log ≡ map said_by (recorded_in log) = ap (said_from 0) (sym same) ∙ sym (same_said 0 log) in
    let long = ap length says ∙ length-map (recorded_in log) said_by in
    let r = reached script apart nodes first slots came.some begins came.comes.0 now came.comes.1 goes_on came.once (omega (arith, long, few)) in
    (r.play, recorded_plays script (recorded_in log) first r.play (subst (λ xs. AllPlay (SaidPlays script) xs first r.play) says r.plays), r.run)

pub runs_replay_to_themselves : RunsReplayToThemselves
runs_replay_to_themselves script apart nodes slots now came goes_on log same few first again begins history =
    let h = runs_replay script apart nodes slots now came goes_on log same few first begins in
    one_run script (recorded_in log) first again h.0 (ap (λ (c : RunState). c.is_halted) begins.run) history h.1 ∙ h.2

-- ---- where an event found no memory

-- up to that event the run went on, with the same log
record WentOn (script : Script) (first now : RunState) : Type 0 where
  pub last : RunState
  pub comes : Comes script first last
  pub goes_on : last.is_halted ≡ false
  pub log : last.log ≡ now.log

went_behind : (script : Script) (first before now : RunState) (e : Event) (seat : ℕ) (d : Option Done) (told : Reply) → Comes script first before →
    IsTrueDone script d → Answers before e seat d now told → WentOn script first before → WentOn script first now
went_behind script first before now e seat d told came is_true h w = by_halt before.is_halted refl
  where
    follows : before.is_halted ≡ false → Follows before e seat d now told → WentOn script first now
    follows goes (inl out) = record { last = before; comes = came; goes_on = goes; log = sym out.same }
    follows goes (inr made) =
        record { last = now; comes = one_more_leads script first before now e seat d told came is_true h; goes_on = made.2.goes_on; log = refl }

    by_halt : (b : Bool) → before.is_halted ≡ b → WentOn script first now
    by_halt false is = follows is (h.follows is)
    by_halt true is = record { last = w.last; comes = w.comes; goes_on = w.goes_on; log = w.log ∙ sym (ap (λ (c : RunState). c.log) (h.halted is).0) }

went_on : (script : Script) (first : RunState) → first.is_halted ≡ false → (n : ℕ) (now : RunState) → ComesIn script n first now → WentOn script first now
unfolding ComesIn
went_on script first ran zero now came = record { last = first; comes = none_lead script first; goes_on = ran; log = ap (λ (c : RunState). c.log) (sym came) }
went_on script first ran (suc n) now (before, e, seat, d, told, came, is_true, h) =
    went_behind script first before now e seat d told (n, came) is_true h (went_on script first ran n before came)

pub logs_replay : LogsReplay
logs_replay script apart nodes slots now came log same few first begins =
    let w = went_on script (first_state nodes slots) refl came.comes.0 now came.comes.1 in
    let so : CameSo script nodes slots w.last = record { some = came.some; comes = w.comes; once = subst HandsInOnce (sym w.log) came.once } in
    let h = runs_replay script apart nodes slots w.last so w.goes_on log (same ∙ sym w.log) few first begins in (
      (h.0, h.1),
      λ again history.
          ap (λ (c : RunState). c.log)
          (runs_replay_to_themselves script apart nodes slots w.last so w.goes_on log (same ∙ sym w.log) few first again begins history) ∙ w.log,
    )
