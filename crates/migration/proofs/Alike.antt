-- A history replays to one run.
use Rattle.std.proofs.Common.{◌≡◌, ℕ, true, false, Bool, List, [], ◌∷◌, ◌++◌}
use Rattle.std.proofs.Common.{Option, Some, None, refl, sym, ap, ◌∙◌, subst, inl, inr}
use Rattle.meaning.specs.Syntax.{Script}
use Rattle.meaning.specs.Meaning.{replay}
use Rattle.meaning.specs.Values.{Birth, Named, Value}
use Rattle.meaning.specs.Runs as runs
use Rattle.meaning.specs.Runs.{Piece}
use Rattle.segment.specs.Jobs.{Done, IsTrueOf, JobParts, replay_of, whole_of}
use Rattle.event_log.specs.Entries.{Entry, Event, Commit}
use Rattle.event_files.specs.declared.recorded.RecordedEvent.{RecordedEvent}
use Rattle.protocol.specs.Jobs.{AtEnd, AtGet, CommitInput, Job, OfJob, Outcomes, Stopped, stop_of}
use Rattle.protocol.specs.Cluster.{ClusterState}
use Rattle.protocol.specs.Answers.{Answer, answer, logged, whole_after}
use Rattle.protocol.specs.Answers as answers
use Rattle.seats.specs.of_protocol_board.Cores.{outcomes_in}
use Rattle.seats.specs.of_protocol_board.Cores.{RunState}
use Rattle.seats.specs.of_protocol_board.Cores.{Follows, GivesThat, IsApplied, IsHanded, IsHandedFor, IsOut, Reply, Tells}
use Rattle.seats.specs.of_protocol_board.Replays.{AllPlay, IsDoneOn, Play, PlaysHistory, Step, found_no_memory, job_at, job_for, left_by, next_line, with_given}
use Rattle.event_files.specs.LogHistory.{recorded_in}
use Rattle.migration.specs.Migration.{MigratedIsSame, OneRun}
use Rattle.migration.proofs.Migrating.{histories_replay}

-- ---- what is done on a job is one thing

tail : {X : Type 0} (x : X) (us vs : List X) → x ∷ us ≡ x ∷ vs → us ≡ vs
tail x us vs e = cc

cancel : {X : Type 0} (xs ys zs : List X) → xs ++ ys ≡ xs ++ zs → ys ≡ zs
cancel [] ys zs e = e
cancel (x ∷ xs) ys zs e = cancel xs ys zs (tail x (xs ++ ys) (xs ++ zs) e)

same_rest : {X : Type 0} (xs ws ys zs : List X) → xs ≡ ws → xs ++ ys ≡ ws ++ zs → ys ≡ zs
same_rest xs ws ys zs same e = cancel xs ys zs (e ∙ ap (λ vs. vs ++ zs) (sym same))

meant_stop : runs.Stop → Stopped
meant_stop (runs.Needs (Named i)) = AtGet i
meant_stop (runs.Needs r) = AtGet (record { owner = 0; serial = 0 })
meant_stop (runs.Over cs) = AtEnd cs

same_stop : (s : Stopped) → s ≡ meant_stop (stop_of s)
unfolding meant_stop
same_stop (AtGet y) = refl
same_stop (AtEnd c) = refl

outcomes : (a b : List Birth) (c d : List Value) (s t : Stopped) → a ≡ b → c ≡ d → s ≡ t →
    ◌≡◌ {A = Outcomes} (record { births = a; prints = c; stop = s }) (record { births = b; prints = d; stop = t })
outcomes a b c d s t e f g = cc

one_work : (script : Script) (d f : Done) → d.job ≡ f.job → IsTrueOf script d → IsTrueOf script f →
    outcomes_in d ≡ outcomes_in f
one_work script d f same is others =
    let again : replay_of script d.job ≡ replay_of script f.job = ap (λ (j : Job). replay script j.spec j.base j.answers) same in
    let whole : whole_of d ≡ whole_of f = sym is ∙ again ∙ others in
    outcomes _ _ _ _ _ _
    (same_rest d.job.births f.job.births d.births f.births (ap (λ (j : Job). j.births) same)
    (ap (λ (p : Piece). p.births) whole))
    (same_rest d.job.prints f.job.prints d.prints f.prints (ap (λ (j : Job). j.prints) same)
    (ap (λ (p : Piece). p.prints) whole))
    (same_stop d.stop ∙ ap (λ (p : Piece). meant_stop p.stop) whole ∙ sym (same_stop f.stop))

-- ---- what is told gives one job

given_same : (given : Option Job) (told other : Reply) → GivesThat given told → GivesThat given other → told ≡ other
given_same None told other a b = a ∙ sym b
given_same (Some job) told other a b = a ∙ sym b

told_same : (a : Answer) (told other : Reply) (jobs : List (Option JobParts)) → Tells a told → Tells a other → with_given told jobs ≡ with_given other jobs
told_same (answers.Takes s) told other jobs h k = ap (λ t. with_given t jobs) (given_same s.given told other h k)
told_same (answers.Refuses refusal) told other jobs h k = ap (λ u. with_given u jobs) h ∙ sym (ap (λ u. with_given u jobs) k)

-- ---- what is handed in is one thing

of_jobs : (script : Script) (c : ClusterState) (j : ℕ) (d f : Done) → d.job ≡ f.job → IsTrueOf script d → IsTrueOf script f → (h k : CommitInput) →
    IsHandedFor c j (Some d) h → IsHandedFor c j (Some f) k → h ≡ k
of_jobs script c j d f same is others h k (inl x) (inl y) = x.0 ∙ ap (λ w. OfJob w) (one_work script d f same is others) ∙ sym y.0
of_jobs script c j d f same is others h k (inl x) (inr y) = absurd (y.1 (subst (IsOut c j) same x.1))
of_jobs script c j d f same is others h k (inr x) (inl y) = absurd (x.1 (subst (IsOut c j) (sym same) y.1))
of_jobs script c j d f same is others h k (inr x) (inr y) = x.0 ∙ sym y.0

one_commit : (script : Script) (c : ClusterState) (j : ℕ) (job : Option JobParts) (d f : Option Done) → IsDoneOn script job d → IsDoneOn script job f →
    (h k : CommitInput) → IsHandedFor c j d h → IsHandedFor c j f k → h ≡ k
one_commit script c j None d f x y h k s t = subst (λ o. IsHandedFor c j o h) x s ∙ sym (subst (λ o. IsHandedFor c j o k) y t)
one_commit script c j (Some a) None f x y h k s t = absurd x
one_commit script c j (Some a) (Some d) None x y h k s t = absurd y
one_commit script c j (Some a) (Some d) (Some f) x y h k s t = of_jobs script c j d f (x.0 ∙ sym y.0) x.1 y.1 h k s t

one_handed : (script : Script) (c : ClusterState) (e : Event) (jobs : List (Option JobParts)) (d f : Option Done) →
    IsDoneOn script (job_for e jobs) d → IsDoneOn script (job_for e jobs) f → (h k : CommitInput) → IsHanded c e d h → IsHanded c e f k → h ≡ k
one_handed script c (Commit j) jobs d f x y h k s t = one_commit script c j (job_at jobs j) d f x y h k s t
one_handed script c e jobs d f x y h k s t = s ∙ sym t

-- ---- one step, and all

record Alike (p q : Play) : Type 0 where
  pub run : p.run ≡ q.run
  pub jobs : p.jobs ≡ q.jobs
  pub goes_on : p.run.is_halted ≡ false

applied : (before after : RunState) (e : Event) (seat : ℕ) (d : Option Done) (told : Reply) → found_no_memory told ≡ false → Follows before e seat d after told →
    (handed : CommitInput) × IsHanded before.whole e d handed × IsApplied before after e seat handed told
applied before after e seat d told memory (inl out) = let f : true ≡ false = sym (ap found_no_memory out.told_so) ∙ memory in absurd (cc)
applied before after e seat d told memory (inr h) = h

run_parts : (a b : RunState) → a.log ≡ b.log → a.whole ≡ b.whole → a.first_nodes ≡ b.first_nodes → a.is_halted ≡ b.is_halted → a ≡ b
run_parts a b e f g h = parts a.log b.log a.whole b.whole a.first_nodes b.first_nodes a.is_halted b.is_halted e f g h
  where
    parts : (l m : List Entry) (w v : ClusterState) (n k : ℕ) (x y : Bool) → l ≡ m → w ≡ v → n ≡ k → x ≡ y →
        ◌≡◌ {A = RunState} (record { log = l; whole = w; first_nodes = n; is_halted = x }) (record { log = m; whole = v; first_nodes = k; is_halted = y })
    parts l m w v n k x y e f g h = cc

alike_step : (script : Script) (p q r s : Play) (e : Event) (seat : ℕ) → Alike p q → Step script p e seat r → Step script q e seat s → Alike r s
alike_step script p q r s e seat h a b =
    let fa = a.answered in
    let fb = b.answered in
    let halted : q.run.is_halted ≡ false = ap (λ (c : RunState). c.is_halted) (sym h.run) ∙ h.goes_on in
    let ia = applied p.run r.run e seat fa.0 a.told a.goes_on (fa.2.follows h.goes_on) in
    let ib = applied q.run s.run e seat fb.0 b.told b.goes_on (fb.2.follows halted) in
    let whole : p.run.whole ≡ q.run.whole = ap (λ (c : RunState). c.whole) h.run in
    let handed : ia.0 ≡ ib.0 =
    one_handed script q.run.whole e q.jobs fa.0 fb.0 (subst (λ jobs. IsDoneOn script (job_for e jobs) fa.0) h.jobs fa.1) fb.1 ia.0 ib.0
    (subst (λ c. IsHanded c e fa.0 ia.0) whole ia.1) ib.1 in
    let same : answer p.run.whole e ia.0 ≡ answer q.run.whole e ib.0 = ap (λ c. answer c e ia.0) whole ∙ ap (answer q.run.whole e) handed in
    let log : r.run.log ≡ s.run.log =
    ia.2.log ∙ ap (λ (c : RunState). c.log ++ logged e seat (answer p.run.whole e ia.0)) h.run
    ∙ ap (λ x. q.run.log ++ logged e seat x) same ∙ sym ib.2.log in
    let wholes : r.run.whole ≡ s.run.whole =
    ia.2.whole ∙ ap (λ c. whole_after c (answer p.run.whole e ia.0)) whole ∙ ap (whole_after q.run.whole) same ∙ sym ib.2.whole in
    let nodes : r.run.first_nodes ≡ s.run.first_nodes = ia.2.nodes ∙ ap (λ (c : RunState). c.first_nodes) h.run ∙ sym ib.2.nodes in
    let told : with_given a.told (left_by e q.jobs) ≡ with_given b.told (left_by e q.jobs) =
    told_same (answer q.run.whole e ib.0) a.told b.told (left_by e q.jobs) (subst (λ x. Tells x a.told) same ia.2.told_so) ib.2.told_so in
    record {
      run = run_parts r.run s.run log wholes nodes (ia.2.goes_on ∙ sym ib.2.goes_on);
      jobs = a.jobs ∙ ap (λ jobs. with_given a.told (left_by e jobs)) h.jobs ∙ told ∙ sym b.jobs;
      goes_on = ia.2.goes_on;
    }

alike_next : (p q : Play) → Alike p q → Alike (next_line p) (next_line q)
alike_next p q h = record { run = h.run; jobs = h.jobs; goes_on = h.goes_on }

alike_all : (script : Script) (events : List RecordedEvent) (p q r s : Play) → Alike p q → PlaysHistory script events p r → PlaysHistory script events q s → Alike r s
unfolding AllPlay
alike_all script [] p q r s h a b = subst (λ x. Alike x s) (sym a) (subst (Alike p) (sym b) h)
alike_all script (v ∷ events) p q r s h (x, here, rest) (y, there, more) =
    alike_all script events x y r s (alike_step script (next_line p) (next_line q) x y v.event v.seat (alike_next p q h) here.0 there.0) rest more

pub one_run : OneRun
one_run script events first p q goes_on a b =
    (alike_all script events first first p q (record { run = refl; jobs = refl; goes_on = goes_on }) a b).run

pub migrated_is_same : MigratedIsSame
migrated_is_same script ls first after again log begins plays same history =
    let h = histories_replay script ls first after log begins plays same in
    one_run script (recorded_in log) first again h.0 begins.goes_on history h.1 ∙ h.2
