-- The causes of refusals are what accepted events need.
use Rattle.std.proofs.Common.{◌≡◌, ℕ, ◌<◌, Bool, true, false, List, Option, Some, None, refl, sym, ap, ◌∙◌, subst, arith}
use Rattle.std.specs.Prelude.{is_some, not}
use Rattle.script_laws.specs.of_meaning.Values.{Id}
use Rattle.script_laws.specs.of_meaning.Births.{same_id}
use Rattle.script_laws.proofs.of_meaning.BirthLaws.{at_test, same_id-true}
use Rattle.event_log.specs.Breaks.{Among}
use Rattle.event_log.specs.Entries.{Event, Claim, Commit, Deliver, Tick, Notice, NoticeNode, Evict, Lose, Kill, KillNode, Join, Entry, main_object}
use Rattle.event_log.specs.Entries.{Refusal, NoWorker, NotReady, NoJob, Stale, NoMessage, NotDead, NoNode}
use Rattle.event_log.specs.Events.{worker_of_job, is_committed, has_job_out, is_live, worker_lives}
use Rattle.event_log.specs.Rules.{Setting}
use Rattle.event_log.specs.Legal.{Happens}
use Rattle.event_log.specs.Causes.{unless, shown, unseen, IsCauseOf, IsRefusal}
use Rattle.event_log.specs.Laws.{is_commit, LawOfCauses}

none_shown : (b : Bool) (code : Refusal) (o : Option Refusal) → unless b code o ≡ None → (b ≡ true) × (o ≡ None)
none_shown true code o h = (refl, h)
none_shown false code o h = absurd (cc)

shows_none : (b : Bool) (code : Refusal) (o : Option Refusal) → b ≡ true → o ≡ None → unless b code o ≡ None
shows_none true code o e h = h
shows_none false code o e h = absurd (cc)

there : {X : Type 0} (o : Option X) → is_some o ≡ true → (x : X) × (o ≡ Some x)
there None h = absurd (cc)
there (Some x) h = (x, refl)

not_false : (b : Bool) → b ≡ false → not b ≡ true
not_false true h = absurd (cc)
not_false false h = refl

not_true : (b : Bool) → not b ≡ true → b ≡ false
not_true true h = absurd (cc)
not_true false h = refl

accepted : (s : Setting) (log : List Entry) (e : Event) (es : List Entry) (handed : Bool) → is_commit e ≡ false → shown s log handed e ≡ None → Happens s log e es
accepted s log (Claim w) es handed c h = let k = none_shown _ NoWorker _ h in (k.0, not_true (has_job_out w log) (none_shown _ NotReady None k.1).0)
accepted s log (Commit j) es handed c h = absurd (cc)
accepted s log (Deliver m) es handed c h = there (s.receiver m) (none_shown _ NoMessage None h).0
accepted s log (Tick w) es handed c h = (none_shown _ NoWorker None h).0
accepted s log (Notice w v) es handed c h = let k = none_shown _ NoWorker _ h in (k.0, (none_shown _ NotDead None k.1).0)
accepted s log (NoticeNode w n) es handed c h = let k = none_shown _ NoWorker _ h in (k.0, (none_shown _ NotDead None k.1).0)
accepted s log (Evict n o) es handed c h = (none_shown _ NoNode None h).0
accepted s log (Lose n o) es handed c h = (none_shown _ NoNode None h).0
accepted s log (Kill w) es handed c h = (none_shown _ NoWorker None h).0
accepted s log (KillNode n) es handed c h = (none_shown _ NoNode None h).0
accepted s log Join es handed c h = tt

unrefused : (s : Setting) (log : List Entry) (e : Event) (es : List Entry) → Happens s log e es → shown s log true e ≡ None
unrefused s log (Claim w) es h = shows_none _ NoWorker _ h.0 (shows_none _ NotReady None (not_false (has_job_out w log) h.1) refl)
unrefused s log (Commit j) es h =
    let k = h.1 in
    shows_none _ NoJob _ (ap is_some k.claimed) (shows_none _ NoJob _ (not_false (is_committed j log) k.once)
    (shows_none _ Stale None (ap (λ o. worker_lives o log) k.claimed ∙ k.lives) refl))
unrefused s log (Deliver m) es h = shows_none _ NoMessage None (ap is_some h.1) refl
unrefused s log (Tick w) es h = shows_none _ NoWorker None h refl
unrefused s log (Notice w v) es h = shows_none _ NoWorker _ h.0 (shows_none _ NotDead None h.1 refl)
unrefused s log (NoticeNode w n) es h = shows_none _ NoWorker _ h.0 (shows_none _ NotDead None h.1 refl)
unrefused s log (Evict n o) es h = shows_none _ NoNode None h refl
unrefused s log (Lose n o) es h = shows_none _ NoNode None h refl
unrefused s log (Kill w) es h = shows_none _ NoWorker None h refl
unrefused s log (KillNode n) es h = shows_none _ NoNode None h refl
unrefused s log Join es h = refl

pub law_of_causes : LawOfCauses
law_of_causes s log e es = record { accepted = accepted s log e es; unrefused = unrefused s log e es }

-- ---- refusals

-- the cause that an event shows, or one that it doesn't
pub as_shown : (s : Setting) (log : List Entry) (e : Event) (code : Refusal) (handed : Bool) → shown s log handed e ≡ Some code → IsRefusal s log e code
as_shown s log e code handed h = (handed, subst (λ o. IsCauseOf o e code) (sym h) refl)

pub as_unseen : (s : Setting) (log : List Entry) (e : Event) (code : Refusal) (handed : Bool) → shown s log handed e ≡ None → Among code (unseen e) → IsRefusal s log e code
as_unseen s log e code handed h k = (handed, subst (λ o. IsCauseOf o e code) (sym h) k)

pub no_worker : (s : Setting) (log : List Entry) (w : ℕ) → is_live w log ≡ false → IsRefusal s log (Claim w) NoWorker
no_worker s log w h = as_shown s log (Claim w) NoWorker false (ap (λ b. unless b NoWorker (unless (not (has_job_out w log)) NotReady None)) h)

pub not_ready : (s : Setting) (log : List Entry) (w : ℕ) → is_live w log ≡ true → IsRefusal s log (Claim w) NotReady
not_ready s log w h = (false, subst (λ b. IsCauseOf (unless b NoWorker (unless (not (has_job_out w log)) NotReady None)) (Claim w) NotReady) (sym h) (by_job (has_job_out w log)))
  where
    by_job : (b : Bool) → IsCauseOf (unless (not b) NotReady None) (Claim w) NotReady
    by_job true = refl
    by_job false = (0, refl)

-- the log doesn't show what was handed in
pub no_job : (s : Setting) (log : List Entry) (j : ℕ) → IsRefusal s log (Commit j) NoJob
no_job s log j = as_shown s log (Commit j) NoJob false (first (is_some (worker_of_job j log)) (not (is_committed j log)) (worker_lives (worker_of_job j log) log))
  where
    first : (b c d : Bool) → unless b NoJob (unless c NoJob (unless false NoJob (unless d Stale None))) ≡ Some NoJob
    first true true d = refl
    first true false d = refl
    first false c d = refl

-- main's object is the one of serial 0
pub not_main : (o : Id) → 0 < o.serial → same_id o main_object ≡ false
not_main o h = at_test (λ q. q ≡ false) (same_id o main_object) (λ e. let f : o.serial ≡ 0 = ap (λ (x : Id). x.serial) (same_id-true o main_object e) in absurd (omega (arith, f, h))) (λ e. refl)
