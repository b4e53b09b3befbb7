-- What is a run's own stays so, event by event.
use Rattle.std.proofs.Common.{◌≡◌, ◌⊎◌, ◌≤◌, ℕ, zero, suc, Bool, true, false, List, [], ◌∷◌, ◌++◌, length, Option, Some, None, inl, inr, refl, sym, ap, ◌∙◌, subst, append-nil, arith}
use Rattle.std.specs.Prelude.{slice_get, slice_set}
use Rattle.std.specs.Option.{option_flatten}
use Rattle.meaning.specs.Lists.{IsFirst}
use Rattle.meaning.specs.Syntax.{Script}
use Rattle.event_log.specs.Entries.{Commit, Entry, Event, Claim, Deliver, Tick, Notice, NoticeNode, Evict, Lose, Kill, KillNode, Join}
use Rattle.event_log.specs.Words.{answers_of}
use Rattle.kept_frames.specs.Known.{Agrees, AllAgree, IsOfJob, KeepsWith, KnownData}
use Rattle.protocol.specs.Answers.{answer, logged}
use Rattle.protocol.specs.Numbered.{changed_by, item_at}
use Rattle.protocol_core.proofs.of_protocol_laws.Given.{begins_longer}
use Rattle.protocol_core.specs.of_protocol_laws.Given.{IsOfLog}
use Rattle.segment.specs.Jobs.{Done, JobParts}
use Rattle.protocol_core.specs.Own.{GivesOwn, IsOwn}
use Rattle.protocol_core.specs.States.{RunState}
use Rattle.protocol_core.specs.Steps.{Accepts, Answers, Follows, GivesJob, Refuses, Reply}
use Rattle.protocol_board.specs.Own.{FramesAreOwn, IsOwnAttempt, IsOwnJob, JobAgrees, JobsAreOwn, KeepsWithJob}
use Rattle.protocol_board.specs.Replays.{IsDoneOn, job_at, job_for, left_by, with_given}

some_of : {X : Type 0} (x y : X) → Some x ≡ Some y → x ≡ y
some_of x y e = cc

none_some : {X : Type 0} (x : X) → None ≡ Some x → ⊥
none_some x e = cc

-- ---- the log grows

abbrev pub Longer : RunState → RunState → Type 0
Longer before after = (more : List Entry) × (after.log ≡ before.log ++ more)

longer_by : (before after : RunState) (e : Event) (seat : ℕ) (done : Option Done) (told : Reply) → Follows before e seat done after told → Longer before after
longer_by before after e seat done told (inl out) = ([], out.same ∙ sym (append-nil before.log))
longer_by before after e seat done told (inr (handed, is, applied)) = (logged e seat (answer before.whole e handed), applied.log)

pub longer : (before after : RunState) (e : Event) (seat : ℕ) (done : Option Done) (told : Reply) → Answers before e seat done after told → Longer before after
longer before after e seat done told h = go before.is_halted refl
  where
    go : (b : Bool) → before.is_halted ≡ b → Longer before after
    go true is = ([], ap (λ (x : RunState). x.log) (h.halted is).0 ∙ sym (append-nil before.log))
    go false is = longer_by before after e seat done told (h.follows is)

-- a job stays a run's own as the log grows
pub job_stays_own : (log more : List Entry) (j : JobParts) → IsOfLog log j → IsOfLog (log ++ more) j
job_stays_own log more j own = begins_longer j.answers j.attempt log more own

-- and so do the attempts whose frames are kept
pub frames_stay_own : (log more : List Entry) (kept : List (Option KnownData)) → FramesAreOwn log kept → FramesAreOwn (log ++ more) kept
frames_stay_own log more kept own place k at = begins_longer k.answers k.attempt log more (own place k at)

jobs_behind : (before after : RunState) {e : Event} {seat : ℕ} {done : Option Done} {told : Reply} (jobs : List (Option JobParts)) → Answers before e seat done after told →
    JobsAreOwn before.log jobs → JobsAreOwn after.log jobs
jobs_behind before after {e} {seat} {done} {told} jobs h own place j at =
    let l = longer before after e seat done told h in
    subst (λ log. IsOfLog log j) (sym l.1) (job_stays_own before.log l.0 j (own place j at))

pub frames_behind : (before after : RunState) {e : Event} {seat : ℕ} {done : Option Done} {told : Reply} (kept : List (Option KnownData)) → Answers before e seat done after told →
    FramesAreOwn before.log kept → FramesAreOwn after.log kept
frames_behind before after {e} {seat} {done} {told} kept h own =
    let l = longer before after e seat done told h in
    subst (λ log. FramesAreOwn log kept) (sym l.1) (frames_stay_own before.log l.0 kept own)

-- ---- a job and what is known of its attempt

-- of two beginnings of one list the shorter begins the longer
shorter_first : {X : Type 0} (xs ys zs : List X) → IsFirst xs zs → IsFirst ys zs → length xs ≤ length ys → IsFirst xs ys
shorter_first [] ys zs f g h = tt
shorter_first (x ∷ xs) [] zs f g h = absurd (omega (arith, h))
shorter_first (x ∷ xs) (y ∷ ys) [] f g h = absurd f
shorter_first (x ∷ xs) (y ∷ ys) (z ∷ zs) f g h = (sym g.0 ∙ f.0, shorter_first xs ys zs f.1 g.1 (omega (arith, h)))

agrees : (log : List Entry) (k : KnownData) (j : JobParts) → IsOwnAttempt log k → IsOfLog log j → Agrees k j
agrees log k j known own same one_more =
    shorter_first k.answers j.answers (answers_of j.attempt log)
    (subst (λ a. IsFirst k.answers (answers_of a log)) same known) own
    (omega (arith, one_more))

pub all_agree : (log : List Entry) (kept : List (Option KnownData)) (j : JobParts) → FramesAreOwn log kept → IsOfLog log j → AllAgree kept j
all_agree log kept j all own place k at = agrees log k j (all place k at) own

pub kept_with : (log : List Entry) (j : JobParts) (before after : List (Option KnownData)) → FramesAreOwn log before → IsOfLog log j → KeepsWith j before after →
    FramesAreOwn log after
kept_with log j before after all own h place k at = elim (h place k at) [ inl old ↦ all place k old | inr new ↦ of_job new ]
  where
    of_job : IsOfJob k j → IsOwnAttempt log k
    of_job is =
        subst (λ cs. IsFirst cs (answers_of k.attempt log)) (sym is.answers)
        (subst (λ a. IsFirst j.answers (answers_of a log)) (sym is.attempt) own)

-- ---- the jobs of a replay

of_item : (log : List Entry) (o : Option (Option JobParts)) → ((j : JobParts) → o ≡ Some (Some j) → IsOfLog log j) → IsOwnJob log (option_flatten o)
of_item log None h = tt
of_item log (Some None) h = tt
of_item log (Some (Some j)) h = h j refl

own_at : (log : List Entry) (jobs : List (Option JobParts)) (n : ℕ) → JobsAreOwn log jobs → IsOwnJob log (job_at jobs n)
own_at log jobs zero all = tt
own_at log jobs (suc i) all = of_item log (slice_get jobs i) (λ j at. all i j at)

pub own_for : (log : List Entry) (e : Event) (jobs : List (Option JobParts)) → JobsAreOwn log jobs → IsOwnJob log (job_for e jobs)
own_for log (Commit j) jobs all = own_at log jobs j all
own_for log (Claim w) jobs all = tt
own_for log (Deliver k) jobs all = tt
own_for log (Tick w) jobs all = tt
own_for log (Notice w v) jobs all = tt
own_for log (NoticeNode w n) jobs all = tt
own_for log (Evict n o) jobs all = tt
own_for log (Lose n o) jobs all = tt
own_for log (Kill w) jobs all = tt
own_for log (KillNode n) jobs all = tt
own_for log Join jobs all = tt

emptied : (jobs : List (Option JobParts)) (i place : ℕ) (j : JobParts) → slice_get (slice_set jobs i None) place ≡ Some (Some j) → slice_get jobs place ≡ Some (Some j)
emptied [] i place j at = at
emptied (x ∷ jobs) zero zero j at = absurd (none_some j (some_of None (Some j) at))
emptied (x ∷ jobs) zero (suc place) j at = at
emptied (x ∷ jobs) (suc i) zero j at = at
emptied (x ∷ jobs) (suc i) (suc place) j at = emptied jobs i place j at

own_without : (log : List Entry) (jobs : List (Option JobParts)) (n : ℕ) (o : Option (Option JobParts)) → JobsAreOwn log jobs → JobsAreOwn log (changed_by jobs n (λ job. None) o)
own_without log jobs zero o all = all
own_without log jobs (suc i) None all = all
own_without log jobs (suc i) (Some x) all = λ place j at. all place j (emptied jobs i place j at)

pub own_left : (log : List Entry) (e : Event) (jobs : List (Option JobParts)) → JobsAreOwn log jobs → JobsAreOwn log (left_by e jobs)
own_left log (Commit j) jobs all = own_without log jobs j (item_at jobs j) all
own_left log (Claim w) jobs all = all
own_left log (Deliver k) jobs all = all
own_left log (Tick w) jobs all = all
own_left log (Notice w v) jobs all = all
own_left log (NoticeNode w n) jobs all = all
own_left log (Evict n o) jobs all = all
own_left log (Lose n o) jobs all = all
own_left log (Kill w) jobs all = all
own_left log (KillNode n) jobs all = all
own_left log Join jobs all = all

at_end : (jobs : List (Option JobParts)) (last : JobParts) (place : ℕ) (j : JobParts) → slice_get (jobs ++ Some last ∷ []) place ≡ Some (Some j) →
    (slice_get jobs place ≡ Some (Some j)) ⊎ (last ≡ j)
at_end [] last zero j at = inr (some_of last j (some_of (Some last) (Some j) at))
at_end [] last (suc place) j at = absurd (none_some (Some j) at)
at_end (x ∷ jobs) last zero j at = inl at
at_end (x ∷ jobs) last (suc place) j at = at_end jobs last place j at

pub own_with : (log : List Entry) (told : Reply) (jobs : List (Option JobParts)) → JobsAreOwn log jobs → GivesOwn log told → JobsAreOwn log (with_given told jobs)
own_with log (GivesJob job) jobs all own place j at = elim (at_end jobs job place j at) [ inl old ↦ all place j old | inr e ↦ subst (IsOfLog log) e own ]
own_with log Accepts jobs all own place j at = all place j at
own_with log (Refuses refusal) jobs all own place j at = all place j at

-- ---- a job that is run

pub job_agrees : (log : List Entry) (job : Option JobParts) (kept : List (Option KnownData)) → FramesAreOwn log kept → IsOwnJob log job → JobAgrees job kept
job_agrees log None kept all own = tt
job_agrees log (Some j) kept all own = all_agree log kept j all own

pub kept_with_job : (log : List Entry) (job : Option JobParts) (before after : List (Option KnownData)) → FramesAreOwn log before → IsOwnJob log job → KeepsWithJob job before after →
    FramesAreOwn log after
kept_with_job log None before after all own h = subst (FramesAreOwn log) (sym h) all
kept_with_job log (Some j) before after all own h = kept_with log j before after all own h

pub done_own : (log : List Entry) (script : Script) (job : Option JobParts) (done : Option Done) → IsOwnJob log job → IsDoneOn script job done → IsOwn log done
done_own log script None done own is = subst (IsOwn log) (sym is) tt
done_own log script (Some j) None own is = absurd is
done_own log script (Some j) (Some d) own is = subst (IsOfLog log) (sym is.0) own

-- ---- a replay's event

pub own_job : (log : List Entry) (e : Event) (jobs : List (Option JobParts)) (job : Option JobParts) → JobsAreOwn log jobs → job ≡ job_for e jobs → IsOwnJob log job
own_job log e jobs job all same = subst (IsOwnJob log) (sym same) (own_for log e jobs all)

-- a job is handed in and run
pub all_handed : (log : List Entry) (e : Event) (jobs left : List (Option JobParts)) (job : Option JobParts) (before after : List (Option KnownData)) →
    JobsAreOwn log jobs → FramesAreOwn log before → job ≡ job_for e jobs → left ≡ left_by e jobs → KeepsWithJob job before after →
    JobsAreOwn log left × FramesAreOwn log after
all_handed log e jobs left job before after all kept same rest keeps =
    (subst (JobsAreOwn log) (sym rest) (own_left log e jobs all), kept_with_job log job before after kept (own_job log e jobs job all same) keeps)

-- the event is answered
pub all_behind : (before after : RunState) {e : Event} {seat : ℕ} {done : Option Done} {told : Reply} (jobs : List (Option JobParts)) (kept : List (Option KnownData)) →
    Answers before e seat done after told → JobsAreOwn before.log jobs × FramesAreOwn before.log kept → JobsAreOwn after.log jobs × FramesAreOwn after.log kept
all_behind before after jobs kept h own = (jobs_behind before after jobs h own.0, frames_behind before after kept h own.1)

-- nothing is kept yet
pub none_kept : (log : List Entry) → FramesAreOwn log []
none_kept log place k at = absurd (none_some (Some k) at)
