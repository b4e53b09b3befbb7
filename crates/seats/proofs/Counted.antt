-- What an event adds to the totals of the log is what its answer says.
use Rattle.std.proofs.Common.{◌≡◌, ℕ, ◌+◌, true, false, Bool, List, [], ◌∷◌, ◌++◌, length}
use Rattle.std.proofs.Common.{Option, Some, None, refl, sym, ap, ◌∙◌, subst, arith, inl, inr, length-append}
use Rattle.std.specs.Prelude.{◌==◌, if◌then◌else◌}
use Rattle.std.specs.List.{flat_map}
use Rattle.segment.specs.Jobs.{Done}
use Rattle.event_log.specs.Entries.{Entry, In, Refused, Event, Claim, Commit, Deliver, Tick, Notice, NoticeNode, Evict, Lose, Kill, KillNode, Join}
use Rattle.event_log.specs.Entries.{Refusal, Limit}
use Rattle.event_log.specs.Events.{accepted_events, claims, claim_in}
use Rattle.event_log.specs.Legal.{opening}
use Rattle.event_log.specs.Books.{Totals, totals_of}
use Rattle.event_log.specs.Laws.{plus, nothing, accepted_totals, answered_totals}
use Rattle.event_log.proofs.BookLaws.{totals-event}
use Rattle.event_log.proofs.EventLaws.{accepted-refused, claims-event}
use Rattle.protocol.specs.Jobs.{CommitInput, Job}
use Rattle.protocol.specs.Cluster.{ClusterState, Transition}
use Rattle.protocol.specs.Events.{happens}
use Rattle.protocol.specs.Refusals.{is_within_limits, refusal}
use Rattle.protocol.specs.Answers.{Answer, Refuses, answer, decided, given_out, logged, takes, whole_after}
use Rattle.protocol_owed.proofs.Counting.{are_parts, happens-counted, no_event, not_refused}
use Rattle.run_paths.specs.of_protocol_board.Cores.{RunState, GivesThat, Reply, Tells, Answers, Follows}
use Rattle.books.specs.SeatTotals.{seat_totals}
use Rattle.books.specs.Laws.{from_seat}
use Rattle.books.proofs.SeatLaws.{seat_totals-event, no_totals as no_seat_totals}
use Rattle.seats.specs.Counted.{ClaimsGaveJobs, IsFresh, counted, is_logged, one_event}
use Rattle.seats.proofs.Jobs.{claim_gives, happens-jobs}
use Rattle.seats.proofs.Codes.{is_low, refusal_low}

-- ---- what is told of an event that is taken

-- what an accepted event adds, itself among it
abbrev taken_by : ℕ → Event → Totals
taken_by n e = record (accepted_totals n e) { events = 1 }

told_job : (w n : ℕ) (job : Job) (told : Reply) → job.number ≡ n + 1 → GivesThat (Some job) told → counted (Claim w) told ≡ taken_by n (Claim w)
told_job w n job told number h =
    ap (counted (Claim w)) h ∙ ap (λ k. record one_event { given = k }) number

told_claim : (c : ClusterState) (w : ℕ) (handed : CommitInput) (told : Reply) (n : ℕ) → n ≡ length c.jobs → refusal c (Claim w) handed ≡ None →
    GivesThat (given_out c (Claim w)) told →
    counted (Claim w) told ≡ taken_by n (Claim w)
told_claim c w handed told n same r h =
    let g = claim_gives c w handed r in
    told_job w n g.0 told (g.2 ∙ ap (λ k. k + 1) (sym same)) (subst (λ o. GivesThat o told) g.1 h)

told_taken : (c : ClusterState) (e : Event) (handed : CommitInput) (told : Reply) (n : ℕ) → n ≡ length c.jobs → refusal c e handed ≡ None →
    GivesThat (given_out c e) told → counted e told ≡ taken_by n e
told_taken c (Claim w) handed told n same r h = told_claim c w handed told n same r h
told_taken c (Commit j) handed told n same r h = ap (counted (Commit j)) h
told_taken c (Deliver k) handed told n same r h = ap (counted (Deliver k)) h
told_taken c (Tick w) handed told n same r h = ap (counted (Tick w)) h
told_taken c (Notice w v) handed told n same r h = ap (counted (Notice w v)) h
told_taken c (NoticeNode w m) handed told n same r h = ap (counted (NoticeNode w m)) h
told_taken c (Evict m o) handed told n same r h = ap (counted (Evict m o)) h
told_taken c (Lose m o) handed told n same r h = ap (counted (Lose m o)) h
told_taken c (Kill w) handed told n same r h = ap (counted (Kill w)) h
told_taken c (KillNode m) handed told n same r h = ap (counted (KillNode m)) h
told_taken c Join handed told n same r h = ap (counted Join) h

-- ---- what the log says behind the event

-- of the seat w
abbrev CountsFrom : ℕ → List Entry → Event → ℕ → Answer → Reply → Type 0
CountsFrom w log e seat a told = seat_totals w (log ++ logged e seat a) ≡ plus (seat_totals w log) (from_seat w seat (counted e told))

abbrev Counts : List Entry → ClusterState → Event → ℕ → Answer → Reply → Type 0
Counts log c e seat a told =
    (totals_of (log ++ logged e seat a) ≡ plus (totals_of log) (counted e told)) × (length (claims (log ++ logged e seat a)) ≡ length (whole_after c a).jobs)
    × ((w : ℕ) → CountsFrom w log e seat a told)

refused_counts : (log : List Entry) (c : ClusterState) (e : Event) (seat : ℕ) (code : Refusal) (told : Reply) → length (claims log) ≡ length c.jobs → is_logged code ≡ true →
    Tells (Refuses code) told →
    Counts log c e seat (Refuses code) told
refused_counts log c e seat code told same low h =
    let f : counted e told ≡ one_event = ap (counted e) h ∙ ap (λ b. if b then one_event else nothing) low in (
      totals-event log e seat (Refused code ∷ []) refl ∙ ap (plus (totals_of log)) (sym f),
      ap (λ es. length (flat_map claim_in es)) (accepted-refused log e seat code) ∙ same,
      λ w. seat_totals-event w log e seat (Refused code ∷ []) refl ∙ ap (λ t. plus (seat_totals w log) (from_seat w seat t)) (sym f),
    )

taken_counts : (log : List Entry) (c : ClusterState) (e : Event) (seat : ℕ) (handed : CommitInput) (told : Reply) → length (claims log) ≡ length c.jobs →
    refusal c e handed ≡ None →
    GivesThat (given_out c e) told → Counts log c e seat (takes (happens c e handed) (given_out c e)) told
taken_counts log c e seat handed told same r h =
    let m : Transition = happens c e handed in
    let es : List Entry = m.out.entries in
    let q : are_parts es ≡ true = (happens-counted c e handed).quiet in
    let n = length (claims log) in
    let jobs = happens-jobs c e handed in
    let claimed = claims-event log e seat es (no_event es q) (not_refused es q) in
    let more : length (claims (log ++ In e seat ∷ es)) ≡ length (claims log) + length (claim_in e) =
    ap length claimed ∙ length-append (claims log) (claim_in e) in (
      totals-event log e seat es (no_event es q)
          ∙ ap (λ b. plus (totals_of log) (record (answered_totals b n e) { events = 1 })) (not_refused es q)
          ∙ ap (plus (totals_of log)) (sym (told_taken c e handed told n same r h)),
      omega (arith, jobs, more, same),
      λ w. seat_totals-event w log e seat es (no_event es q)
          ∙ ap (λ b. plus (seat_totals w log) (from_seat w seat (record (answered_totals b n e) { events = 1 }))) (not_refused es q)
          ∙ ap (λ t. plus (seat_totals w log) (from_seat w seat t)) (sym (told_taken c e handed told n same r h)),
    )

limited_counts : (log : List Entry) (c : ClusterState) (e : Event) (seat : ℕ) (handed : CommitInput) (told : Reply) → length (claims log) ≡ length c.jobs →
    refusal c e handed ≡ None →
    (b : Bool) → Tells (if b then takes (happens c e handed) (given_out c e) else Refuses Limit) told →
    Counts log c e seat (if b then takes (happens c e handed) (given_out c e) else Refuses Limit) told
limited_counts log c e seat handed told same r true h = taken_counts log c e seat handed told same r h
limited_counts log c e seat handed told same r false h = refused_counts log c e seat Limit told same refl h

decided_counts : (log : List Entry) (c : ClusterState) (e : Event) (seat : ℕ) (handed : CommitInput) (told : Reply) → length (claims log) ≡ length c.jobs →
    (o : Option Refusal) → refusal c e handed ≡ o → is_low o ≡ true → Tells (decided c e handed o) told → Counts log c e seat (decided c e handed o) told
decided_counts log c e seat handed told same None r low h = limited_counts log c e seat handed told same r (is_within_limits (happens c e handed).whole) h
decided_counts log c e seat handed told same (Some code) r low h = refused_counts log c e seat code told same low h

answer_counts : (log : List Entry) (c : ClusterState) (e : Event) (seat : ℕ) (handed : CommitInput) (told : Reply) → length (claims log) ≡ length c.jobs →
    Tells (answer c e handed) told → Counts log c e seat (answer c e handed) told
answer_counts log c e seat handed told same h = decided_counts log c e seat handed told same (refusal c e handed) refl (refusal_low c e handed) h

-- ---- an event of a run

pub record IsCounted (before : RunState) (e : Event) (seat : ℕ) (after : RunState) (told : Reply) : Type 0 where
  pub totals : totals_of after.log ≡ plus (totals_of before.log) (counted e told)
  pub of_seat : (w : ℕ) → seat_totals w after.log ≡ plus (seat_totals w before.log) (from_seat w seat (counted e told))
  pub jobs : ClaimsGaveJobs after

plus_nothing : (t : Totals) → plus t nothing ≡ t
plus_nothing t = parts _ _ _ _ _ _ _ _ (omega arith) (omega arith) (omega arith) (omega arith)
  where
    parts : (a a' b b' c c' d d' : ℕ) → a ≡ a' → b ≡ b' → c ≡ c' → d ≡ d' →
        ◌≡◌ {A = Totals} (record { events = a; given = b; commits = c; committed = d }) (record { events = a'; given = b'; commits = c'; committed = d' })
    parts a a' b b' c c' d d' ea eb ec ed = cc

unlogged : (before after : RunState) (e : Event) (told : Reply) → after.log ≡ before.log → counted e told ≡ nothing →
    totals_of after.log ≡ plus (totals_of before.log) (counted e told)
unlogged before after e told same none = ap totals_of same ∙ (sym (plus_nothing (totals_of before.log)) ∙ ap (plus (totals_of before.log)) (sym none))

from_none : (w seat : ℕ) → from_seat w seat nothing ≡ nothing
from_none w seat = by_test (seat == w)
  where
    by_test : (b : Bool) → (if b then nothing else nothing) ≡ nothing
    by_test true = refl
    by_test false = refl

unlogged_from : (w : ℕ) (before after : RunState) (e : Event) (seat : ℕ) (told : Reply) → after.log ≡ before.log → counted e told ≡ nothing →
    seat_totals w after.log ≡ plus (seat_totals w before.log) (from_seat w seat (counted e told))
unlogged_from w before after e seat told same none =
    ap (seat_totals w) same
    ∙ (sym (plus_nothing (seat_totals w before.log))
    ∙ ap (plus (seat_totals w before.log)) (sym (ap (from_seat w seat) none ∙ from_none w seat)))

true_is_false : {A : Type 0} → true ≡ false → A
true_is_false e = absurd (cc)

pub answers_counted : (before after : RunState) (e : Event) (seat : ℕ) (done : Option Done) (told : Reply) → ClaimsGaveJobs before →
    Answers before e seat done after told → IsCounted before e seat after told
answers_counted before after e seat done told same h = by_halt before.is_halted refl
  where
    follows : before.is_halted ≡ false → Follows before e seat done after told → IsCounted before e seat after told
    follows goes (inl out) = record {
      totals = unlogged before after e told out.same (ap (counted e) out.told_so);
      of_seat = λ w. unlogged_from w before after e seat told out.same (ap (counted e) out.told_so);
      jobs = λ f. true_is_false (sym out.halted ∙ f);
    }
    follows goes (inr (handed, is_handed, is)) =
        let k = answer_counts before.log before.whole e seat handed told (same goes) is.told_so in record {
          totals = ap totals_of is.log ∙ k.0;
          of_seat = λ w. ap (seat_totals w) is.log ∙ k.2 w;
          jobs = λ f. ap (λ l. length (claims l)) is.log ∙ (k.1 ∙ sym (ap (λ (c : ClusterState). length c.jobs) is.whole));
        }

    by_halt : (b : Bool) → before.is_halted ≡ b → IsCounted before e seat after told
    by_halt true f =
        let k = h.halted f in record {
          totals = unlogged before after e told (ap (λ (r : RunState). r.log) k.0) (ap (counted e) k.1);
          of_seat = λ w. unlogged_from w before after e seat told (ap (λ (r : RunState). r.log) k.0) (ap (counted e) k.1);
          jobs = subst ClaimsGaveJobs (sym k.0) same;
        }
    by_halt false f = follows f (h.follows f)

-- ---- a run that begins

no_totals : totals_of opening ≡ nothing
unfolding accepted_events
no_totals = refl

no_claims : length (claims opening) ≡ 0
unfolding accepted_events
no_claims = refl

pub fresh_totals : (r : RunState) → IsFresh r → totals_of r.log ≡ nothing
fresh_totals r h = ap totals_of h.0 ∙ no_totals

pub fresh_seat_totals : (w : ℕ) (r : RunState) → IsFresh r → seat_totals w r.log ≡ nothing
fresh_seat_totals w r h = ap (seat_totals w) h.0 ∙ no_seat_totals w

pub fresh_claims : (r : RunState) → IsFresh r → ClaimsGaveJobs r
fresh_claims r h = λ goes. ap (λ l. length (claims l)) h.0 ∙ no_claims ∙ sym (ap length h.1)
