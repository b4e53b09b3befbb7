-- Logs with one wrong entry are not legal.
use Rattle.std.proofs.Common.{◌≡◌, ℕ, zero, suc, ◌+◌, Bool, true, false, List, [], ◌∷◌, ◌++◌, take, length, Option, Some, None, inl, inr, refl, sym, ap, ◌∙◌, subst, arith, append_assoc}
use Rattle.std.specs.Prelude.{slice_get, drop, if◌then◌else◌}
use Rattle.std.proofs.Math.Seq.{take-append_seam, drop-append_seam}
use Rattle.meaning.specs.Values.{Name, Value, Outcome, Argument, Birth, Put, Task, Val, Id, main_birth}
use Rattle.meaning.specs.Runs.{Piece}
use Rattle.meaning.specs.Meaning.{replay, call_at}
use Rattle.meaning.specs.Births.{same_id, numbered, birth_at, is_made_by, Part, part_of, part_at}
use Rattle.meaning.proofs.BirthLaws.{same_id-true}
use Rattle.meaning.specs.Examples.{value, object, square, squaring}
use Rattle.event_log.specs.Entries.{Attempt, Entry, OwnerDied, PutLost, Event, Claim, Commit, Deliver, Tick, Notice, Kill, In, Refused, Opened, Begun, Born, Got, Printed, Ended, Accepted, Faulted, Resolved, Released, main_object, main_attempt}
use Rattle.event_log.specs.Entries.{Refusal, Pinned, NoWorker, NotReady, Limit}
use Rattle.event_log.specs.Words.{same_attempt, attempt, births, runs_of, ends_of}
use Rattle.event_log.specs.Events.{accepted_events, under_way_from, is_committed, has_job_out, is_killed, is_live, was_told, was_lost}
use Rattle.event_log.specs.Breaks.{Among, PutIsLost, breaks_from, breaks_of}
use Rattle.event_log.specs.Holding.{is_one_of, anchored, Given, ByAttempt, ByBirth}
use Rattle.event_log.specs.Rules.{Receiver, ToWorker, ToNode, IsHeard, Setting, Allowed}
use Rattle.event_log.specs.Causes.{IsRefusal}
use Rattle.event_log.specs.Serial.{MainBegins}
use Rattle.event_log.specs.Legal.{Happens, CommitsAll, opening}
use Rattle.event_log.proofs.Growing.{entries_have_their_needs}
use Rattle.event_log.proofs.Finishing.{bore-first}
use Rattle.log_examples.specs.Logs.{first_of, number, square_setting, calling_mid}
use Rattle.log_examples.specs.FaultLogs.{making_one, used_up, retried_setting, owner_died_setting}
use Rattle.log_examples.specs.ReleaseLogs.{releasing_setting}
use Rattle.log_examples.specs.WrongLogs.{IsWrong, two_puts, two_puts_setting, owner_died, wrong_content, begun_again, accepted_twice, passed_setting, released_while_held, released_out_of_order, fault_without_cause, print_after_end, skipped_serial, end_of_the_dead, notice_of_the_living, entry_of_a_refused_event, half_a_commit, kill_of_nobody, delivery_of_nothing, opened_by_the_dead, lost_before_its_birth, used_up_too_soon, got_from_the_dead, main_resolved, main_accepted, given_out_twice, refused_for_nothing, refused_for_less, cause_comes_later}

-- by an entry that may not stand there
wrong_by : (s : Setting) (before : List Entry) (x : Entry) (es : List Entry) → (Allowed s (opening ++ before) x → ⊥) → IsWrong s (before ++ x ∷ es)
wrong_by s before x es h legal = h (entries_have_their_needs s (opening ++ (before ++ x ∷ es)) legal before x es refl).allowed

none_there : {X : Type 0} (x : X) → Among x [] → ⊥
none_there x h = let e = h.1 in absurd (cc)

not_so : ◌≡◌ {A = Bool} false true → ⊥
not_so e = absurd (cc)

so : ◌≡◌ {A = Bool} true false → ⊥
so e = absurd (cc)

not_nil : {X : Type 0} (x : X) (xs : List X) → ◌≡◌ {A = List X} (x ∷ xs) [] → ⊥
not_nil x xs e = absurd (cc)

one_for_two : ◌≡◌ {A = ℕ} 2 1 → ⊥
one_for_two e = absurd (omega arith)

other_put : (v : Value) → ◌≡◌ {A = Option Birth} (Some (Put (number 1))) (Some (Put v)) → value 2 ≡ Val v → ⊥
other_put v e f = absurd (cc)

-- the first put is no task's result
never_ended : (p : Part) → part_at (births (opening ++ take 4 wrong_content)) (object 1 1) ≡ Some p → (number : ℕ) (cs : List Outcome) →
    Among cs (ends_of (attempt p.born.object number) (opening ++ take 4 wrong_content)) → ⊥
never_ended p e n cs h = none_there cs h

pub wrong_content_is_wrong : IsWrong two_puts_setting wrong_content
unfolding same_id same_attempt
wrong_content_is_wrong = wrong_by two_puts_setting (take 4 wrong_content) (Got main_attempt (object 1 1) (value 2)) [] (λ h. elim h.content [ inl x ↦ other_put x.0 x.1 x.2 | inr x ↦ never_ended x.part x.born x.number x.contents x.ended ])

pub begun_again_is_wrong : IsWrong square_setting begun_again
unfolding same_id same_attempt accepted_events breaks_from breaks_of
begun_again_is_wrong = wrong_by square_setting (take 8 begun_again) (Begun (attempt (object 1 1) 1) 2) [] (λ h. none_there h.broken.1.0 h.broken.1.1)

pub accepted_twice_is_wrong : IsWrong square_setting accepted_twice
unfolding same_id same_attempt
accepted_twice_is_wrong = wrong_by square_setting (take 13 accepted_twice) (Accepted (first_of (object 1 1))) [] (λ h. not_nil _ _ h.once)

pub released_while_held_is_wrong : IsWrong passed_setting released_while_held
unfolding same_id same_attempt accepted_events is_live is_one_of anchored
released_while_held_is_wrong = wrong_by passed_setting (take 9 released_while_held) (Released (object 1 1)) []
    (λ h. h.unheld (ByAttempt (first_of (object 1 2)) 2 (10, refl) refl refl refl
    (Given (first_of (object 1 2)) main_attempt (object 1 1) calling_mid (5, refl) (0, refl) refl (bore-first _ main_attempt (object 1 1) (Put (number 6)) (4, refl)))))

pub released_out_of_order_is_wrong : IsWrong releasing_setting released_out_of_order
unfolding same_id same_attempt accepted_events is_live is_one_of anchored
released_out_of_order_is_wrong = wrong_by releasing_setting (take 47 released_out_of_order) (Released (object 1 1)) []
    (λ h. h.unheld (ByBirth (object 1 2) main_attempt calling_mid (5, refl) refl refl (0, refl) (bore-first _ main_attempt (object 1 1) (Put (number 6)) (4, refl))))

pub fault_without_cause_is_wrong : IsWrong square_setting fault_without_cause
unfolding accepted_events is_killed
fault_without_cause_is_wrong = wrong_by square_setting (take 4 fault_without_cause) (Faulted main_attempt (object 1 1) (record { kind = OwnerDied; object = object 1 1 })) [] (λ h. not_so h.cause)

pub print_after_end_is_wrong : IsWrong square_setting print_after_end
unfolding same_id same_attempt
print_after_end_is_wrong = wrong_by square_setting (take 20 print_after_end) (Printed (number 49)) [] (λ h. not_nil _ _ h.replays.ended)

pub skipped_serial_is_wrong : IsWrong square_setting skipped_serial
skipped_serial_is_wrong = wrong_by square_setting (take 2 skipped_serial) (Born (object 1 2) main_attempt squaring) [] (λ h. one_for_two h.next)

that_worker : (w : ℕ) → ◌≡◌ {A = Option ℕ} (Some 2) (Some w) → ◌≡◌ {A = ℕ} w 2
that_worker w e = cc

pub end_of_the_dead_is_wrong : IsWrong square_setting end_of_the_dead
unfolding same_id accepted_events is_live
end_of_the_dead_is_wrong = wrong_by square_setting (take 11 end_of_the_dead) (Ended (first_of (object 1 1)) (value 49 ∷ [])) [] (λ h. not_so (subst (λ w. is_live w (opening ++ take 11 end_of_the_dead) ≡ true) (that_worker h.worker h.job.runs) h.job.lives))

pub entry_of_a_refused_event_is_wrong : IsWrong square_setting entry_of_a_refused_event
unfolding under_way_from
entry_of_a_refused_event_is_wrong = wrong_by square_setting (take 2 entry_of_a_refused_event) (Opened 2 1) [] (λ h. nothing_under_way h.event h.now)
  where
    nothing_under_way : (e : Event) → ◌≡◌ {A = Option Event} None (Some e) → ⊥
    nothing_under_way e h = absurd (cc)

-- by an event that may not happen there
wrong_by_event : (s : Setting) (before : List Entry) (e : Event) (f : Event) → (Happens s (opening ++ before) e [] → ⊥) → IsWrong s (before ++ In e 0 ∷ In f 0 ∷ [])
wrong_by_event s before e f h legal = h (entries_have_their_needs s (opening ++ (before ++ In e 0 ∷ In f 0 ∷ [])) legal before (In e 0) (In f 0 ∷ []) refl).answered

-- the same at the end of the log
wrong_at_the_end : (s : Setting) (before : List Entry) (e : Event) → (Happens s (opening ++ before) e [] → ⊥) → IsWrong s (before ++ In e 0 ∷ [])
wrong_at_the_end s before e h legal = h (entries_have_their_needs s (opening ++ (before ++ In e 0 ∷ [])) legal before (In e 0) [] refl).answered

pub notice_of_the_living_is_wrong : IsWrong square_setting notice_of_the_living
unfolding accepted_events is_killed
notice_of_the_living_is_wrong = wrong_by_event square_setting (take 5 notice_of_the_living) (Notice 1 2) (Claim 1) (λ h. not_so h.1)

-- only main runs, and it bears an object
main_only : (o : Id) (k w : ℕ) → slice_get (runs_of o (opening ++ take 1 half_a_commit)) k ≡ Some w → (main_object ≡ o) × (◌≡◌ {A = ℕ} k 0)
main_only o k w e = by_test (same_id main_object o) k (same_id-true main_object o) e
  where
    by_test : (t : Bool) (k : ℕ) → (t ≡ true → main_object ≡ o) → slice_get ((if t then 1 ∷ [] else []) ++ []) k ≡ Some w → (main_object ≡ o) × (◌≡◌ {A = ℕ} k 0)
    by_test true zero f e = (f refl, refl)
    by_test true (suc k) f e = absurd (cc)
    by_test false k f e = absurd (cc)

bears_one : (base : Id) (p : Piece) (spec : Birth) → ◌≡◌ {A = Option Birth} (Some main_birth) (Some spec) → p ≡ replay square spec base [] → [] ≡ numbered base p.births → ⊥
unfolding call_at
bears_one base p spec e f g =
    let same : main_birth ≡ spec = cc in
    let q : p ≡ replay square main_birth base [] = f ∙ ap (λ b. replay square b base []) (sym same) in
    let r : [] ≡ numbered base (squaring ∷ []) = g ∙ ap (λ (x : Piece). numbered base x.births) q in
    absurd (cc)

no_half : (a : Attempt) → main_object ≡ a.object → ◌≡◌ {A = ℕ} a.number 0 → CommitsAll square_setting (opening ++ take 1 half_a_commit) a [] → ⊥
unfolding same_id same_attempt
no_half a e f h = subst (λ (x : Attempt). CommitsAll square_setting (opening ++ take 1 half_a_commit) x [] → ⊥) (attempt_is a e f) (λ k. bears_one k.base k.p k.replays.spec k.replays.born k.replays.replayed k.own) h
  where
    attempt_parts : (o p : Id) (m n : ℕ) → o ≡ p → m ≡ n → ◌≡◌ {A = Attempt} (record { object = o; number = m }) (record { object = p; number = n })
    attempt_parts o p m n e f = cc

    attempt_is : (a : Attempt) → main_object ≡ a.object → ◌≡◌ {A = ℕ} a.number 0 → main_attempt ≡ a
    attempt_is a e f = attempt_parts main_object a.object 0 a.number e (sym f)

pub half_a_commit_is_wrong : IsWrong square_setting half_a_commit
half_a_commit_is_wrong = wrong_at_the_end square_setting (take 1 half_a_commit) (Commit 1) (λ h. let m = main_only h.0.object h.0.number h.1.worker h.1.runs in no_half h.0 m.0 m.1 h.2)

pub kill_of_nobody_is_wrong : IsWrong square_setting kill_of_nobody
unfolding accepted_events is_live
kill_of_nobody_is_wrong = wrong_by_event square_setting [] (Kill 2) (Claim 1) (λ h. not_so h)

nobody : (r : Receiver) → ◌≡◌ {A = Option Receiver} None (Some r) → ⊥
nobody r e = absurd (cc)

pub delivery_of_nothing_is_wrong : IsWrong square_setting delivery_of_nothing
delivery_of_nothing_is_wrong = wrong_by_event square_setting [] (Deliver 99) (Claim 1) (λ h. nobody h.0 h.1)

to_one : (n : ℕ) → ◌≡◌ {A = Option Receiver} (Some (ToWorker 1)) (Some (ToNode n)) → ⊥
to_one n e = absurd (cc)

that_one : (w : ℕ) → ◌≡◌ {A = Option Receiver} (Some (ToWorker 1)) (Some (ToWorker w)) → ◌≡◌ {A = ℕ} w 1
that_one w e = cc

unheard : IsHeard square_setting (opening ++ take 2 opened_by_the_dead) (Deliver 2) → ⊥
unfolding accepted_events is_live
unheard (inl h) = to_one h.0 h.1
unheard (inr h) = not_so (subst (λ w. is_live w (opening ++ take 2 opened_by_the_dead) ≡ true) (that_one h.0 h.1) h.2)

this_event : (e : Event) → ◌≡◌ {A = Option Event} (Some (Deliver 2)) (Some e) → e ≡ Deliver 2
this_event e h = cc

pub opened_by_the_dead_is_wrong : IsWrong square_setting opened_by_the_dead
unfolding under_way_from
opened_by_the_dead_is_wrong = wrong_by square_setting (take 2 opened_by_the_dead) (Opened 2 1) [] (λ h. unheard (subst (λ e. IsHeard square_setting (opening ++ take 2 opened_by_the_dead) e) (this_event h.event h.now) h.heard))

-- what stands before, where the loss comes before the birth
abbrev early_log : List Entry
early_log = opening ++ take 5 lost_before_its_birth

not_born : (v : Value) → ◌≡◌ {A = Option Birth} None (Some (Put v)) → ⊥
not_born v e = absurd (cc)

by_place : (k : ℕ) (v : Value) (n : ℕ) → birth_at (births (take k early_log)) (object 1 1) ≡ Some (Put v) → was_lost n (object 1 1) (drop k early_log) ≡ true → ⊥
unfolding same_id accepted_events was_lost
by_place zero v n p l = not_born v p
by_place (suc zero) v n p l = not_born v p
by_place (suc (suc zero)) v n p l = not_born v p
by_place (suc (suc (suc zero))) v n p l = not_born v p
by_place (suc (suc (suc (suc zero)))) v n p l = not_born v p
by_place (suc (suc (suc (suc (suc zero))))) v n p l = not_born v p
by_place (suc (suc (suc (suc (suc (suc zero)))))) v n p l = not_so l
by_place (suc (suc (suc (suc (suc (suc (suc zero))))))) v n p l = not_so l
by_place (suc (suc (suc (suc (suc (suc (suc (suc k)))))))) v n p l = not_so l

not_lost : PutIsLost early_log (object 1 1) → ⊥
not_lost h =
    let k = length h.before in
    let f : take k early_log ≡ h.before = ap (λ l. take k l) h.parts ∙ take-append_seam h.before h.after in
    let g : drop k early_log ≡ h.after = ap (λ l. drop k l) h.parts ∙ drop-append_seam h.before h.after in
    by_place k h.value h.node
    (subst (λ l. birth_at (births l) (object 1 1) ≡ Some (Put h.value)) (sym f) h.put)
    (subst (λ l. was_lost h.node (object 1 1) l ≡ true) (sym g) h.lost)

pub lost_before_its_birth_is_wrong : IsWrong two_puts_setting lost_before_its_birth
lost_before_its_birth_is_wrong = wrong_by two_puts_setting (take 5 lost_before_its_birth) (Resolved (object 1 1) (record { kind = PutLost; object = object 1 1 })) [] (λ h. not_lost h.cause)

that_task : (g : Name) (args : List Argument) (d k others : ℕ) → ◌≡◌ {A = Option Birth} (Some (making_one 1)) (Some (Task g args d k others)) → ◌≡◌ {A = ℕ} k 1
that_task g args d k others e =
    let task : making_one 1 ≡ Task g args d k others = cc in
    cc

that_first : (p : Part) → ◌≡◌ {A = Option Part} (Some (part_of (record { object = object 1 1; birth = making_one 1 }) (object 1 1))) (Some p) → p.born.object ≡ object 1 1
that_first p e =
    let same : part_of (record { object = object 1 1; birth = making_one 1 }) (object 1 1) ≡ p = cc in
    ap (λ (q : Part). q.born.object) (sym same)

one_of_two : (k : ℕ) → ◌≡◌ {A = ℕ} k 1 → ◌≡◌ {A = ℕ} 1 (k + 1) → ⊥
one_of_two k e f = absurd (omega (arith, e, f))

pub used_up_too_soon_is_wrong : IsWrong retried_setting used_up_too_soon
unfolding same_id is_made_by
used_up_too_soon_is_wrong = wrong_by retried_setting (take 10 used_up_too_soon) (Resolved (object 1 1) (used_up (object 1 1))) [] (λ h.
    let c = h.cause in
    one_of_two c.retries
    (that_task c.function c.args c.depth c.retries c.others
    (subst (λ o. birth_at (births (opening ++ take 10 used_up_too_soon)) o ≡ Some (Task c.function c.args c.depth c.retries c.others)) (that_first c.part c.born) c.task))
    (subst (λ o. length (runs_of o (opening ++ take 10 used_up_too_soon)) ≡ c.retries + 1) (that_first c.part c.born) c.begun))

first_worker : (w : ℕ) → ◌≡◌ {A = Option ℕ} (Some 1) (Some w) → ◌≡◌ {A = ℕ} w 1
first_worker w e = cc

pub got_from_the_dead_is_wrong : IsWrong owner_died_setting got_from_the_dead
unfolding same_id same_attempt accepted_events was_told
got_from_the_dead_is_wrong = wrong_by owner_died_setting (take 33 got_from_the_dead) (Got main_attempt (object 2 1) (value 4)) [] (λ h. so (subst (λ w. was_told w 2 (opening ++ take 33 got_from_the_dead) ≡ false) (first_worker h.worker h.runs) h.untold))

-- main's own object is settled by main's end alone
pub main_resolved_is_wrong : IsWrong two_puts_setting main_resolved
unfolding same_id
main_resolved_is_wrong = wrong_by two_puts_setting (take 6 main_resolved) (Resolved main_object (record { kind = PutLost; object = object 1 1 })) [] (λ h. so h.not_main)

pub main_accepted_is_wrong : IsWrong square_setting main_accepted
unfolding same_id
main_accepted_is_wrong = wrong_by square_setting (take 20 main_accepted) (Accepted main_attempt) [] (λ h. so h.not_main)

pub given_out_twice_is_wrong : IsWrong two_puts_setting given_out_twice
unfolding accepted_events has_job_out is_committed
given_out_twice_is_wrong = wrong_by_event two_puts_setting (take 1 given_out_twice) (Claim 1) (Commit 2) (λ h. so h.1)

-- a refusal of that number, directly behind the event
wrong_number : (s : Setting) (before : List Entry) (e : Event) (code : Refusal) (es : List Entry) → (IsRefusal s (opening ++ before) e code → ⊥) → IsWrong s (before ++ In e 0 ∷ Refused code ∷ es)
wrong_number s before e code es h legal =
    let k = (entries_have_their_needs s (opening ++ (before ++ In e 0 ∷ Refused code ∷ es)) legal (before ++ In e 0 ∷ []) (Refused code) es (ap (λ l. opening ++ l) (sym (append_assoc before (In e 0 ∷ []) (Refused code ∷ es))))).allowed in
    let l = last_parts (opening ++ before) k.log e k.event 0 k.seat (append_assoc opening before (In e 0 ∷ []) ∙ k.parts) in
    h (subst (λ f. IsRefusal s (opening ++ before) f code) (sym l.1) (subst (λ x. IsRefusal s x k.event code) (sym l.0) k.cause))
  where
    same_event : (f g : Event) (m n : ℕ) → In f m ≡ In g n → f ≡ g
    same_event f g m n e = cc

    one_only : (x : Entry) (y : Entry) (ys : List Entry) (z : Entry) → ◌≡◌ {A = List Entry} (x ∷ []) (y ∷ (ys ++ z ∷ [])) → ⊥
    one_only x y [] z e = absurd (cc)
    one_only x y (v ∷ ys) z e = absurd (cc)

    heads : (x y : Entry) (xs ys : List Entry) → ◌≡◌ {A = List Entry} (x ∷ xs) (y ∷ ys) → (x ≡ y) × (xs ≡ ys)
    heads x y xs ys e = (cc, cc)

    -- two logs that end with an event
    last_parts : (xs ys : List Entry) (f g : Event) (m n : ℕ) → xs ++ In f m ∷ [] ≡ ys ++ In g n ∷ [] → (xs ≡ ys) × (f ≡ g)
    last_parts [] [] f g m n e = (refl, same_event f g m n (heads (In f m) (In g n) [] [] e).0)
    last_parts [] (y ∷ ys) f g m n e = absurd (one_only (In f m) y ys (In g n) e)
    last_parts (x ∷ xs) [] f g m n e = absurd (one_only (In g n) x xs (In f m) (sym e))
    last_parts (x ∷ xs) (y ∷ ys) f g m n e =
        let p = heads x y (xs ++ In f m ∷ []) (ys ++ In g n ∷ []) e in
        let q = last_parts xs ys f g m n p.1 in
        (ap (λ z. z ∷ xs) p.0 ∙ ap (λ zs. y ∷ zs) q.0, q.1)

-- a claim that can be taken, or is refused since it isn't ready or for a limit
never_pinned : (k : ℕ) → ◌≡◌ {A = Option Refusal} (slice_get (NotReady ∷ Limit ∷ []) k) (Some Pinned) → ⊥
never_pinned zero e = absurd (cc)
never_pinned (suc zero) e = absurd (cc)
never_pinned (suc (suc k)) e = absurd (cc)

pub refused_for_nothing_is_wrong : IsWrong square_setting refused_for_nothing
unfolding accepted_events is_live has_job_out
refused_for_nothing_is_wrong = wrong_number square_setting [] (Claim 1) Pinned (In (Tick 1) 0 ∷ []) (λ h. never_pinned h.1.0 h.1.1)

-- a worker that isn't there
not_ready_no_worker : NotReady ≡ NoWorker → ⊥
not_ready_no_worker e = absurd (cc)

pub refused_for_less_is_wrong : IsWrong square_setting refused_for_less
unfolding accepted_events is_live has_job_out
refused_for_less_is_wrong = wrong_number square_setting [] (Claim 2) NotReady [] (λ h. not_ready_no_worker h.1)

-- ---- a cause that comes later

pub cause_comes_later_is_wrong : IsWrong two_puts_setting cause_comes_later
unfolding accepted_events is_killed
cause_comes_later_is_wrong = wrong_by two_puts_setting (take 4 cause_comes_later) (Faulted main_attempt (object 1 1) owner_died) (In (Kill 1) 0 ∷ []) (λ h. not_so h.cause)

abbrev late_log : List Entry
late_log = opening ++ cause_comes_later

fault_first : List Entry → Bool
fault_first [] = false
fault_first (Faulted a y f ∷ xs) = true
fault_first (x ∷ xs) = false

-- the fault's entry stands in one place, and the cause isn't before it
not_before : (k : ℕ) (after : List Entry) → drop k late_log ≡ Faulted main_attempt (object 1 1) owner_died ∷ after → is_killed 1 (take k late_log) ≡ true → ⊥
unfolding accepted_events is_killed fault_first
not_before zero after e h = not_so (ap fault_first e)
not_before (suc zero) after e h = not_so (ap fault_first e)
not_before (suc (suc zero)) after e h = not_so (ap fault_first e)
not_before (suc (suc (suc zero))) after e h = not_so (ap fault_first e)
not_before (suc (suc (suc (suc zero)))) after e h = not_so (ap fault_first e)
not_before (suc (suc (suc (suc (suc zero))))) after e h = not_so (ap fault_first e)
not_before (suc (suc (suc (suc (suc (suc zero)))))) after e h = not_so h
not_before (suc (suc (suc (suc (suc (suc (suc zero))))))) after e h = not_so (ap fault_first e)
not_before (suc (suc (suc (suc (suc (suc (suc (suc zero)))))))) after e h = not_so (ap fault_first e)
not_before (suc (suc (suc (suc (suc (suc (suc (suc (suc k))))))))) after e h = not_so (ap fault_first e)

-- nor is it a beginning of the serial run
pub late_cause_is_none : MainBegins two_puts late_log → ⊥
unfolding same_id same_attempt
late_cause_is_none h =
    let c = h.faults 0 (record { object = object 1 1; fault = owner_died }) refl in
    let k = length c.before in
    let f : take k late_log ≡ c.before = ap (λ l. take k l) c.parts ∙ take-append_seam c.before _ in
    let g : drop k late_log ≡ Faulted main_attempt (object 1 1) owner_died ∷ c.after = ap (λ l. drop k l) c.parts ∙ drop-append_seam c.before _ in
    not_before k c.after g (subst (λ l. is_killed 1 l ≡ true) (sym f) c.cause)
