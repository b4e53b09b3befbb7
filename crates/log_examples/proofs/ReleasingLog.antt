-- The log of a reference that is passed on, until all is released, is legal.
use Rattle.std.proofs.Common.{[], ◌∷◌, ◌++◌, take, inl, inr, refl, arith}
use Rattle.std.specs.Prelude.{codes, drop}
use Rattle.meaning.specs.Values.{Named, Put, main_birth}
use Rattle.meaning.specs.Births.{same_id, is_made_by}
use Rattle.meaning.specs.Meaning.{call_at, replay}
use Rattle.meaning.specs.Examples.{value, object, reference_passed}
use Rattle.event_log.specs.Entries.{Claim, Commit, Deliver, In, Opened, Begun, Born, Got, Ended, Accepted, Released, main_attempt}
use Rattle.event_log.specs.Words.{same_attempt}
use Rattle.event_log.specs.Events.{accepted_events, under_way_from, ends_with_in, is_committed, has_job_out, node_is_killed, node_lives, is_killed, is_live, was_told, was_lost}
use Rattle.event_log.specs.Breaks.{breaks_from, breaks_of}
use Rattle.event_log.specs.Holding.{is_one_of, anchored}
use Rattle.log_examples.proofs.Unheld.{may_be_held, not_held}
use Rattle.event_log.specs.Rules.{ToWorker, ToNode, Allowed}
use Rattle.event_log.specs.Legal.{Answered, Legal, opening}
use Rattle.log_examples.specs.Logs.{first_of, number, given, calling_mid, calling_add}
use Rattle.log_examples.specs.ReleaseLogs.{releasing_setting, releasing_rest, releasing_log}

releasing_0 : Answered releasing_setting (opening ++ take 0 releasing_rest) (In (Claim 1) 0) (drop 1 releasing_rest)
unfolding call_at same_id is_made_by same_attempt accepted_events under_way_from ends_with_in is_committed has_job_out node_is_killed node_lives is_killed is_live was_told was_lost breaks_from breaks_of is_one_of anchored may_be_held
releasing_0 = (refl, refl)

releasing_1 : Answered releasing_setting (opening ++ take 1 releasing_rest) (In (Commit 1) 0) (drop 2 releasing_rest)
unfolding call_at same_id is_made_by same_attempt accepted_events under_way_from ends_with_in is_committed has_job_out node_is_killed node_lives is_killed is_live was_told was_lost breaks_from breaks_of is_one_of anchored may_be_held
releasing_1 = (main_attempt, record { worker = 1; claimed = refl; once = refl; lives = refl; runs = refl; alone = (refl, (refl, tt)) }, record { base = object 1 1; p = replay reference_passed main_birth (object 1 1) []; replays = record { spec = main_birth; born = refl; ended = refl; faulted = refl; replayed = refl }; own = refl; prints = refl; ends = refl })

releasing_2 : Allowed releasing_setting (opening ++ take 2 releasing_rest) (Born (object 1 1) main_attempt (Put (number 6)))
unfolding call_at same_id is_made_by same_attempt accepted_events under_way_from ends_with_in is_committed has_job_out node_is_killed node_lives is_killed is_live was_told was_lost breaks_from breaks_of is_one_of anchored may_be_held
releasing_2 = record { job = record { job = 1; now = refl; own = refl; runs = refl; lives = refl }; base = object 1 1; p = replay reference_passed main_birth (object 1 1) []; replays = record { spec = main_birth; born = refl; ended = refl; faulted = refl; replayed = refl }; own = (refl, tt); next = refl }

releasing_3 : Allowed releasing_setting (opening ++ take 3 releasing_rest) (Born (object 1 2) main_attempt calling_mid)
unfolding call_at same_id is_made_by same_attempt accepted_events under_way_from ends_with_in is_committed has_job_out node_is_killed node_lives is_killed is_live was_told was_lost breaks_from breaks_of is_one_of anchored may_be_held
releasing_3 = record { job = record { job = 1; now = refl; own = refl; runs = refl; lives = refl }; base = object 1 1; p = replay reference_passed main_birth (object 1 1) []; replays = record { spec = main_birth; born = refl; ended = refl; faulted = refl; replayed = refl }; own = (refl, (refl, tt)); next = refl }

releasing_5 : Allowed releasing_setting (opening ++ take 5 releasing_rest) (Opened 2 1)
unfolding call_at same_id is_made_by same_attempt accepted_events under_way_from ends_with_in is_committed has_job_out node_is_killed node_lives is_killed is_live was_told was_lost breaks_from breaks_of is_one_of anchored may_be_held
releasing_5 = record { event = Deliver 1; now = refl; heard = inl (1, refl); next = refl; lives = refl }

releasing_7 : Allowed releasing_setting (opening ++ take 7 releasing_rest) (Begun (first_of (object 1 2)) 2)
unfolding call_at same_id is_made_by same_attempt accepted_events under_way_from ends_with_in is_committed has_job_out node_is_killed node_lives is_killed is_live was_told was_lost breaks_from breaks_of is_one_of anchored may_be_held
releasing_7 = record { own = record { event = Deliver 2; now = refl; own = refl; lives = refl }; function = codes "mid"; args = given (Named (object 1 1)) ∷ []; depth = 1; retries = 3; others = 0; born = refl; unreleased = (refl, tt); unresolved = (object 1 2, (0, refl), refl); node = 1; place = refl; next = refl; broken = tt; few = omega arith }

releasing_9 : Answered releasing_setting (opening ++ take 9 releasing_rest) (In (Claim 2) 0) (drop 10 releasing_rest)
unfolding call_at same_id is_made_by same_attempt accepted_events under_way_from ends_with_in is_committed has_job_out node_is_killed node_lives is_killed is_live was_told was_lost breaks_from breaks_of is_one_of anchored may_be_held
releasing_9 = (refl, refl)

releasing_10 : Answered releasing_setting (opening ++ take 10 releasing_rest) (In (Commit 2) 0) (drop 11 releasing_rest)
unfolding call_at same_id is_made_by same_attempt accepted_events under_way_from ends_with_in is_committed has_job_out node_is_killed node_lives is_killed is_live was_told was_lost breaks_from breaks_of is_one_of anchored may_be_held
releasing_10 = (first_of (object 1 2), record { worker = 2; claimed = refl; once = refl; lives = refl; runs = refl; alone = (refl, (refl, tt)) }, record { base = object 2 1; p = replay reference_passed calling_mid (object 2 1) []; replays = record { spec = calling_mid; born = refl; ended = refl; faulted = refl; replayed = refl }; own = refl; prints = refl; ends = refl })

releasing_11 : Allowed releasing_setting (opening ++ take 11 releasing_rest) (Born (object 2 1) (first_of (object 1 2)) calling_add)
unfolding call_at same_id is_made_by same_attempt accepted_events under_way_from ends_with_in is_committed has_job_out node_is_killed node_lives is_killed is_live was_told was_lost breaks_from breaks_of is_one_of anchored may_be_held
releasing_11 = record { job = record { job = 2; now = refl; own = refl; runs = refl; lives = refl }; base = object 2 1; p = replay reference_passed calling_mid (object 2 1) []; replays = record { spec = calling_mid; born = refl; ended = refl; faulted = refl; replayed = refl }; own = (refl, tt); next = refl }

releasing_12 : Allowed releasing_setting (opening ++ take 12 releasing_rest) (Ended (first_of (object 1 2)) (value 0 ∷ []))
unfolding call_at same_id is_made_by same_attempt accepted_events under_way_from ends_with_in is_committed has_job_out node_is_killed node_lives is_killed is_live was_told was_lost breaks_from breaks_of is_one_of anchored may_be_held
releasing_12 = record { worker = 2; job = record { job = 2; now = refl; own = refl; runs = refl; lives = refl }; stops = record { base = object 2 1; p = replay reference_passed calling_mid (object 2 1) []; replays = record { spec = calling_mid; born = refl; ended = refl; faulted = refl; replayed = refl }; own = refl; prints = refl; stopped = refl } }

releasing_14 : Allowed releasing_setting (opening ++ take 14 releasing_rest) (Opened 3 1)
unfolding call_at same_id is_made_by same_attempt accepted_events under_way_from ends_with_in is_committed has_job_out node_is_killed node_lives is_killed is_live was_told was_lost breaks_from breaks_of is_one_of anchored may_be_held
releasing_14 = record { event = Deliver 5; now = refl; heard = inl (1, refl); next = refl; lives = refl }

releasing_16 : Allowed releasing_setting (opening ++ take 16 releasing_rest) (Begun (first_of (object 2 1)) 3)
unfolding call_at same_id is_made_by same_attempt accepted_events under_way_from ends_with_in is_committed has_job_out node_is_killed node_lives is_killed is_live was_told was_lost breaks_from breaks_of is_one_of anchored may_be_held
releasing_16 = record { own = record { event = Deliver 6; now = refl; own = refl; lives = refl }; function = codes "add"; args = given (Named (object 1 1)) ∷ []; depth = 2; retries = 3; others = 0; born = refl; unreleased = (refl, tt); unresolved = (object 2 1, (0, refl), refl); node = 1; place = refl; next = refl; broken = tt; few = omega arith }

releasing_18 : Answered releasing_setting (opening ++ take 18 releasing_rest) (In (Claim 3) 0) (drop 19 releasing_rest)
unfolding call_at same_id is_made_by same_attempt accepted_events under_way_from ends_with_in is_committed has_job_out node_is_killed node_lives is_killed is_live was_told was_lost breaks_from breaks_of is_one_of anchored may_be_held
releasing_18 = (refl, refl)

releasing_19 : Answered releasing_setting (opening ++ take 19 releasing_rest) (In (Commit 3) 0) (drop 20 releasing_rest)
unfolding call_at same_id is_made_by same_attempt accepted_events under_way_from ends_with_in is_committed has_job_out node_is_killed node_lives is_killed is_live was_told was_lost breaks_from breaks_of is_one_of anchored may_be_held
releasing_19 = (first_of (object 2 1), record { worker = 3; claimed = refl; once = refl; lives = refl; runs = refl; alone = tt }, record { base = object 3 1; p = replay reference_passed calling_add (object 3 1) []; replays = record { spec = calling_add; born = refl; ended = refl; faulted = refl; replayed = refl }; own = refl; prints = refl; ends = refl })

releasing_22 : Allowed releasing_setting (opening ++ take 22 releasing_rest) (Got (first_of (object 2 1)) (object 1 1) (value 6))
unfolding call_at same_id is_made_by same_attempt accepted_events under_way_from ends_with_in is_committed has_job_out node_is_killed node_lives is_killed is_live was_told was_lost breaks_from breaks_of is_one_of anchored may_be_held
releasing_22 = record { worker = 3; runs = refl; own = record { event = Deliver 9; now = refl; own = refl; lives = refl }; needs = record { base = object 3 1; p = replay reference_passed calling_add (object 3 1) []; replays = record { spec = calling_add; born = refl; ended = refl; faulted = refl; replayed = refl }; own = refl; prints = refl; stopped = refl }; content = inl ((number 6), refl, refl); untold = refl }

releasing_23 : Answered releasing_setting (opening ++ take 23 releasing_rest) (In (Claim 3) 0) (drop 24 releasing_rest)
unfolding call_at same_id is_made_by same_attempt accepted_events under_way_from ends_with_in is_committed has_job_out node_is_killed node_lives is_killed is_live was_told was_lost breaks_from breaks_of is_one_of anchored may_be_held
releasing_23 = (refl, refl)

releasing_24 : Answered releasing_setting (opening ++ take 24 releasing_rest) (In (Commit 4) 0) (drop 25 releasing_rest)
unfolding call_at same_id is_made_by same_attempt accepted_events under_way_from ends_with_in is_committed has_job_out node_is_killed node_lives is_killed is_live was_told was_lost breaks_from breaks_of is_one_of anchored may_be_held
releasing_24 = (first_of (object 2 1), record { worker = 3; claimed = refl; once = refl; lives = refl; runs = refl; alone = (refl, tt) }, record { base = object 3 1; p = replay reference_passed calling_add (object 3 1) (value 6 ∷ []); replays = record { spec = calling_add; born = refl; ended = refl; faulted = refl; replayed = refl }; own = refl; prints = refl; ends = refl })

releasing_25 : Allowed releasing_setting (opening ++ take 25 releasing_rest) (Ended (first_of (object 2 1)) (value 7 ∷ []))
unfolding call_at same_id is_made_by same_attempt accepted_events under_way_from ends_with_in is_committed has_job_out node_is_killed node_lives is_killed is_live was_told was_lost breaks_from breaks_of is_one_of anchored may_be_held
releasing_25 = record { worker = 3; job = record { job = 4; now = refl; own = refl; runs = refl; lives = refl }; stops = record { base = object 3 1; p = replay reference_passed calling_add (object 3 1) (value 6 ∷ []); replays = record { spec = calling_add; born = refl; ended = refl; faulted = refl; replayed = refl }; own = refl; prints = refl; stopped = refl } }

releasing_27 : Allowed releasing_setting (opening ++ take 27 releasing_rest) (Accepted (first_of (object 2 1)))
unfolding call_at same_id is_made_by same_attempt accepted_events under_way_from ends_with_in is_committed has_job_out node_is_killed node_lives is_killed is_live was_told was_lost breaks_from breaks_of is_one_of anchored may_be_held
releasing_27 = record { own = record { event = Deliver 10; now = refl; own = refl; lives = refl }; not_main = refl; contents = (value 7) ∷ []; ended = (0, refl); last = refl; unresolved = (object 2 1, (0, refl), refl); unspent = λ p q b s a. let e = a.1 in absurd (cc); once = refl }

releasing_31 : Allowed releasing_setting (opening ++ take 31 releasing_rest) (Released (object 2 1))
unfolding call_at same_id is_made_by same_attempt accepted_events under_way_from ends_with_in is_committed has_job_out node_is_killed node_lives is_killed is_live was_told was_lost breaks_from breaks_of is_one_of anchored may_be_held
releasing_31 = record { own = record { event = Deliver 12; now = refl; own = refl; lives = refl }; once = refl; settled = inr (inr (record { part = _; born = refl; number = 0; accepted = (0, refl); final = inl refl })); bearer = first_of (object 1 2); bore = (0, refl); over = inl (value 0 ∷ [], (0, refl)); unheld = not_held refl }

releasing_37 : Allowed releasing_setting (opening ++ take 37 releasing_rest) (Accepted (first_of (object 1 2)))
unfolding call_at same_id is_made_by same_attempt accepted_events under_way_from ends_with_in is_committed has_job_out node_is_killed node_lives is_killed is_live was_told was_lost breaks_from breaks_of is_one_of anchored may_be_held
releasing_37 = record { own = record { event = Deliver 14; now = refl; own = refl; lives = refl }; not_main = refl; contents = (value 0) ∷ []; ended = (0, refl); last = refl; unresolved = (object 1 2, (0, refl), refl); unspent = λ p q b s a. let e = a.1 in absurd (cc); once = refl }

releasing_38 : Allowed releasing_setting (opening ++ take 38 releasing_rest) (Got main_attempt (object 1 2) (value 0))
unfolding call_at same_id is_made_by same_attempt accepted_events under_way_from ends_with_in is_committed has_job_out node_is_killed node_lives is_killed is_live was_told was_lost breaks_from breaks_of is_one_of anchored may_be_held
releasing_38 = record { worker = 1; runs = refl; own = record { event = Deliver 14; now = refl; own = refl; lives = refl }; needs = record { base = object 1 1; p = replay reference_passed main_birth (object 1 1) []; replays = record { spec = main_birth; born = refl; ended = refl; faulted = refl; replayed = refl }; own = refl; prints = refl; stopped = refl }; content = inr (record { part = _; born = refl; number = 0; contents = _; ended = (0, refl); content = refl }); untold = refl }

releasing_44 : Answered releasing_setting (opening ++ take 44 releasing_rest) (In (Claim 1) 0) (drop 45 releasing_rest)
unfolding call_at same_id is_made_by same_attempt accepted_events under_way_from ends_with_in is_committed has_job_out node_is_killed node_lives is_killed is_live was_told was_lost breaks_from breaks_of is_one_of anchored may_be_held
releasing_44 = (refl, refl)

releasing_45 : Answered releasing_setting (opening ++ take 45 releasing_rest) (In (Commit 5) 0) (drop 46 releasing_rest)
unfolding call_at same_id is_made_by same_attempt accepted_events under_way_from ends_with_in is_committed has_job_out node_is_killed node_lives is_killed is_live was_told was_lost breaks_from breaks_of is_one_of anchored may_be_held
releasing_45 = (main_attempt, record { worker = 1; claimed = refl; once = refl; lives = refl; runs = refl; alone = (refl, tt) }, record { base = object 1 1; p = replay reference_passed main_birth (object 1 1) (value 0 ∷ []); replays = record { spec = main_birth; born = refl; ended = refl; faulted = refl; replayed = refl }; own = refl; prints = refl; ends = refl })

releasing_46 : Allowed releasing_setting (opening ++ take 46 releasing_rest) (Ended main_attempt (value 0 ∷ []))
unfolding call_at same_id is_made_by same_attempt accepted_events under_way_from ends_with_in is_committed has_job_out node_is_killed node_lives is_killed is_live was_told was_lost breaks_from breaks_of is_one_of anchored may_be_held
releasing_46 = record { worker = 1; job = record { job = 5; now = refl; own = refl; runs = refl; lives = refl }; stops = record { base = object 1 1; p = replay reference_passed main_birth (object 1 1) (value 0 ∷ []); replays = record { spec = main_birth; born = refl; ended = refl; faulted = refl; replayed = refl }; own = refl; prints = refl; stopped = refl } }

releasing_47 : Allowed releasing_setting (opening ++ take 47 releasing_rest) (Released (object 1 2))
unfolding call_at same_id is_made_by same_attempt accepted_events under_way_from ends_with_in is_committed has_job_out node_is_killed node_lives is_killed is_live was_told was_lost breaks_from breaks_of is_one_of anchored may_be_held
releasing_47 = record { own = record { event = Commit 5; now = refl; own = refl; lives = refl }; once = refl; settled = inr (inr (record { part = _; born = refl; number = 0; accepted = (0, refl); final = inl refl })); bearer = main_attempt; bore = (0, refl); over = inl (value 0 ∷ [], (0, refl)); unheld = not_held refl }

releasing_48 : Allowed releasing_setting (opening ++ take 48 releasing_rest) (Released (object 1 1))
unfolding call_at same_id is_made_by same_attempt accepted_events under_way_from ends_with_in is_committed has_job_out node_is_killed node_lives is_killed is_live was_told was_lost breaks_from breaks_of is_one_of anchored may_be_held
releasing_48 = record { own = record { event = Commit 5; now = refl; own = refl; lives = refl }; once = refl; settled = inl ((number 6), refl); bearer = main_attempt; bore = (0, refl); over = inl (value 0 ∷ [], (0, refl)); unheld = not_held refl }

pub releasing_is_legal : Legal releasing_setting releasing_log
unfolding call_at same_id is_made_by same_attempt accepted_events under_way_from ends_with_in is_committed has_job_out node_is_killed node_lives is_killed is_live was_told was_lost breaks_from breaks_of is_one_of anchored may_be_held
releasing_is_legal = record { rest = releasing_rest; begins = refl; each = (tt, releasing_0, (tt, releasing_1, (releasing_2, tt, (releasing_3, tt, (tt, (ToNode 1, refl), (releasing_5, tt, (tt, (ToWorker 1, refl), (releasing_7, tt, (tt, (ToWorker 2, refl), (tt, releasing_9, (tt, releasing_10, (releasing_11, tt, (releasing_12, tt, (tt, (ToNode 1, refl), (releasing_14, tt, (tt, (ToWorker 2, refl), (releasing_16, tt, (tt, (ToWorker 3, refl), (tt, releasing_18, (tt, releasing_19, (tt, (ToWorker 1, refl), (tt, (ToWorker 3, refl), (releasing_22, tt, (tt, releasing_23, (tt, releasing_24, (releasing_25, tt, (tt, (ToWorker 2, refl), (releasing_27, tt, (tt, (ToWorker 1, refl), (tt, (ToWorker 1, refl), (tt, (ToWorker 2, refl), (releasing_31, tt, (tt, (ToWorker 1, refl), (tt, (ToWorker 1, refl), (tt, (ToWorker 3, refl), (tt, (ToWorker 2, refl), (tt, (ToWorker 1, refl), (releasing_37, tt, (releasing_38, tt, (tt, (ToNode 1, refl), (tt, (ToWorker 2, refl), (tt, (ToNode 1, refl), (tt, (ToWorker 2, refl), (tt, (ToNode 1, refl), (tt, releasing_44, (tt, releasing_45, (releasing_46, tt, (releasing_47, tt, (releasing_48, tt, (tt, (ToNode 1, refl), (tt, (ToNode 1, refl), tt))))))))))))))))))))))))))))))))))))))))))))))))))) }
