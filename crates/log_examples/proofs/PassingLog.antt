-- The log of a reference that is passed on is legal.
use Rattle.std.proofs.Common.{[], ◌∷◌, ◌++◌, take, inl, refl, arith}
use Rattle.std.specs.Prelude.{codes, drop}
use Rattle.meaning.specs.Values.{Named, Put, main_birth}
use Rattle.meaning.specs.Births.{same_id, is_made_by}
use Rattle.meaning.specs.Meaning.{call_at, replay}
use Rattle.meaning.specs.Examples.{value, object, reference_passed}
use Rattle.event_log.specs.Entries.{Claim, Commit, Deliver, In, Opened, Begun, Born, Got, Ended, Accepted, main_attempt}
use Rattle.event_log.specs.Words.{same_attempt}
use Rattle.event_log.specs.Events.{accepted_events, under_way_from, ends_with_in, is_committed, has_job_out, node_is_killed, node_lives, is_killed, is_live, was_told, was_lost}
use Rattle.event_log.specs.Breaks.{breaks_from, breaks_of}
use Rattle.event_log.specs.Holding.{is_one_of, anchored}
use Rattle.event_log.specs.Rules.{ToWorker, ToNode, Allowed}
use Rattle.event_log.specs.Legal.{Answered, Legal, opening}
use Rattle.log_examples.specs.Logs.{first_of, number, given, calling_mid, calling_add, passing_setting, passing_rest, passing_log}

passing_0 : Answered passing_setting (opening ++ take 0 passing_rest) (In (Claim 1) 0) (drop 1 passing_rest)
unfolding call_at same_id is_made_by same_attempt accepted_events under_way_from ends_with_in is_committed has_job_out node_is_killed node_lives is_killed is_live was_told was_lost breaks_from breaks_of is_one_of anchored
passing_0 = (refl, refl)

passing_1 : Answered passing_setting (opening ++ take 1 passing_rest) (In (Commit 1) 0) (drop 2 passing_rest)
unfolding call_at same_id is_made_by same_attempt accepted_events under_way_from ends_with_in is_committed has_job_out node_is_killed node_lives is_killed is_live was_told was_lost breaks_from breaks_of is_one_of anchored
passing_1 = (main_attempt, record { worker = 1; claimed = refl; once = refl; lives = refl; runs = refl; alone = (refl, (refl, tt)) }, record { base = object 1 1; p = replay reference_passed main_birth (object 1 1) []; replays = record { spec = main_birth; born = refl; ended = refl; faulted = refl; replayed = refl }; own = refl; prints = refl; ends = refl })

passing_2 : Allowed passing_setting (opening ++ take 2 passing_rest) (Born (object 1 1) main_attempt (Put (number 6)))
unfolding call_at same_id is_made_by same_attempt accepted_events under_way_from ends_with_in is_committed has_job_out node_is_killed node_lives is_killed is_live was_told was_lost breaks_from breaks_of is_one_of anchored
passing_2 = record { job = record { job = 1; now = refl; own = refl; runs = refl; lives = refl }; base = object 1 1; p = replay reference_passed main_birth (object 1 1) []; replays = record { spec = main_birth; born = refl; ended = refl; faulted = refl; replayed = refl }; own = (refl, tt); next = refl }

passing_3 : Allowed passing_setting (opening ++ take 3 passing_rest) (Born (object 1 2) main_attempt calling_mid)
unfolding call_at same_id is_made_by same_attempt accepted_events under_way_from ends_with_in is_committed has_job_out node_is_killed node_lives is_killed is_live was_told was_lost breaks_from breaks_of is_one_of anchored
passing_3 = record { job = record { job = 1; now = refl; own = refl; runs = refl; lives = refl }; base = object 1 1; p = replay reference_passed main_birth (object 1 1) []; replays = record { spec = main_birth; born = refl; ended = refl; faulted = refl; replayed = refl }; own = (refl, (refl, tt)); next = refl }

passing_5 : Allowed passing_setting (opening ++ take 5 passing_rest) (Opened 2 1)
unfolding call_at same_id is_made_by same_attempt accepted_events under_way_from ends_with_in is_committed has_job_out node_is_killed node_lives is_killed is_live was_told was_lost breaks_from breaks_of is_one_of anchored
passing_5 = record { event = Deliver 1; now = refl; heard = inl (1, refl); next = refl; lives = refl }

passing_7 : Allowed passing_setting (opening ++ take 7 passing_rest) (Begun (first_of (object 1 2)) 2)
unfolding call_at same_id is_made_by same_attempt accepted_events under_way_from ends_with_in is_committed has_job_out node_is_killed node_lives is_killed is_live was_told was_lost breaks_from breaks_of is_one_of anchored
passing_7 = record { own = record { event = Deliver 2; now = refl; own = refl; lives = refl }; function = codes "mid"; args = given (Named (object 1 1)) ∷ []; depth = 1; retries = 3; others = 0; born = refl; unreleased = (refl, tt); unresolved = (object 1 2, (0, refl), refl); node = 1; place = refl; next = refl; broken = tt; few = omega arith }

passing_9 : Answered passing_setting (opening ++ take 9 passing_rest) (In (Claim 2) 0) (drop 10 passing_rest)
unfolding call_at same_id is_made_by same_attempt accepted_events under_way_from ends_with_in is_committed has_job_out node_is_killed node_lives is_killed is_live was_told was_lost breaks_from breaks_of is_one_of anchored
passing_9 = (refl, refl)

passing_10 : Answered passing_setting (opening ++ take 10 passing_rest) (In (Commit 2) 0) (drop 11 passing_rest)
unfolding call_at same_id is_made_by same_attempt accepted_events under_way_from ends_with_in is_committed has_job_out node_is_killed node_lives is_killed is_live was_told was_lost breaks_from breaks_of is_one_of anchored
passing_10 = (first_of (object 1 2), record { worker = 2; claimed = refl; once = refl; lives = refl; runs = refl; alone = (refl, (refl, tt)) }, record { base = object 2 1; p = replay reference_passed calling_mid (object 2 1) []; replays = record { spec = calling_mid; born = refl; ended = refl; faulted = refl; replayed = refl }; own = refl; prints = refl; ends = refl })

passing_11 : Allowed passing_setting (opening ++ take 11 passing_rest) (Born (object 2 1) (first_of (object 1 2)) calling_add)
unfolding call_at same_id is_made_by same_attempt accepted_events under_way_from ends_with_in is_committed has_job_out node_is_killed node_lives is_killed is_live was_told was_lost breaks_from breaks_of is_one_of anchored
passing_11 = record { job = record { job = 2; now = refl; own = refl; runs = refl; lives = refl }; base = object 2 1; p = replay reference_passed calling_mid (object 2 1) []; replays = record { spec = calling_mid; born = refl; ended = refl; faulted = refl; replayed = refl }; own = (refl, tt); next = refl }

passing_12 : Allowed passing_setting (opening ++ take 12 passing_rest) (Ended (first_of (object 1 2)) (value 0 ∷ []))
unfolding call_at same_id is_made_by same_attempt accepted_events under_way_from ends_with_in is_committed has_job_out node_is_killed node_lives is_killed is_live was_told was_lost breaks_from breaks_of is_one_of anchored
passing_12 = record { worker = 2; job = record { job = 2; now = refl; own = refl; runs = refl; lives = refl }; stops = record { base = object 2 1; p = replay reference_passed calling_mid (object 2 1) []; replays = record { spec = calling_mid; born = refl; ended = refl; faulted = refl; replayed = refl }; own = refl; prints = refl; stopped = refl } }

passing_14 : Allowed passing_setting (opening ++ take 14 passing_rest) (Opened 3 1)
unfolding call_at same_id is_made_by same_attempt accepted_events under_way_from ends_with_in is_committed has_job_out node_is_killed node_lives is_killed is_live was_told was_lost breaks_from breaks_of is_one_of anchored
passing_14 = record { event = Deliver 5; now = refl; heard = inl (1, refl); next = refl; lives = refl }

passing_16 : Allowed passing_setting (opening ++ take 16 passing_rest) (Begun (first_of (object 2 1)) 3)
unfolding call_at same_id is_made_by same_attempt accepted_events under_way_from ends_with_in is_committed has_job_out node_is_killed node_lives is_killed is_live was_told was_lost breaks_from breaks_of is_one_of anchored
passing_16 = record { own = record { event = Deliver 6; now = refl; own = refl; lives = refl }; function = codes "add"; args = given (Named (object 1 1)) ∷ []; depth = 2; retries = 3; others = 0; born = refl; unreleased = (refl, tt); unresolved = (object 2 1, (0, refl), refl); node = 1; place = refl; next = refl; broken = tt; few = omega arith }

passing_18 : Answered passing_setting (opening ++ take 18 passing_rest) (In (Claim 3) 0) (drop 19 passing_rest)
unfolding call_at same_id is_made_by same_attempt accepted_events under_way_from ends_with_in is_committed has_job_out node_is_killed node_lives is_killed is_live was_told was_lost breaks_from breaks_of is_one_of anchored
passing_18 = (refl, refl)

passing_19 : Answered passing_setting (opening ++ take 19 passing_rest) (In (Commit 3) 0) (drop 20 passing_rest)
unfolding call_at same_id is_made_by same_attempt accepted_events under_way_from ends_with_in is_committed has_job_out node_is_killed node_lives is_killed is_live was_told was_lost breaks_from breaks_of is_one_of anchored
passing_19 = (first_of (object 2 1), record { worker = 3; claimed = refl; once = refl; lives = refl; runs = refl; alone = tt }, record { base = object 3 1; p = replay reference_passed calling_add (object 3 1) []; replays = record { spec = calling_add; born = refl; ended = refl; faulted = refl; replayed = refl }; own = refl; prints = refl; ends = refl })

passing_22 : Allowed passing_setting (opening ++ take 22 passing_rest) (Got (first_of (object 2 1)) (object 1 1) (value 6))
unfolding call_at same_id is_made_by same_attempt accepted_events under_way_from ends_with_in is_committed has_job_out node_is_killed node_lives is_killed is_live was_told was_lost breaks_from breaks_of is_one_of anchored
passing_22 = record { worker = 3; runs = refl; own = record { event = Deliver 9; now = refl; own = refl; lives = refl }; needs = record { base = object 3 1; p = replay reference_passed calling_add (object 3 1) []; replays = record { spec = calling_add; born = refl; ended = refl; faulted = refl; replayed = refl }; own = refl; prints = refl; stopped = refl }; content = inl (number 6, refl, refl); untold = refl }

passing_23 : Answered passing_setting (opening ++ take 23 passing_rest) (In (Claim 3) 0) (drop 24 passing_rest)
unfolding call_at same_id is_made_by same_attempt accepted_events under_way_from ends_with_in is_committed has_job_out node_is_killed node_lives is_killed is_live was_told was_lost breaks_from breaks_of is_one_of anchored
passing_23 = (refl, refl)

passing_24 : Answered passing_setting (opening ++ take 24 passing_rest) (In (Commit 4) 0) (drop 25 passing_rest)
unfolding call_at same_id is_made_by same_attempt accepted_events under_way_from ends_with_in is_committed has_job_out node_is_killed node_lives is_killed is_live was_told was_lost breaks_from breaks_of is_one_of anchored
passing_24 = (first_of (object 2 1), record { worker = 3; claimed = refl; once = refl; lives = refl; runs = refl; alone = (refl, tt) }, record { base = object 3 1; p = replay reference_passed calling_add (object 3 1) (value 6 ∷ []); replays = record { spec = calling_add; born = refl; ended = refl; faulted = refl; replayed = refl }; own = refl; prints = refl; ends = refl })

passing_25 : Allowed passing_setting (opening ++ take 25 passing_rest) (Ended (first_of (object 2 1)) (value 7 ∷ []))
unfolding call_at same_id is_made_by same_attempt accepted_events under_way_from ends_with_in is_committed has_job_out node_is_killed node_lives is_killed is_live was_told was_lost breaks_from breaks_of is_one_of anchored
passing_25 = record { worker = 3; job = record { job = 4; now = refl; own = refl; runs = refl; lives = refl }; stops = record { base = object 3 1; p = replay reference_passed calling_add (object 3 1) (value 6 ∷ []); replays = record { spec = calling_add; born = refl; ended = refl; faulted = refl; replayed = refl }; own = refl; prints = refl; stopped = refl } }

passing_27 : Allowed passing_setting (opening ++ take 27 passing_rest) (Accepted (first_of (object 2 1)))
unfolding call_at same_id is_made_by same_attempt accepted_events under_way_from ends_with_in is_committed has_job_out node_is_killed node_lives is_killed is_live was_told was_lost breaks_from breaks_of is_one_of anchored
passing_27 = record { own = record { event = Deliver 10; now = refl; own = refl; lives = refl }; not_main = refl; contents = (value 7) ∷ []; ended = (0, refl); last = refl; unresolved = (object 2 1, (0, refl), refl); unspent = λ p q b s a. let e = a.1 in absurd (cc); once = refl }

pub passing_is_legal : Legal passing_setting passing_log
unfolding call_at same_id is_made_by same_attempt accepted_events under_way_from ends_with_in is_committed has_job_out node_is_killed node_lives is_killed is_live was_told was_lost breaks_from breaks_of is_one_of anchored
passing_is_legal = record { rest = passing_rest; begins = refl; each = (tt, passing_0, (tt, passing_1, (passing_2, tt, (passing_3, tt, (tt, (ToNode 1, refl), (passing_5, tt, (tt, (ToWorker 1, refl), (passing_7, tt, (tt, (ToWorker 2, refl), (tt, passing_9, (tt, passing_10, (passing_11, tt, (passing_12, tt, (tt, (ToNode 1, refl), (passing_14, tt, (tt, (ToWorker 2, refl), (passing_16, tt, (tt, (ToWorker 3, refl), (tt, passing_18, (tt, passing_19, (tt, (ToWorker 1, refl), (tt, (ToWorker 3, refl), (passing_22, tt, (tt, passing_23, (tt, passing_24, (passing_25, tt, (tt, (ToWorker 2, refl), (passing_27, tt, tt)))))))))))))))))))))))))))) }
