-- The log of a call that is run again is legal.
use Rattle.std.proofs.Common.{[], ◌∷◌, ◌++◌, take, inl, inr, refl, arith}
use Rattle.std.specs.Prelude.{codes, drop}
use Rattle.meaning.specs.Values.{main_birth}
use Rattle.meaning.specs.Births.{same_id, is_made_by}
use Rattle.meaning.specs.Meaning.{call_at, replay}
use Rattle.meaning.specs.Examples.{value, object}
use Rattle.event_log.specs.Entries.{Kill, Claim, Commit, Deliver, Notice, In, Opened, Begun, Born, Got, Ended, Accepted, Released, main_attempt}
use Rattle.event_log.specs.Words.{same_attempt}
use Rattle.event_log.specs.Events.{accepted_events, under_way_from, ends_with_in, is_committed, has_job_out, node_is_killed, node_lives, is_killed, is_live, was_told, was_lost}
use Rattle.event_log.specs.Breaks.{breaks_from, breaks_of}
use Rattle.event_log.specs.Holding.{is_one_of, anchored}
use Rattle.log_examples.proofs.Unheld.{may_be_held, not_held}
use Rattle.event_log.specs.Rules.{ToWorker, ToNode, Allowed}
use Rattle.event_log.specs.Legal.{Answered, Legal, opening}
use Rattle.log_examples.specs.Logs.{first_of}
use Rattle.log_examples.specs.FaultLogs.{calls_one, making_one, second_of, retried_setting, retried_rest, retried_log}

retried_0 : Answered retried_setting (opening ++ take 0 retried_rest) (In (Claim 1) 0) (drop 1 retried_rest)
unfolding call_at same_id is_made_by same_attempt accepted_events under_way_from ends_with_in is_committed has_job_out node_is_killed node_lives is_killed is_live was_told was_lost breaks_from breaks_of is_one_of anchored may_be_held
retried_0 = (refl, refl)

retried_1 : Answered retried_setting (opening ++ take 1 retried_rest) (In (Commit 1) 0) (drop 2 retried_rest)
unfolding call_at same_id is_made_by same_attempt accepted_events under_way_from ends_with_in is_committed has_job_out node_is_killed node_lives is_killed is_live was_told was_lost breaks_from breaks_of is_one_of anchored may_be_held
retried_1 = (main_attempt, record { worker = 1; claimed = refl; once = refl; lives = refl; runs = refl; alone = (refl, tt) }, record { base = object 1 1; p = replay (calls_one 1) main_birth (object 1 1) []; replays = record { spec = main_birth; born = refl; ended = refl; faulted = refl; replayed = refl }; own = refl; prints = refl; ends = refl })

retried_2 : Allowed retried_setting (opening ++ take 2 retried_rest) (Born (object 1 1) main_attempt (making_one 1))
unfolding call_at same_id is_made_by same_attempt accepted_events under_way_from ends_with_in is_committed has_job_out node_is_killed node_lives is_killed is_live was_told was_lost breaks_from breaks_of is_one_of anchored may_be_held
retried_2 = record { job = record { job = 1; now = refl; own = refl; runs = refl; lives = refl }; base = object 1 1; p = replay (calls_one 1) main_birth (object 1 1) []; replays = record { spec = main_birth; born = refl; ended = refl; faulted = refl; replayed = refl }; own = (refl, tt); next = refl }

retried_4 : Allowed retried_setting (opening ++ take 4 retried_rest) (Opened 2 1)
unfolding call_at same_id is_made_by same_attempt accepted_events under_way_from ends_with_in is_committed has_job_out node_is_killed node_lives is_killed is_live was_told was_lost breaks_from breaks_of is_one_of anchored may_be_held
retried_4 = record { event = Deliver 1; now = refl; heard = inl (1, refl); next = refl; lives = refl }

retried_6 : Allowed retried_setting (opening ++ take 6 retried_rest) (Begun (first_of (object 1 1)) 2)
unfolding call_at same_id is_made_by same_attempt accepted_events under_way_from ends_with_in is_committed has_job_out node_is_killed node_lives is_killed is_live was_told was_lost breaks_from breaks_of is_one_of anchored may_be_held
retried_6 = record { own = record { event = Deliver 2; now = refl; own = refl; lives = refl }; function = codes "one"; args = []; depth = 1; retries = 1; others = 0; born = refl; unreleased = (refl, tt); unresolved = (object 1 1, (0, refl), refl); node = 1; place = refl; next = refl; broken = tt; few = omega arith }

retried_9 : Answered retried_setting (opening ++ take 9 retried_rest) (In (Notice 1 2) 0) (drop 10 retried_rest)
unfolding call_at same_id is_made_by same_attempt accepted_events under_way_from ends_with_in is_committed has_job_out node_is_killed node_lives is_killed is_live was_told was_lost breaks_from breaks_of is_one_of anchored may_be_held
retried_9 = (refl, refl)

retried_11 : Allowed retried_setting (opening ++ take 11 retried_rest) (Opened 3 1)
unfolding call_at same_id is_made_by same_attempt accepted_events under_way_from ends_with_in is_committed has_job_out node_is_killed node_lives is_killed is_live was_told was_lost breaks_from breaks_of is_one_of anchored may_be_held
retried_11 = record { event = Deliver 4; now = refl; heard = inl (1, refl); next = refl; lives = refl }

retried_13 : Allowed retried_setting (opening ++ take 13 retried_rest) (Begun (second_of (object 1 1)) 3)
unfolding call_at same_id is_made_by same_attempt accepted_events under_way_from ends_with_in is_committed has_job_out node_is_killed node_lives is_killed is_live was_told was_lost breaks_from breaks_of is_one_of anchored may_be_held
retried_13 = record { own = record { event = Deliver 5; now = refl; own = refl; lives = refl }; function = codes "one"; args = []; depth = 1; retries = 1; others = 0; born = refl; unreleased = (refl, tt); unresolved = (object 1 1, (0, refl), refl); node = 1; place = refl; next = refl; broken = (tt, (10, (0, refl))); few = omega arith }

retried_15 : Answered retried_setting (opening ++ take 15 retried_rest) (In (Claim 3) 0) (drop 16 retried_rest)
unfolding call_at same_id is_made_by same_attempt accepted_events under_way_from ends_with_in is_committed has_job_out node_is_killed node_lives is_killed is_live was_told was_lost breaks_from breaks_of is_one_of anchored may_be_held
retried_15 = (refl, refl)

retried_16 : Answered retried_setting (opening ++ take 16 retried_rest) (In (Commit 2) 0) (drop 17 retried_rest)
unfolding call_at same_id is_made_by same_attempt accepted_events under_way_from ends_with_in is_committed has_job_out node_is_killed node_lives is_killed is_live was_told was_lost breaks_from breaks_of is_one_of anchored may_be_held
retried_16 = (second_of (object 1 1), record { worker = 3; claimed = refl; once = refl; lives = refl; runs = refl; alone = (refl, tt) }, record { base = object 3 1; p = replay (calls_one 1) (making_one 1) (object 3 1) []; replays = record { spec = making_one 1; born = refl; ended = refl; faulted = refl; replayed = refl }; own = refl; prints = refl; ends = refl })

retried_17 : Allowed retried_setting (opening ++ take 17 retried_rest) (Ended (second_of (object 1 1)) (value 1 ∷ []))
unfolding call_at same_id is_made_by same_attempt accepted_events under_way_from ends_with_in is_committed has_job_out node_is_killed node_lives is_killed is_live was_told was_lost breaks_from breaks_of is_one_of anchored may_be_held
retried_17 = record { worker = 3; job = record { job = 2; now = refl; own = refl; runs = refl; lives = refl }; stops = record { base = object 3 1; p = replay (calls_one 1) (making_one 1) (object 3 1) []; replays = record { spec = making_one 1; born = refl; ended = refl; faulted = refl; replayed = refl }; own = refl; prints = refl; stopped = refl } }

retried_19 : Allowed retried_setting (opening ++ take 19 retried_rest) (Accepted (second_of (object 1 1)))
unfolding call_at same_id is_made_by same_attempt accepted_events under_way_from ends_with_in is_committed has_job_out node_is_killed node_lives is_killed is_live was_told was_lost breaks_from breaks_of is_one_of anchored may_be_held
retried_19 = record { own = record { event = Deliver 7; now = refl; own = refl; lives = refl }; not_main = refl; contents = (value 1) ∷ []; ended = (0, refl); last = refl; unresolved = (object 1 1, (0, refl), refl); unspent = λ p q b s a. let e = a.1 in absurd (cc); once = refl }

retried_20 : Allowed retried_setting (opening ++ take 20 retried_rest) (Got main_attempt (object 1 1) (value 1))
unfolding call_at same_id is_made_by same_attempt accepted_events under_way_from ends_with_in is_committed has_job_out node_is_killed node_lives is_killed is_live was_told was_lost breaks_from breaks_of is_one_of anchored may_be_held
retried_20 = record { worker = 1; runs = refl; own = record { event = Deliver 7; now = refl; own = refl; lives = refl }; needs = record { base = object 1 1; p = replay (calls_one 1) main_birth (object 1 1) []; replays = record { spec = main_birth; born = refl; ended = refl; faulted = refl; replayed = refl }; own = refl; prints = refl; stopped = refl }; content = inr (record { part = _; born = refl; number = 1; contents = _; ended = (0, refl); content = refl }); untold = refl }

retried_23 : Answered retried_setting (opening ++ take 23 retried_rest) (In (Claim 1) 0) (drop 24 retried_rest)
unfolding call_at same_id is_made_by same_attempt accepted_events under_way_from ends_with_in is_committed has_job_out node_is_killed node_lives is_killed is_live was_told was_lost breaks_from breaks_of is_one_of anchored may_be_held
retried_23 = (refl, refl)

retried_24 : Answered retried_setting (opening ++ take 24 retried_rest) (In (Commit 3) 0) (drop 25 retried_rest)
unfolding call_at same_id is_made_by same_attempt accepted_events under_way_from ends_with_in is_committed has_job_out node_is_killed node_lives is_killed is_live was_told was_lost breaks_from breaks_of is_one_of anchored may_be_held
retried_24 = (main_attempt, record { worker = 1; claimed = refl; once = refl; lives = refl; runs = refl; alone = (refl, tt) }, record { base = object 1 1; p = replay (calls_one 1) main_birth (object 1 1) (value 1 ∷ []); replays = record { spec = main_birth; born = refl; ended = refl; faulted = refl; replayed = refl }; own = refl; prints = refl; ends = refl })

retried_25 : Allowed retried_setting (opening ++ take 25 retried_rest) (Ended main_attempt (value 1 ∷ []))
unfolding call_at same_id is_made_by same_attempt accepted_events under_way_from ends_with_in is_committed has_job_out node_is_killed node_lives is_killed is_live was_told was_lost breaks_from breaks_of is_one_of anchored may_be_held
retried_25 = record { worker = 1; job = record { job = 3; now = refl; own = refl; runs = refl; lives = refl }; stops = record { base = object 1 1; p = replay (calls_one 1) main_birth (object 1 1) (value 1 ∷ []); replays = record { spec = main_birth; born = refl; ended = refl; faulted = refl; replayed = refl }; own = refl; prints = refl; stopped = refl } }

retried_26 : Allowed retried_setting (opening ++ take 26 retried_rest) (Released (object 1 1))
unfolding call_at same_id is_made_by same_attempt accepted_events under_way_from ends_with_in is_committed has_job_out node_is_killed node_lives is_killed is_live was_told was_lost breaks_from breaks_of is_one_of anchored may_be_held
retried_26 = record { own = record { event = Commit 3; now = refl; own = refl; lives = refl }; once = refl; settled = inr (inr (record { part = _; born = refl; number = 1; accepted = (0, refl); final = inl refl })); bearer = main_attempt; bore = (0, refl); over = inl (value 1 ∷ [], (0, refl)); unheld = not_held refl }

retried_8 : Answered retried_setting (opening ++ take 8 retried_rest) (In (Kill 2) 0) (drop 9 retried_rest)
unfolding call_at same_id is_made_by same_attempt accepted_events under_way_from ends_with_in is_committed has_job_out node_is_killed node_lives is_killed is_live was_told was_lost breaks_from breaks_of is_one_of anchored may_be_held
retried_8 = refl

pub retried_is_legal : Legal retried_setting retried_log
unfolding call_at same_id is_made_by same_attempt accepted_events under_way_from ends_with_in is_committed has_job_out node_is_killed node_lives is_killed is_live was_told was_lost breaks_from breaks_of is_one_of anchored may_be_held
retried_is_legal = record { rest = retried_rest; begins = refl; each = (tt, retried_0, (tt, retried_1, (retried_2, tt, (tt, (ToNode 1, refl), (retried_4, tt, (tt, (ToWorker 1, refl), (retried_6, tt, (tt, (ToWorker 2, refl), (tt, retried_8, (tt, retried_9, (tt, (ToNode 1, refl), (retried_11, tt, (tt, (ToWorker 1, refl), (retried_13, tt, (tt, (ToWorker 3, refl), (tt, retried_15, (tt, retried_16, (retried_17, tt, (tt, (ToWorker 1, refl), (retried_19, tt, (retried_20, tt, (tt, (ToWorker 3, refl), (tt, (ToNode 1, refl), (tt, retried_23, (tt, retried_24, (retried_25, tt, (retried_26, tt, (tt, (ToNode 1, refl), tt)))))))))))))))))))))))))))) }
