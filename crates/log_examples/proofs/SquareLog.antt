-- The log of a square is legal.
use Rattle.std.proofs.Common.{[], ◌∷◌, ◌++◌, take, inl, inr, refl, arith}
use Rattle.std.specs.Prelude.{codes, drop}
use Rattle.meaning.specs.Values.{main_birth}
use Rattle.meaning.specs.Births.{same_id, is_made_by}
use Rattle.meaning.specs.Meaning.{call_at, replay}
use Rattle.meaning.specs.Examples.{value, object, squaring, square}
use Rattle.event_log.specs.Entries.{Claim, Commit, Deliver, In, Opened, Begun, Born, Got, Printed, Ended, Accepted, Released, main_attempt}
use Rattle.event_log.specs.Words.{same_attempt}
use Rattle.event_log.specs.Events.{accepted_events, under_way_from, ends_with_in, is_committed, has_job_out, node_is_killed, node_lives, is_killed, is_live, was_told, was_lost}
use Rattle.event_log.specs.Breaks.{breaks_from, breaks_of}
use Rattle.event_log.specs.Holding.{is_one_of, anchored}
use Rattle.log_examples.proofs.Unheld.{may_be_held, not_held}
use Rattle.event_log.specs.Rules.{ToWorker, ToNode, Allowed}
use Rattle.event_log.specs.Legal.{Answered, Legal, opening}
use Rattle.log_examples.specs.Logs.{first_of, number, given, square_setting, square_rest, square_log}

square_0 : Answered square_setting (opening ++ take 0 square_rest) (In (Claim 1) 0) (drop 1 square_rest)
unfolding call_at same_id is_made_by same_attempt accepted_events under_way_from ends_with_in is_committed has_job_out node_is_killed node_lives is_killed is_live was_told was_lost breaks_from breaks_of is_one_of anchored may_be_held
square_0 = (refl, refl)

square_1 : Answered square_setting (opening ++ take 1 square_rest) (In (Commit 1) 0) (drop 2 square_rest)
unfolding call_at same_id is_made_by same_attempt accepted_events under_way_from ends_with_in is_committed has_job_out node_is_killed node_lives is_killed is_live was_told was_lost breaks_from breaks_of is_one_of anchored may_be_held
square_1 = (main_attempt, record { worker = 1; claimed = refl; once = refl; lives = refl; runs = refl; alone = (refl, tt) }, record { base = object 1 1; p = replay square main_birth (object 1 1) []; replays = record { spec = main_birth; born = refl; ended = refl; faulted = refl; replayed = refl }; own = refl; prints = refl; ends = refl })

square_2 : Allowed square_setting (opening ++ take 2 square_rest) (Born (object 1 1) main_attempt squaring)
unfolding call_at same_id is_made_by same_attempt accepted_events under_way_from ends_with_in is_committed has_job_out node_is_killed node_lives is_killed is_live was_told was_lost breaks_from breaks_of is_one_of anchored may_be_held
square_2 = record { job = record { job = 1; now = refl; own = refl; runs = refl; lives = refl }; base = object 1 1; p = replay square main_birth (object 1 1) []; replays = record { spec = main_birth; born = refl; ended = refl; faulted = refl; replayed = refl }; own = (refl, tt); next = refl }

square_4 : Allowed square_setting (opening ++ take 4 square_rest) (Opened 2 1)
unfolding call_at same_id is_made_by same_attempt accepted_events under_way_from ends_with_in is_committed has_job_out node_is_killed node_lives is_killed is_live was_told was_lost breaks_from breaks_of is_one_of anchored may_be_held
square_4 = record { event = Deliver 1; now = refl; heard = inl (1, refl); next = refl; lives = refl }

square_6 : Allowed square_setting (opening ++ take 6 square_rest) (Begun (first_of (object 1 1)) 2)
unfolding call_at same_id is_made_by same_attempt accepted_events under_way_from ends_with_in is_committed has_job_out node_is_killed node_lives is_killed is_live was_told was_lost breaks_from breaks_of is_one_of anchored may_be_held
square_6 = record { own = record { event = Deliver 2; now = refl; own = refl; lives = refl }; function = codes "sq"; args = given (number 7) ∷ []; depth = 1; retries = 3; others = 0; born = refl; unreleased = (refl, tt); unresolved = (object 1 1, (0, refl), refl); node = 1; place = refl; next = refl; broken = tt; few = omega arith }

square_8 : Answered square_setting (opening ++ take 8 square_rest) (In (Claim 2) 0) (drop 9 square_rest)
unfolding call_at same_id is_made_by same_attempt accepted_events under_way_from ends_with_in is_committed has_job_out node_is_killed node_lives is_killed is_live was_told was_lost breaks_from breaks_of is_one_of anchored may_be_held
square_8 = (refl, refl)

square_9 : Answered square_setting (opening ++ take 9 square_rest) (In (Commit 2) 0) (drop 10 square_rest)
unfolding call_at same_id is_made_by same_attempt accepted_events under_way_from ends_with_in is_committed has_job_out node_is_killed node_lives is_killed is_live was_told was_lost breaks_from breaks_of is_one_of anchored may_be_held
square_9 = (first_of (object 1 1), record { worker = 2; claimed = refl; once = refl; lives = refl; runs = refl; alone = (refl, tt) }, record { base = object 2 1; p = replay square squaring (object 2 1) []; replays = record { spec = squaring; born = refl; ended = refl; faulted = refl; replayed = refl }; own = refl; prints = refl; ends = refl })

square_10 : Allowed square_setting (opening ++ take 10 square_rest) (Ended (first_of (object 1 1)) (value 49 ∷ []))
unfolding call_at same_id is_made_by same_attempt accepted_events under_way_from ends_with_in is_committed has_job_out node_is_killed node_lives is_killed is_live was_told was_lost breaks_from breaks_of is_one_of anchored may_be_held
square_10 = record { worker = 2; job = record { job = 2; now = refl; own = refl; runs = refl; lives = refl }; stops = record { base = object 2 1; p = replay square squaring (object 2 1) []; replays = record { spec = squaring; born = refl; ended = refl; faulted = refl; replayed = refl }; own = refl; prints = refl; stopped = refl } }

square_12 : Allowed square_setting (opening ++ take 12 square_rest) (Accepted (first_of (object 1 1)))
unfolding call_at same_id is_made_by same_attempt accepted_events under_way_from ends_with_in is_committed has_job_out node_is_killed node_lives is_killed is_live was_told was_lost breaks_from breaks_of is_one_of anchored may_be_held
square_12 = record { own = record { event = Deliver 4; now = refl; own = refl; lives = refl }; not_main = refl; contents = (value 49) ∷ []; ended = (0, refl); last = refl; unresolved = (object 1 1, (0, refl), refl); unspent = λ p q b s a. let e = a.1 in absurd (cc); once = refl }

square_13 : Allowed square_setting (opening ++ take 13 square_rest) (Got main_attempt (object 1 1) (value 49))
unfolding call_at same_id is_made_by same_attempt accepted_events under_way_from ends_with_in is_committed has_job_out node_is_killed node_lives is_killed is_live was_told was_lost breaks_from breaks_of is_one_of anchored may_be_held
square_13 = record { worker = 1; runs = refl; own = record { event = Deliver 4; now = refl; own = refl; lives = refl }; needs = record { base = object 1 1; p = replay square main_birth (object 1 1) []; replays = record { spec = main_birth; born = refl; ended = refl; faulted = refl; replayed = refl }; own = refl; prints = refl; stopped = refl }; content = inr (record { part = _; born = refl; number = 0; contents = _; ended = (0, refl); content = refl }); untold = refl }

square_16 : Answered square_setting (opening ++ take 16 square_rest) (In (Claim 1) 0) (drop 17 square_rest)
unfolding call_at same_id is_made_by same_attempt accepted_events under_way_from ends_with_in is_committed has_job_out node_is_killed node_lives is_killed is_live was_told was_lost breaks_from breaks_of is_one_of anchored may_be_held
square_16 = (refl, refl)

square_17 : Answered square_setting (opening ++ take 17 square_rest) (In (Commit 3) 0) (drop 18 square_rest)
unfolding call_at same_id is_made_by same_attempt accepted_events under_way_from ends_with_in is_committed has_job_out node_is_killed node_lives is_killed is_live was_told was_lost breaks_from breaks_of is_one_of anchored may_be_held
square_17 = (main_attempt, record { worker = 1; claimed = refl; once = refl; lives = refl; runs = refl; alone = (refl, (refl, tt)) }, record { base = object 1 1; p = replay square main_birth (object 1 1) (value 49 ∷ []); replays = record { spec = main_birth; born = refl; ended = refl; faulted = refl; replayed = refl }; own = refl; prints = refl; ends = refl })

square_18 : Allowed square_setting (opening ++ take 18 square_rest) (Printed (number 49))
unfolding call_at same_id is_made_by same_attempt accepted_events under_way_from ends_with_in is_committed has_job_out node_is_killed node_lives is_killed is_live was_told was_lost breaks_from breaks_of is_one_of anchored may_be_held
square_18 = record { worker = 1; job = record { job = 3; now = refl; own = refl; runs = refl; lives = refl }; base = object 1 1; p = replay square main_birth (object 1 1) (value 49 ∷ []); replays = record { spec = main_birth; born = refl; ended = refl; faulted = refl; replayed = refl }; own = refl; prints = (refl, tt) }

square_19 : Allowed square_setting (opening ++ take 19 square_rest) (Ended main_attempt (value 0 ∷ []))
unfolding call_at same_id is_made_by same_attempt accepted_events under_way_from ends_with_in is_committed has_job_out node_is_killed node_lives is_killed is_live was_told was_lost breaks_from breaks_of is_one_of anchored may_be_held
square_19 = record { worker = 1; job = record { job = 3; now = refl; own = refl; runs = refl; lives = refl }; stops = record { base = object 1 1; p = replay square main_birth (object 1 1) (value 49 ∷ []); replays = record { spec = main_birth; born = refl; ended = refl; faulted = refl; replayed = refl }; own = refl; prints = refl; stopped = refl } }

square_20 : Allowed square_setting (opening ++ take 20 square_rest) (Released (object 1 1))
unfolding call_at same_id is_made_by same_attempt accepted_events under_way_from ends_with_in is_committed has_job_out node_is_killed node_lives is_killed is_live was_told was_lost breaks_from breaks_of is_one_of anchored may_be_held
square_20 = record { own = record { event = Commit 3; now = refl; own = refl; lives = refl }; once = refl; settled = inr (inr (record { part = _; born = refl; number = 0; accepted = (0, refl); final = inl refl })); bearer = main_attempt; bore = (0, refl); over = inl (value 0 ∷ [], (0, refl)); unheld = not_held refl }

pub square_is_legal : Legal square_setting square_log
unfolding call_at same_id is_made_by same_attempt accepted_events under_way_from ends_with_in is_committed has_job_out node_is_killed node_lives is_killed is_live was_told was_lost breaks_from breaks_of is_one_of anchored may_be_held
square_is_legal = record { rest = square_rest; begins = refl; each = (tt, square_0, (tt, square_1, (square_2, tt, (tt, (ToNode 1, refl), (square_4, tt, (tt, (ToWorker 1, refl), (square_6, tt, (tt, (ToWorker 2, refl), (tt, square_8, (tt, square_9, (square_10, tt, (tt, (ToWorker 1, refl), (square_12, tt, (square_13, tt, (tt, (ToWorker 2, refl), (tt, (ToNode 1, refl), (tt, square_16, (tt, square_17, (square_18, tt, (square_19, tt, (square_20, tt, tt))))))))))))))))))))) }
