-- The log of a trap that nobody gets is legal.
use Rattle.std.proofs.Common.{[], ◌∷◌, ◌++◌, take, inl, inr, refl, arith}
use Rattle.std.specs.Prelude.{codes, drop}
use Rattle.meaning.specs.Values.{Trapped, DivZero, main_birth}
use Rattle.meaning.specs.Births.{same_id, is_made_by}
use Rattle.meaning.specs.Meaning.{call_at, replay}
use Rattle.meaning.specs.Examples.{value, object, trap_not_got}
use Rattle.event_log.specs.Entries.{Claim, Commit, Deliver, In, Opened, Begun, Born, Ended, Accepted, Released, main_attempt}
use Rattle.event_log.specs.Words.{same_attempt}
use Rattle.event_log.specs.Events.{accepted_events, under_way_from, ends_with_in, is_committed, has_job_out, node_is_killed, node_lives, is_killed, is_live, was_told, was_lost}
use Rattle.event_log.specs.Breaks.{breaks_from, breaks_of}
use Rattle.event_log.specs.Holding.{is_one_of, anchored}
use Rattle.log_examples.proofs.Unheld.{may_be_held, not_held}
use Rattle.event_log.specs.Rules.{ToWorker, ToNode, Allowed}
use Rattle.event_log.specs.Legal.{Answered, Legal, opening}
use Rattle.log_examples.specs.Logs.{first_of, number, given, dividing, trap_setting, trap_rest, trap_log}

trap_0 : Answered trap_setting (opening ++ take 0 trap_rest) (In (Claim 1) 0) (drop 1 trap_rest)
unfolding call_at same_id is_made_by same_attempt accepted_events under_way_from ends_with_in is_committed has_job_out node_is_killed node_lives is_killed is_live was_told was_lost breaks_from breaks_of is_one_of anchored may_be_held
trap_0 = (refl, refl)

trap_1 : Answered trap_setting (opening ++ take 1 trap_rest) (In (Commit 1) 0) (drop 2 trap_rest)
unfolding call_at same_id is_made_by same_attempt accepted_events under_way_from ends_with_in is_committed has_job_out node_is_killed node_lives is_killed is_live was_told was_lost breaks_from breaks_of is_one_of anchored may_be_held
trap_1 = (main_attempt, record { worker = 1; claimed = refl; once = refl; lives = refl; runs = refl; alone = (refl, (refl, tt)) }, record { base = object 1 1; p = replay trap_not_got main_birth (object 1 1) []; replays = record { spec = main_birth; born = refl; ended = refl; faulted = refl; replayed = refl }; own = refl; prints = refl; ends = refl })

trap_2 : Allowed trap_setting (opening ++ take 2 trap_rest) (Born (object 1 1) main_attempt dividing)
unfolding call_at same_id is_made_by same_attempt accepted_events under_way_from ends_with_in is_committed has_job_out node_is_killed node_lives is_killed is_live was_told was_lost breaks_from breaks_of is_one_of anchored may_be_held
trap_2 = record { job = record { job = 1; now = refl; own = refl; runs = refl; lives = refl }; base = object 1 1; p = replay trap_not_got main_birth (object 1 1) []; replays = record { spec = main_birth; born = refl; ended = refl; faulted = refl; replayed = refl }; own = (refl, tt); next = refl }

trap_3 : Allowed trap_setting (opening ++ take 3 trap_rest) (Ended main_attempt (value 5 ∷ []))
unfolding call_at same_id is_made_by same_attempt accepted_events under_way_from ends_with_in is_committed has_job_out node_is_killed node_lives is_killed is_live was_told was_lost breaks_from breaks_of is_one_of anchored may_be_held
trap_3 = record { worker = 1; job = record { job = 1; now = refl; own = refl; runs = refl; lives = refl }; stops = record { base = object 1 1; p = replay trap_not_got main_birth (object 1 1) []; replays = record { spec = main_birth; born = refl; ended = refl; faulted = refl; replayed = refl }; own = refl; prints = refl; stopped = refl } }

trap_5 : Allowed trap_setting (opening ++ take 5 trap_rest) (Opened 2 1)
unfolding call_at same_id is_made_by same_attempt accepted_events under_way_from ends_with_in is_committed has_job_out node_is_killed node_lives is_killed is_live was_told was_lost breaks_from breaks_of is_one_of anchored may_be_held
trap_5 = record { event = Deliver 1; now = refl; heard = inl (1, refl); next = refl; lives = refl }

trap_7 : Allowed trap_setting (opening ++ take 7 trap_rest) (Begun (first_of (object 1 1)) 2)
unfolding call_at same_id is_made_by same_attempt accepted_events under_way_from ends_with_in is_committed has_job_out node_is_killed node_lives is_killed is_live was_told was_lost breaks_from breaks_of is_one_of anchored may_be_held
trap_7 = record { own = record { event = Deliver 2; now = refl; own = refl; lives = refl }; function = codes "div"; args = given (number 1) ∷ given (number 0) ∷ []; depth = 1; retries = 3; others = 0; born = refl; unreleased = (refl, tt); unresolved = (object 1 1, (0, refl), refl); node = 1; place = refl; next = refl; broken = tt; few = omega arith }

trap_9 : Answered trap_setting (opening ++ take 9 trap_rest) (In (Claim 2) 0) (drop 10 trap_rest)
unfolding call_at same_id is_made_by same_attempt accepted_events under_way_from ends_with_in is_committed has_job_out node_is_killed node_lives is_killed is_live was_told was_lost breaks_from breaks_of is_one_of anchored may_be_held
trap_9 = (refl, refl)

trap_10 : Answered trap_setting (opening ++ take 10 trap_rest) (In (Commit 2) 0) (drop 11 trap_rest)
unfolding call_at same_id is_made_by same_attempt accepted_events under_way_from ends_with_in is_committed has_job_out node_is_killed node_lives is_killed is_live was_told was_lost breaks_from breaks_of is_one_of anchored may_be_held
trap_10 = (first_of (object 1 1), record { worker = 2; claimed = refl; once = refl; lives = refl; runs = refl; alone = (refl, tt) }, record { base = object 2 1; p = replay trap_not_got dividing (object 2 1) []; replays = record { spec = dividing; born = refl; ended = refl; faulted = refl; replayed = refl }; own = refl; prints = refl; ends = refl })

trap_11 : Allowed trap_setting (opening ++ take 11 trap_rest) (Ended (first_of (object 1 1)) (Trapped DivZero ∷ []))
unfolding call_at same_id is_made_by same_attempt accepted_events under_way_from ends_with_in is_committed has_job_out node_is_killed node_lives is_killed is_live was_told was_lost breaks_from breaks_of is_one_of anchored may_be_held
trap_11 = record { worker = 2; job = record { job = 2; now = refl; own = refl; runs = refl; lives = refl }; stops = record { base = object 2 1; p = replay trap_not_got dividing (object 2 1) []; replays = record { spec = dividing; born = refl; ended = refl; faulted = refl; replayed = refl }; own = refl; prints = refl; stopped = refl } }

trap_13 : Allowed trap_setting (opening ++ take 13 trap_rest) (Accepted (first_of (object 1 1)))
unfolding call_at same_id is_made_by same_attempt accepted_events under_way_from ends_with_in is_committed has_job_out node_is_killed node_lives is_killed is_live was_told was_lost breaks_from breaks_of is_one_of anchored may_be_held
trap_13 = record { own = record { event = Deliver 4; now = refl; own = refl; lives = refl }; not_main = refl; contents = (Trapped DivZero) ∷ []; ended = (0, refl); last = refl; unresolved = (object 1 1, (0, refl), refl); unspent = λ p q b s a. let e = a.1 in absurd (cc); once = refl }

trap_14 : Allowed trap_setting (opening ++ take 14 trap_rest) (Released (object 1 1))
unfolding call_at same_id is_made_by same_attempt accepted_events under_way_from ends_with_in is_committed has_job_out node_is_killed node_lives is_killed is_live was_told was_lost breaks_from breaks_of is_one_of anchored may_be_held
trap_14 = record { own = record { event = Deliver 4; now = refl; own = refl; lives = refl }; once = refl; settled = inr (inr (record { part = _; born = refl; number = 0; accepted = (0, refl); final = inl refl })); bearer = main_attempt; bore = (0, refl); over = inl (value 5 ∷ [], (0, refl)); unheld = not_held refl }

pub trap_is_legal : Legal trap_setting trap_log
unfolding call_at same_id is_made_by same_attempt accepted_events under_way_from ends_with_in is_committed has_job_out node_is_killed node_lives is_killed is_live was_told was_lost breaks_from breaks_of is_one_of anchored may_be_held
trap_is_legal = record { rest = trap_rest; begins = refl; each = (tt, trap_0, (tt, trap_1, (trap_2, tt, (trap_3, tt, (tt, (ToNode 1, refl), (trap_5, tt, (tt, (ToWorker 1, refl), (trap_7, tt, (tt, (ToWorker 2, refl), (tt, trap_9, (tt, trap_10, (trap_11, tt, (tt, (ToWorker 1, refl), (trap_13, tt, (trap_14, tt, (tt, (ToWorker 2, refl), (tt, (ToNode 1, refl), (tt, (ToNode 1, refl), tt)))))))))))))))))) }
