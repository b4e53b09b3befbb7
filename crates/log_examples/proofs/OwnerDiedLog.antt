-- The log of a get of a dead owner's object is legal.
use Rattle.std.proofs.Common.{inl, [], ◌∷◌, ◌++◌, take, inr, refl, arith}
use Rattle.std.specs.Prelude.{codes, drop}
use Rattle.meaning.specs.Values.{main_birth}
use Rattle.meaning.specs.Births.{same_id, is_made_by}
use Rattle.meaning.specs.Meaning.{call_at, replay}
use Rattle.meaning.specs.Examples.{value, object, reference_got}
use Rattle.event_log.specs.Entries.{Kill, Claim, Commit, Deliver, Notice, In, Opened, Begun, Born, Got, Ended, Accepted, Faulted, Released, main_attempt}
use Rattle.event_log.specs.Words.{same_attempt}
use Rattle.event_log.specs.Events.{accepted_events, under_way_from, ends_with_in, is_committed, has_job_out, node_is_killed, node_lives, is_killed, is_live, was_told, was_lost}
use Rattle.event_log.specs.Breaks.{breaks_from, breaks_of}
use Rattle.event_log.specs.Holding.{is_one_of, anchored}
use Rattle.log_examples.proofs.Unheld.{may_be_held, not_held}
use Rattle.event_log.specs.Rules.{ToWorker, ToNode, Allowed}
use Rattle.event_log.specs.Legal.{Answered, Legal, opening}
use Rattle.log_examples.specs.Logs.{first_of}
use Rattle.log_examples.specs.FaultLogs.{calling_outer, calling_leaf, reference_to, died, owner_died_setting, owner_died_rest, owner_died_log}

owner_died_0 : Answered owner_died_setting (opening ++ take 0 owner_died_rest) (In (Claim 1) 0) (drop 1 owner_died_rest)
unfolding call_at same_id is_made_by same_attempt accepted_events under_way_from ends_with_in is_committed has_job_out node_is_killed node_lives is_killed is_live was_told was_lost breaks_from breaks_of is_one_of anchored may_be_held
owner_died_0 = (refl, refl)

owner_died_1 : Answered owner_died_setting (opening ++ take 1 owner_died_rest) (In (Commit 1) 0) (drop 2 owner_died_rest)
unfolding call_at same_id is_made_by same_attempt accepted_events under_way_from ends_with_in is_committed has_job_out node_is_killed node_lives is_killed is_live was_told was_lost breaks_from breaks_of is_one_of anchored may_be_held
owner_died_1 = (main_attempt, record { worker = 1; claimed = refl; once = refl; lives = refl; runs = refl; alone = (refl, tt) }, record { base = object 1 1; p = replay reference_got main_birth (object 1 1) []; replays = record { spec = main_birth; born = refl; ended = refl; faulted = refl; replayed = refl }; own = refl; prints = refl; ends = refl })

owner_died_2 : Allowed owner_died_setting (opening ++ take 2 owner_died_rest) (Born (object 1 1) main_attempt calling_outer)
unfolding call_at same_id is_made_by same_attempt accepted_events under_way_from ends_with_in is_committed has_job_out node_is_killed node_lives is_killed is_live was_told was_lost breaks_from breaks_of is_one_of anchored may_be_held
owner_died_2 = record { job = record { job = 1; now = refl; own = refl; runs = refl; lives = refl }; base = object 1 1; p = replay reference_got main_birth (object 1 1) []; replays = record { spec = main_birth; born = refl; ended = refl; faulted = refl; replayed = refl }; own = (refl, tt); next = refl }

owner_died_4 : Allowed owner_died_setting (opening ++ take 4 owner_died_rest) (Opened 2 1)
unfolding call_at same_id is_made_by same_attempt accepted_events under_way_from ends_with_in is_committed has_job_out node_is_killed node_lives is_killed is_live was_told was_lost breaks_from breaks_of is_one_of anchored may_be_held
owner_died_4 = record { event = Deliver 1; now = refl; heard = inl (1, refl); next = refl; lives = refl }

owner_died_6 : Allowed owner_died_setting (opening ++ take 6 owner_died_rest) (Begun (first_of (object 1 1)) 2)
unfolding call_at same_id is_made_by same_attempt accepted_events under_way_from ends_with_in is_committed has_job_out node_is_killed node_lives is_killed is_live was_told was_lost breaks_from breaks_of is_one_of anchored may_be_held
owner_died_6 = record { own = record { event = Deliver 2; now = refl; own = refl; lives = refl }; function = codes "outer"; args = []; depth = 1; retries = 3; others = 0; born = refl; unreleased = (refl, tt); unresolved = (object 1 1, (0, refl), refl); node = 1; place = refl; next = refl; broken = tt; few = omega arith }

owner_died_8 : Answered owner_died_setting (opening ++ take 8 owner_died_rest) (In (Claim 2) 0) (drop 9 owner_died_rest)
unfolding call_at same_id is_made_by same_attempt accepted_events under_way_from ends_with_in is_committed has_job_out node_is_killed node_lives is_killed is_live was_told was_lost breaks_from breaks_of is_one_of anchored may_be_held
owner_died_8 = (refl, refl)

owner_died_9 : Answered owner_died_setting (opening ++ take 9 owner_died_rest) (In (Commit 2) 0) (drop 10 owner_died_rest)
unfolding call_at same_id is_made_by same_attempt accepted_events under_way_from ends_with_in is_committed has_job_out node_is_killed node_lives is_killed is_live was_told was_lost breaks_from breaks_of is_one_of anchored may_be_held
owner_died_9 = (first_of (object 1 1), record { worker = 2; claimed = refl; once = refl; lives = refl; runs = refl; alone = (refl, (refl, tt)) }, record { base = object 2 1; p = replay reference_got calling_outer (object 2 1) []; replays = record { spec = calling_outer; born = refl; ended = refl; faulted = refl; replayed = refl }; own = refl; prints = refl; ends = refl })

owner_died_10 : Allowed owner_died_setting (opening ++ take 10 owner_died_rest) (Born (object 2 1) (first_of (object 1 1)) calling_leaf)
unfolding call_at same_id is_made_by same_attempt accepted_events under_way_from ends_with_in is_committed has_job_out node_is_killed node_lives is_killed is_live was_told was_lost breaks_from breaks_of is_one_of anchored may_be_held
owner_died_10 = record { job = record { job = 2; now = refl; own = refl; runs = refl; lives = refl }; base = object 2 1; p = replay reference_got calling_outer (object 2 1) []; replays = record { spec = calling_outer; born = refl; ended = refl; faulted = refl; replayed = refl }; own = (refl, tt); next = refl }

owner_died_11 : Allowed owner_died_setting (opening ++ take 11 owner_died_rest) (Ended (first_of (object 1 1)) (reference_to (object 2 1) ∷ []))
unfolding call_at same_id is_made_by same_attempt accepted_events under_way_from ends_with_in is_committed has_job_out node_is_killed node_lives is_killed is_live was_told was_lost breaks_from breaks_of is_one_of anchored may_be_held
owner_died_11 = record { worker = 2; job = record { job = 2; now = refl; own = refl; runs = refl; lives = refl }; stops = record { base = object 2 1; p = replay reference_got calling_outer (object 2 1) []; replays = record { spec = calling_outer; born = refl; ended = refl; faulted = refl; replayed = refl }; own = refl; prints = refl; stopped = refl } }

owner_died_13 : Allowed owner_died_setting (opening ++ take 13 owner_died_rest) (Opened 3 1)
unfolding call_at same_id is_made_by same_attempt accepted_events under_way_from ends_with_in is_committed has_job_out node_is_killed node_lives is_killed is_live was_told was_lost breaks_from breaks_of is_one_of anchored may_be_held
owner_died_13 = record { event = Deliver 4; now = refl; heard = inl (1, refl); next = refl; lives = refl }

owner_died_15 : Allowed owner_died_setting (opening ++ take 15 owner_died_rest) (Accepted (first_of (object 1 1)))
unfolding call_at same_id is_made_by same_attempt accepted_events under_way_from ends_with_in is_committed has_job_out node_is_killed node_lives is_killed is_live was_told was_lost breaks_from breaks_of is_one_of anchored may_be_held
owner_died_15 = record { own = record { event = Deliver 5; now = refl; own = refl; lives = refl }; not_main = refl; contents = (reference_to (object 2 1)) ∷ []; ended = (0, refl); last = refl; unresolved = (object 1 1, (0, refl), refl); unspent = λ p q b s a. let e = a.1 in absurd (cc); once = refl }

owner_died_16 : Allowed owner_died_setting (opening ++ take 16 owner_died_rest) (Got main_attempt (object 1 1) (reference_to (object 2 1)))
unfolding call_at same_id is_made_by same_attempt accepted_events under_way_from ends_with_in is_committed has_job_out node_is_killed node_lives is_killed is_live was_told was_lost breaks_from breaks_of is_one_of anchored may_be_held
owner_died_16 = record { worker = 1; runs = refl; own = record { event = Deliver 5; now = refl; own = refl; lives = refl }; needs = record { base = object 1 1; p = replay reference_got main_birth (object 1 1) []; replays = record { spec = main_birth; born = refl; ended = refl; faulted = refl; replayed = refl }; own = refl; prints = refl; stopped = refl }; content = inr (record { part = _; born = refl; number = 0; contents = _; ended = (0, refl); content = refl }); untold = refl }

owner_died_18 : Allowed owner_died_setting (opening ++ take 18 owner_died_rest) (Begun (first_of (object 2 1)) 3)
unfolding call_at same_id is_made_by same_attempt accepted_events under_way_from ends_with_in is_committed has_job_out node_is_killed node_lives is_killed is_live was_told was_lost breaks_from breaks_of is_one_of anchored may_be_held
owner_died_18 = record { own = record { event = Deliver 6; now = refl; own = refl; lives = refl }; function = codes "leaf"; args = []; depth = 2; retries = 3; others = 0; born = refl; unreleased = (refl, tt); unresolved = (object 2 1, (0, refl), refl); node = 1; place = refl; next = refl; broken = tt; few = omega arith }

owner_died_22 : Answered owner_died_setting (opening ++ take 22 owner_died_rest) (In (Claim 3) 0) (drop 23 owner_died_rest)
unfolding call_at same_id is_made_by same_attempt accepted_events under_way_from ends_with_in is_committed has_job_out node_is_killed node_lives is_killed is_live was_told was_lost breaks_from breaks_of is_one_of anchored may_be_held
owner_died_22 = (refl, refl)

owner_died_23 : Answered owner_died_setting (opening ++ take 23 owner_died_rest) (In (Commit 3) 0) (drop 24 owner_died_rest)
unfolding call_at same_id is_made_by same_attempt accepted_events under_way_from ends_with_in is_committed has_job_out node_is_killed node_lives is_killed is_live was_told was_lost breaks_from breaks_of is_one_of anchored may_be_held
owner_died_23 = (first_of (object 2 1), record { worker = 3; claimed = refl; once = refl; lives = refl; runs = refl; alone = (refl, tt) }, record { base = object 3 1; p = replay reference_got calling_leaf (object 3 1) []; replays = record { spec = calling_leaf; born = refl; ended = refl; faulted = refl; replayed = refl }; own = refl; prints = refl; ends = refl })

owner_died_24 : Allowed owner_died_setting (opening ++ take 24 owner_died_rest) (Ended (first_of (object 2 1)) (value 4 ∷ []))
unfolding call_at same_id is_made_by same_attempt accepted_events under_way_from ends_with_in is_committed has_job_out node_is_killed node_lives is_killed is_live was_told was_lost breaks_from breaks_of is_one_of anchored may_be_held
owner_died_24 = record { worker = 3; job = record { job = 3; now = refl; own = refl; runs = refl; lives = refl }; stops = record { base = object 3 1; p = replay reference_got calling_leaf (object 3 1) []; replays = record { spec = calling_leaf; born = refl; ended = refl; faulted = refl; replayed = refl }; own = refl; prints = refl; stopped = refl } }

owner_died_26 : Allowed owner_died_setting (opening ++ take 26 owner_died_rest) (Accepted (first_of (object 2 1)))
unfolding call_at same_id is_made_by same_attempt accepted_events under_way_from ends_with_in is_committed has_job_out node_is_killed node_lives is_killed is_live was_told was_lost breaks_from breaks_of is_one_of anchored may_be_held
owner_died_26 = record { own = record { event = Deliver 10; now = refl; own = refl; lives = refl }; not_main = refl; contents = (value 4) ∷ []; ended = (0, refl); last = refl; unresolved = (object 2 1, (0, refl), refl); unspent = λ p q b s a. let e = a.1 in absurd (cc); once = refl }

owner_died_30 : Answered owner_died_setting (opening ++ take 30 owner_died_rest) (In (Notice 1 2) 0) (drop 31 owner_died_rest)
unfolding call_at same_id is_made_by same_attempt accepted_events under_way_from ends_with_in is_committed has_job_out node_is_killed node_lives is_killed is_live was_told was_lost breaks_from breaks_of is_one_of anchored may_be_held
owner_died_30 = (refl, refl)

owner_died_31 : Answered owner_died_setting (opening ++ take 31 owner_died_rest) (In (Claim 1) 0) (drop 32 owner_died_rest)
unfolding call_at same_id is_made_by same_attempt accepted_events under_way_from ends_with_in is_committed has_job_out node_is_killed node_lives is_killed is_live was_told was_lost breaks_from breaks_of is_one_of anchored may_be_held
owner_died_31 = (refl, refl)

owner_died_32 : Answered owner_died_setting (opening ++ take 32 owner_died_rest) (In (Commit 4) 0) (drop 33 owner_died_rest)
unfolding call_at same_id is_made_by same_attempt accepted_events under_way_from ends_with_in is_committed has_job_out node_is_killed node_lives is_killed is_live was_told was_lost breaks_from breaks_of is_one_of anchored may_be_held
owner_died_32 = (main_attempt, record { worker = 1; claimed = refl; once = refl; lives = refl; runs = refl; alone = tt }, record { base = object 1 1; p = replay reference_got main_birth (object 1 1) (reference_to (object 2 1) ∷ []); replays = record { spec = main_birth; born = refl; ended = refl; faulted = refl; replayed = refl }; own = refl; prints = refl; ends = refl })

owner_died_33 : Allowed owner_died_setting (opening ++ take 33 owner_died_rest) (Faulted main_attempt (object 2 1) (died (object 2 1)))
unfolding call_at same_id is_made_by same_attempt accepted_events under_way_from ends_with_in is_committed has_job_out node_is_killed node_lives is_killed is_live was_told was_lost breaks_from breaks_of is_one_of anchored may_be_held
owner_died_33 = record { worker = 1; runs = refl; own = record { event = Commit 4; now = refl; own = refl; lives = refl }; needs = record { base = object 1 1; p = replay reference_got main_birth (object 1 1) (reference_to (object 2 1) ∷ []); replays = record { spec = main_birth; born = refl; ended = refl; faulted = refl; replayed = refl }; own = refl; prints = refl; stopped = refl }; reason = inr (inl (refl, refl)); cause = refl }

owner_died_34 : Allowed owner_died_setting (opening ++ take 34 owner_died_rest) (Released (object 1 1))
unfolding call_at same_id is_made_by same_attempt accepted_events under_way_from ends_with_in is_committed has_job_out node_is_killed node_lives is_killed is_live was_told was_lost breaks_from breaks_of is_one_of anchored may_be_held
owner_died_34 = record { own = record { event = Commit 4; now = refl; own = refl; lives = refl }; once = refl; settled = inr (inr (record { part = _; born = refl; number = 0; accepted = (0, refl); final = inl refl })); bearer = main_attempt; bore = (0, refl); over = inr (record { object = object 2 1; fault = died (object 2 1) }, (0, refl)); unheld = not_held refl }

owner_died_29 : Answered owner_died_setting (opening ++ take 29 owner_died_rest) (In (Kill 2) 0) (drop 30 owner_died_rest)
unfolding call_at same_id is_made_by same_attempt accepted_events under_way_from ends_with_in is_committed has_job_out node_is_killed node_lives is_killed is_live was_told was_lost breaks_from breaks_of is_one_of anchored may_be_held
owner_died_29 = refl

pub owner_died_is_legal : Legal owner_died_setting owner_died_log
unfolding call_at same_id is_made_by same_attempt accepted_events under_way_from ends_with_in is_committed has_job_out node_is_killed node_lives is_killed is_live was_told was_lost breaks_from breaks_of is_one_of anchored may_be_held
owner_died_is_legal = record { rest = owner_died_rest; begins = refl; each = (tt, owner_died_0, (tt, owner_died_1, (owner_died_2, tt, (tt, (ToNode 1, refl), (owner_died_4, tt, (tt, (ToWorker 1, refl), (owner_died_6, tt, (tt, (ToWorker 2, refl), (tt, owner_died_8, (tt, owner_died_9, (owner_died_10, tt, (owner_died_11, tt, (tt, (ToNode 1, refl), (owner_died_13, tt, (tt, (ToWorker 1, refl), (owner_died_15, tt, (owner_died_16, tt, (tt, (ToWorker 2, refl), (owner_died_18, tt, (tt, (ToWorker 2, refl), (tt, (ToWorker 3, refl), (tt, (ToNode 1, refl), (tt, owner_died_22, (tt, owner_died_23, (owner_died_24, tt, (tt, (ToWorker 2, refl), (owner_died_26, tt, (tt, (ToWorker 3, refl), (tt, (ToNode 1, refl), (tt, owner_died_29, (tt, owner_died_30, (tt, owner_died_31, (tt, owner_died_32, (owner_died_33, tt, (owner_died_34, tt, (tt, (ToWorker 2, refl), (tt, (ToNode 1, refl), tt))))))))))))))))))))))))))))))))))))) }
