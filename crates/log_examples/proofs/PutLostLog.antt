-- The log of a put that is lost is legal.
use Rattle.std.proofs.Common.{true, [], ◌∷◌, ◌++◌, take, inl, inr, refl, arith}
use Rattle.std.specs.Prelude.{codes, drop}
use Rattle.meaning.specs.Values.{Named, Put, main_birth}
use Rattle.meaning.specs.Births.{same_id, is_made_by}
use Rattle.meaning.specs.Meaning.{call_at, replay}
use Rattle.meaning.specs.Examples.{object}
use Rattle.event_log.specs.Entries.{Evict, Lose, Claim, Commit, Deliver, In, Refused, Opened, Begun, Born, Faulted, Resolved, Released, main_attempt}
use Rattle.event_log.specs.Entries.{Pinned}
use Rattle.event_log.specs.Words.{same_attempt}
use Rattle.event_log.specs.Events.{accepted_events, under_way_from, ends_with_in, is_committed, has_job_out, node_is_killed, node_lives, is_killed, is_live, was_told, was_lost}
use Rattle.event_log.specs.Breaks.{breaks_from, breaks_of}
use Rattle.event_log.specs.Holding.{is_one_of, anchored}
use Rattle.log_examples.proofs.Unheld.{may_be_held, not_held}
use Rattle.event_log.specs.Rules.{ToWorker, ToNode, Allowed}
use Rattle.event_log.specs.Legal.{Answered, Legal, opening}
use Rattle.log_examples.specs.Logs.{first_of}
use Rattle.log_examples.specs.FaultLogs.{chained, one_two, read, calling_f, calling_g, lost, put_lost_setting, put_lost_rest, put_lost_log}

put_lost_0 : Answered put_lost_setting (opening ++ take 0 put_lost_rest) (In (Claim 1) 0) (drop 1 put_lost_rest)
unfolding call_at same_id is_made_by same_attempt accepted_events under_way_from ends_with_in is_committed has_job_out node_is_killed node_lives is_killed is_live was_told was_lost breaks_from breaks_of is_one_of anchored may_be_held
put_lost_0 = (refl, refl)

put_lost_1 : Answered put_lost_setting (opening ++ take 1 put_lost_rest) (In (Commit 1) 0) (drop 2 put_lost_rest)
unfolding call_at same_id is_made_by same_attempt accepted_events under_way_from ends_with_in is_committed has_job_out node_is_killed node_lives is_killed is_live was_told was_lost breaks_from breaks_of is_one_of anchored may_be_held
put_lost_1 = (main_attempt, record { worker = 1; claimed = refl; once = refl; lives = refl; runs = refl; alone = (refl, (refl, (refl, tt))) }, record { base = object 1 1; p = replay chained main_birth (object 1 1) []; replays = record { spec = main_birth; born = refl; ended = refl; faulted = refl; replayed = refl }; own = refl; prints = refl; ends = refl })

put_lost_2 : Allowed put_lost_setting (opening ++ take 2 put_lost_rest) (Born (object 1 1) main_attempt (Put one_two))
unfolding call_at same_id is_made_by same_attempt accepted_events under_way_from ends_with_in is_committed has_job_out node_is_killed node_lives is_killed is_live was_told was_lost breaks_from breaks_of is_one_of anchored may_be_held
put_lost_2 = record { job = record { job = 1; now = refl; own = refl; runs = refl; lives = refl }; base = object 1 1; p = replay chained main_birth (object 1 1) []; replays = record { spec = main_birth; born = refl; ended = refl; faulted = refl; replayed = refl }; own = (refl, tt); next = refl }

put_lost_3 : Allowed put_lost_setting (opening ++ take 3 put_lost_rest) (Born (object 1 2) main_attempt calling_f)
unfolding call_at same_id is_made_by same_attempt accepted_events under_way_from ends_with_in is_committed has_job_out node_is_killed node_lives is_killed is_live was_told was_lost breaks_from breaks_of is_one_of anchored may_be_held
put_lost_3 = record { job = record { job = 1; now = refl; own = refl; runs = refl; lives = refl }; base = object 1 1; p = replay chained main_birth (object 1 1) []; replays = record { spec = main_birth; born = refl; ended = refl; faulted = refl; replayed = refl }; own = (refl, (refl, tt)); next = refl }

put_lost_4 : Allowed put_lost_setting (opening ++ take 4 put_lost_rest) (Born (object 1 3) main_attempt calling_g)
unfolding call_at same_id is_made_by same_attempt accepted_events under_way_from ends_with_in is_committed has_job_out node_is_killed node_lives is_killed is_live was_told was_lost breaks_from breaks_of is_one_of anchored may_be_held
put_lost_4 = record { job = record { job = 1; now = refl; own = refl; runs = refl; lives = refl }; base = object 1 1; p = replay chained main_birth (object 1 1) []; replays = record { spec = main_birth; born = refl; ended = refl; faulted = refl; replayed = refl }; own = (refl, (refl, (refl, tt))); next = refl }

put_lost_6 : Allowed put_lost_setting (opening ++ take 6 put_lost_rest) (Opened 2 1)
unfolding call_at same_id is_made_by same_attempt accepted_events under_way_from ends_with_in is_committed has_job_out node_is_killed node_lives is_killed is_live was_told was_lost breaks_from breaks_of is_one_of anchored may_be_held
put_lost_6 = record { event = Deliver 1; now = refl; heard = inl (1, refl); next = refl; lives = refl }

put_lost_8 : Allowed put_lost_setting (opening ++ take 8 put_lost_rest) (Opened 3 1)
unfolding call_at same_id is_made_by same_attempt accepted_events under_way_from ends_with_in is_committed has_job_out node_is_killed node_lives is_killed is_live was_told was_lost breaks_from breaks_of is_one_of anchored may_be_held
put_lost_8 = record { event = Deliver 2; now = refl; heard = inl (1, refl); next = refl; lives = refl }

put_lost_10 : Allowed put_lost_setting (opening ++ take 10 put_lost_rest) (Begun (first_of (object 1 2)) 2)
unfolding call_at same_id is_made_by same_attempt accepted_events under_way_from ends_with_in is_committed has_job_out node_is_killed node_lives is_killed is_live was_told was_lost breaks_from breaks_of is_one_of anchored may_be_held
put_lost_10 = record { own = record { event = Deliver 3; now = refl; own = refl; lives = refl }; function = codes "f"; args = read (Named (object 1 1)) ∷ []; depth = 1; retries = 3; others = 0; born = refl; unreleased = (refl, tt); unresolved = (object 1 2, (0, refl), refl); node = 1; place = refl; next = refl; broken = tt; few = omega arith }

put_lost_12 : Allowed put_lost_setting (opening ++ take 12 put_lost_rest) (Begun (first_of (object 1 3)) 3)
unfolding call_at same_id is_made_by same_attempt accepted_events under_way_from ends_with_in is_committed has_job_out node_is_killed node_lives is_killed is_live was_told was_lost breaks_from breaks_of is_one_of anchored may_be_held
put_lost_12 = record { own = record { event = Deliver 4; now = refl; own = refl; lives = refl }; function = codes "g"; args = read (Named (object 1 2)) ∷ []; depth = 1; retries = 3; others = 0; born = refl; unreleased = (refl, tt); unresolved = (object 1 3, (0, refl), refl); node = 1; place = refl; next = refl; broken = tt; few = omega arith }

put_lost_16 : Allowed put_lost_setting (opening ++ take 16 put_lost_rest) (Refused Pinned)
unfolding call_at same_id is_made_by same_attempt accepted_events under_way_from ends_with_in is_committed has_job_out node_is_killed node_lives is_killed is_live was_told was_lost breaks_from breaks_of is_one_of anchored may_be_held
put_lost_16 = record { log = opening ++ take 15 put_lost_rest; event = Evict 1 (object 1 1); seat = 0; parts = refl; cause = (true, (0, refl)) }

put_lost_18 : Answered put_lost_setting (opening ++ take 18 put_lost_rest) (In (Claim 2) 0) (drop 19 put_lost_rest)
unfolding call_at same_id is_made_by same_attempt accepted_events under_way_from ends_with_in is_committed has_job_out node_is_killed node_lives is_killed is_live was_told was_lost breaks_from breaks_of is_one_of anchored may_be_held
put_lost_18 = (refl, refl)

put_lost_19 : Answered put_lost_setting (opening ++ take 19 put_lost_rest) (In (Commit 2) 0) (drop 20 put_lost_rest)
unfolding call_at same_id is_made_by same_attempt accepted_events under_way_from ends_with_in is_committed has_job_out node_is_killed node_lives is_killed is_live was_told was_lost breaks_from breaks_of is_one_of anchored may_be_held
put_lost_19 = (first_of (object 1 2), record { worker = 2; claimed = refl; once = refl; lives = refl; runs = refl; alone = tt }, record { base = object 2 1; p = replay chained calling_f (object 2 1) []; replays = record { spec = calling_f; born = refl; ended = refl; faulted = refl; replayed = refl }; own = refl; prints = refl; ends = refl })

put_lost_23 : Allowed put_lost_setting (opening ++ take 23 put_lost_rest) (Resolved (object 1 1) (lost (object 1 1)))
unfolding call_at same_id is_made_by same_attempt accepted_events under_way_from ends_with_in is_committed has_job_out node_is_killed node_lives is_killed is_live was_told was_lost breaks_from breaks_of is_one_of anchored may_be_held
put_lost_23 = record { own = record { event = Deliver 9; now = refl; own = refl; lives = refl }; not_main = refl; once = refl; reason = inr (inl (inl refl)); cause = record { before = take 5 (opening ++ take 23 put_lost_rest); after = drop 5 (opening ++ take 23 put_lost_rest); parts = refl; value = one_two; put = refl; node = 1; place = refl; lost = refl } }

put_lost_25 : Allowed put_lost_setting (opening ++ take 25 put_lost_rest) (Faulted (first_of (object 1 2)) (object 1 1) (lost (object 1 1)))
unfolding call_at same_id is_made_by same_attempt accepted_events under_way_from ends_with_in is_committed has_job_out node_is_killed node_lives is_killed is_live was_told was_lost breaks_from breaks_of is_one_of anchored may_be_held
put_lost_25 = record { worker = 2; runs = refl; own = record { event = Deliver 10; now = refl; own = refl; lives = refl }; needs = record { base = object 2 1; p = replay chained calling_f (object 2 1) []; replays = record { spec = calling_f; born = refl; ended = refl; faulted = refl; replayed = refl }; own = refl; prints = refl; stopped = refl }; reason = inl (0, refl); cause = record { before = take 5 (opening ++ take 25 put_lost_rest); after = drop 5 (opening ++ take 25 put_lost_rest); parts = refl; value = one_two; put = refl; node = 1; place = refl; lost = refl } }

put_lost_27 : Allowed put_lost_setting (opening ++ take 27 put_lost_rest) (Resolved (object 1 2) (lost (object 1 1)))
unfolding call_at same_id is_made_by same_attempt accepted_events under_way_from ends_with_in is_committed has_job_out node_is_killed node_lives is_killed is_live was_told was_lost breaks_from breaks_of is_one_of anchored may_be_held
put_lost_27 = record { own = record { event = Deliver 11; now = refl; own = refl; lives = refl }; not_main = refl; once = refl; reason = inl (record { part = _; born = refl; number = 0; last = refl; got = object 1 1; faulted = (0, refl) }); cause = record { before = take 5 (opening ++ take 27 put_lost_rest); after = drop 5 (opening ++ take 27 put_lost_rest); parts = refl; value = one_two; put = refl; node = 1; place = refl; lost = refl } }

put_lost_30 : Answered put_lost_setting (opening ++ take 30 put_lost_rest) (In (Claim 3) 0) (drop 31 put_lost_rest)
unfolding call_at same_id is_made_by same_attempt accepted_events under_way_from ends_with_in is_committed has_job_out node_is_killed node_lives is_killed is_live was_told was_lost breaks_from breaks_of is_one_of anchored may_be_held
put_lost_30 = (refl, refl)

put_lost_31 : Answered put_lost_setting (opening ++ take 31 put_lost_rest) (In (Commit 3) 0) (drop 32 put_lost_rest)
unfolding call_at same_id is_made_by same_attempt accepted_events under_way_from ends_with_in is_committed has_job_out node_is_killed node_lives is_killed is_live was_told was_lost breaks_from breaks_of is_one_of anchored may_be_held
put_lost_31 = (first_of (object 1 3), record { worker = 3; claimed = refl; once = refl; lives = refl; runs = refl; alone = tt }, record { base = object 3 1; p = replay chained calling_g (object 3 1) []; replays = record { spec = calling_g; born = refl; ended = refl; faulted = refl; replayed = refl }; own = refl; prints = refl; ends = refl })

put_lost_34 : Allowed put_lost_setting (opening ++ take 34 put_lost_rest) (Faulted (first_of (object 1 3)) (object 1 2) (lost (object 1 1)))
unfolding call_at same_id is_made_by same_attempt accepted_events under_way_from ends_with_in is_committed has_job_out node_is_killed node_lives is_killed is_live was_told was_lost breaks_from breaks_of is_one_of anchored may_be_held
put_lost_34 = record { worker = 3; runs = refl; own = record { event = Deliver 15; now = refl; own = refl; lives = refl }; needs = record { base = object 3 1; p = replay chained calling_g (object 3 1) []; replays = record { spec = calling_g; born = refl; ended = refl; faulted = refl; replayed = refl }; own = refl; prints = refl; stopped = refl }; reason = inl (0, refl); cause = record { before = take 5 (opening ++ take 34 put_lost_rest); after = drop 5 (opening ++ take 34 put_lost_rest); parts = refl; value = one_two; put = refl; node = 1; place = refl; lost = refl } }

put_lost_36 : Allowed put_lost_setting (opening ++ take 36 put_lost_rest) (Resolved (object 1 3) (lost (object 1 1)))
unfolding call_at same_id is_made_by same_attempt accepted_events under_way_from ends_with_in is_committed has_job_out node_is_killed node_lives is_killed is_live was_told was_lost breaks_from breaks_of is_one_of anchored may_be_held
put_lost_36 = record { own = record { event = Deliver 16; now = refl; own = refl; lives = refl }; not_main = refl; once = refl; reason = inl (record { part = _; born = refl; number = 0; last = refl; got = object 1 2; faulted = (0, refl) }); cause = record { before = take 5 (opening ++ take 36 put_lost_rest); after = drop 5 (opening ++ take 36 put_lost_rest); parts = refl; value = one_two; put = refl; node = 1; place = refl; lost = refl } }

put_lost_37 : Allowed put_lost_setting (opening ++ take 37 put_lost_rest) (Faulted main_attempt (object 1 3) (lost (object 1 1)))
unfolding call_at same_id is_made_by same_attempt accepted_events under_way_from ends_with_in is_committed has_job_out node_is_killed node_lives is_killed is_live was_told was_lost breaks_from breaks_of is_one_of anchored may_be_held
put_lost_37 = record { worker = 1; runs = refl; own = record { event = Deliver 16; now = refl; own = refl; lives = refl }; needs = record { base = object 1 1; p = replay chained main_birth (object 1 1) []; replays = record { spec = main_birth; born = refl; ended = refl; faulted = refl; replayed = refl }; own = refl; prints = refl; stopped = refl }; reason = inl (0, refl); cause = record { before = take 5 (opening ++ take 37 put_lost_rest); after = drop 5 (opening ++ take 37 put_lost_rest); parts = refl; value = one_two; put = refl; node = 1; place = refl; lost = refl } }

put_lost_38 : Allowed put_lost_setting (opening ++ take 38 put_lost_rest) (Released (object 1 3))
unfolding call_at same_id is_made_by same_attempt accepted_events under_way_from ends_with_in is_committed has_job_out node_is_killed node_lives is_killed is_live was_told was_lost breaks_from breaks_of is_one_of anchored may_be_held
put_lost_38 = record { own = record { event = Deliver 16; now = refl; own = refl; lives = refl }; once = refl; settled = inr (inl ((lost (object 1 1)), (0, refl))); bearer = main_attempt; bore = (0, refl); over = inr (record { object = object 1 3; fault = lost (object 1 1) }, (0, refl)); unheld = not_held refl }

put_lost_39 : Allowed put_lost_setting (opening ++ take 39 put_lost_rest) (Released (object 1 2))
unfolding call_at same_id is_made_by same_attempt accepted_events under_way_from ends_with_in is_committed has_job_out node_is_killed node_lives is_killed is_live was_told was_lost breaks_from breaks_of is_one_of anchored may_be_held
put_lost_39 = record { own = record { event = Deliver 16; now = refl; own = refl; lives = refl }; once = refl; settled = inr (inl ((lost (object 1 1)), (0, refl))); bearer = main_attempt; bore = (0, refl); over = inr (record { object = object 1 3; fault = lost (object 1 1) }, (0, refl)); unheld = not_held refl }

put_lost_40 : Allowed put_lost_setting (opening ++ take 40 put_lost_rest) (Released (object 1 1))
unfolding call_at same_id is_made_by same_attempt accepted_events under_way_from ends_with_in is_committed has_job_out node_is_killed node_lives is_killed is_live was_told was_lost breaks_from breaks_of is_one_of anchored may_be_held
put_lost_40 = record { own = record { event = Deliver 16; now = refl; own = refl; lives = refl }; once = refl; settled = inl (one_two, refl); bearer = main_attempt; bore = (0, refl); over = inr (record { object = object 1 3; fault = lost (object 1 1) }, (0, refl)); unheld = not_held refl }

put_lost_17 : Answered put_lost_setting (opening ++ take 17 put_lost_rest) (In (Lose 1 (object 1 1)) 0) (drop 18 put_lost_rest)
unfolding call_at same_id is_made_by same_attempt accepted_events under_way_from ends_with_in is_committed has_job_out node_is_killed node_lives is_killed is_live was_told was_lost breaks_from breaks_of is_one_of anchored may_be_held
put_lost_17 = refl

pub put_lost_is_legal : Legal put_lost_setting put_lost_log
unfolding call_at same_id is_made_by same_attempt accepted_events under_way_from ends_with_in is_committed has_job_out node_is_killed node_lives is_killed is_live was_told was_lost breaks_from breaks_of is_one_of anchored may_be_held
put_lost_is_legal = record { rest = put_lost_rest; begins = refl; each = (tt, put_lost_0, (tt, put_lost_1, (put_lost_2, tt, (put_lost_3, tt, (put_lost_4, tt, (tt, (ToNode 1, refl), (put_lost_6, tt, (tt, (ToNode 1, refl), (put_lost_8, tt, (tt, (ToWorker 1, refl), (put_lost_10, tt, (tt, (ToWorker 1, refl), (put_lost_12, tt, (tt, (ToWorker 2, refl), (tt, (ToWorker 3, refl), (tt, tt, (put_lost_16, tt, (tt, put_lost_17, (tt, put_lost_18, (tt, put_lost_19, (tt, (ToWorker 1, refl), (tt, (ToWorker 2, refl), (tt, (ToWorker 1, refl), (put_lost_23, tt, (tt, (ToWorker 2, refl), (put_lost_25, tt, (tt, (ToWorker 1, refl), (put_lost_27, tt, (tt, (ToWorker 2, refl), (tt, (ToNode 1, refl), (tt, put_lost_30, (tt, put_lost_31, (tt, (ToWorker 1, refl), (tt, (ToWorker 3, refl), (put_lost_34, tt, (tt, (ToWorker 1, refl), (put_lost_36, tt, (put_lost_37, tt, (put_lost_38, tt, (put_lost_39, tt, (put_lost_40, tt, (tt, (ToWorker 3, refl), (tt, (ToNode 1, refl), tt))))))))))))))))))))))))))))))))))))))))))) }
