-- The log of a call whose only run breaks is legal.
use Rattle.std.proofs.Common.{[], ◌∷◌, ◌++◌, take, inl, inr, refl, arith}
use Rattle.std.specs.Prelude.{codes, drop}
use Rattle.meaning.specs.Values.{main_birth}
use Rattle.meaning.specs.Births.{same_id, is_made_by}
use Rattle.meaning.specs.Meaning.{call_at, replay}
use Rattle.meaning.specs.Examples.{object}
use Rattle.event_log.specs.Entries.{Kill, Claim, Commit, Deliver, Notice, In, Opened, Begun, Born, Faulted, Resolved, Released, main_attempt}
use Rattle.event_log.specs.Words.{same_attempt}
use Rattle.event_log.specs.Events.{accepted_events, under_way_from, ends_with_in, is_committed, has_job_out, node_is_killed, node_lives, is_killed, is_live, was_told, was_lost}
use Rattle.event_log.specs.Breaks.{breaks_from, breaks_of}
use Rattle.event_log.specs.Holding.{is_one_of, anchored}
use Rattle.log_examples.proofs.Unheld.{may_be_held, not_held}
use Rattle.event_log.specs.Rules.{ToWorker, ToNode, Allowed}
use Rattle.event_log.specs.Legal.{Answered, Legal, opening}
use Rattle.log_examples.specs.Logs.{first_of}
use Rattle.log_examples.specs.FaultLogs.{calls_one, making_one, used_up, unretried_setting, unretried_rest, unretried_log}

unretried_0 : Answered unretried_setting (opening ++ take 0 unretried_rest) (In (Claim 1) 0) (drop 1 unretried_rest)
unfolding call_at same_id is_made_by same_attempt accepted_events under_way_from ends_with_in is_committed has_job_out node_is_killed node_lives is_killed is_live was_told was_lost breaks_from breaks_of is_one_of anchored may_be_held
unretried_0 = (refl, refl)

unretried_1 : Answered unretried_setting (opening ++ take 1 unretried_rest) (In (Commit 1) 0) (drop 2 unretried_rest)
unfolding call_at same_id is_made_by same_attempt accepted_events under_way_from ends_with_in is_committed has_job_out node_is_killed node_lives is_killed is_live was_told was_lost breaks_from breaks_of is_one_of anchored may_be_held
unretried_1 = (main_attempt, record { worker = 1; claimed = refl; once = refl; lives = refl; runs = refl; alone = (refl, tt) }, record { base = object 1 1; p = replay (calls_one 0) main_birth (object 1 1) []; replays = record { spec = main_birth; born = refl; ended = refl; faulted = refl; replayed = refl }; own = refl; prints = refl; ends = refl })

unretried_2 : Allowed unretried_setting (opening ++ take 2 unretried_rest) (Born (object 1 1) main_attempt (making_one 0))
unfolding call_at same_id is_made_by same_attempt accepted_events under_way_from ends_with_in is_committed has_job_out node_is_killed node_lives is_killed is_live was_told was_lost breaks_from breaks_of is_one_of anchored may_be_held
unretried_2 = record { job = record { job = 1; now = refl; own = refl; runs = refl; lives = refl }; base = object 1 1; p = replay (calls_one 0) main_birth (object 1 1) []; replays = record { spec = main_birth; born = refl; ended = refl; faulted = refl; replayed = refl }; own = (refl, tt); next = refl }

unretried_4 : Allowed unretried_setting (opening ++ take 4 unretried_rest) (Opened 2 1)
unfolding call_at same_id is_made_by same_attempt accepted_events under_way_from ends_with_in is_committed has_job_out node_is_killed node_lives is_killed is_live was_told was_lost breaks_from breaks_of is_one_of anchored may_be_held
unretried_4 = record { event = Deliver 1; now = refl; heard = inl (1, refl); next = refl; lives = refl }

unretried_6 : Allowed unretried_setting (opening ++ take 6 unretried_rest) (Begun (first_of (object 1 1)) 2)
unfolding call_at same_id is_made_by same_attempt accepted_events under_way_from ends_with_in is_committed has_job_out node_is_killed node_lives is_killed is_live was_told was_lost breaks_from breaks_of is_one_of anchored may_be_held
unretried_6 = record { own = record { event = Deliver 2; now = refl; own = refl; lives = refl }; function = codes "one"; args = []; depth = 1; retries = 0; others = 0; born = refl; unreleased = (refl, tt); unresolved = (object 1 1, (0, refl), refl); node = 1; place = refl; next = refl; broken = tt; few = omega arith }

unretried_9 : Answered unretried_setting (opening ++ take 9 unretried_rest) (In (Notice 1 2) 0) (drop 10 unretried_rest)
unfolding call_at same_id is_made_by same_attempt accepted_events under_way_from ends_with_in is_committed has_job_out node_is_killed node_lives is_killed is_live was_told was_lost breaks_from breaks_of is_one_of anchored may_be_held
unretried_9 = (refl, refl)

unretried_10 : Allowed unretried_setting (opening ++ take 10 unretried_rest) (Resolved (object 1 1) (used_up (object 1 1)))
unfolding call_at same_id is_made_by same_attempt accepted_events under_way_from ends_with_in is_committed has_job_out node_is_killed node_lives is_killed is_live was_told was_lost breaks_from breaks_of is_one_of anchored may_be_held
unretried_10 = record { own = record { event = Notice 1 2; now = refl; own = refl; lives = refl }; not_main = refl; once = refl; reason = inr (inl (inr refl)); cause = record { part = _; born = refl; function = codes "one"; args = []; depth = 1; retries = 0; others = 0; task = refl; begun = refl; places = 10 ∷ []; all = refl; broken = (omega arith, (0, refl), tt) } }

unretried_11 : Allowed unretried_setting (opening ++ take 11 unretried_rest) (Faulted main_attempt (object 1 1) (used_up (object 1 1)))
unfolding call_at same_id is_made_by same_attempt accepted_events under_way_from ends_with_in is_committed has_job_out node_is_killed node_lives is_killed is_live was_told was_lost breaks_from breaks_of is_one_of anchored may_be_held
unretried_11 = record { worker = 1; runs = refl; own = record { event = Notice 1 2; now = refl; own = refl; lives = refl }; needs = record { base = object 1 1; p = replay (calls_one 0) main_birth (object 1 1) []; replays = record { spec = main_birth; born = refl; ended = refl; faulted = refl; replayed = refl }; own = refl; prints = refl; stopped = refl }; reason = inl (0, refl); cause = record { part = _; born = refl; function = codes "one"; args = []; depth = 1; retries = 0; others = 0; task = refl; begun = refl; places = 10 ∷ []; all = refl; broken = (omega arith, (0, refl), tt) } }

unretried_12 : Allowed unretried_setting (opening ++ take 12 unretried_rest) (Released (object 1 1))
unfolding call_at same_id is_made_by same_attempt accepted_events under_way_from ends_with_in is_committed has_job_out node_is_killed node_lives is_killed is_live was_told was_lost breaks_from breaks_of is_one_of anchored may_be_held
unretried_12 = record { own = record { event = Notice 1 2; now = refl; own = refl; lives = refl }; once = refl; settled = inr (inl ((used_up (object 1 1)), (0, refl))); bearer = main_attempt; bore = (0, refl); over = inr (record { object = object 1 1; fault = used_up (object 1 1) }, (0, refl)); unheld = not_held refl }

unretried_8 : Answered unretried_setting (opening ++ take 8 unretried_rest) (In (Kill 2) 0) (drop 9 unretried_rest)
unfolding call_at same_id is_made_by same_attempt accepted_events under_way_from ends_with_in is_committed has_job_out node_is_killed node_lives is_killed is_live was_told was_lost breaks_from breaks_of is_one_of anchored may_be_held
unretried_8 = refl

pub unretried_is_legal : Legal unretried_setting unretried_log
unfolding call_at same_id is_made_by same_attempt accepted_events under_way_from ends_with_in is_committed has_job_out node_is_killed node_lives is_killed is_live was_told was_lost breaks_from breaks_of is_one_of anchored may_be_held
unretried_is_legal = record { rest = unretried_rest; begins = refl; each = (tt, unretried_0, (tt, unretried_1, (unretried_2, tt, (tt, (ToNode 1, refl), (unretried_4, tt, (tt, (ToWorker 1, refl), (unretried_6, tt, (tt, (ToWorker 2, refl), (tt, unretried_8, (tt, unretried_9, (unretried_10, tt, (unretried_11, tt, (unretried_12, tt, tt))))))))))))) }
