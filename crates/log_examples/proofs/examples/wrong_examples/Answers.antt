use Rattle.log_examples.proofs.Wrong.{wrong_content_is_wrong, begun_again_is_wrong, accepted_twice_is_wrong, released_while_held_is_wrong, released_out_of_order_is_wrong, fault_without_cause_is_wrong, print_after_end_is_wrong, skipped_serial_is_wrong, end_of_the_dead_is_wrong, entry_of_a_refused_event_is_wrong, notice_of_the_living_is_wrong, half_a_commit_is_wrong, kill_of_nobody_is_wrong, delivery_of_nothing_is_wrong, opened_by_the_dead_is_wrong, lost_before_its_birth_is_wrong, used_up_too_soon_is_wrong, got_from_the_dead_is_wrong, main_resolved_is_wrong, main_accepted_is_wrong, given_out_twice_is_wrong, refused_for_nothing_is_wrong, refused_for_less_is_wrong, cause_comes_later_is_wrong, late_cause_is_none}
use Rattle.log_examples.proofs.examples.wrong_examples.Goals as goal

-- each log has an entry that lacks what it needs, which one proof each shows
pub returns-clause-wrong_content : goal.returns-clause-wrong_content
returns-clause-wrong_content c = wrong_content_is_wrong

pub returns-clause-begun_again : goal.returns-clause-begun_again
returns-clause-begun_again c = begun_again_is_wrong

pub returns-clause-accepted_twice : goal.returns-clause-accepted_twice
returns-clause-accepted_twice c = accepted_twice_is_wrong

pub returns-clause-released_while_held : goal.returns-clause-released_while_held
returns-clause-released_while_held c = released_while_held_is_wrong

pub returns-clause-fault_without_cause : goal.returns-clause-fault_without_cause
returns-clause-fault_without_cause c = fault_without_cause_is_wrong

pub returns-clause-print_after_end : goal.returns-clause-print_after_end
returns-clause-print_after_end c = print_after_end_is_wrong

pub returns-clause-skipped_serial : goal.returns-clause-skipped_serial
returns-clause-skipped_serial c = skipped_serial_is_wrong

pub returns-clause-end_of_the_dead : goal.returns-clause-end_of_the_dead
returns-clause-end_of_the_dead c = end_of_the_dead_is_wrong

pub returns-clause-entry_of_a_refused_event : goal.returns-clause-entry_of_a_refused_event
returns-clause-entry_of_a_refused_event c = entry_of_a_refused_event_is_wrong

pub returns-clause-notice_of_the_living : goal.returns-clause-notice_of_the_living
returns-clause-notice_of_the_living c = notice_of_the_living_is_wrong

pub returns-clause-half_a_commit : goal.returns-clause-half_a_commit
returns-clause-half_a_commit c = half_a_commit_is_wrong

pub returns-clause-released_out_of_order : goal.returns-clause-released_out_of_order
returns-clause-released_out_of_order c = released_out_of_order_is_wrong

pub returns-clause-kill_of_nobody : goal.returns-clause-kill_of_nobody
returns-clause-kill_of_nobody c = kill_of_nobody_is_wrong

pub returns-clause-delivery_of_nothing : goal.returns-clause-delivery_of_nothing
returns-clause-delivery_of_nothing c = delivery_of_nothing_is_wrong

pub returns-clause-opened_by_the_dead : goal.returns-clause-opened_by_the_dead
returns-clause-opened_by_the_dead c = opened_by_the_dead_is_wrong

pub returns-clause-lost_before_its_birth : goal.returns-clause-lost_before_its_birth
returns-clause-lost_before_its_birth c = lost_before_its_birth_is_wrong

pub returns-clause-used_up_too_soon : goal.returns-clause-used_up_too_soon
returns-clause-used_up_too_soon c = used_up_too_soon_is_wrong

pub returns-clause-got_from_the_dead : goal.returns-clause-got_from_the_dead
returns-clause-got_from_the_dead c = got_from_the_dead_is_wrong

pub returns-clause-main_resolved : goal.returns-clause-main_resolved
returns-clause-main_resolved c = main_resolved_is_wrong

pub returns-clause-main_accepted : goal.returns-clause-main_accepted
returns-clause-main_accepted c = main_accepted_is_wrong

pub returns-clause-given_out_twice : goal.returns-clause-given_out_twice
returns-clause-given_out_twice c = given_out_twice_is_wrong

pub returns-clause-refused_for_nothing : goal.returns-clause-refused_for_nothing
returns-clause-refused_for_nothing c = refused_for_nothing_is_wrong

pub returns-clause-refused_for_less : goal.returns-clause-refused_for_less
returns-clause-refused_for_less c = refused_for_less_is_wrong

pub returns-clause-cause_comes_later : goal.returns-clause-cause_comes_later
returns-clause-cause_comes_later c = cause_comes_later_is_wrong

pub returns-clause-late_cause : goal.returns-clause-late_cause
returns-clause-late_cause c = late_cause_is_none
