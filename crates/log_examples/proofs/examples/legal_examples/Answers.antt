use Rattle.log_examples.proofs.SquareLog.{square_is_legal}
use Rattle.log_examples.proofs.TrapLog.{trap_is_legal}
use Rattle.log_examples.proofs.PassingLog.{passing_is_legal}
use Rattle.log_examples.proofs.UnretriedLog.{unretried_is_legal}
use Rattle.log_examples.proofs.RetriedLog.{retried_is_legal}
use Rattle.log_examples.proofs.PutLostLog.{put_lost_is_legal}
use Rattle.log_examples.proofs.OwnerDiedLog.{owner_died_is_legal}
use Rattle.log_examples.proofs.ReleasingLog.{releasing_is_legal}
use Rattle.log_examples.proofs.examples.legal_examples.Goals as goal

pub returns-clause-square : goal.returns-clause-square
returns-clause-square c = square_is_legal

pub returns-clause-trap_not_got : goal.returns-clause-trap_not_got
returns-clause-trap_not_got c = trap_is_legal

pub returns-clause-reference_passed : goal.returns-clause-reference_passed
returns-clause-reference_passed c = passing_is_legal

pub returns-clause-not_run_again : goal.returns-clause-not_run_again
returns-clause-not_run_again c = unretried_is_legal

pub returns-clause-run_again : goal.returns-clause-run_again
returns-clause-run_again c = retried_is_legal

pub returns-clause-put_lost : goal.returns-clause-put_lost
returns-clause-put_lost c = put_lost_is_legal

pub returns-clause-owner_died : goal.returns-clause-owner_died
returns-clause-owner_died c = owner_died_is_legal

pub returns-clause-all_released : goal.returns-clause-all_released
returns-clause-all_released c = releasing_is_legal
