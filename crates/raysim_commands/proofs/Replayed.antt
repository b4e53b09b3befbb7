-- The history of a run on threads replays to it, where it is over.
use Rattle.std.proofs.Common.{◌≡◌, ◌≤◌, ℕ, false, List, refl, subst}
use Rattle.meaning.specs.Syntax.{Script}
use Rattle.script_check.specs.Scripts.{IsWellTyped}
use Rattle.event_files.specs.declared.plan.PlanLine.{PlanLine}
use Rattle.event_files.specs.LogHistory.{recorded_in}
use Rattle.run_commands.specs.of_protocol_board.Cores.{RunState, Size}
use Rattle.replay_laws.specs.Replaying.{CameSo, IsFirst, RunsReplay, RunsReplayToThemselves}
use Rattle.replay_laws.specs.of_seats.Ends.{IsAtLimit, IsEnd, IsOver}
use Rattle.replay_laws.specs.of_seats.declared.end.Ended.{Ended}
use Rattle.replay_laws.specs.of_seats.declared.end.Ended.TheVariants as ends
use Rattle.replay_laws.specs.of_seats.Held.{AreOutside}
use Rattle.replay_laws.specs.of_seats.Seated.{AreFrom}
use Rattle.run_commands.specs.declared.form.Form.{Form}
use Rattle.run_commands.specs.SimReports.{first_play}
use Rattle.raysim_commands.specs.ThreadReports.{AreOutputs, IsRunOn, MayBeReplayed, ReplaysTo}
use Rattle.raysim_commands.proofs.Seated.{few_seats}

replays_so : RunsReplay → RunsReplayToThemselves → (script : Script) → IsWellTyped script → (plan : List PlanLine) (size : Size) → 1 ≤ size.nodes → (run : RunState) →
    AreOutside plan → IsOver script plan size run → MayBeReplayed (recorded_in run.log) → ReplaysTo script size run
replays_so replays same script typed plan size some run outside over few =
    let so : CameSo script size.nodes size.slots run = record { some = some; comes = over.came; once = over.once refl outside } in
    let begins : IsFirst size.nodes size.slots (first_play size) = record { run = refl; jobs = refl; applied = refl } in
    let k = replays script typed.main_apart size.nodes size.slots run so over.goes_on run.log refl few (first_play size) begins in
    record {
      again = k.0;
      replays = k.1;
      same = λ other p. same script typed.main_apart size.nodes size.slots run so over.goes_on run.log refl few (first_play size) other begins p;
    }

pub run_on_so : RunsReplay → RunsReplayToThemselves → (script checked : Script) → checked ≡ script → IsWellTyped checked → (plan : List PlanLine) (size : Size)
    (threads : ℕ) (form : Form) (run : RunState) (report history : List ℕ) (status : ℕ) → 1 ≤ size.nodes → threads ≤ 8 → AreOutside plan →
    IsOver script plan size run → AreFrom threads run.log → AreOutputs script run form report history status → IsRunOn script plan size threads form report history status
run_on_so replays same script checked own typed plan size threads form run report history status some few outside over seated outputs = record {
  run = run;
  over = over;
  seated = seated;
  is_file = outputs.reads (few_seats threads run.log few seated);
  replays = replays_so replays same script (subst IsWellTyped own typed) plan size some run outside over;
  outputs = outputs;
}

-- a run on threads that is over, by how it ended
pub over_so : {X : Type 0} (script : Script) (n : ℕ) (plan : List PlanLine) (first size : Size) (end : Ended X) (board : RunState) → first ≡ size →
    end ≡ ends.Over board → IsEnd script n plan first end → IsOver script plan size board × AreFrom n board.log
over_so script n plan first size end board same is h =
    let k = subst (λ e. IsEnd script n plan first e) is h in
    (subst (λ z. IsOver script plan z board) same k.0, k.1)

-- and one that is at a limit
pub at_limit_so : {X : Type 0} (script : Script) (n : ℕ) (plan : List PlanLine) (first size : Size) (end : Ended X) (board : RunState) → first ≡ size →
    end ≡ ends.AtLimit board → IsEnd script n plan first end → IsAtLimit script false plan size board × AreFrom n board.log
at_limit_so script n plan first size end board same is h =
    let k = subst (λ e. IsEnd script n plan first e) is h in
    (subst (λ z. IsAtLimit script false plan z board) same k.0, k.1)
