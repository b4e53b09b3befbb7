use Rattle.std.proofs.Common.{rules, subst, sym}
use Rattle.protocol_core.specs.Steps.{reply_of}
use Rattle.protocol_board.specs.Own.{JobsAreOwn}
use Rattle.protocol_board.proofs.Playing.{gives_so}
use Rattle.protocol_board.proofs.Own.{all_behind, all_handed, done_own, job_agrees, own_job, own_with}
use Rattle.protocol_board.proofs.replay.Replay.apply.Goals as goal

-- a frame that is kept for the job's attempt has answers that agree with the job's
pub run_job-requires-clause-own : goal.run_job-requires-clause-own
run_job-requires-clause-own g c =
    let log = c.self.inside.board.log in
    let own = own_job log c.args.event c.self.inside.jobs c.hand_in-job.result c.self.invariant.0 c.hand_in-job.ensures.job in
    job_agrees log c.hand_in-job.result c.self.inside.frames c.self.invariant.1 own

pub invariant_of-self : goal.invariant_of-self
invariant_of-self g c =
    all_handed c.self.inside.board.log c.args.event c.self.inside.jobs c.hand_in-job.new.jobs c.hand_in-job.result c.self.inside.frames c.run_job.new.frames
    c.self.invariant.0 c.self.invariant.1 c.hand_in-job.ensures.job c.hand_in-job.ensures.rest c.run_job.ensures.kept

pub apply_own-told-requires : goal.apply_own-told-requires
apply_own-told-requires g c =
    let log = c.self.inside.board.log in
    let own = own_job log c.args.event c.self.inside.jobs c.hand_in-job.result c.self.invariant.0 c.hand_in-job.ensures.job in
    done_own log g.S.ScriptName.script c.hand_in-job.result c.in_ok-done.done own c.in_ok-done.ensures.done

pub invariant_of-self-in_err-keep : goal.invariant_of-self-in_err-keep
invariant_of-self-in_err-keep g c =
    let handed = all_handed c.self.inside.board.log c.args.event c.self.inside.jobs c.hand_in-job.new.jobs c.hand_in-job.result c.self.inside.frames
    c.run_job.new.frames c.self.invariant.0 c.self.invariant.1 c.hand_in-job.ensures.job c.hand_in-job.ensures.rest c.run_job.ensures.kept in
    let after = c.apply_own-told.new.self in
    let all = all_behind c.self.inside.board after c.hand_in-job.new.jobs c.run_job.new.frames c.apply_own-told.ensures.answers handed in
    (subst (JobsAreOwn after.log) (sym c.in_err-keep.ensures.same) all.0, all.1)

pub invariant_of-self-2 : goal.invariant_of-self-2
invariant_of-self-2 g c =
    let handed = all_handed c.self.inside.board.log c.args.event c.self.inside.jobs c.hand_in-job.new.jobs c.hand_in-job.result c.self.inside.frames
    c.run_job.new.frames c.self.invariant.0 c.self.invariant.1 c.hand_in-job.ensures.job c.hand_in-job.ensures.rest c.run_job.ensures.kept in
    let after = c.apply_own-told.new.self in
    let all = all_behind c.self.inside.board after c.hand_in-job.new.jobs c.run_job.new.frames c.apply_own-told.ensures.answers handed in
    let jobs = own_with after.log (reply_of c.apply_own-told.result) c.hand_in-job.new.jobs all.0 c.apply_own-told.ensures.own in
    (subst (JobsAreOwn after.log) (sym c.in_ok-keep.ensures.jobs) jobs, all.1)

pub returns-clause-gives : goal.returns-clause-gives
returns-clause-gives g c =
    gives_so g.S.ScriptName.script c.args.self.now c.note.new.self c.args.event c.args.seat c.in_ok-done.done
    (reply_of c.apply_own-told.result) c.given_by-given.result
    (search rules) (search rules) (search rules) (search rules) (search rules) (search rules) (search rules) (search rules) (search rules) (search rules)
