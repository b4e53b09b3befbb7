use Rattle.std.proofs.Common.{◌≡◌, IfOk, OnOk, sym, subst}
use Rattle.step_laws.specs.Limits.{entries_limited, whole_limited}
use Rattle.protocol.specs.Events.{happens}
use Rattle.cluster_events.specs.Told.{if_taken}
use Rattle.cluster_events.proofs.happening.try_event.Goals as goal

pub returns-in-Notice-clause-whole : goal.returns-in-Notice-clause-whole
returns-in-Notice-clause-whole c =
    let t = c.notice in
    subst (λ e. OnOk t.result (t.new.whole ≡ whole_limited c.args.whole.now (happens c.args.whole.now e c.args.handed.now))) (sym c.in-Notice.is)
    t.ensures.whole

pub returns-in-Notice-clause-entries : goal.returns-in-Notice-clause-entries
returns-in-Notice-clause-entries c =
    let t = c.notice in
    subst (λ e. IfOk t.result (λ taken. if_taken taken t.new.here.there.out.entries ≡ entries_limited (happens c.args.whole.now e c.args.handed.now))) (sym c.in-Notice.is) t.ensures.entries

pub returns-in-NoticeNode-clause-whole : goal.returns-in-NoticeNode-clause-whole
returns-in-NoticeNode-clause-whole c =
    let t = c.notice_node in
    subst (λ e. OnOk t.result (t.new.whole ≡ whole_limited c.args.whole.now (happens c.args.whole.now e c.args.handed.now))) (sym c.in-NoticeNode.is)
    t.ensures.whole

pub returns-in-NoticeNode-clause-entries : goal.returns-in-NoticeNode-clause-entries
returns-in-NoticeNode-clause-entries c =
    let t = c.notice_node in
    subst (λ e. IfOk t.result (λ taken. if_taken taken t.new.here.there.out.entries ≡ entries_limited (happens c.args.whole.now e c.args.handed.now))) (sym c.in-NoticeNode.is)
    t.ensures.entries
