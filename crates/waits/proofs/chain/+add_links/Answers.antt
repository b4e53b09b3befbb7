use Rattle.std.proofs.Common.{◌-◌, arith}
use Rattle.waits.proofs.Chains.{one_more}
use Rattle.waits.proofs.chain.+add_links.Goals as goal

pub returns : goal.returns
returns t c =
    one_more c.args.whole.now c.args.most (c.args.most - 1) c.args.link c.in-Some.link c.next_link.result c.args.links.now.items c.push.new.self.items
    c.add_links.new.links.items c.in-Some.is (omega (arith, c.if-most-eq0.false)) c.next_link.ensures c.in_ok-push.ensures.items c.in_ok-add_links.ensures
