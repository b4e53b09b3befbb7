use Rattle.std.proofs.Common.{◌∙◌, ◌++◌, ap, Some}
use Rattle.waits.specs.Links.{chain, links}
use Rattle.waits.proofs.chain.links.Goals as goal

pub returns : goal.returns
unfolding links
returns c =
    c.in_ok-add_links.ensures ∙ ap (λ xs. xs ++ chain c.args.whole.now 4096 (Some c.worker_link-first.result)) c.new-found.ensures.items
    ∙ ap (λ l. chain c.args.whole.now 4096 (Some l)) c.worker_link-first.ensures
