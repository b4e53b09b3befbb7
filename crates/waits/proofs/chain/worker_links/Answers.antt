use Rattle.std.proofs.Common.{◌∙◌, ◌++◌, ap, Some}
use Rattle.waits.specs.Links.{chain, worker_links}
use Rattle.waits.proofs.chain.worker_links.Goals as goal

pub returns : goal.returns
unfolding worker_links
returns c =
    c.in_ok-add_links.ensures ∙ ap (λ xs. xs ++ chain c.args.whole.now 4096 (Some c.worker_link-first.result)) c.new-found.ensures.items
    ∙ ap (λ l. chain c.args.whole.now 4096 (Some l)) c.worker_link-first.ensures
