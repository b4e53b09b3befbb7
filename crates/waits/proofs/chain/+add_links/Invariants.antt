use Rattle.waits.proofs.chain.+add_links.Given as goal

abbrev pub decreases-add_links : goal.decreases-add_links
decreases-add_links l = l.most
