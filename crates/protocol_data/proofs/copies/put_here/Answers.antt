use Rattle.std.proofs.Common.{subst, sym}
use Rattle.protocol_data.specs.Shelves.{AreWithin}
use Rattle.protocol_data.proofs.Shelving.{within_more, within_push}
use Rattle.protocol_data.proofs.copies.put_here.Goals as goal

pub returns-in_err-push-clause-within : goal.returns-in_err-push-clause-within
returns-in_err-push-clause-within c =
    λ w. subst (λ ys. AreWithin c.widened-shelf.result ys) (sym c.in_err-push.ensures.err)
    (within_more c.args.shelf.now.span c.widened-shelf.result c.args.shelf.now.rows c.widened-shelf.ensures.kept w)

pub returns-clause-within : goal.returns-clause-within
returns-clause-within c =
    λ w. subst (λ ys. AreWithin c.widened-shelf.result ys) (sym c.in_ok-push.ensures.ok)
    (within_push c.widened-shelf.result c.args.shelf.now.rows c.args.copy
    (within_more c.args.shelf.now.span c.widened-shelf.result c.args.shelf.now.rows c.widened-shelf.ensures.kept w) c.widened-shelf.ensures.has)
