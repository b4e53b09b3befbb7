use Rattle.std.proofs.Common.{sym, ap, ◌∙◌}
use Rattle.std.specs.Prelude.{◌==◌, ◌&&◌}
use Rattle.std.specs.List.{list_any}
use Rattle.event_log.specs.Words.{same_attempt}
use Rattle.protocol_data.proofs.Leasing.{latest_at, no_latest}
use Rattle.protocol_data.proofs.leases.Leases.is_latest.Goals as goal

pub returns-in_default : goal.returns-in_default
returns-in_default c =
    no_latest _ c.args.worker c.args.attempt (sym c.in_default.ensures) ∙ ap (list_any (λ l. (l.worker == c.args.worker) && same_attempt l.attempt
    c.args.attempt)) c.self.view_is

pub returns : goal.returns
returns c =
    c.is.ensures ∙ latest_at _ c.args.worker c.args.attempt _ c.self.invariant.0 (sym c.in-Some.ensures)
    ∙ ap (list_any (λ l. (l.worker == c.args.worker) && same_attempt l.attempt c.args.attempt)) c.self.view_is
