-- A worker's step opens one worker at most.
use Rattle.std.proofs.Common.{◌≡◌, ◌≤◌, ℕ, ◌+◌, Option, Some, None, refl, arith}
use Rattle.protocol.specs.Commits.{claim_by, claim_step}
use Rattle.protocol.specs.Deliveries.{reached}
use Rattle.protocol.specs.Messages.{Message, Endpoint}
use Rattle.protocol.specs.Notices.{notice_node_step, notice_step}
use Rattle.protocol.specs.Steps.{WorkerContext}
use Rattle.protocol.specs.Tables.{Phase, Ready, Out, Waits, HasEnded, HasFaulted, Execution}
use Rattle.protocol.specs.Ticks.{tick_step}
use Rattle.step_laws.specs.Spending.{Spends, waits_in, waits_of}
use Rattle.step_laws.proofs.Hearing.{reached_spends}
use Rattle.step_laws.proofs.Notices.{notice_node_spends, notice_spends, tick_spends}

waits_most : (r : Option Execution) → waits_of r ≤ 1
waits_most None = omega arith
waits_most (Some run) = by_phase run.phase
  where
    by_phase : (p : Phase) → waits_in p ≤ 1
    by_phase (Waits y f) = omega arith
    by_phase Ready = omega arith
    by_phase (Out j) = omega arith
    by_phase (HasEnded c) = omega arith
    by_phase (HasFaulted f) = omega arith

one_at_most : (a b c d : ℕ) → a + b ≤ c + d → d ≤ 1 → a ≤ c + 1
one_at_most a b c d l m = omega (arith, l, m)

-- such a step opens one worker at most
pub spends_one : (h g : WorkerContext) → Spends h g → g.there.opened ≤ h.there.opened + 1
spends_one h g s = one_at_most g.there.opened (waits_of g.worker.run) h.there.opened (waits_of h.worker.run) s.least (waits_most h.worker.run)

claim_by_opens : (h : WorkerContext) (j : ℕ) (r : Option Execution) → (claim_by h j r).there.opened ≡ h.there.opened
claim_by_opens h j None = refl
claim_by_opens h j (Some run) = refl

no_more_than_one : (a b : ℕ) → a ≡ b → a ≤ b + 1
no_more_than_one a b e = omega (arith, e)

pub claim_opens : (h : WorkerContext) (j : ℕ) → (claim_step h j).there.opened ≤ h.there.opened + 1
claim_opens h j = no_more_than_one (claim_step h j).there.opened h.there.opened (claim_by_opens h j h.worker.run)

pub reached_opens : (h : WorkerContext) (from : Endpoint) (m : Message) → (reached h from m).there.opened ≤ h.there.opened + 1
reached_opens h from m = spends_one h (reached h from m) (reached_spends h from m)

pub tick_opens : (h : WorkerContext) → (tick_step h).there.opened ≤ h.there.opened + 1
tick_opens h = spends_one h (tick_step h) (tick_spends h)

pub notice_opens : (h : WorkerContext) (v : ℕ) → (notice_step h v).there.opened ≤ h.there.opened + 1
notice_opens h v = spends_one h (notice_step h v) (notice_spends h v)

pub notice_node_opens : (h : WorkerContext) (n : ℕ) → (notice_node_step h n).there.opened ≤ h.there.opened + 1
notice_node_opens h n = spends_one h (notice_node_step h n) (notice_node_spends h n)
