-- What a worker releases at the end of its event isn't held where it is released.
use Rattle.std.proofs.Common.{ℕ, zero, suc, ◌+◌, Bool, true, false, List, length}
use Rattle.std.specs.Prelude.{◌==◌}
use Rattle.event_log.specs.Rules.{Setting}
use Rattle.event_log.specs.Entries.{Released}
use Rattle.step_laws.specs.of_protocol.Steps.{WorkerContext, each_from, own_object}
use Rattle.step_laws.specs.of_protocol.Releases.{releases_by, release_pass, entries_made, release_passes, release_step}
use Rattle.holding.specs.Past.{Fact}
use Rattle.holding_steps.specs.Clauses.{During, HereTrue, Goes}
use Rattle.holding_steps.specs.Landing.{Lands, NoneGoesHeld}
use Rattle.holding_steps.proofs.Releasing.{releases_by_goes, releases_by_unheld, release_pass_goes}

module _ (d : During) where
  abbrev Unheld : WorkerContext → Type 0
  Unheld h = NoneGoesHeld d h.there.out.entries

  each_unheld : (n : ℕ) (past : List Fact) (h : WorkerContext) (k : ℕ) → HereTrue d past h → Unheld h → Unheld (each_from (λ g i. releases_by g i (own_object g i)) h k n)
  each_unheld zero past h k t u = u
  each_unheld (suc n) past h k t u =
      let a : Goes d past h.me (releases_by h k (own_object h k)) = releases_by_goes d past h k t in
      each_unheld n a.later (releases_by h k (own_object h k)) (k + 1) a.kept (releases_by_unheld d past h k t u)

  passes_unheld : (n : ℕ) (b : Bool) (past : List Fact) (h : WorkerContext) → HereTrue d past h → Unheld h → Unheld (release_passes b n h)
  passes_unheld n true past h t u = u
  passes_unheld zero false past h t u = u
  passes_unheld (suc n) false past h t u =
      let a : Goes d past h.me (release_pass h) = release_pass_goes d past h t in
      passes_unheld n (entries_made (release_pass h) == entries_made h) a.later (release_pass h) a.kept (each_unheld (length h.worker.objects) past h 1 t u)

pub release_step_unheld : (d : During) (s : Setting) (past : List Fact) (h : WorkerContext) → HereTrue d past h → Lands d s h.there.out.entries → NoneGoesHeld d (release_step h).there.out.entries
release_step_unheld d s past h t l = passes_unheld d (length h.worker.objects + 1) false past h t (λ front back o e. (l front back (Released o) e).1.unheld)
