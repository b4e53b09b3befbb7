-- An event is answered as the log shows.
use Rattle.std.proofs.Common.{◌≡◌, ℕ, true, false, [], inl, inr, Option, Some, None, sym, ap, ◌∙◌, subst}
use Rattle.meaning.specs.Syntax.{Script}
use Rattle.event_log.specs.Causes.{shown}
use Rattle.event_log.specs.Entries.{Event}
use Rattle.segment.specs.Jobs.{Done}
use Rattle.protocol.specs.Answers.{Answer, Refuses, Takes, answer}
use Rattle.protocol.specs.Jobs.{Job}
use Rattle.protocol.specs.Refusals.{is_of_job}
use Rattle.protocol_laws.specs.Shown.{IsAsShown, RefusalsAreAsShown, refusal_of}
use Rattle.protocol_core.specs.States.{IsSoundRun, RunState, beside}
use Rattle.protocol_core.specs.Steps.{AnswersAsShown, Follows, GivesThat, Reply, Tells, refusal_in}

told_refusal : (a : Answer) (told : Reply) → Tells a told → refusal_of a ≡ refusal_in told
told_refusal (Takes s) told h = go s.given h
  where
    go : (o : Option Job) → GivesThat o told → None ≡ refusal_in told
    go None k = sym (ap refusal_in k)
    go (Some job) k = sym (ap refusal_in k)
told_refusal (Refuses refusal) told h = sym (ap refusal_in h)

true_false : true ≡ false → ⊥
true_false e = cc

pub as_shown : (script : Script) (before after : RunState) (e : Event) (seat : ℕ) (work : Option Done) (told : Reply) → RefusalsAreAsShown → IsSoundRun script before →
    (before.is_halted ≡ false → Follows before e seat work after told) → AnswersAsShown script before e work after told
as_shown script before after e seat work told law kept follows goes on = elim (follows goes) [
  | inl r ↦ absurd (true_false (sym r.halted ∙ on))
  | inr a ↦ (
    a.0,
    a.1,
    subst (IsAsShown e (shown (beside script before.first_nodes before.whole.network) before.log (is_of_job a.0) e)) (told_refusal (answer before.whole e a.0) told a.2.told_so)
        (law (beside script before.first_nodes []) before.log before.whole (kept.sound goes) e a.0),
  )
]
