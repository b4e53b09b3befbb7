-- A job never breaks.
use Rattle.std.proofs.Common.{suc, List, [], ◌∷◌, inl, inr, subst}
use Rattle.meaning.specs.Values as meant
use Rattle.meaning.specs.Syntax.{Kind, results, Script}
use Rattle.meaning.specs.Runs.{Stop, Needs, Over, piece}
use Rattle.meaning.specs.Meaning.{run_birth, run_task, replay}
use Rattle.meaning.specs.Kinds.{AreSafe, ScriptChecks, AnswersFit, StopIsSound, EachEndsIn, EndsIn}
use Rattle.evaluation.specs.Pieces.{HasBroken, IsBrokenStop}
use Rattle.segment.specs.Jobs.{JobParts, IsTaskOf, IsBegun, replay_of}

-- what ends in the kinds of results isn't broken
none_broken : (cs : List meant.Outcome) (ts : List Kind) → EachEndsIn cs ts → HasBroken cs → ⊥
none_broken [] ts h b = b
none_broken (c ∷ cs) [] h b = h
none_broken (c ∷ cs) (t ∷ ts) h (inl is) = let P : meant.Outcome → Type 0 = λ o. EndsIn o t in subst P is h.0
none_broken (c ∷ cs) (t ∷ ts) h (inr b) = none_broken cs ts h.1 b

sound_unbroken : (s : Stop) (ts : List Kind) → StopIsSound s ts → IsBrokenStop s → ⊥
sound_unbroken (Needs r) ts h b = b
sound_unbroken (Over cs) ts h b = none_broken cs ts h b

task_never_broken : AreSafe → (script : Script) → ScriptChecks script script →
    (spec : meant.Birth) (base : meant.Id) (answers : List meant.Outcome) → IsTaskOf script spec → AnswersFit (run_birth script spec) base answers →
    IsBrokenStop (replay script spec base answers).stop → ⊥
task_never_broken safe script checks (meant.Put v) base answers t fit b = absurd t
task_never_broken safe script checks (meant.Task g args depth retries others) base answers t fit b =
    let f = t.0 in
    let sound = safe script checks g f args depth base answers t.1 t.2 fit in
    let stop : StopIsSound (replay script (meant.Task g args depth retries others) base answers).stop (results f) =
    subst (λ n. StopIsSound (piece (suc n) (run_task script g args depth) base answers).stop (results f)) t.3 sound.stop in
    sound_unbroken (replay script (meant.Task g args depth retries others) base answers).stop (results f) stop b

pub never_broken : AreSafe → (script : Script) → ScriptChecks script script → (j : JobParts) → IsBegun script j →
    IsBrokenStop (replay_of script j).stop → ⊥
never_broken safe script checks j begun b = task_never_broken safe script checks j.spec j.base j.answers begun.task begun.answers b
