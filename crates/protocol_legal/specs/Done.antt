-- What comes back from a job is what the job's attempt does.
use Rattle.std.specs.Prelude.{◌≡◌, [], ◌++◌, ◌⊎◌}
use Rattle.kind_laws.specs.of_event_log.Entries.{main_attempt}
use Rattle.kind_laws.specs.of_event_log.Rules.{Setting}
use Rattle.meaning.specs.Meaning.{replay}
use Rattle.step_laws.specs.of_protocol.Jobs.{Outcomes, stop_of}
use Rattle.step_laws.specs.of_protocol.Tables.{Execution}

-- the outcomes go on as the attempt's replay on its answers does
abbrev pub IsTrue : Setting → Execution → Outcomes → Type 0
IsTrue s run d =
    replay s.script run.spec run.base run.answers ≡ record { births = run.births ++ d.births; prints = run.prints ++ d.prints; stop = stop_of d.stop }

pub record IsDone (s : Setting) (run : Execution) (d : Outcomes) : Type 0 where
  pub replayed : IsTrue s run d
  -- and only main prints
  pub of_main : (d.prints ≡ []) ⊎ (run.attempt ≡ main_attempt)
