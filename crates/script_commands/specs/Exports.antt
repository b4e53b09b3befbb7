-- What `export` writes: the script's program for the engine, or a beginning of it.
use Rattle.std.specs.Prelude.{◌≡◌, ◌⊎◌, ℕ, List, Option, take}
use Rattle.std.specs.Io.KnownBytes.{Appends}
use Rattle.meaning.specs.Syntax.{Script}
use Rattle.engine_text.specs.declared.program.Engine.{Engine}
use Rattle.engine_text.specs.Program.{engine_text}
use Rattle.script_commands.specs.Scripts.{IsScript}

-- the text is a script, and its program was written
abbrev pub IsExported : Engine → List ℕ → Option (List ℕ) → Option (List ℕ) → Type 0
IsExported engine text before after =
    (script : Script) × IsScript text script × Appends before after (engine_text engine script)

-- nothing was written, or the text is a script, and a beginning of its program was written
abbrev pub IsBegunExport : Engine → List ℕ → Option (List ℕ) → Option (List ℕ) → Type 0
IsBegunExport engine text before after =
    (after ≡ before)
    ⊎ ((script : Script) × (k : ℕ) × IsScript text script × Appends before after (take k (engine_text engine script)))
