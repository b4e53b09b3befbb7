-- A script as a Python program.
use Rattle.std.specs.Prelude.{ℕ, List, ◌++◌}
use Rattle.std.specs.List.{flat_map}
use Rattle.meaning.specs.Syntax.{Script}
use Rattle.engine_text.specs.declared.dask.TheConstants.{DASK}
use Rattle.engine_text.specs.declared.ray.TheConstants.{RAY}
use Rattle.engine_text.specs.declared.language.TheConstants.{LANGUAGE, FOOT}
use Rattle.engine_text.specs.declared.program.Engine.{Engine}
use Rattle.engine_text.specs.declared.program.Engine.TheVariants.{Dask, Ray}
use Rattle.engine_text.specs.Functions.{function_text}

-- the calls of an engine; they stand in src, as does what the language's operations come to
abbrev pub calls_of : Engine → List ℕ
calls_of Dask = DASK.now
calls_of Ray = RAY.now

abbrev pub engine_text : Engine → Script → List ℕ
engine_text engine script = calls_of engine ++ (LANGUAGE.now ++ (flat_map function_text script ++ FOOT.now))
