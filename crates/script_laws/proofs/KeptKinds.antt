-- A replay whose answers begin the serial run's keeps kinds.
use Rattle.std.proofs.Common.{List, [], ◌∷◌, map, sym, subst}
use Rattle.meaning.specs.Values.{Argument, Birth, Put, Task, results_of}
use Rattle.meaning.specs.Syntax.{Kind, Script, Parameter}
use Rattle.meaning.specs.Meaning.{run_birth}
use Rattle.meaning.specs.Kinds.{ScriptChecks, MarkedOf, argument_kind, IsBirthOf, IsSafe}
use Rattle.meaning.specs.KindLaw.{LawOfKinds}
use Rattle.meaning.specs.Readings.{Reading, read_argument, read_birth}
use Rattle.script_laws.proofs.Safety.{run_is_safe}
use Rattle.script_laws.proofs.Replay.{births_follow, of_read}

-- what makes objects of the kinds is safe
birth_is_safe : (script : Script) → ScriptChecks script script → (b : Birth) (us : List Kind) → IsBirthOf script b us → IsSafe script (run_birth script b) us
birth_is_safe script checks (Put v) us h = h
birth_is_safe script checks (Task g args depth retries others) us h =
    subst (λ t. IsSafe script (run_birth script (Task g args depth retries others)) t) (sym h.3) (run_is_safe script checks g h.0 args depth h.1 h.2)

marked_read : (script : Script) (reading : Reading) (args : List Argument) (ps : List Parameter) → MarkedOf (map (read_argument reading) args) ps → MarkedOf args ps
marked_read script reading [] [] h = tt
marked_read script reading [] (p ∷ ps) h = h
marked_read script reading (a ∷ args) [] h = h
marked_read script reading (a ∷ args) (p ∷ ps) h =
    (of_read script reading 0 a.value (argument_kind a.marked p.kind) h.0, marked_read script reading args ps h.1)

pub birth_read : (script : Script) (reading : Reading) (b : Birth) (us : List Kind) → IsBirthOf script (read_birth reading b) us → IsBirthOf script b us
birth_read script reading (Put v) [] h = absurd h
birth_read script reading (Put v) (u ∷ []) h = (of_read script reading 0 v u h.0, tt)
birth_read script reading (Put v) (u ∷ w ∷ us) h = absurd h.1
birth_read script reading (Task g args depth retries others) us h = (h.0, h.1, marked_read script reading args h.0.parameters h.2, h.3, h.4)

pub law_of_kinds : LawOfKinds
law_of_kinds script checks reading spec us base answers h begins =
    let safe = birth_is_safe script checks (read_birth reading spec) us h in
    let follows = births_follow script reading (results_of spec) spec in
    record {
      bears = λ bs b first holds. follows.kinds us base answers bs b first holds begins safe;
      keeps = λ holds. record {
        own = birth_read script reading spec us h;
        fit = follows.fits us base answers holds begins safe;
        more = λ r c e f. follows.more_fit us base answers r c holds begins safe e f;
      };
    }
