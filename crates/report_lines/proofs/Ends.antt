-- Main's end is the first content of its ends.
use Rattle.std.proofs.Common.{◌≡◌, Bool, true, false, if◌then◌else◌, List, [], ◌∷◌, ◌++◌, take, refl, ap}
use Rattle.std.specs.List.{flat_map}
use Rattle.meaning.specs.Values.{Outcome}
use Rattle.event_log.specs.Entries.{Entry, In, Refused, Opened, Begun, Born, Got, Printed, Ended, Accepted, Faulted, Resolved, Released, main_attempt}
use Rattle.event_log.specs.Words.{same_attempt, ends_of}
use Rattle.report_lines.specs.Main.{main_ends_in}

ends_more : (t : Bool) (cs mains : List Outcome) (ends : List (List Outcome)) → mains ≡ flat_map (take 1) ends →
    (if t then take 1 cs else []) ++ mains ≡ flat_map (take 1) ((if t then cs ∷ [] else []) ++ ends)
ends_more true cs mains ends h = ap (λ rest. take 1 cs ++ rest) h
ends_more false cs mains ends h = h

pub main_ends_are : (log : List Entry) → flat_map main_ends_in log ≡ flat_map (take 1) (ends_of main_attempt log)
main_ends_are [] = refl
main_ends_are (In e seat ∷ log) = main_ends_are log
main_ends_are (Refused r ∷ log) = main_ends_are log
main_ends_are (Opened w n ∷ log) = main_ends_are log
main_ends_are (Begun a w ∷ log) = main_ends_are log
main_ends_are (Born o a b ∷ log) = main_ends_are log
main_ends_are (Got a y c ∷ log) = main_ends_are log
main_ends_are (Printed v ∷ log) = main_ends_are log
main_ends_are (Ended a cs ∷ log) = ends_more (same_attempt a main_attempt) cs (flat_map main_ends_in log) (ends_of main_attempt log) (main_ends_are log)
main_ends_are (Accepted a ∷ log) = main_ends_are log
main_ends_are (Faulted a y f ∷ log) = main_ends_are log
main_ends_are (Resolved o f ∷ log) = main_ends_are log
main_ends_are (Released o ∷ log) = main_ends_are log
