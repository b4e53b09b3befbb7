-- A worked log in which all objects are released, written from the rules.
use Rattle.std.specs.Prelude.{List, [], ◌∷◌, ◌++◌}
use Rattle.meaning.specs.Examples.{value, object, reference_passed}
use Rattle.event_log.specs.Entries.{Claim, Commit, Deliver, Entry, In, Got, Ended, Accepted, Released, main_attempt}
use Rattle.event_log.specs.Rules.{Setting}
use Rattle.event_log.specs.Legal.{opening}
use Rattle.log_examples.specs.Logs.{beside, node, worker, first_of, passing_rest}

-- the reference that is passed on, until all is over
abbrev pub releasing_setting : Setting
releasing_setting = beside reference_passed
    (node ∷ worker 1 ∷ worker 2 ∷ worker 1 ∷ node ∷ worker 2 ∷ worker 3 ∷ worker 1 ∷ worker 3 ∷ worker 2 ∷ worker 3
    ∷ worker 2 ∷ worker 2 ∷ worker 1 ∷ worker 1 ∷ node ∷ worker 2 ∷ node ∷ worker 2 ∷ node ∷ node ∷ node ∷ [])

abbrev pub further_rest : List Entry
further_rest =
    In (Deliver 4) 0
    ∷ In (Deliver 4) 0
    -- the holding is acknowledged, and so the attempt that passed the reference on is over
    ∷ In (Deliver 12) 0
    ∷ Released (object 2 1)
    ∷ In (Deliver 15) 0
    ∷ In (Deliver 4) 0
    ∷ In (Deliver 11) 0
    ∷ In (Deliver 13) 0
    ∷ In (Deliver 14) 0
    ∷ Accepted (first_of (object 1 2))
    ∷ Got main_attempt (object 1 2) (value 0)
    ∷ In (Deliver 16) 0
    ∷ In (Deliver 17) 0
    ∷ In (Deliver 18) 0
    ∷ In (Deliver 19) 0
    ∷ In (Deliver 20) 0
    ∷ In (Claim 1) 0
    ∷ In (Commit 5) 0
    ∷ Ended main_attempt (value 0 ∷ [])
    ∷ Released (object 1 2)
    ∷ Released (object 1 1)
    ∷ In (Deliver 21) 0
    ∷ In (Deliver 22) 0
    ∷ []

abbrev pub releasing_rest : List Entry
releasing_rest = passing_rest ++ further_rest

abbrev pub releasing_log : List Entry
releasing_log = opening ++ releasing_rest
