-- Logs of runs in which each job was handed in once, and of such in which each was handed in.
use Rattle.std.specs.Prelude.{◌≡◌, ◌≤◌, ◌||◌, ◌&&◌, ◌==◌, ◌++◌, ℕ, Bool, true, false, not, List, [], ◌∷◌, length}
use Rattle.event_log.specs.Entries.{Claim, Commit, Entry, In, Kill, Refused}
use Rattle.event_log.specs.Entries.{NoJob, Stale}
use Rattle.event_log.specs.Events.{claims}

-- an event of the log is a commit of the job, accepted or refused
abbrev pub has_commit : ℕ → List Entry → Bool
has_commit j [] = false
has_commit j (In (Commit i) seat ∷ rest) = (i == j) || has_commit j rest
has_commit j (x ∷ rest) = has_commit j rest

-- by the log alone: what is handed in is of the job that it is handed in for, and once
pub record HandsInOnce (log : List Entry) : Type 0 where
  -- no commit is refused as one of a job that isn't out
  pub out : (before after : List Entry) (j seat : ℕ) → log ≡ before ++ In (Commit j) seat ∷ Refused NoJob ∷ after → ⊥
  -- and none comes behind another commit of its job
  pub once : (before after : List Entry) (j seat : ℕ) → log ≡ before ++ In (Commit j) seat ∷ after → has_commit j before ≡ false

-- ---- that each was handed in

-- what comes next is no refusal, or the one that tells that the job's worker is dead
abbrev pub takes_done : List Entry → Bool
takes_done (Refused Stale ∷ rest) = true
takes_done (Refused code ∷ rest) = false
takes_done es = true

-- what was done on the job was handed in: its commit was accepted, or refused since its worker is dead
abbrev pub is_handed_in : ℕ → List Entry → Bool
is_handed_in j [] = false
is_handed_in j (In (Commit i) seat ∷ rest) = ((i == j) && takes_done rest) || is_handed_in j rest
is_handed_in j (x ∷ rest) = is_handed_in j rest

-- each job that was given out was handed in; accepted claims, counted from 1, give out the jobs of these numbers
abbrev pub AllHandedIn : List Entry → Type 0
AllHandedIn log = (j : ℕ) → 1 ≤ j → j ≤ length (claims log) → is_handed_in j log ≡ true

-- ---- that each was handed in once, as a test

-- what comes next is the refusal of a commit as one of a job that isn't out
abbrev pub refused_unknown : List Entry → Bool
refused_unknown (Refused NoJob ∷ rest) = true
refused_unknown es = false

abbrev pub hands_in_once : List Entry → Bool
hands_in_once [] = true
hands_in_once (In (Commit j) seat ∷ rest) = not (has_commit j rest) && not (refused_unknown rest) && hands_in_once rest
hands_in_once (x ∷ rest) = hands_in_once rest

-- where the test is passed, and only there, each job was handed in once
pub record IsTested : Type 0 where
  pub once : (log : List Entry) → hands_in_once log ≡ true → HandsInOnce log
  pub passed : (log : List Entry) → HandsInOnce log → hands_in_once log ≡ true

-- two jobs, of which the second's worker dies before it is done
abbrev pub two_given : List Entry
two_given = In (Claim 1) 1 ∷ In (Claim 2) 2 ∷ In (Commit 1) 1 ∷ In (Kill 2) 0 ∷ []

-- two jobs, each handed in once, the second when its worker was dead; a job that is handed in twice; and one that isn't out
pub record Examples : Type 0 where
  pub once : HandsInOnce (In (Claim 1) 1 ∷ In (Claim 2) 2 ∷ In (Commit 1) 1 ∷ In (Kill 2) 0 ∷ In (Commit 2) 2 ∷ Refused Stale ∷ [])
  pub twice : HandsInOnce (In (Claim 2) 2 ∷ In (Kill 2) 0 ∷ In (Commit 1) 2 ∷ Refused Stale ∷ In (Commit 1) 2 ∷ Refused Stale ∷ []) → ⊥
  pub unknown : HandsInOnce (In (Claim 1) 1 ∷ In (Commit 2) 1 ∷ Refused NoJob ∷ []) → ⊥
  -- both were handed in
  pub both : AllHandedIn (two_given ++ In (Commit 2) 2 ∷ Refused Stale ∷ [])
  -- what was done on the dead worker's job is dropped; and its commit comes without it
  pub dropped : AllHandedIn two_given → ⊥
  pub with_nothing : AllHandedIn (two_given ++ In (Commit 2) 2 ∷ Refused NoJob ∷ []) → ⊥
