-- What an event of a log needs, and which logs are legal.
use Rattle.std.specs.Prelude.{◌≡◌, ℕ, Bool, true, false, List, [], ◌∷◌, ◌++◌, Some}
use Rattle.std.specs.List.{flat_map, AllByRecursion}
use Rattle.script_laws.specs.of_meaning.Values.{Outcome, Id}
use Rattle.script_laws.specs.of_meaning.Runs.{Stop, Needs, Over, Piece}
use Rattle.script_laws.specs.of_meaning.Births.{numbered}
use Rattle.event_log.specs.Entries.{Attempt, Event, Claim, Commit, Deliver, Tick, Notice, NoticeNode, Evict, Lose, Kill, KillNode, Join, Entry, In}
use Rattle.event_log.specs.Entries.{Opened, Begun, Born, Printed, Ended, main_attempt}
use Rattle.event_log.specs.Words.{own_births, worker_of, printed_by, ends_of}
use Rattle.event_log.specs.Events.{refused_next, worker_of_job, is_committed, has_job_out, node_is_killed, node_lives, is_killed, is_live}
use Rattle.event_log.specs.Rules.{Receiver, Setting, Replays, Allowed}

-- ---- what an event needs

-- the attempt that an entry of a job's outcome is of
abbrev pub outcome_in : Entry → List Attempt
outcome_in (Born o a b) = a ∷ []
outcome_in (Printed v) = main_attempt ∷ []
outcome_in (Ended a cs) = a ∷ []
outcome_in _ = []

-- the job was given out and not committed, its worker lives, its attempt runs there, and no other attempt does anything
pub record CommitsJob (before : List Entry) (j : ℕ) (a : Attempt) (es : List Entry) : Type 0 where
  pub worker : ℕ
  pub claimed : worker_of_job j before ≡ Some worker
  pub once : is_committed j before ≡ false
  pub lives : is_live worker before ≡ true
  pub runs : worker_of a before ≡ Some worker
  pub alone : AllByRecursion (λ b. b ≡ a) (flat_map outcome_in es)

abbrev pub end_by : Stop → List (List Outcome)
end_by (Needs r) = []
end_by (Over cs) = cs ∷ []

-- the entries have all that the attempt's replay on its answers so far bears and prints, and its end, where it ends
pub record CommitsAll (s : Setting) (before : List Entry) (a : Attempt) (es : List Entry) : Type 0 where
  pub base : Id
  pub p : Piece
  pub replays : Replays s before a base p
  pub own : own_births a before ++ own_births a es ≡ numbered base p.births
  pub prints : printed_by a before ++ printed_by a es ≡ p.prints
  pub ends : ends_of a es ≡ end_by p.stop

-- what an event needs to be accepted, with all the entries that it adds
abbrev pub Happens : Setting → List Entry → Event → List Entry → Type 0
Happens s before (Claim w) es = (is_live w before ≡ true) × (has_job_out w before ≡ false)
Happens s before (Commit j) es = (a : Attempt) × CommitsJob before j a es × CommitsAll s before a es
Happens s before (Deliver m) es = (r : Receiver) × (s.receiver m ≡ Some r)
Happens s before (Tick w) es = is_live w before ≡ true
Happens s before (Notice w v) es = (is_live w before ≡ true) × (is_killed v before ≡ true)
Happens s before (NoticeNode w n) es = (is_live w before ≡ true) × (node_is_killed n before ≡ true)
Happens s before (Evict n o) es = node_lives s.nodes n before ≡ true
Happens s before (Lose n o) es = node_lives s.nodes n before ≡ true
Happens s before (Kill w) es = is_live w before ≡ true
Happens s before (KillNode n) es = node_lives s.nodes n before ≡ true
Happens s before Join es = Unit {0}

-- the entries up to the next event
abbrev pub of_event : List Entry → List Entry
of_event [] = []
of_event (In e seat ∷ rest) = []
of_event (x ∷ rest) = x ∷ of_event rest

-- a further event comes
abbrev pub has_event : List Entry → Bool
has_event [] = false
has_event (In e seat ∷ rest) = true
has_event (x ∷ rest) = has_event rest

abbrev pub Unless : Bool → Type 0 → Type 0
Unless true A = Unit {0}
Unless false A = A

-- what an event needs, with the entries that come: it is accepted where it isn't refused
abbrev pub Answered : Setting → List Entry → Entry → List Entry → Type 0
Answered s before (In e seat) es = Unless (refused_next es) (Happens s before e (of_event es))
Answered s before _ es = Unit {0}

-- ---- legal logs

-- each of the entries, none of which is an event, may stand behind those before it
abbrev pub EachAllowed : Setting → List Entry → List Entry → Type 0
EachAllowed s before [] = Unit {0}
EachAllowed s before (x ∷ es) = Allowed s before x × EachAllowed s (before ++ x ∷ []) es

-- the entries may follow one another behind those before
abbrev pub LegalFrom : Setting → List Entry → List Entry → Type 0
LegalFrom s before [] = Unit {0}
LegalFrom s before (x ∷ es) = Allowed s before x × Answered s before x es × LegalFrom s (before ++ x ∷ []) es

-- worker 1 is opened on node 1 and runs main
abbrev pub opening : List Entry
opening = Opened 1 1 ∷ Begun main_attempt 1 ∷ []

-- the log begins with the opening, and each later entry has what it needs where it stands
pub record Legal (s : Setting) (log : List Entry) : Type 0 where
  pub rest : List Entry
  pub begins : log ≡ opening ++ rest
  pub each : LegalFrom s opening rest
