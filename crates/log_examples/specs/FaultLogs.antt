-- Worked logs with faults, written from the rules.
use Rattle.std.specs.Prelude.{ℕ, List, [], ◌∷◌, ◌++◌, codes, true}
use Rattle.meaning.specs.Values.{Value, Named, Items, Outcome, Val, Argument, Birth, Put, Task, Id, values_of}
use Rattle.meaning.specs.Syntax.{Script, Function, Number, ListKind, Var, ItemAt, Binary, ListOf, PutOf, GetOf, Remote, end, Let}
use Rattle.meaning.specs.Examples.{give, value, object, parameter, function, script_of, each, remote_got, reference_got}
use Rattle.meaning.specs.Examples as made
use Rattle.event_log.specs.Entries.{Attempt, OwnerDied, PutLost, RetriesUsed, Fault, Claim, Commit, Deliver, Notice, Evict, Lose, Kill, Entry, In}
use Rattle.event_log.specs.Entries.{Refused, Opened, Begun, Born, Got, Ended, Accepted, Faulted, Resolved, Released, main_attempt}
use Rattle.event_log.specs.Entries.{Pinned}
use Rattle.event_log.specs.Words.{attempt}
use Rattle.event_log.specs.Rules.{Setting}
use Rattle.event_log.specs.Legal.{opening}
use Rattle.log_examples.specs.Logs.{beside, node, worker, first_of, number}

-- ---- a worker dies

-- fn one() -> int { return 1; }
abbrev pub one : Function
one = function (codes "one") [] Number (give (made.number 1) ∷ [])

-- return get remote(k) one();
abbrev pub calls_one : ℕ → Script
calls_one k = script_of (one ∷ []) (give (GetOf Number (Remote k (codes "one") [] end)) ∷ [])

abbrev pub making_one : ℕ → Birth
making_one k = Task (codes "one") [] 1 k 0

abbrev pub used_up : Id → Fault
used_up o = record { kind = RetriesUsed; object = o }

-- without a further run
abbrev pub unretried_setting : Setting
unretried_setting = beside (calls_one 0) (node ∷ worker 1 ∷ worker 2 ∷ [])

abbrev pub unretried_rest : List Entry
unretried_rest =
    In (Claim 1) 0
    ∷ In (Commit 1) 0
    ∷ Born (object 1 1) main_attempt (making_one 0)
    ∷ In (Deliver 1) 0
    ∷ Opened 2 1
    ∷ In (Deliver 2) 0
    ∷ Begun (first_of (object 1 1)) 2
    ∷ In (Deliver 3) 0
    ∷ In (Kill 2) 0
    ∷ In (Notice 1 2) 0
    ∷ Resolved (object 1 1) (used_up (object 1 1))
    ∷ Faulted main_attempt (object 1 1) (used_up (object 1 1))
    ∷ Released (object 1 1)
    ∷ []

abbrev pub unretried_log : List Entry
unretried_log = opening ++ unretried_rest

-- with one
abbrev pub retried_setting : Setting
retried_setting = beside (calls_one 1) (node ∷ worker 1 ∷ worker 2 ∷ node ∷ worker 1 ∷ worker 3 ∷ worker 1 ∷ worker 3 ∷ node ∷ node ∷ [])

abbrev pub second_of : Id → Attempt
second_of o = attempt o 1

abbrev pub retried_rest : List Entry
retried_rest =
    In (Claim 1) 0
    ∷ In (Commit 1) 0
    ∷ Born (object 1 1) main_attempt (making_one 1)
    ∷ In (Deliver 1) 0
    ∷ Opened 2 1
    ∷ In (Deliver 2) 0
    ∷ Begun (first_of (object 1 1)) 2
    ∷ In (Deliver 3) 0
    ∷ In (Kill 2) 0
    ∷ In (Notice 1 2) 0
    ∷ In (Deliver 4) 0
    ∷ Opened 3 1
    ∷ In (Deliver 5) 0
    ∷ Begun (second_of (object 1 1)) 3
    ∷ In (Deliver 6) 0
    ∷ In (Claim 3) 0
    ∷ In (Commit 2) 0
    ∷ Ended (second_of (object 1 1)) (value 1 ∷ [])
    ∷ In (Deliver 7) 0
    ∷ Accepted (second_of (object 1 1))
    ∷ Got main_attempt (object 1 1) (value 1)
    ∷ In (Deliver 8) 0
    ∷ In (Deliver 9) 0
    ∷ In (Claim 1) 0
    ∷ In (Commit 3) 0
    ∷ Ended main_attempt (value 1 ∷ [])
    ∷ Released (object 1 1)
    ∷ In (Deliver 10) 0
    ∷ []

abbrev pub retried_log : List Entry
retried_log = opening ++ retried_rest

-- ---- a put is lost

-- fn f(l: [int]) -> int { return l[0]; }
abbrev pub head : Function
head = function (codes "f") (parameter (codes "l") (ListKind Number) ∷ []) Number (give (Binary ItemAt (Var (codes "l")) (made.number 0)) ∷ [])

-- fn g(x: int) -> int { return x; }
abbrev pub same : Function
same = function (codes "g") (parameter (codes "x") Number ∷ []) Number (give (Var (codes "x")) ∷ [])

-- let p = put [1, 2]; let a = remote f(p); let b = remote g(a); return get b;
abbrev pub chained : Script
chained =
    script_of (head ∷ same ∷ [])
    (Let (codes "p") (PutOf (ListOf (each (made.number 1 ∷ made.number 2 ∷ []))))
    ∷ Let (codes "a") (remote_got (codes "f") (Var (codes "p") ∷ []))
    ∷ Let (codes "b") (remote_got (codes "g") (Var (codes "a") ∷ []))
    ∷ give (GetOf Number (Var (codes "b"))) ∷ [])

abbrev pub one_two : Value
one_two = Items (values_of (number 1 ∷ number 2 ∷ []))

abbrev pub read : Value → Argument
read v = record { value = v; marked = true }

abbrev pub calling_f : Birth
calling_f = Task (codes "f") (read (Named (object 1 1)) ∷ []) 1 3 0

abbrev pub calling_g : Birth
calling_g = Task (codes "g") (read (Named (object 1 2)) ∷ []) 1 3 0

abbrev pub lost : Id → Fault
lost o = record { kind = PutLost; object = o }

abbrev pub put_lost_setting : Setting
put_lost_setting = beside chained
    (node ∷ node ∷ worker 1 ∷ worker 1 ∷ worker 2 ∷ worker 3 ∷ worker 1 ∷ worker 2 ∷ worker 1 ∷ worker 2 ∷ worker 1 ∷ worker 2 ∷ node
    ∷ worker 1 ∷ worker 3 ∷ worker 1 ∷ worker 3 ∷ node ∷ [])

abbrev pub put_lost_rest : List Entry
put_lost_rest =
    In (Claim 1) 0
    ∷ In (Commit 1) 0
    ∷ Born (object 1 1) main_attempt (Put one_two)
    ∷ Born (object 1 2) main_attempt calling_f
    ∷ Born (object 1 3) main_attempt calling_g
    ∷ In (Deliver 1) 0
    ∷ Opened 2 1
    ∷ In (Deliver 2) 0
    ∷ Opened 3 1
    ∷ In (Deliver 3) 0
    ∷ Begun (first_of (object 1 2)) 2
    ∷ In (Deliver 4) 0
    ∷ Begun (first_of (object 1 3)) 3
    ∷ In (Deliver 5) 0
    ∷ In (Deliver 6) 0
    ∷ In (Evict 1 (object 1 1)) 0
    ∷ Refused Pinned
    ∷ In (Lose 1 (object 1 1)) 0
    ∷ In (Claim 2) 0
    ∷ In (Commit 2) 0
    -- where the object is, that it isn't there, and that it is lost
    ∷ In (Deliver 7) 0
    ∷ In (Deliver 8) 0
    ∷ In (Deliver 9) 0
    ∷ Resolved (object 1 1) (lost (object 1 1))
    ∷ In (Deliver 10) 0
    ∷ Faulted (first_of (object 1 2)) (object 1 1) (lost (object 1 1))
    ∷ In (Deliver 11) 0
    ∷ Resolved (object 1 2) (lost (object 1 1))
    ∷ In (Deliver 12) 0
    ∷ In (Deliver 13) 0
    ∷ In (Claim 3) 0
    ∷ In (Commit 3) 0
    ∷ In (Deliver 14) 0
    ∷ In (Deliver 15) 0
    ∷ Faulted (first_of (object 1 3)) (object 1 2) (lost (object 1 1))
    ∷ In (Deliver 16) 0
    ∷ Resolved (object 1 3) (lost (object 1 1))
    ∷ Faulted main_attempt (object 1 3) (lost (object 1 1))
    ∷ Released (object 1 3)
    ∷ Released (object 1 2)
    ∷ Released (object 1 1)
    ∷ In (Deliver 17) 0
    ∷ In (Deliver 18) 0
    ∷ []

abbrev pub put_lost_log : List Entry
put_lost_log = opening ++ put_lost_rest

-- ---- an owner dies

abbrev pub calling_outer : Birth
calling_outer = Task (codes "outer") [] 1 3 0

abbrev pub calling_leaf : Birth
calling_leaf = Task (codes "leaf") [] 2 3 0

abbrev pub reference_to : Id → Outcome
reference_to o = Val (Named o)

abbrev pub died : Id → Fault
died o = record { kind = OwnerDied; object = o }

-- let r = get remote outer(); return get r;
abbrev pub owner_died_setting : Setting
owner_died_setting = beside reference_got
    (node ∷ worker 1 ∷ worker 2 ∷ node ∷ worker 1 ∷ worker 2 ∷ worker 2 ∷ worker 3 ∷ node ∷ worker 2 ∷ worker 3 ∷ node ∷ worker 2 ∷ node ∷ [])

abbrev pub owner_died_rest : List Entry
owner_died_rest =
    In (Claim 1) 0
    ∷ In (Commit 1) 0
    ∷ Born (object 1 1) main_attempt calling_outer
    ∷ In (Deliver 1) 0
    ∷ Opened 2 1
    ∷ In (Deliver 2) 0
    ∷ Begun (first_of (object 1 1)) 2
    ∷ In (Deliver 3) 0
    ∷ In (Claim 2) 0
    ∷ In (Commit 2) 0
    ∷ Born (object 2 1) (first_of (object 1 1)) calling_leaf
    ∷ Ended (first_of (object 1 1)) (reference_to (object 2 1) ∷ [])
    ∷ In (Deliver 4) 0
    ∷ Opened 3 1
    ∷ In (Deliver 5) 0
    ∷ Accepted (first_of (object 1 1))
    ∷ Got main_attempt (object 1 1) (reference_to (object 2 1))
    ∷ In (Deliver 6) 0
    ∷ Begun (first_of (object 2 1)) 3
    ∷ In (Deliver 7) 0
    ∷ In (Deliver 8) 0
    ∷ In (Deliver 9) 0
    ∷ In (Claim 3) 0
    ∷ In (Commit 3) 0
    ∷ Ended (first_of (object 2 1)) (value 4 ∷ [])
    ∷ In (Deliver 10) 0
    ∷ Accepted (first_of (object 2 1))
    ∷ In (Deliver 11) 0
    ∷ In (Deliver 12) 0
    ∷ In (Kill 2) 0
    ∷ In (Notice 1 2) 0
    ∷ In (Claim 1) 0
    ∷ In (Commit 4) 0
    ∷ Faulted main_attempt (object 2 1) (died (object 2 1))
    ∷ Released (object 1 1)
    ∷ In (Deliver 13) 0
    ∷ In (Deliver 14) 0
    ∷ []

abbrev pub owner_died_log : List Entry
owner_died_log = opening ++ owner_died_rest
