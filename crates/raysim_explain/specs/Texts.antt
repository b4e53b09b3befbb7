-- What is told of each refusal: its number, its name, its cause and an example.
use Rattle.std.specs.Prelude.{ℕ, List, ◌++◌, codes}
use Rattle.std.specs.Fmt.{decimal}
use Rattle.raysim_explain.specs.declared.reason.RefusalCause.{RefusalCause}
use Rattle.raysim_explain.specs.declared.reason.RefusalCause.TheVariants.{NotAscii, BadToken, Expected, TooLarge, UnknownName, WrongType, WrongCount, NoMain}
use Rattle.raysim_explain.specs.declared.reason.RefusalCause.TheVariants.{PrintOutsideMain, MissingReturn, BadRetries, Duplicate, WrongReturns, Pinned, NoCopy, NoWorker, NotReady, NoJob}
use Rattle.raysim_explain.specs.declared.reason.RefusalCause.TheVariants.{Stale, NoMessage, NotDead, NoNode, Limit, Halted, NoMemory, BadLine, TooLong, WrongJob, Failed}

abbrev pub number_of : RefusalCause → ℕ
number_of NotAscii = 1
number_of BadToken = 2
number_of Expected = 3
number_of TooLarge = 4
number_of UnknownName = 10
number_of WrongType = 11
number_of WrongCount = 12
number_of NoMain = 13
number_of PrintOutsideMain = 14
number_of MissingReturn = 15
number_of BadRetries = 16
number_of Duplicate = 17
number_of WrongReturns = 18
number_of Pinned = 20
number_of NoCopy = 21
number_of NoWorker = 30
number_of NotReady = 31
number_of NoJob = 32
number_of Stale = 33
number_of NoMessage = 34
number_of NotDead = 35
number_of NoNode = 36
number_of Limit = 37
number_of Halted = 38
number_of NoMemory = 39
number_of BadLine = 40
number_of TooLong = 41
number_of WrongJob = 42
number_of Failed = 50

abbrev pub name_of : RefusalCause → List ℕ
name_of NotAscii = codes "NotAscii"
name_of BadToken = codes "BadToken"
name_of Expected = codes "Expected"
name_of TooLarge = codes "TooLarge"
name_of UnknownName = codes "UnknownName"
name_of WrongType = codes "WrongType"
name_of WrongCount = codes "WrongCount"
name_of NoMain = codes "NoMain"
name_of PrintOutsideMain = codes "PrintOutsideMain"
name_of MissingReturn = codes "MissingReturn"
name_of BadRetries = codes "BadRetries"
name_of Duplicate = codes "Duplicate"
name_of WrongReturns = codes "WrongReturns"
name_of Pinned = codes "Pinned"
name_of NoCopy = codes "NoCopy"
name_of NoWorker = codes "NoWorker"
name_of NotReady = codes "NotReady"
name_of NoJob = codes "NoJob"
name_of Stale = codes "Stale"
name_of NoMessage = codes "NoMessage"
name_of NotDead = codes "NotDead"
name_of NoNode = codes "NoNode"
name_of Limit = codes "Limit"
name_of Halted = codes "Halted"
name_of NoMemory = codes "NoMemory"
name_of BadLine = codes "BadLine"
name_of TooLong = codes "TooLong"
name_of WrongJob = codes "WrongJob"
name_of Failed = codes "Failed"

abbrev pub cause_of : RefusalCause → List ℕ
cause_of NotAscii = codes "A byte of the script is above 127. The place is that byte."
cause_of BadToken = codes "A byte begins no token, or a run of letters, digits and _ is none. The place is the byte or the run."
cause_of Expected = codes "The grammar does not allow this token here, or the text ends too early. The place is the token or the end."
cause_of TooLarge = codes "A limit is passed: bytes (the place is 0..0), functions, parameters, tokens of an expression, or nesting."
cause_of UnknownName = codes "No variable or function of this name is in scope, or main is called. The place is the name."
cause_of WrongType = codes "An expression has another type than its place asks for. The place is the expression."
cause_of WrongCount = codes "A call has too many or too few arguments. The place is the function's name in the call."
cause_of NoMain = codes "There is no main, or it has parameters, or its result is not int, or it has several results. The place is 0..0."
cause_of PrintOutsideMain = codes "A function other than main prints. The place is the word print."
cause_of MissingReturn = codes "A function's body may end without a return. The place is the function's name."
cause_of BadRetries = codes "A remote call asks for more than 10 retries. The place is the number."
cause_of Duplicate = codes "A name is given again while it is in scope. The place is the second name."
cause_of WrongReturns = codes "A call or a return has another number of results than is asked for. The place is the function's name, or the word return."
cause_of Pinned = codes "An evict of an object's primary copy: a node gives up secondary copies alone."
cause_of NoCopy = codes "The node that an event names has no copy of the object."
cause_of NoWorker = codes "The first worker that an event names does not live: it was never opened, or it is dead."
cause_of NotReady = codes "A claim of a worker that has nothing to run, or whose job is out."
cause_of NoJob = codes "A commit of a job that was never given out or was committed, or with nothing that was done on it."
cause_of Stale = codes "A commit of a job whose worker is dead."
cause_of NoMessage = codes "No message has this number."
cause_of NotDead = codes "A notice of the death of a worker or node that lives or never was."
cause_of NoNode = codes "The node that an event names does not live."
cause_of Limit =
    codes "The event would make object 1,000,001, worker 1,025 or node 65. "
    ++ codes "A run that meets it ends with no report, unless --so-far asks for the one up to there; a replay goes on behind it."
cause_of Halted = codes "An earlier event found no memory (39), so no further event is taken."
cause_of NoMemory =
    codes "There was no memory. A command then gives no report; the log of a run stays legal. "
    ++ codes "Take a smaller script, fewer events, or a machine with more memory."
cause_of BadLine = codes "A line of an event file or a plan is none of its format, or the last line has no line feed. Lines are counted from 1."
cause_of TooLong =
    codes "More than 100,000 events would be applied. A replay that meets it ends with no report. "
    ++ codes "Take fewer events, or ask for the report up to there by --so-far."
cause_of WrongJob =
    codes "A claim gave another job than the line of a recorded history says. The file was recorded of another run. "
    ++ codes "Replay it with the script and the cluster that it was recorded of: where it has # lines, they say which."
cause_of Failed = codes "A read or a write failed. After a failed write of the report a beginning of it may be out."

abbrev pub example_of : RefusalCause → List ℕ
example_of NotAscii = codes "a letter with an accent, in a comment too"
example_of BadToken = codes "let aB = 1;, since names have small letters"
example_of Expected = codes "fn main() -> int { return 1 }, since a ; is missing"
example_of TooLarge = codes "an expression with 40 opening parentheses"
example_of UnknownName = codes "fn main() -> int { return x; }"
example_of WrongType = codes "fn main() -> int { return put 1; }, since put 1 is a ref int"
example_of WrongCount = codes "fn one() -> int { return 1; } fn main() -> int { return one(2); }"
example_of NoMain = codes "an empty script"
example_of PrintOutsideMain = codes "fn f() -> int { print 1; return 1; }"
example_of MissingReturn = codes "fn main() -> int { if 1 { return 1; } }"
example_of BadRetries = codes "let r = remote(11) f();"
example_of Duplicate = codes "let x = 1; let x = 2;"
example_of WrongReturns = codes "let a, b = one();"
example_of Pinned = codes "evict 1 o1.1 where node 1 keeps the primary copy"
example_of NoCopy = codes "evict 2 o1.1 where node 2 never fetched o1.1"
example_of NoWorker = codes "claim 7 in a run with two workers"
example_of NotReady = codes "claim 1 twice, with no commit between"
example_of NoJob = codes "commit 1 twice"
example_of Stale = codes "claim 2 as job 2, kill 2, commit 2"
example_of NoMessage = codes "deliver 9 in a run with three messages"
example_of NotDead = codes "notice 1 2 while worker 2 lives"
example_of NoNode = codes "kill-node 3 in a run on two nodes"
example_of Limit = codes "1,100 remote calls that are all open"
example_of Halted = codes "any event after a refusal 39"
example_of NoMemory = codes "a very large list on a small machine"
example_of BadLine = codes "claim 01, since a number has no leading zero"
example_of TooLong = codes "a file of 100,001 lines join"
example_of WrongJob = codes "0 claim 1 2 as the first claim of a file of format 2, since it gives job 1"
example_of Failed = codes "a script whose file is not there"

-- the number and the name, the cause, and an example, each on a line of its own
abbrev pub reason_text : RefusalCause → List ℕ
reason_text r = decimal (number_of r) ++ (codes " " ++ (name_of r ++ (codes "\n" ++ (cause_of r ++ (codes "\nExample: " ++ example_of r)))))
