-- What each entry says of an object.
use Rattle.std.specs.Prelude.{ℕ, Bool, if◌then◌else◌, List, [], ◌++◌, codes}
use Rattle.std.specs.Fmt.{decimal}
use Rattle.report.specs.ValueTexts.{id_text}
use Rattle.meaning.specs.Values.{Id, Birth, Outcome}
use Rattle.meaning.specs.Births.{Bearing, same_id}
use Rattle.event_log.specs.Entries.{Attempt, Fault, Entry, In, Begun, Born, Got, Ended, Accepted, Faulted, Resolved, Released}
use Rattle.log_words.specs.declared.contents.Contents.{Contents}
use Rattle.log_words.specs.Calls.{birth_text}
use Rattle.log_words.specs.Contents.{content_text, contents_text}
use Rattle.log_words.specs.Faults.{fault_words}
use Rattle.log_words.specs.Tasks.{objects_text}
use Rattle.log_text.specs.Attempts.{named_text}
use Rattle.log_text.specs.Mentions.{is_in_birth}
use Rattle.why_text.specs.Again.{again_note}
use Rattle.why_text.specs.Moments.{Moment, when_text}
use Rattle.why_text.specs.Runs.{Subject}
use Rattle.why_text.specs.Events.{event_sentence}
use Rattle.why_text.specs.Notes.{fault_note, kept_note, owner_text, release_note}

-- a1.0#0 (main) made o1.1 in event 2 (commit 1): remote(1) sq(7).
-- of several results all objects stand there
abbrev pub made_text : Contents → List Bearing → Moment → Id → Attempt → Birth → List ℕ
made_text how births m o a b =
    named_text births a ++ (codes " made " ++ (objects_text o b ++ (when_text m ++ (codes ": " ++ (birth_text how b ++ codes ".\n")))))

-- a1.1#1 (sq) began on w3 in event 10 (deliver 5, line 3), since w2 died in event 6 (kill 2, line 2).
abbrev pub began_text : List Bearing → List ℕ → List Entry → Moment → Attempt → ℕ → List ℕ
began_text births lines before m a w =
    named_text births a ++ (codes " began on w" ++ (decimal w ++ (when_text m ++ (again_note births lines before a ++ codes ".\n"))))

-- a1.0#0 (main) got o1.1 in event 14 (deliver 7): 49.
abbrev pub got_text : Contents → List Bearing → Moment → Attempt → Id → Outcome → List ℕ
got_text how births m a y c =
    named_text births a ++ (codes " got " ++ (id_text y ++ (when_text m ++ (codes ": " ++ (content_text how c ++ codes ".\n")))))

-- a1.1#0 (sq) ended in event 13 (commit 2): 49.
abbrev pub ended_text : Contents → List Bearing → Moment → Attempt → List Outcome → List ℕ
ended_text how births m a cs = named_text births a ++ (codes " ended" ++ (when_text m ++ (codes ": " ++ (contents_text how cs ++ codes ".\n"))))

unfoldable pub accepted_head : ℕ → List ℕ
accepted_head w = codes "w" ++ (decimal w ++ codes " accepted ")

-- w1 accepted a1.1#0 (sq) in event 14 (deliver 7), and keeps the result itself: no node can lose it.
abbrev pub accepted_text : List Bearing → List Entry → Moment → Attempt → List ℕ
accepted_text births before m a =
    accepted_head a.object.owner ++ (named_text births a ++ (when_text m ++ (kept_note births before a ++ codes ".\n")))

unfoldable pub get_note : Id → List ℕ
get_note y = codes ", at its get of " ++ (id_text y ++ codes ": ")

unfoldable pub faulted_head : List Bearing → Moment → Attempt → List ℕ
faulted_head births m a = named_text births a ++ (codes " ended with a fault" ++ when_text m)

-- a1.2#0 (sum) ended with a fault in event 20 (claim 3), at its get of o1.1: PutLost o1.1 (it was put, and its copy was lost).
abbrev pub faulted_text : List Bearing → List Entry → Moment → Attempt → Id → Fault → List ℕ
faulted_text births before m a y f =
    faulted_head births m a ++ (get_note y ++ (fault_words f ++ (fault_note births before y f ++ codes ".\n")))

-- w1 gave up o1.1 in event 7 (notice 1 2): RetriesUsed o1.1 (every run that it was allowed broke).
abbrev pub given_up_text : Moment → Id → Fault → List ℕ
given_up_text m o f =
    codes "w" ++ (decimal o.owner ++ (codes " gave up " ++ (id_text o ++ (when_text m ++ (codes ": " ++ (fault_words f ++ codes ".\n"))))))

unfoldable pub released_head : Moment → Id → List ℕ
released_head m o = owner_text o ++ (codes " released " ++ (id_text o ++ (when_text m ++ codes ": nothing needed it any more")))

-- w1 released o1.1 in event 18 (commit 3): nothing needed it any more.
abbrev pub released_text : List Bearing → List ℕ → List Entry → Moment → Id → List ℕ
released_text births lines before m o = released_head m o ++ (release_note births lines before o ++ codes ".\n")

-- it was made, with the other results of its task, or another was made with it
abbrev pub birth_sentence : Contents → Subject → List Bearing → Moment → Id → Attempt → Birth → List ℕ
birth_sentence how s births m p a b =
    if same_id p s.task then made_text how births m p a b else (if is_in_birth s.object b then made_text how births m p a b else [])

-- an attempt of its task got another object, or an attempt got this one
abbrev pub got_sentence : Contents → Subject → List Bearing → Moment → Attempt → Id → Outcome → List ℕ
got_sentence how s births m a y c =
    if same_id a.object s.task then got_text how births m a y c else (if same_id y s.object then got_text how births m a y c else [])

abbrev pub faulted_sentence : Subject → List Bearing → List Entry → Moment → Attempt → Id → Fault → List ℕ
faulted_sentence s births before m a y f =
    if same_id a.object s.task then faulted_text births before m a y f
    else (if same_id y s.object then faulted_text births before m a y f else [])

-- what came of an event; `how` says whether long lists are cut, `before` are the entries before it, and `lines` are those of their events
abbrev pub entry_sentence : Contents → Subject → List Bearing → List ℕ → List Entry → Moment → Entry → List ℕ
entry_sentence how s births lines before m (Born p a b) = birth_sentence how s births m p a b
entry_sentence how s births lines before m (Begun a w) = if same_id a.object s.task then began_text births lines before m a w else []
entry_sentence how s births lines before m (Got a y c) = got_sentence how s births m a y c
entry_sentence how s births lines before m (Ended a cs) = if same_id a.object s.task then ended_text how births m a cs else []
entry_sentence how s births lines before m (Accepted a) = if same_id a.object s.task then accepted_text births before m a else []
entry_sentence how s births lines before m (Faulted a y f) = faulted_sentence s births before m a y f
entry_sentence how s births lines before m (Resolved p f) = if same_id p s.object then given_up_text m p f else []
entry_sentence how s births lines before m (Released p) = if same_id p s.object then released_text births lines before m p else []
entry_sentence how s births lines before m _ = []

-- a refused event did nothing
unfoldable pub sentence : Contents → Subject → List Bearing → List ℕ → List Entry → Moment → Entry → Bool → List ℕ
sentence how s births lines before m (In e seat) refused = if refused then [] else event_sentence s m e
sentence how s births lines before m x refused = entry_sentence how s births lines before m x
