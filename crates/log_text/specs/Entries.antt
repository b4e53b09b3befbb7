-- What an entry says in words: of an attempt, of an object, or of what came of an event.
use Rattle.std.specs.Prelude.{ℕ, zero, suc, ◌+◌, Bool, List, [], ◌++◌, codes}
use Rattle.std.specs.Fmt.{decimal}
use Rattle.report.specs.ValueTexts.{id_text}
use Rattle.meaning.specs.Values.{Id, Value}
use Rattle.meaning.specs.Births.{Bearing}
use Rattle.log_words.specs.of_event_log.Entries.{Fault, Entry, In, Refused, Opened, Begun, Born, Got, Printed, Ended, Accepted, Faulted, Resolved, Released}
use Rattle.log_words.specs.declared.contents.Contents.{Contents}
use Rattle.log_words.specs.Calls.{birth_text}
use Rattle.log_words.specs.Contents.{content_text, contents_text, shown_text}
use Rattle.log_words.specs.Faults.{fault_words}
use Rattle.log_text.specs.Attempts.{named_text, begun_text}
use Rattle.log_text.specs.Events.{event_line}
use Rattle.log_text.specs.Refusals.{refusal_text}
use Rattle.log_words.specs.Tasks.{objects_text}
use Rattle.log_words.specs.Told.{Told}

abbrev pub lack_head : Id → List ℕ
lack_head y = codes " ends with a fault at get " ++ (id_text y ++ codes ": ")

-- how a get was answered with a fault
abbrev pub lack_text : Id → Fault → List ℕ
lack_text y f = lack_head y ++ fault_words f

abbrev pub resolve_head : Id → List ℕ
resolve_head o = codes "w" ++ (decimal o.owner ++ (codes " gives up " ++ (id_text o ++ codes ": ")))

-- an object will have no content
abbrev pub resolve_text : Id → Fault → List ℕ
resolve_text o f = resolve_head o ++ fault_words f

abbrev pub print_text : Contents → Value → List ℕ
print_text how v = codes "main prints " ++ shown_text how v

-- what an entry says of an attempt; `how` says whether long lists are cut, and `births` are those of the whole log
abbrev pub act_text : Contents → List Bearing → Entry → List ℕ
act_text how births (Begun a w) = begun_text how births a w
act_text how births (Born o a b) = named_text births a ++ (codes " makes " ++ (objects_text o b ++ (codes ": " ++ birth_text how b)))
act_text how births (Got a y c) = named_text births a ++ (codes " gets " ++ (id_text y ++ (codes ": " ++ content_text how c)))
act_text how births (Ended a cs) = named_text births a ++ (codes " ends with " ++ contents_text how cs)
act_text how births (Accepted a) = codes "w" ++ (decimal a.object.owner ++ (codes " accepts " ++ named_text births a))
act_text how births (Faulted a y f) = named_text births a ++ lack_text y f
act_text how births _ = []

-- what came of an event
abbrev pub entry_text : Contents → List Bearing → Entry → List ℕ
entry_text how births (In e seat) = []
entry_text how births (Refused r) = refusal_text r
entry_text how births (Opened w n) = codes "n" ++ (decimal n ++ (codes " opens w" ++ decimal w))
entry_text how births (Printed v) = print_text how v
entry_text how births (Resolved o f) = resolve_text o f
entry_text how births (Released o) = codes "w" ++ (decimal o.owner ++ (codes " releases " ++ id_text o))
entry_text how births x = act_text how births x

-- what came of an event stands below it; the opening belongs to none
abbrev pub indent : ℕ → List ℕ
indent zero = []
indent (suc n) = codes "    "

-- `told` is what was told before, and `refused` says of an event that it is refused
abbrev pub line : Contents → List Bearing → Told → Entry → Bool → List ℕ
line how births told (In e seat) refused = event_line (told.events + 1) told.jobs e seat refused
line how births told x refused = indent told.events ++ (entry_text how births x ++ codes "\n")
