-- What an attempt knows: an attempt bears, needs and ends with nothing else.
use Rattle.std.specs.Prelude.{List}
use Rattle.meaning.specs.Values.{Outcome, Birth, Id}
use Rattle.meaning.specs.Ids.{OutcomesIn, BirthIn}
use Rattle.meaning.specs.Law.{IsGiven}
use Rattle.event_log.specs.Entries.{Attempt, Fault, Entry}
use Rattle.event_log.specs.Words.{own_births, answers_of}
use Rattle.event_log.specs.Rules.{Setting, MayBear, MayEnd, MayGet, MayFault}

-- in its arguments, born by it, or in a content that it got
abbrev pub Knows : List Entry → Attempt → Birth → Id → Type 0
Knows log a spec z = IsGiven spec (own_births a log) (answers_of a log) z

-- wherever an entry of the attempt may stand, it names only what the attempt knows by then
pub record GivesOnlyKnown (s : Setting) (before : List Entry) (a : Attempt) : Type 0 where
  pub bears : (o : Id) (b : Birth) (h : MayBear s before o a b) → BirthIn (Knows before a h.replays.spec) b
  pub ends : (cs : List Outcome) (h : MayEnd s before a cs) → OutcomesIn (Knows before a h.stops.replays.spec) cs
  pub gets : (y : Id) (c : Outcome) (h : MayGet s before a y c) → Knows before a h.needs.replays.spec y
  pub faults : (y : Id) (f : Fault) (h : MayFault s before a y f) → Knows before a h.needs.replays.spec y

abbrev pub AttemptsGiveOnlyKnown : Type 0
AttemptsGiveOnlyKnown = (s : Setting) (before : List Entry) (a : Attempt) → GivesOnlyKnown s before a
