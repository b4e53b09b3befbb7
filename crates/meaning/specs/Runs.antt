-- What a run does, as a tree: it goes on with whatever references a birth gives, and with whatever value a get gives.
use Rattle.std.specs.Prelude.{ℕ, zero, suc, ◌+◌, List, [], ◌∷◌, map}
use Rattle.meaning.specs.Syntax.{Kind}
use Rattle.meaning.specs.Values.{Trap, Value, Named, Known, Outcome, Val, Trapped, Birth, results_of, Completion, Aborted, outcomes, Id, Index}

pub data Run : Type 0 where
  Ends : (e : Completion) → Run
  Prints : (v : Value) (next : Run) → Run
  -- a birth, what makes its objects, and what follows once each of them has a reference
  Bears : (b : Birth) (made_by : Run) (next : List Value → Run) → Run
  -- a get of a reference, with the kind of what is got
  Gets : (t : Kind) (r : Value) (next : Value → Run) → Run

-- a trace
pub data Item : Type 0 where
  TraceBirth : (b : Birth) → Item
  TraceGet : (c : Outcome) → Item
  TracePrint : (v : Value) → Item

-- The serial run: each birth is made at once, and a reference is the outcome.

-- the outcome that a reference is; what is none, or only an id, counts as a trap, which a serial run never meets
abbrev pub outcome_of : Value → Outcome
outcome_of (Known c) = c
outcome_of _ = Trapped Index

-- goes on with a value, or ends with a trap
abbrev pub go_on : {A : Type 0} → (Trap → A) → Outcome → (Value → A) → A
go_on ends (Val v) next = next v
go_on ends (Trapped t) next = ends t

-- the references of a birth that was made so
abbrev pub known : Birth → Completion → List Value
known b e = map Known (outcomes (results_of b) e)

abbrev pub serial_end : Run → Completion
serial_end (Ends e) = e
serial_end (Prints v next) = serial_end next
serial_end (Bears b made_by next) = serial_end (next (known b (serial_end made_by)))
serial_end (Gets t r next) = go_on Aborted (outcome_of r) (λ v. serial_end (next v))

abbrev pub serial_trace : Run → List Item
serial_trace (Ends e) = []
serial_trace (Prints v next) = TracePrint v ∷ serial_trace next
serial_trace (Bears b made_by next) = TraceBirth b ∷ serial_trace (next (known b (serial_end made_by)))
serial_trace (Gets t r next) = TraceGet (outcome_of r) ∷ go_on (λ e. []) (outcome_of r) (λ v. serial_trace (next v))

-- The run in pieces: a birth takes the next ids, one a result, and a get the next answer.

-- its end is an outcome for each result
pub data Stop : Type 0 where
  Needs : (r : Value) → Stop
  Over : (cs : List Outcome) → Stop

-- what was born and printed, and where it stops
pub record Piece : Type 0 where
  pub births : List Birth
  pub prints : List Value
  pub stop : Stop

abbrev pub with_birth : Birth → Piece → Piece
with_birth b p = record p { births = b ∷ p.births }

abbrev pub with_print : Value → Piece → Piece
with_print v p = record p { prints = v ∷ p.prints }

abbrev pub stopped : Stop → Piece
stopped s = record { births = []; prints = []; stop = s }

abbrev pub next_id : Id → Id
next_id o = record { owner = o.owner; serial = o.serial + 1 }

-- so many ids, from one on
abbrev pub ids_from : Id → ℕ → List Id
ids_from o zero = []
ids_from o (suc n) = o ∷ ids_from (next_id o) n

-- the id behind them
abbrev pub past : Id → ℕ → Id
past o n = record { owner = o.owner; serial = o.serial + n }

-- the ids that a birth takes, as references
abbrev pub named : Id → Birth → List Value
named base b = map Named (ids_from base (results_of b))

-- the id from which the next birth takes its ids
abbrev pub behind : Id → Birth → Id
behind base b = past base (results_of b)

abbrev pub answered : {A : Type 0} → List Outcome → A → (Outcome → List Outcome → A) → A
answered [] none_left some = none_left
answered (c ∷ cs) none_left some = some c cs

-- of a run that ends with so many results
module _ (results : ℕ) where
  abbrev pub over : Completion → Piece
  over e = stopped (Over (outcomes results e))

  abbrev pub piece : Run → Id → List Outcome → Piece
  piece (Ends e) base answers = over e
  piece (Prints v next) base answers = with_print v (piece next base answers)
  piece (Bears b made_by next) base answers = with_birth b (piece (next (named base b)) (behind base b) answers)
  piece (Gets t r next) base answers =
      answered answers (stopped (Needs r)) (λ c rest. go_on (λ t'. over (Aborted t')) c (λ v. piece (next v) base rest))
