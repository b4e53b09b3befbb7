-- What a log has of a plan's events, and of why its run is given up, behind each event.
use Rattle.std.proofs.Common.{◌≡◌, ℕ, suc, true, false, Bool, List, [], ◌∷◌, ◌++◌, Option, Some, None, refl, sym, ap, ◌∙◌, subst, inl, inr}
use Rattle.std.proofs.lemmas.List.{append_assoc}
use Rattle.segment.specs.Jobs.{Done}
use Rattle.event_log.specs.Entries.{Entry, Event, In, Refused}
use Rattle.log_entries.specs.declared.refusal.Refusal.{Refusal}
use Rattle.log_entries.specs.declared.refusal.Refusal.TheVariants as refusals
use Rattle.protocol.specs.Jobs.{Job}
use Rattle.protocol.specs.Answers.{Answer, answer, logged}
use Rattle.protocol.specs.Answers as answers
use Rattle.run_paths.specs.of_protocol_board.Cores.{RunState, GivesThat, Reply, Refuses, Tells, Answers, Follows}
use Rattle.sequence.proofs.Places.{slice_get-append}
use Rattle.seats.specs.Ends.{AreIn, Stands, WasLimited}
use Rattle.seats.specs.Turns.{KeepsOut, given_up_by, or_first}
use Rattle.seats.specs.declared.outs.JobOut.{JobOut}

-- ---- events that stand in a log

pub none_in : (log : List Entry) → AreIn [] log
unfolding AreIn
none_in log = tt

pub in_more : (es : List Event) (log more : List Entry) → AreIn es log → AreIn es (log ++ more)
unfolding AreIn
in_more [] log more h = tt
in_more (e ∷ es) log more (before, seat, after, same, rest) =
    (before, seat, after ++ more, ap (λ l. l ++ more) same ∙ append_assoc before (In e seat ∷ after) more, in_more es after more rest)

pub in_last : (es : List Event) (log : List Entry) (e : Event) (seat : ℕ) (more : List Entry) → AreIn es log → AreIn (es ++ e ∷ []) (log ++ In e seat ∷ more)
unfolding AreIn
in_last [] log e seat more h = (log, seat, more, refl, tt)
in_last (x ∷ es) log e seat more (before, from, after, same, rest) = (
  before,
  from,
  after ++ In e seat ∷ more,
  ap (λ l. l ++ In e seat ∷ more) same ∙ append_assoc before (In x from ∷ after) (In e seat ∷ more),
  in_last es after e seat more rest,
)

-- ---- events that were refused at a limit

limited_more : (log more : List Entry) → WasLimited log → WasLimited (log ++ more)
limited_more log more h = (h.0, slice_get-append log more h.0 (Refused refusals.Limit) h.1)

pub limited_now : (log : List Entry) (e : Event) (seat : ℕ) → WasLimited (log ++ In e seat ∷ Refused refusals.Limit ∷ [])
limited_now [] e seat = (1, refl)
limited_now (x ∷ log) e seat = let h = limited_now log e seat in (suc h.0, h.1)

-- ---- behind an event

stands_more : (es : List Event) (log more : List Entry) (g : Option Refusal) → Stands es log g → Stands es (log ++ more) g
stands_more es log more None h = in_more es log more h
stands_more es log more (Some refusals.Limit) h = (in_more es log more h.0, limited_more log more h.1)
stands_more es log more (Some refusals.Halted) h = tt
stands_more es log more (Some refusals.NoMemory) h = tt
stands_more es log more (Some refusal) h = h

pub no_memory : (es : List Event) (log : List Entry) (g : Option Refusal) → Stands es log g → Stands es log (or_first g refusals.NoMemory)
no_memory es log None h = tt
no_memory es log (Some refusal) h = h

halted : (es : List Event) (log : List Entry) (g : Option Refusal) → Stands es log g → Stands es log (or_first g refusals.Halted)
halted es log None h = tt
halted es log (Some refusal) h = h

at_limit : (es : List Event) (log : List Entry) (g : Option Refusal) → WasLimited log → Stands es log g → Stands es log (or_first g refusals.Limit)
at_limit es log None limited h = (h, limited)
at_limit es log (Some refusal) limited h = h

refused_stands : (es : List Event) (log : List Entry) (e : Event) (seat : ℕ) (refusal : Refusal) (g : Option Refusal) → Stands es log g →
    Stands es (log ++ In e seat ∷ Refused refusal ∷ []) (given_up_by (Refuses refusal) g)
refused_stands es log e seat refusals.Limit g h =
    at_limit es (log ++ In e seat ∷ Refused refusals.Limit ∷ []) g (limited_now log e seat) (stands_more es log (In e seat ∷ Refused refusals.Limit ∷ []) g h)
refused_stands es log e seat refusals.Halted g h =
    halted es (log ++ In e seat ∷ Refused refusals.Halted ∷ []) g (stands_more es log (In e seat ∷ Refused refusals.Halted ∷ []) g h)
refused_stands es log e seat refusals.NoMemory g h =
    no_memory es (log ++ In e seat ∷ Refused refusals.NoMemory ∷ []) g (stands_more es log (In e seat ∷ Refused refusals.NoMemory ∷ []) g h)
refused_stands es log e seat refusal g h = stands_more es log (In e seat ∷ Refused refusal ∷ []) g h

taken_stands : (es : List Event) (log more : List Entry) (given : Option Job) (told : Reply) (g : Option Refusal) → GivesThat given told → Stands es log g →
    Stands es (log ++ more) (given_up_by told g)
taken_stands es log more None told g tells h = subst (λ t. Stands es (log ++ more) (given_up_by t g)) (sym tells) (stands_more es log more g h)
taken_stands es log more (Some job) told g tells h = subst (λ t. Stands es (log ++ more) (given_up_by t g)) (sym tells) (stands_more es log more g h)

answered_stands : (es : List Event) (log : List Entry) (e : Event) (seat : ℕ) (a : Answer) (told : Reply) (g : Option Refusal) → Tells a told → Stands es log g →
    Stands es (log ++ logged e seat a) (given_up_by told g)
answered_stands es log e seat (answers.Takes s) told g tells h = taken_stands es log (In e seat ∷ s.entries) s.given told g tells h
answered_stands es log e seat (answers.Refuses refusal) told g told_so h =
    subst (λ t. Stands es (log ++ In e seat ∷ Refused refusal ∷ []) (given_up_by t g)) (sym told_so) (refused_stands es log e seat refusal g h)

-- by its answer
pub stands_behind : (es : List Event) (before after : RunState) (e : Event) (seat : ℕ) (done : Option Done) (told : Reply) (g : Option Refusal) →
    Answers before e seat done after told → Stands es before.log g → Stands es after.log (given_up_by told g)
stands_behind es before after e seat done told g answers h = by_halt before.is_halted refl
  where
    follows : Follows before e seat done after told → Stands es after.log (given_up_by told g)
    follows (inl out) =
        subst (λ t. Stands es after.log (given_up_by t g)) (sym out.told_so)
        (subst (λ l. Stands es l (or_first g refusals.NoMemory)) (sym out.same) (no_memory es before.log g h))
    follows (inr (handed, is_handed, is)) =
        subst (λ l. Stands es l (given_up_by told g)) (sym is.log) (answered_stands es before.log e seat (answer before.whole e handed) told g is.told_so h)

    by_halt : (b : Bool) → before.is_halted ≡ b → Stands es after.log (given_up_by told g)
    by_halt true f =
        let k = answers.halted f in
        subst (λ t. Stands es after.log (given_up_by t g)) (sym k.1)
        (subst (λ (r : RunState). Stands es r.log (or_first g refusals.Halted)) (sym k.0) (halted es before.log g h))
    by_halt false f = follows (answers.follows f)

-- and where there is no memory to keep that a job is out
pub stands_kept : (es : List Event) (log : List Entry) (e : Event) (told : Reply) (out : List JobOut) (g : Option Refusal) (out_now : List JobOut)
    (g_now : Option Refusal) →
    Stands es log (given_up_by told g) → KeepsOut e told out g out_now g_now → Stands es log g_now
stands_kept es log e told out g out_now g_now h (inl kept) = subst (Stands es log) (sym kept.1) h
stands_kept es log e told out g out_now g_now h (inr kept) = subst (Stands es log) (sym kept.1) (no_memory es log (given_up_by told g) h)
