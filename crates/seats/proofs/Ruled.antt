-- A run beside a plan stays one each of whose events was the one that a turn named, or handed in what was handed on a job.
use Rattle.std.proofs.Common.{◌≡◌, ◌⊎◌, ℕ, suc, false, Bool, List, [], Option, Some, None, refl, sym, ap, ◌∙◌, subst, inl, inr}
use Rattle.meaning.specs.Syntax.{Script}
use Rattle.segment.specs.Jobs.{Done}
use Rattle.event_files.specs.declared.plan.PlanLine.{PlanLine}
use Rattle.event_log.specs.Entries.{Event}
use Rattle.log_entries.specs.declared.refusal.Refusal.{Refusal}
use Rattle.log_entries.specs.declared.refusal.Refusal.TheVariants as refusals
use Rattle.run_paths.specs.of_protocol_board.Cores.{Answers, IsReachedRun, Reply, RunState, Size, first_state}
use Rattle.run_paths.specs.Paths.{IsTrueDone, NoneCame}
use Rattle.seats.specs.Counted.{IsFresh}
use Rattle.seats.specs.Ends.{size_of}
use Rattle.seats.specs.Outside.{Passes}
use Rattle.seats.specs.Ruled.{IsRuled, IsRuledRun, Ruled, RuledIn, StaysRuled, first_turn}
use Rattle.seats.specs.Turns.{Follows, KeepsOut, TurnState, given_up_by, or_first}
use Rattle.seats.specs.declared.outs.JobOut.{JobOut}
use Rattle.seats.proofs.Outside.{stays_so}
use Rattle.seats.proofs.Passing.{true_or_false}

-- ---- one event more

one_more : (script : Script) (first t u : TurnState) (e : Event) (seat : ℕ) (handed : Option Done) (told : Reply) (taken : ℕ) → Ruled script first t →
    IsRuled t e handed taken → IsTrueDone script handed → Answers t.run e seat handed u.run told → Follows (record t { taken = taken }) e told u → Ruled script first u
unfolding RuledIn
one_more script first t u e seat handed told taken (n, way) ruled is_true answers follows =
    (suc n, (t, e, seat, handed, told, taken, way, ruled, is_true, answers, follows))

closed_ruled : (is_open : Bool) (t : TurnState) (e : Event) (handed : Option Done) (taken : ℕ) → Passes is_open t e handed taken → is_open ≡ false →
    IsRuled t e handed taken
closed_ruled is_open t e handed taken (inl ruled) closed = ruled
closed_ruled is_open t e handed taken (inr (opened, same)) closed = true_or_false is_open closed opened

-- whatever the run is given up for
for_any : (script : Script) (is_open : Bool) (plan : List PlanLine) (size : Size) (t : TurnState) (g : Option Refusal) →
    (is_open ≡ false → Ruled script (first_turn plan size) t) → StaysRuled script is_open plan size t g
for_any script is_open plan size t None h = h
for_any script is_open plan size t (Some refusals.Limit) h = h
for_any script is_open plan size t (Some x) h = tt

-- one that is given up stays so
still_given_up : (e : Event) (told : Reply) (out : List JobOut) (g : Option Refusal) (x : Refusal) (out_now : List JobOut) (g_now : Option Refusal) → g ≡ Some x →
    KeepsOut e told out g out_now g_now → g_now ≡ Some x
still_given_up e told out g x out_now g_now f (inl (same, now)) = now ∙ (ap (given_up_by told) f ∙ stays_so told x)
still_given_up e told out g x out_now g_now f (inr (same, now)) =
    now ∙ ap (λ o. or_first o refusals.NoMemory) (ap (given_up_by told) f ∙ stays_so told x)

pub ruled_behind : (script : Script) (is_open : Bool) (plan : List PlanLine) (size : Size) (t u : TurnState) (e : Event) (seat : ℕ) (handed : Option Done)
    (told : Reply) (taken : ℕ) →
    Passes is_open t e handed taken → IsTrueDone script handed → Answers t.run e seat handed u.run told → Follows (record t { taken = taken }) e told u →
    StaysRuled script is_open plan size t t.given_up → StaysRuled script is_open plan size u u.given_up
ruled_behind script is_open plan size t u e seat handed told taken passes is_true answers follows = by_given t.given_up refl
  where
    on : (is_open ≡ false → Ruled script (first_turn plan size) t) → StaysRuled script is_open plan size u u.given_up
    on way = for_any script is_open plan size u u.given_up (λ closed.
        one_more script (first_turn plan size) t u e seat handed told taken (way closed) (closed_ruled is_open t e handed taken passes closed) is_true answers follows)

    by_given : (g : Option Refusal) → t.given_up ≡ g → StaysRuled script is_open plan size t g → StaysRuled script is_open plan size u u.given_up
    by_given None f way = on way
    by_given (Some refusals.Limit) f way = on way
    by_given (Some x) f way =
        subst (StaysRuled script is_open plan size u) (sym (still_given_up e told t.out t.given_up x u.out u.given_up f follows.kept)) tt

-- where it is given up for want of memory
pub ruled_given_up : (script : Script) (is_open : Bool) (plan : List PlanLine) (size : Size) (t : TurnState) → StaysRuled script is_open plan size t t.given_up →
    StaysRuled script is_open plan size (record t { given_up = or_first t.given_up refusals.NoMemory }) (or_first t.given_up refusals.NoMemory)
ruled_given_up script is_open plan size t = by_given t.given_up refl
  where
    by_given : (g : Option Refusal) → t.given_up ≡ g → StaysRuled script is_open plan size t g →
        StaysRuled script is_open plan size (record t { given_up = or_first g refusals.NoMemory }) (or_first g refusals.NoMemory)
    by_given None f way = tt
    by_given (Some refusals.Limit) f way = λ closed. subst (λ o. Ruled script (first_turn plan size) (record t { given_up = o })) f (way closed)
    by_given (Some x) f way = tt

-- ---- a run that begins

turn_same : (r first : RunState) (lines plan : List PlanLine) (out : List JobOut) → r ≡ first → lines ≡ plan → out ≡ [] →
    ◌≡◌ {A = TurnState} (record { run = r; plan = lines; taken = 0; out = out; given_up = None })
    (record { run = first; plan = plan; taken = 0; out = []; given_up = None })
turn_same r first lines plan out er el eo = cc (er, el, eo)

none_ruled : (script : Script) (first t : TurnState) → t ≡ first → Ruled script first t
unfolding RuledIn
none_ruled script first t same = (0, same)

pub fresh_ruled : NoneCame → (script : Script) (is_open : Bool) (plan lines : List PlanLine) (size : Size) (r : RunState) (out : List JobOut) → IsReachedRun script r →
    IsFresh r → size_of r ≡ size → lines ≡ plan → out ≡ [] →
    StaysRuled script is_open plan size (record { run = r; plan = lines; taken = 0; out = out; given_up = None }) None
fresh_ruled none_came script is_open plan lines size r out reached fresh sized el eo = λ closed.
    let er : r ≡ first_state size.nodes size.slots =
    none_came script r reached fresh.0 fresh.2 ∙ ap (λ (z : Size). first_state z.nodes z.slots) sized in
    none_ruled script (first_turn plan size) (record { run = r; plan = lines; taken = 0; out = out; given_up = None })
    (turn_same r (first_state size.nodes size.slots) lines plan out er el eo)

-- ---- a run that ended

pub ruled_run : (script : Script) (is_open : Bool) (plan : List PlanLine) (size : Size) (t : TurnState) (r : RunState) (g : Option Refusal) → t.run ≡ r →
    t.given_up ≡ g → g ≡ None ⊎ g ≡ Some refusals.Limit → StaysRuled script is_open plan size t g → IsRuledRun script is_open plan size g r
ruled_run script is_open plan size t r None same given which way = λ closed. (t, same, given, way closed)
ruled_run script is_open plan size t r (Some refusals.Limit) same given which way = λ closed. (t, same, given, way closed)
ruled_run script is_open plan size t r (Some x) same given (inl bad) way = absurd cc
ruled_run script is_open plan size t r (Some x) same given (inr bad) way = absurd cc
