-- What an attempt needs that goes on wasn't released, as long as nobody was killed: it knows the object, which is safe in it then, and nothing that is
-- safe in an attempt that goes on is released.
use Rattle.std.proofs.Common.{◌≡◌, ℕ, zero, suc, Bool, true, List, [], ◌∷◌, Some, refl, ap, sym, subst, ◌∙◌, inl, inr}
use Rattle.meaning.specs.Births.{numbered}
use Rattle.meaning.specs.Ids.{StopIn}
use Rattle.meaning.specs.Law.{IsGiven}
use Rattle.meaning.specs.Meaning.{replay}
use Rattle.meaning.specs.Runs.{Needs, Piece}
use Rattle.meaning.specs.Values.{Birth, Id, Named}
use Rattle.script_laws.proofs.Given.{law_of_ids}
use Rattle.event_log.specs.Breaks as B
use Rattle.event_log.specs.Breaks.{is_some}
use Rattle.event_log.specs.Entries as logged
use Rattle.event_log.specs.Entries.{Attempt, Entry}
use Rattle.event_log.specs.Rules.{Setting, Stops}
use Rattle.event_log.specs.Words.{answers_of, own_births, worker_of}
use Rattle.holding.specs.Grows.{Joined}
use Rattle.holding.specs.Past as facts
use Rattle.holding.specs.Legal.{Allowed, Legal, MayBear, MayEnd, MayGet, Running}
use Rattle.holding.specs.Past.{Among, Bore, Fact, Gained, Given, HasNot, InBirth, InContent, IsContent, Killed, Knows, OfPut, OfTask, Puts, Released, Safe}
use Rattle.holding.specs.Past.{SafeBorn, SafeGained, SafeGiven}
use Rattle.holding.specs.Tells.{Stands}
use Rattle.holding.proofs.Bridge.{no_end_so, no_fault_so}
use Rattle.holding.proofs.Logged.{known_so}
use Rattle.holding.proofs.Kept.{always_kept, known as unreleased_known, running_at_work}
use Rattle.protocol_owed.specs.Seen.{IsCalm}
use Rattle.owed_replies.proofs.Quiet.{worker_alive}

stands_there : (log : List Entry) (x : Entry) → B.Among x log → Stands x log
stands_there [] x (k, e) = absurd (cc)
stands_there (y ∷ log) x (zero, e) = let same : y ≡ x = cc in inl (sym same)
stands_there (y ∷ log) x (suc k, e) = inr (stands_there log x (k, e))

-- ---- what an attempt knows is safe in it, where nobody was killed

abbrev NoneKilled : List Fact → Type 0
NoneKilled past = (w : ℕ) → HasNot (Killed w) past

puts_more : (f : Fact) (past : List Fact) (a : Attempt) (e z : Id) → Puts past a e z → Puts (f ∷ past) a e z
puts_more f past a e z (InBirth o put others ids h i m) = InBirth o put others ids (inr h) i m
puts_more f past a e z (InContent contents ids h filled m) = InContent contents ids (inr h) filled m

safe_more : (f : Fact) (past : List Fact) → NoneKilled (f ∷ past) → (a : Attempt) (z : Id) → Safe past a z → Safe (f ∷ past) a z
safe_more f past alive a z (SafeBorn o put others ids h i) = SafeBorn o put others ids (inr h) i
safe_more f past alive a z (SafeGiven b p lives safe) = SafeGiven b (puts_more f past b a.object z p) (alive a.object.owner) (safe_more f past alive b z safe)
safe_more f past alive a z (SafeGained b y has lives p safe) =
    SafeGained b y (safe_more f past alive a y has) (alive y.owner) (puts_more f past b y z p) (safe_more f past alive b z safe)

-- what it knows, and what it puts into an entry
record AllSafe (past : List Fact) : Type 0 where
  knows : (a : Attempt) (z : Id) → Knows past a z → Safe past a z
  puts : (a : Attempt) (e z : Id) → Puts past a e z → Safe past a z

module _ (f : Fact) (past : List Fact) (legal : Legal (f ∷ past)) (alive : NoneKilled (f ∷ past)) (before : AllSafe past) where
  later : (a : Attempt) (z : Id) → Safe past a z → Safe (f ∷ past) a z
  later a z safe = safe_more f past alive a z safe

  may_bear : (o : Id) (a : Attempt) (put : Bool) (others : ℕ) (ids : List Id) → facts.Born o a put others ids ≡ f → MayBear past o a others ids
  may_bear o a put others ids e = subst (λ g. Allowed past g) (sym e) legal.0

  may_end : (a : Attempt) (contents : List (List Id)) → facts.Ended a contents ≡ f → MayEnd past a contents
  may_end a contents e = subst (λ g. Allowed past g) (sym e) legal.0

  may_get : (a : Attempt) (y : Id) (ids : List Id) → facts.Got a y ids ≡ f → MayGet past a y ids
  may_get a y ids e = subst (λ g. Allowed past g) (sym e) legal.0

  puts_then : (a : Attempt) (e z : Id) → Puts (f ∷ past) a e z → Safe (f ∷ past) a z
  puts_then a e z (InBirth o put others ids (inl is) i m) = later a z (before.knows a z ((may_bear o a put others ids is).known z m))
  puts_then a e z (InBirth o put others ids (inr h) i m) = later a z (before.puts a e z (InBirth o put others ids h i m))
  puts_then a e z (InContent contents ids (inl is) filled m) = later a z (before.knows a z ((may_end a contents is).known e ids z filled m))
  puts_then a e z (InContent contents ids (inr h) filled m) = later a z (before.puts a e z (InContent contents ids h filled m))

  gained : (a : Attempt) (y z : Id) (ids : List Id) → Knows past a y → Among z ids → IsContent past y ids → Safe (f ∷ past) a z
  gained a y z ids has m (OfPut q h) =
      SafeGained q y (later a y (before.knows a y has)) (alive y.owner) (InBirth y true 0 ids (inr h) (inl refl) m)
      (later q z (before.puts q y z (InBirth y true 0 ids h (inl refl) m)))
  gained a y z ids has m (OfTask v contents ended filled accepted) =
      SafeGained v y (later a y (before.knows a y has)) (alive y.owner) (InContent contents ids (inr ended) filled m)
      (later v z (before.puts v y z (InContent contents ids ended filled m)))

  knows_then : (a : Attempt) (z : Id) → Knows (f ∷ past) a z → Safe (f ∷ past) a z
  knows_then a z (Bore o put others ids h i) = SafeBorn o put others ids h i
  knows_then a z (Given b put others ids (inl is) m) =
      SafeGiven b (InBirth a.object put others ids (inl is) (inl refl) m) (alive a.object.owner)
      (later b z (before.knows b z ((may_bear a.object b put others ids is).known z m)))
  knows_then a z (Given b put others ids (inr h) m) = later a z (before.knows a z (Given b put others ids h m))
  knows_then a z (Gained y ids (inl is) m) = let may = may_get a y ids is in gained a y z ids may.known m may.content
  knows_then a z (Gained y ids (inr h) m) = later a z (before.knows a z (Gained y ids h m))

all_safe : (past : List Fact) → Legal past → NoneKilled past → AllSafe past
all_safe [] legal alive = record { knows = no_one; puts = nothing }
  where
    no_one : (a : Attempt) (z : Id) → Knows [] a z → Safe [] a z
    no_one a z (Bore o put others ids h i) = absurd h
    no_one a z (Given b put others ids h m) = absurd h
    no_one a z (Gained y ids h m) = absurd h

    nothing : (a : Attempt) (e z : Id) → Puts [] a e z → Safe [] a z
    nothing a e z (InBirth o put others ids h i m) = absurd h
    nothing a e z (InContent contents ids h filled m) = absurd h
all_safe (f ∷ past) legal alive =
    let before : AllSafe past = all_safe past legal.1 (λ w h. alive w (inr h)) in
    record { knows = knows_then f past legal alive before; puts = puts_then f past legal alive before }

module _ (s : Setting) (log : List Entry) (past : List Fact) (joined : Joined log past) (calm : IsCalm log) where
  none_killed : (w : ℕ) → HasNot (Killed w) past
  none_killed w h = worker_alive log calm w (joined.tells.killed w h)

  -- an attempt needs only what it knows
  pub needed_known : (a : Attempt) (y : Id) → Stops s log a (Needs (Named y)) → Knows past a y
  needed_known a y h = known_so s log past joined.tells a spec h.replays.born y known
    where
      spec : Birth
      spec = h.replays.spec

      own : own_births a log ≡ numbered h.base (replay s.script spec h.base (answers_of a log)).births
      own = h.own ∙ ap (λ (p : Piece). numbered h.base p.births) h.replays.replayed

      known : IsGiven spec (own_births a log) (answers_of a log) y
      known = subst (λ st. StopIn (IsGiven spec (own_births a log) (answers_of a log)) st) (ap (λ (p : Piece). p.stop) (sym h.replays.replayed) ∙ h.stopped)
          (subst (λ xs. StopIn (IsGiven spec xs (answers_of a log)) (replay s.script spec h.base (answers_of a log)).stop) (sym own)
          (law_of_ids s.script spec h.base (answers_of a log)).stop)

  -- so that wasn't released
  pub needed_stays : (a : Attempt) (w : ℕ) (y : Id) → worker_of a log ≡ Some w → Stops s log a (Needs (Named y)) → B.Among (logged.Released y) log → ⊥
  needed_stays a w y runs h released =
      let running : Running past a w = record {
        begun = joined.tells.runs a w runs;
        lives = none_killed w;
        no_end = no_end_so log past joined.tells a (ap is_some h.replays.ended);
        no_fault = no_fault_so log past joined.tells a (ap is_some h.replays.faulted);
      } in
      let safe : Safe past a y = (all_safe past joined.legal none_killed).knows a y (needed_known a y h) in
      unreleased_known past joined.legal (always_kept past joined.legal) a y (running_at_work past joined.legal a w running) safe
      (joined.tells.said (logged.Released y) (Released y) (stands_there log (logged.Released y) released) (inl refl))
