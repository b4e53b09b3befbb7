-- What the commit of a job logs may stand there.
use Rattle.std.proofs.Common.{◌≡◌, false, List, [], ◌∷◌, ◌++◌, ◌⊎◌, inl, inr, refl, sym, ap, ◌∙◌, subst, append-nil, append_assoc}
use Rattle.std.specs.Prelude.{if◌then◌else◌}
use Rattle.std.specs.List.{flat_map, AllByRecursion}
use Rattle.std.proofs.lemmas.List.Concat.{flat_map-append}
use Rattle.script_laws.specs.of_meaning.Values.{Value, Birth, Id}
use Rattle.script_laws.specs.of_meaning.Runs.{Stop, Needs, Over, behind}
use Rattle.script_laws.specs.of_meaning.Births.{Bearing, numbered}
use Rattle.event_log.specs.Entries.{Attempt, Commit, Entry, In, Born, Printed, Ended, main_attempt}
use Rattle.event_log.specs.Words.{own_in, own_births, printed_in, printed_by, ended_in, ends_of}
use Rattle.event_log.specs.Events.{refused_next}
use Rattle.event_log.specs.Legal.{has_event, outcome_in, end_by, EachAllowed}
use Rattle.event_log.specs.Commits.{commit_entries, LawOfCommits}
use Rattle.event_log.proofs.WordLaws.{same_attempt-refl}
use Rattle.event_log.proofs.OwnLaws.{own_commit, each-append}
use Rattle.event_log.proofs.LeftLaws.{left_on, left_is_allowed}

module _ (a : Attempt) where
  commits_no_event : (next : Id) (news : List Birth) (vs : List Value) (stop : Stop) (more : List Entry) → has_event more ≡ false → has_event (commit_entries a next news vs stop ++ more) ≡ false
  commits_no_event next (b ∷ news) vs stop more h = commits_no_event (behind next b) news vs stop more h
  commits_no_event next [] (v ∷ vs) stop more h = commits_no_event next [] vs stop more h
  commits_no_event next [] [] (Over c) more h = h
  commits_no_event next [] [] (Needs r) more h = h

  commits_unrefused : (next : Id) (news : List Birth) (vs : List Value) (stop : Stop) (more : List Entry) → refused_next more ≡ false → refused_next (commit_entries a next news vs stop ++ more) ≡ false
  commits_unrefused next (b ∷ news) vs stop more h = refl
  commits_unrefused next [] (v ∷ vs) stop more h = refl
  commits_unrefused next [] [] (Over c) more h = refl
  commits_unrefused next [] [] (Needs r) more h = h

  own_of_births : (next : Id) (news : List Birth) (vs : List Value) (stop : Stop) → own_births a (commit_entries a next news vs stop) ≡ numbered next news
  own_of_births next (b ∷ news) vs stop =
      let x : Bearing = record { object = next; birth = b } in
      ap (λ t. (if t then x ∷ [] else []) ++ own_births a (commit_entries a (behind next b) news vs stop)) (same_attempt-refl a) ∙ ap (λ xs. x ∷ xs) (own_of_births (behind next b) news vs stop)
  own_of_births next [] (v ∷ vs) stop = own_of_births next [] vs stop
  own_of_births next [] [] (Over c) = refl
  own_of_births next [] [] (Needs r) = refl

  ends_of_commit : (next : Id) (news : List Birth) (vs : List Value) (stop : Stop) → ends_of a (commit_entries a next news vs stop) ≡ end_by stop
  ends_of_commit next (b ∷ news) vs stop = ends_of_commit (behind next b) news vs stop
  ends_of_commit next [] (v ∷ vs) stop = ends_of_commit next [] vs stop
  ends_of_commit next [] [] (Over c) = ap (λ t. (if t then c ∷ [] else []) ++ []) (same_attempt-refl a)
  ends_of_commit next [] [] (Needs r) = refl

  -- where only main prints
  prints_of_commit : (next : Id) (news : List Birth) (vs : List Value) (stop : Stop) → (vs ≡ []) ⊎ (a ≡ main_attempt) → printed_by a (commit_entries a next news vs stop) ≡ vs
  prints_of_commit next (b ∷ news) vs stop m = prints_of_commit (behind next b) news vs stop m
  prints_of_commit next [] (v ∷ vs) stop (inl e) = absurd (cc)
  prints_of_commit next [] (v ∷ vs) stop (inr e) =
      ap (λ x. printed_in x (Printed v) ++ printed_by a (commit_entries a next [] vs stop)) e
      ∙ (ap (λ t. (if t then v ∷ [] else []) ++ printed_by a (commit_entries a next [] vs stop)) (same_attempt-refl main_attempt)
      ∙ ap (λ xs. v ∷ xs) (prints_of_commit next [] vs stop (inr e)))
  prints_of_commit next [] [] (Over c) m = refl
  prints_of_commit next [] [] (Needs r) m = refl

  all-append : (xs : List Attempt) → AllByRecursion (λ b. b ≡ a) xs → AllByRecursion (λ b. b ≡ a) (xs ++ [])
  all-append [] h = tt
  all-append (x ∷ xs) h = (h.0, all-append xs h.1)

  only_of : (next : Id) (news : List Birth) (vs : List Value) (stop : Stop) → (vs ≡ []) ⊎ (a ≡ main_attempt) → AllByRecursion (λ b. b ≡ a) (flat_map outcome_in (commit_entries a next news vs stop))
  only_of next (b ∷ news) vs stop m = (refl, only_of (behind next b) news vs stop m)
  only_of next [] (v ∷ vs) stop (inl e) = absurd (cc)
  only_of next [] (v ∷ vs) stop (inr e) = (sym e, only_of next [] vs stop (inr e))
  only_of next [] [] (Over c) m = (refl, tt)
  only_of next [] [] (Needs r) m = tt

-- entries that are no outcome of a job say nothing of births, prints and ends
nothing_beside : {X : Type 0} (f : Entry → List X) → ((x : Entry) → outcome_in x ≡ [] → f x ≡ []) → (es : List Entry) → flat_map outcome_in es ≡ [] → flat_map f es ≡ []
nothing_beside f h [] e = refl
nothing_beside f h (x ∷ es) e = let i = left_empty (outcome_in x) (flat_map outcome_in es) e in ap (λ xs. xs ++ flat_map f es) (h x i.0) ∙ nothing_beside f h es i.1
  where
    left_empty : {Y : Type 0} (xs ys : List Y) → xs ++ ys ≡ [] → (xs ≡ []) × (ys ≡ [])
    left_empty [] ys k = (refl, k)
    left_empty (x ∷ xs) ys k = absurd (cc)

owns_nothing : (a : Attempt) (x : Entry) → outcome_in x ≡ [] → own_in a x ≡ []
owns_nothing a (Born o b c) h = absurd (cc)
owns_nothing a x h = refl

prints_nothing : (a : Attempt) (x : Entry) → outcome_in x ≡ [] → printed_in a x ≡ []
prints_nothing a (Printed v) h = absurd (cc)
prints_nothing a x h = refl

ends_nothing : (a : Attempt) (x : Entry) → outcome_in x ≡ [] → ended_in a x ≡ []
ends_nothing a (Ended b c) h = absurd (cc)
ends_nothing a x h = refl

beside : {X : Type 0} (f : Entry → List X) → ((x : Entry) → outcome_in x ≡ [] → f x ≡ []) → (es more : List Entry) → flat_map outcome_in more ≡ [] → flat_map f (es ++ more) ≡ flat_map f es
beside f h es more e = flat_map-append f es more ∙ (ap (λ xs. flat_map f es ++ xs) (nothing_beside f h more e) ∙ append-nil (flat_map f es))

pub law_of_commits : LawOfCommits
law_of_commits s log j seat a base next p news vs more c l m =
    let es = commit_entries a next news vs p.stop in
    let i = In (Commit j) seat in
    let o = own_commit log j seat a next.owner c.claimed c.lives c.runs in
    let left = left_on s log a base next p news vs i refl refl refl refl refl refl l in
    let all : flat_map outcome_in (es ++ more) ≡ flat_map outcome_in es = flat_map-append outcome_in es more ∙ (ap (λ xs. flat_map outcome_in es ++ xs) m.no_outcome ∙ append-nil (flat_map outcome_in es)) in
    record {
      no_event = commits_no_event a next news vs p.stop more m.no_event;
      unrefused = commits_unrefused a next news vs p.stop more m.unrefused;
      happens = (
        a,
        record {
          worker = next.owner;
          claimed = c.claimed;
          once = c.once;
          lives = c.lives;
          runs = c.runs;
          alone = subst (λ xs. AllByRecursion (λ b. b ≡ a) xs) (sym all) (only_of a next news vs p.stop l.of_main);
        },
        record {
          base = base;
          p = p;
          replays = l.replays;
          own = ap (λ xs. own_births a log ++ xs) (beside (own_in a) (owns_nothing a) es more m.no_outcome ∙ own_of_births a next news vs p.stop) ∙ l.own;
          prints = ap (λ xs. printed_by a log ++ xs) (beside (printed_in a) (prints_nothing a) es more m.no_outcome ∙ prints_of_commit a next news vs p.stop l.of_main) ∙ l.prints;
          ends = beside (ended_in a) (ends_nothing a) es more m.no_outcome ∙ ends_of_commit a next news vs p.stop;
        },
      );
      each = each-append s (log ++ i ∷ []) es more (left_is_allowed s (log ++ i ∷ []) a base next p news vs o left) (subst (λ b. EachAllowed s b more) (sym (append_assoc log (i ∷ []) es)) m.each);
    }
