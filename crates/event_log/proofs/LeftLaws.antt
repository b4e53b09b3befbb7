-- What is left to log of an attempt may stand in a commit of its job.
use Rattle.std.proofs.Common.{◌≡◌, ℕ, ◌+◌, true, List, [], ◌∷◌, ◌++◌, ◌⊎◌, inl, inr, refl, sym, ap, ◌∙◌, subst, arith, append-nil, append_assoc, Some}
use Rattle.std.specs.Prelude.{if◌then◌else◌, ◌==◌}
use Rattle.std.specs.List.{flat_map, AllByRecursion}
use Rattle.std.proofs.lemmas.Bool.Decides.{nat_tests}
use Rattle.script_laws.specs.of_meaning.Lists.{IsFirst}
use Rattle.script_laws.specs.of_meaning.Values.{Value, Birth, results_of, Id}
use Rattle.script_laws.specs.of_meaning.Runs.{Stop, Needs, Over, Piece, behind}
use Rattle.script_laws.specs.of_meaning.Meaning.{replay}
use Rattle.script_laws.specs.of_meaning.Births.{Bearing, numbered, objects_at, part_at}
use Rattle.event_log.specs.Entries.{Attempt, Entry, Born, Printed, RetriesUsed, main_attempt}
use Rattle.event_log.specs.Words.{births, born_in, next_serial, own_in, own_births, got_in, printed_in, printed_by, ended_in, faulted_in, resolved_in, released_in, releases_of}
use Rattle.event_log.specs.Breaks.{Among}
use Rattle.event_log.specs.Rules.{Setting, Replays, IsOwnCommit, IsUnresolved, AreUnspent, AreUnreleased, MayBear, MayPrint}
use Rattle.event_log.specs.Legal.{EachAllowed}
use Rattle.event_log.specs.Commits.{commit_entries, IsLeft}
use Rattle.event_log.proofs.WordLaws.{word_push, births_push, next_serial-push, same_attempt-refl}
use Rattle.event_log.proofs.Extending.{births-more}
use Rattle.event_log.proofs.OwnLaws.{own_commit-plain}

first_of_append : {X : Type 0} (xs ys : List X) → IsFirst xs (xs ++ ys)
first_of_append [] ys = tt
first_of_append (x ∷ xs) ys = (refl, first_of_append xs ys)

-- a list is a beginning of what it and more make
begins_with : {X : Type 0} (xs : List X) (x : X) (ys zs : List X) → xs ++ x ∷ ys ≡ zs → IsFirst (xs ++ x ∷ []) zs
begins_with xs x ys zs e = subst (λ ws. IsFirst (xs ++ x ∷ []) ws) (append_assoc xs (x ∷ []) ys ∙ e) (first_of_append (xs ++ x ∷ []) ys)

pub unchanged : {X : Type 0} (f : Entry → List X) (log : List Entry) (e : Entry) → f e ≡ [] → flat_map f (log ++ e ∷ []) ≡ flat_map f log
unchanged f log e h = word_push f log e ∙ (ap (λ ys. flat_map f log ++ ys) h ∙ append-nil (flat_map f log))

pub births_kept : (before : List Entry) (e : Entry) → born_in e ≡ [] → births (before ++ e ∷ []) ≡ births before
births_kept before e h = births_push before e ∙ (ap (λ xs. births before ++ xs) h ∙ append-nil (births before))

-- behind an entry that bears and resolves, or releases, nothing

pub unresolved_on : (before : List Entry) (o : Id) (e : Entry) → born_in e ≡ [] → ((p : Id) → resolved_in p e ≡ []) → IsUnresolved before o → IsUnresolved (before ++ e ∷ []) o
unresolved_on before o e hb hr h =
    (h.0, subst (λ bs. Among h.0 (objects_at bs o)) (sym (births_kept before e hb)) h.1, unchanged (resolved_in h.0) before e (hr h.0) ∙ h.2)

pub unspent_on : (before : List Entry) (o : Id) (e : Entry) → born_in e ≡ [] → ((p : Id) → resolved_in p e ≡ []) → AreUnspent before o → AreUnspent (before ++ e ∷ []) o
unspent_on before o e hb hr h p q i same r =
    h p q (subst (λ bs. part_at bs p ≡ Some q) (births_kept before e hb) i) same (subst (Among (record { kind = RetriesUsed; object = p })) (unchanged (resolved_in p) before e (hr p)) r)

all_unreleased : (before : List Entry) (e : Entry) → ((p : Id) → released_in p e ≡ []) → (os : List Id) → AllByRecursion (λ p. releases_of p before ≡ []) os → AllByRecursion (λ p. releases_of p (before ++ e ∷ []) ≡ []) os
all_unreleased before e hr [] h = tt
all_unreleased before e hr (o ∷ os) h = (unchanged (released_in o) before e (hr o) ∙ h.0, all_unreleased before e hr os h.1)

pub unreleased_on : (before : List Entry) (o : Id) (e : Entry) → born_in e ≡ [] → ((p : Id) → released_in p e ≡ []) → AreUnreleased before o → AreUnreleased (before ++ e ∷ []) o
unreleased_on before o e hb hr h =
    subst (λ bs. AllByRecursion (λ p. releases_of p (before ++ e ∷ []) ≡ []) (objects_at bs o)) (sym (births_kept before e hb)) (all_unreleased before e hr (objects_at (births before) o) h)

as_many : (n r : ℕ) → ◌≡◌ {A = ℕ} (if n == n then r else 0) r
as_many n r = let e : (n == n) ≡ true = grind (arith, nat_tests) in ap {B = ℕ} (λ t. if t then r else 0) e

-- the attempt still goes on behind an entry that is no answer, end or fault of it
pub replays_on : (s : Setting) (before : List Entry) (a : Attempt) (base : Id) (p : Piece) (e : Entry) → got_in a e ≡ [] → ended_in a e ≡ [] → faulted_in a e ≡ [] →
    Replays s before a base p → Replays s (before ++ e ∷ []) a base p
replays_on s before a base p e hg he hf h = record {
  spec = h.spec;
  born = births-more before (e ∷ []) a.object h.spec h.born;
  ended = unchanged (ended_in a) before e he ∙ h.ended;
  faulted = unchanged (faulted_in a) before e hf ∙ h.faulted;
  replayed = h.replayed ∙ ap (λ cs. replay s.script h.spec base cs) (sym (unchanged (got_in a) before e hg));
}

-- and has as much left to log
pub left_on : (s : Setting) (before : List Entry) (a : Attempt) (base next : Id) (p : Piece) (news : List Birth) (vs : List Value) (e : Entry) →
    born_in e ≡ [] → own_in a e ≡ [] → got_in a e ≡ [] → printed_in a e ≡ [] → ended_in a e ≡ [] → faulted_in a e ≡ [] → IsLeft s before a base next p news vs → IsLeft s (before ++ e ∷ []) a base next p news vs
left_on s before a base next p news vs e hb ho hg hp he hf h = record {
  replays = replays_on s before a base p e hg he hf h.replays;
  fresh = h.fresh ∙ ap (λ xs. next_serial next.owner xs) (sym (births_kept before e hb));
  own = ap (λ xs. xs ++ numbered next news) (unchanged (own_in a) before e ho) ∙ h.own;
  prints = ap (λ xs. xs ++ vs) (unchanged (printed_in a) before e hp) ∙ h.prints;
  of_main = h.of_main;
}

module _ (s : Setting) (a : Attempt) (base : Id) (p : Piece) where
  -- the end, or nothing
  ends : (before : List Entry) (next : Id) (stop : Stop) → stop ≡ p.stop → IsOwnCommit before a next.owner → IsLeft s before a base next p [] [] → EachAllowed s before (commit_entries a next [] [] stop)
  ends before next (Needs r) e o h = tt
  ends before next (Over c) e o h = (
    record {
      worker = next.owner;
      job = o;
      stops = record {
        base = base;
        p = p;
        replays = h.replays;
        own = sym (append-nil (own_births a before)) ∙ h.own;
        prints = sym (append-nil (printed_by a before)) ∙ h.prints;
        stopped = sym e;
      };
    },
    tt,
  )

  pub bears : (before : List Entry) (next : Id) (b : Birth) (bs : List Birth) (vs : List Value) → IsOwnCommit before a next.owner → IsLeft s before a base next p (b ∷ bs) vs →
      MayBear s before next a b × IsLeft s (before ++ Born next a b ∷ []) a base (behind next b) p bs vs
  bears before next b bs vs o h =
      let x : Bearing = record { object = next; birth = b } in
      let e = Born next a b in
      let own : own_births a (before ++ e ∷ []) ≡ own_births a before ++ x ∷ [] = word_push (own_in a) before e ∙ ap (λ t. own_births a before ++ (if t then x ∷ [] else [])) (same_attempt-refl a) in
      let m = next_serial-push next.owner (births before) x in
      let n = as_many next.owner (results_of b) in
      let k = h.fresh in
      let l : next.serial + results_of b ≡ next_serial next.owner (births before ++ x ∷ []) = omega (arith, k, m, n) in (
        record {
          job = o;
          base = base;
          p = p;
          replays = h.replays;
          own = begins_with (own_births a before) x (numbered (behind next b) bs) (numbered base p.births) h.own;
          next = h.fresh;
        },
        record {
          replays = replays_on s before a base p e refl refl refl h.replays;
          fresh = l ∙ ap (λ xs. next_serial next.owner xs) (sym (births_push before e));
          own = ap (λ xs. xs ++ numbered (behind next b) bs) own ∙ append_assoc (own_births a before) (x ∷ []) (numbered (behind next b) bs) ∙ h.own;
          prints = ap (λ xs. xs ++ vs) (unchanged (printed_in a) before e refl) ∙ h.prints;
          of_main = h.of_main;
        },
      )

pub prints_one : (s : Setting) (base : Id) (p : Piece) (before : List Entry) (next : Id) (v : Value) (vs : List Value) → IsOwnCommit before main_attempt next.owner →
    IsLeft s before main_attempt base next p [] (v ∷ vs) → MayPrint s before v × IsLeft s (before ++ Printed v ∷ []) main_attempt base next p [] vs
prints_one s base p before next v vs o h =
    let e = Printed v in
    let printed : printed_by main_attempt (before ++ e ∷ []) ≡ printed_by main_attempt before ++ v ∷ [] = word_push (printed_in main_attempt) before e ∙ ap (λ t. printed_by main_attempt before ++ (if t then v ∷ [] else [])) (same_attempt-refl main_attempt) in (
      record {
        worker = next.owner;
        job = o;
        base = base;
        p = p;
        replays = h.replays;
        own = sym (append-nil (own_births main_attempt before)) ∙ h.own;
        prints = begins_with (printed_by main_attempt before) v vs p.prints h.prints;
      },
      record {
        replays = replays_on s before main_attempt base p e refl refl refl h.replays;
        fresh = h.fresh ∙ ap (λ xs. next_serial next.owner xs) (sym (births_kept before e refl));
        own = ap (λ xs. xs ++ []) (unchanged (own_in main_attempt) before e refl) ∙ h.own;
        prints = ap (λ xs. xs ++ vs) printed ∙ append_assoc (printed_by main_attempt before) (v ∷ []) vs ∙ h.prints;
        of_main = inr refl;
      },
    )

prints_all : (s : Setting) (base : Id) (p : Piece) (before : List Entry) (next : Id) (vs : List Value) → IsOwnCommit before main_attempt next.owner →
    IsLeft s before main_attempt base next p [] vs → EachAllowed s before (commit_entries main_attempt next [] vs p.stop)
prints_all s base p before next [] o h = ends s main_attempt base p before next p.stop refl o h
prints_all s base p before next (v ∷ vs) o h =
    let r = prints_one s base p before next v vs o h in
    (r.0, prints_all s base p (before ++ Printed v ∷ []) next vs (own_commit-plain before (Printed v) main_attempt next.owner refl o) r.1)

prints_if_main : (s : Setting) (a : Attempt) (base : Id) (p : Piece) (before : List Entry) (next : Id) (vs : List Value) → (vs ≡ []) ⊎ (a ≡ main_attempt) → IsOwnCommit before a next.owner →
    IsLeft s before a base next p [] vs → EachAllowed s before (commit_entries a next [] vs p.stop)
prints_if_main s a base p before next vs (inl e) o h =
    subst (λ ws. IsLeft s before a base next p [] ws → EachAllowed s before (commit_entries a next [] ws p.stop)) (sym e)
    (λ k. ends s a base p before next p.stop refl o k) h
prints_if_main s a base p before next vs (inr e) o h =
    subst (λ x. IsOwnCommit before x next.owner → IsLeft s before x base next p [] vs → EachAllowed s before (commit_entries x next [] vs p.stop)) (sym e)
    (λ i k. prints_all s base p before next vs i k) o h

-- each of what is left to log may stand there
pub left_is_allowed : (s : Setting) (before : List Entry) (a : Attempt) (base next : Id) (p : Piece) (news : List Birth) (vs : List Value) → IsOwnCommit before a next.owner →
    IsLeft s before a base next p news vs → EachAllowed s before (commit_entries a next news vs p.stop)
left_is_allowed s before a base next p [] vs o h = prints_if_main s a base p before next vs h.of_main o h
left_is_allowed s before a base next p (b ∷ bs) vs o h =
    let r = bears s a base p before next b bs vs o h in
    (r.0, left_is_allowed s (before ++ Born next a b ∷ []) a base (behind next b) p bs vs (own_commit-plain before (Born next a b) a next.owner refl o) r.1)
