-- A longer log says all that a shorter one says.
use Rattle.std.proofs.Common.{◌≡◌, ℕ, zero, suc, Bool, true, false, List, [], ◌∷◌, ◌++◌, Option, Some, None, refl, sym, ap, ◌∙◌, subst}
use Rattle.std.specs.Prelude.{if◌then◌else◌}
use Rattle.std.specs.List.{flat_map, list_any}
use Rattle.std.proofs.lemmas.List.Concat.{flat_map-append}
use Rattle.script_laws.specs.of_meaning.Values.{Birth, Id}
use Rattle.script_laws.specs.of_meaning.Births.{same_id, Bearing, birth_at, is_made_by, Part, part_of, part_at, objects_with, objects_at}
use Rattle.event_log.specs.Entries.{Entry}
use Rattle.event_log.specs.Words.{births, born_in, bearer_in, run_in, got_in, ended_in, faulted_in, accepted_in, resolved_in, released_in, opened_in, main_bearing}
use Rattle.event_log.specs.Events.{refused_next, accepted_events, claim_in, commit_in, kills_node, node_is_killed, kills, on_node, node_of, is_killed, tells, was_told, loses, was_lost}
use Rattle.event_log.specs.Extends.{LogsExtend}
use Rattle.event_log.proofs.EventLaws.{any_accepted-more, accepted_word-more, word-more}

by_test : {X : Type 0} (t : Bool) (x : Option X) (p q : Option X) (b : X) → (p ≡ Some b → q ≡ Some b) → (if t then x else p) ≡ Some b → (if t then x else q) ≡ Some b
by_test true x p q b f h = h
by_test false x p q b f h = f h

pub birth_at-more : (xs ys : List Bearing) (o : Id) (b : Birth) → birth_at xs o ≡ Some b → birth_at (xs ++ ys) o ≡ Some b
birth_at-more [] ys o b h = absurd (cc)
birth_at-more (x ∷ xs) ys o b h = by_test (same_id x.object o) (Some x.birth) (birth_at xs o) (birth_at (xs ++ ys) o) b (birth_at-more xs ys o b) h

pub births-more : (log es : List Entry) (o : Id) (b : Birth) → birth_at (births log) o ≡ Some b → birth_at (births (log ++ es)) o ≡ Some b
births-more log es o b h = subst (λ xs. birth_at (main_bearing ∷ xs) o ≡ Some b) (sym (flat_map-append born_in log es)) (birth_at-more (births log) (flat_map born_in es) o b h)

pub part_at-more : (xs ys : List Bearing) (o : Id) (p : Part) → part_at xs o ≡ Some p → part_at (xs ++ ys) o ≡ Some p
part_at-more [] ys o p h = absurd (cc)
part_at-more (x ∷ xs) ys o p h = by_test (is_made_by x o) (Some (part_of x o)) (part_at xs o) (part_at (xs ++ ys) o) p (part_at-more xs ys o p) h

pub parts-more : (log es : List Entry) (o : Id) (p : Part) → part_at (births log) o ≡ Some p → part_at (births (log ++ es)) o ≡ Some p
parts-more log es o p h = subst (λ xs. part_at (main_bearing ∷ xs) o ≡ Some p) (sym (flat_map-append born_in log es)) (part_at-more (births log) (flat_map born_in es) o p h)

-- the objects of a birth that was logged stay the same
pub objects-more : (log es : List Entry) (o : Id) (b : Birth) → birth_at (births log) o ≡ Some b → objects_at (births (log ++ es)) o ≡ objects_at (births log) o
objects-more log es o b h = ap (λ c. objects_with o c) (births-more log es o b h ∙ sym h)

pub node_of-more : (log es : List Entry) (w n : ℕ) → node_of w log ≡ Some n → node_of w (log ++ es) ≡ Some n
node_of-more log es zero n h = h
node_of-more log es (suc k) n h = word-more opened_in log es k n h

killed_by : (log es : List Entry) (w : ℕ) → refused_next es ≡ false → (o : Option ℕ) → node_of w log ≡ o →
    on_node o false (λ n. list_any (kills w n) (accepted_events log)) ≡ true → on_node (node_of w (log ++ es)) false (λ n. list_any (kills w n) (accepted_events (log ++ es))) ≡ true
killed_by log es w r None e h = absurd (cc)
killed_by log es w r (Some n) e h =
    subst (λ o. on_node o false (λ m. list_any (kills w m) (accepted_events (log ++ es))) ≡ true) (sym (node_of-more log es w n e)) (any_accepted-more (kills w n) log es r h)

pub killed-more : (log es : List Entry) (w : ℕ) → refused_next es ≡ false → is_killed w log ≡ true → is_killed w (log ++ es) ≡ true
unfolding is_killed
killed-more log es w r h = killed_by log es w r (node_of w log) refl h

node_killed-more : (log es : List Entry) (n : ℕ) → refused_next es ≡ false → node_is_killed n log ≡ true → node_is_killed n (log ++ es) ≡ true
unfolding node_is_killed
node_killed-more log es n r h = any_accepted-more (kills_node n) log es r h

told-more : (log es : List Entry) (w v : ℕ) → refused_next es ≡ false → was_told w v log ≡ true → was_told w v (log ++ es) ≡ true
unfolding was_told
told-more log es w v r h = any_accepted-more (tells w v) log es r h

lost-more : (log es : List Entry) (n : ℕ) (o : Id) → refused_next es ≡ false → was_lost n o log ≡ true → was_lost n o (log ++ es) ≡ true
unfolding was_lost
lost-more log es n o r h = any_accepted-more (loses n o) log es r h

pub logs_extend : LogsExtend
logs_extend log es r = record {
  births = births-more log es;
  parts = parts-more log es;
  bearers = λ o. word-more (bearer_in o) log es;
  runs = λ o. word-more (run_in o) log es;
  answers = λ a. word-more (got_in a) log es;
  ends = λ a. word-more (ended_in a) log es;
  faults = λ a. word-more (faulted_in a) log es;
  accepts = λ a. word-more (accepted_in a) log es;
  resolves = λ o. word-more (resolved_in o) log es;
  releases = λ o. word-more (released_in o) log es;
  opened = word-more opened_in log es;
  claims = accepted_word-more claim_in log es r;
  commits = accepted_word-more commit_in log es r;
  node_kills = λ n. node_killed-more log es n r;
  kills = λ w. killed-more log es w r;
  notices = λ w v. told-more log es w v r;
  losses = λ n o. lost-more log es n o r;
}
