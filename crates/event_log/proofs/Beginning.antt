-- A worker is opened, and runs the first attempt of a task.
use Rattle.std.proofs.Common.{◌≡◌, ℕ, ◌+◌, Bool, true, List, [], ◌∷◌, ◌++◌, length, Option, Some, None, inr, refl, sym, ap, ◌∙◌, subst, arith, append-nil, append_assoc}
use Rattle.std.specs.Prelude.{◌&&◌}
use Rattle.std.specs.List.{flat_map}
use Rattle.std.proofs.lemmas.List.Concat.{flat_map-append}
use Rattle.log_entries.proofs.of_sequence.Places.{and_left, and_right}
use Rattle.script_laws.specs.of_meaning.Values.{Name, Value, Argument, Birth, Task, Id}
use Rattle.script_laws.specs.of_meaning.Runs.{Stop, Needs, Over, behind}
use Rattle.script_laws.specs.of_meaning.Births.{Bearing, numbered, birth_at}
use Rattle.event_log.specs.Entries.{Attempt, Event, Claim, Commit, Deliver, Tick, Notice, NoticeNode, Evict, Lose, Kill, KillNode, Join, Entry, In, Opened, Begun}
use Rattle.event_log.specs.Words.{attempt, main_bearing, births, born_in, opened, run_in, runs_of}
use Rattle.event_log.specs.Events.{node_lives, is_live}
use Rattle.event_log.specs.Rules.{Receiver, ToWorker, ToNode, worker_to, actor, IsHeard, Setting, IsOwn, IsUnresolved, AreUnreleased}
use Rattle.event_log.specs.Legal.{EachAllowed}
use Rattle.event_log.specs.Commits.{commit_entries}
use Rattle.event_log.proofs.Extending.{births-more}
use Rattle.event_log.proofs.OwnLaws.{is_plain, own-plain, node_of-opened}
use Rattle.event_log.proofs.LeftLaws.{unchanged, unresolved_on, unreleased_on}

-- ---- entries of one event

abbrev pub all_plain : List Entry → Bool
all_plain [] = true
all_plain (x ∷ es) = is_plain x && all_plain es

-- an own event stays own behind all its entries
pub own-more : (s : Setting) (log es : List Entry) (w : ℕ) → all_plain es ≡ true → IsOwn s log w → IsOwn s (log ++ es) w
own-more s log [] w p h = subst (λ l. IsOwn s l w) (sym (append-nil log)) h
own-more s log (x ∷ es) w p h =
    subst (λ l. IsOwn s l w) (append_assoc log (x ∷ []) es)
    (own-more s (log ++ x ∷ []) es w (and_right (is_plain x) (all_plain es) p) (own-plain s log x w (and_left (is_plain x) (all_plain es) p) h))

pub commits_plain : (a : Attempt) (next : Id) (news : List Birth) (vs : List Value) (stop : Stop) → all_plain (commit_entries a next news vs stop) ≡ true
commits_plain a next (b ∷ news) vs stop = commits_plain a (behind next b) news vs stop
commits_plain a next [] (v ∷ vs) stop = commits_plain a next [] vs stop
commits_plain a next [] [] (Over c) = refl
commits_plain a next [] [] (Needs r) = refl

-- ---- births of a commit

born_in_commit : (a : Attempt) (next : Id) (news : List Birth) (vs : List Value) (stop : Stop) → flat_map born_in (commit_entries a next news vs stop) ≡ numbered next news
born_in_commit a next (b ∷ news) vs stop =
    let x : Bearing = record { object = next; birth = b } in
    ap (λ xs. x ∷ xs) (born_in_commit a (behind next b) news vs stop)
born_in_commit a next [] (v ∷ vs) stop = born_in_commit a next [] vs stop
born_in_commit a next [] [] (Over c) = refl
born_in_commit a next [] [] (Needs r) = refl

-- what was born behind a commit: what was born before it, and its own births
pub births_of_commit : (log : List Entry) (j seat : ℕ) (a : Attempt) (next : Id) (news : List Birth) (vs : List Value) (stop : Stop) →
    births (log ++ In (Commit j) seat ∷ commit_entries a next news vs stop) ≡ births log ++ numbered next news
births_of_commit log j seat a next news vs stop =
    ap (λ xs. main_bearing ∷ xs) (flat_map-append born_in log (In (Commit j) seat ∷ commit_entries a next news vs stop) ∙ ap (λ xs. flat_map born_in log ++ xs) (born_in_commit a next news vs stop))

-- ---- a worker, and what it runs

-- a task of which nothing was begun yet, in an own event of its owner
pub record IsNewTask (s : Setting) (before : List Entry) (o : Id) (n : ℕ) : Type 0 where
  pub own : IsOwn s before o.owner
  pub function : Name
  pub args : List Argument
  pub depth : ℕ
  pub retries : ℕ
  pub others : ℕ
  pub born : birth_at (births before) o ≡ Some (Task function args depth retries others)
  pub unreleased : AreUnreleased before o
  pub unresolved : IsUnresolved before o
  pub unbegun : runs_of o before ≡ []
  pub lives : node_lives s.nodes n before ≡ true

to_worker : (r : Option Receiver) (w : ℕ) → worker_to r ≡ Some w → r ≡ Some (ToWorker w)
to_worker None w h = absurd (cc)
to_worker (Some (ToWorker v)) w h = cc
to_worker (Some (ToNode n)) w h = absurd (cc)

-- what is an own event of a live worker is no delivery to the dead
heard_by : (s : Setting) (before : List Entry) (e : Event) (w : ℕ) → actor s before e ≡ Some w → is_live w before ≡ true → IsHeard s before e
heard_by s before (Deliver m) w h k = inr (w, to_worker (s.receiver m) w h, k)
heard_by s before (Claim v) w h k = tt
heard_by s before (Commit j) w h k = tt
heard_by s before (Tick v) w h k = tt
heard_by s before (Notice v x) w h k = tt
heard_by s before (NoticeNode v x) w h k = tt
heard_by s before (Evict v x) w h k = tt
heard_by s before (Lose v x) w h k = tt
heard_by s before (Kill v) w h k = tt
heard_by s before (KillNode v) w h k = tt
heard_by s before Join w h k = tt

-- the next worker may be opened on the node, and run the task's first attempt
pub opens_and_begins : (s : Setting) (before : List Entry) (o : Id) (n : ℕ) → IsNewTask s before o n →
    EachAllowed s before (Opened (length (opened before) + 1) n ∷ Begun (attempt o 0) (length (opened before) + 1) ∷ [])
opens_and_begins s before o n h =
    let w = length (opened before) + 1 in
    let x = Opened w n in (
      record { event = h.own.event; now = h.own.now; heard = heard_by s before h.own.event o.owner h.own.own h.own.lives; next = refl; lives = h.lives },
      (
        record {
          own = own-plain s before x o.owner refl h.own;
          function = h.function;
          args = h.args;
          depth = h.depth;
          retries = h.retries;
          others = h.others;
          born = births-more before (x ∷ []) o _ h.born;
          unreleased = unreleased_on before o x refl (λ _. refl) h.unreleased;
          unresolved = unresolved_on before o x refl (λ _. refl) h.unresolved;
          node = n;
          place = node_of-opened before w n;
          next = sym (ap (λ ws. length ws) (unchanged (run_in o) before x refl ∙ h.unbegun));
          broken = tt;
          few = omega arith;
        },
        tt,
      ),
    )
