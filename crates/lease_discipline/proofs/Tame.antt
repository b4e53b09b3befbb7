-- Changes of a worker's objects in which no attempt comes to run, and what tests tell of them.
use Rattle.std.proofs.Common.{◌≡◌, ℕ, zero, suc, List, [], ◌∷◌, ◌++◌, map, Some, None, Option, refl, ap, sym, ◌∙◌, inl, inr}
use Rattle.std.specs.Prelude.{slice_get}
use Rattle.meaning.specs.Values.{Birth, Id}
use Rattle.event_log.specs.Entries.{Attempt}
use Rattle.protocol_laws.specs.of_protocol.Commits.{task_objects}
use Rattle.protocol_laws.specs.of_protocol.Numbered.{item_at, changed_at}
use Rattle.protocol_laws.specs.of_protocol.Tables.{ByTask, Object, OwnTask, AtRest, AskedAt, RunsOn, WasPut}
use Rattle.protocol_laws.specs.of_protocol.Tables.{Worker}
use Rattle.protocol_laws.specs.of_protocol.Tables.{new_task, task_in, task_of, with_task, without_location}
use Rattle.protocol_laws.proofs.of_smallest_steps.Known.{new_tasks, same_tasks}
use Rattle.protocol_laws.proofs.of_protocol_owed.CourseEvents.{append_none}
use Rattle.protocol_laws.proofs.of_protocol_owed.Nodes.{changed_cases, push_cases, there_more}

-- the present attempt of the object's task ran there before
pub record RanAlready (x : Worker) (k number v n : ℕ) : Type 0 where
  pub task : OwnTask
  pub at : task_of (item_at x.objects k) ≡ Some task
  pub progress : task.progress ≡ RunsOn v n
  pub numbered : task.number ≡ number

pub record IsTame (x y : Worker) : Type 0 where
  pub node : y.node ≡ x.node
  pub live : y.is_live ≡ x.is_live
  pub run : y.run ≡ x.run
  pub began : y.began ≡ x.began
  pub runs : (k : ℕ) (task : OwnTask) (v n : ℕ) → task_of (item_at y.objects k) ≡ Some task → task.progress ≡ RunsOn v n → RanAlready x k task.number v n

pub asked_not_run : (t m v n : ℕ) → AskedAt t m ≡ RunsOn v n → ⊥
asked_not_run t m v n e = absurd (cc)

pub rest_not_run : (v n : ℕ) → AtRest ≡ RunsOn v n → ⊥
rest_not_run v n e = absurd (cc)

pub put_not_task : (task : OwnTask) → task_in WasPut ≡ Some task → ⊥
put_not_task task e = absurd (cc)

pub new_not_run : (spec : Birth) (task : OwnTask) (v n : ℕ) → task_in (ByTask (new_task spec)) ≡ Some task → task.progress ≡ RunsOn v n → ⊥
new_not_run spec task v n e q = let same : new_task spec ≡ task = cc in rest_not_run v n (ap (λ (u : OwnTask). u.progress) same ∙ q)

-- ---- changes

-- the same objects
pub same_tame : (x y : Worker) → y.node ≡ x.node → y.is_live ≡ x.is_live → y.run ≡ x.run → y.began ≡ x.began → y.objects ≡ x.objects → IsTame x y
same_tame x y node live run began objects = record {
  node = node;
  live = live;
  run = run;
  began = began;
  runs = λ k task v n e q. record { task = task; at = ap (λ ys. task_of (item_at ys k)) (sym objects) ∙ e; progress = q; numbered = refl };
}

-- what a changed object runs, it ran before
abbrev RunsAsBefore : (Object → Object) → Type 0
RunsAsBefore f =
    (y : Object) (task : OwnTask) (v n : ℕ) → task_in (f y).source ≡ Some task → task.progress ≡ RunsOn v n →
    (old : OwnTask) × (task_in y.source ≡ Some old) × (old.progress ≡ RunsOn v n) × (old.number ≡ task.number)

changed_tame : (x : Worker) (k : ℕ) (f : Object → Object) → RunsAsBefore f → IsTame x (record x { objects = changed_at x.objects k f })
changed_tame x k f as_before = record {
  node = refl;
  live = refl;
  run = refl;
  began = refl;
  runs = λ i task v n e q. by_item i task v n q (item_at (changed_at x.objects k f) i) refl e;
}
  where
    by_item : (i : ℕ) (task : OwnTask) (v n : ℕ) → task.progress ≡ RunsOn v n → (o : Option Object) → item_at (changed_at x.objects k f) i ≡ o →
        task_of o ≡ Some task → RanAlready x i task.number v n
    by_item i task v n q None g e = absurd (cc)
    by_item i task v n q (Some z) g e = elim (changed_cases x.objects k i f z g) [
      | inl (same, y, at, is) ↦
          let old = as_before y task v n (ap (λ (u : Object). task_in u.source) (sym is) ∙ e) q in
          record { task = old.0; at = ap task_of at ∙ old.1; progress = old.2; numbered = old.3 }
      | inr (apart, at) ↦ record { task = task; at = ap task_of at ∙ e; progress = q; numbered = refl }
    ]

-- what makes the object isn't touched
pub untouched_tame : (x : Worker) (k : ℕ) (f : Object → Object) → ((y : Object) → (f y).source ≡ y.source) →
    IsTame x (record x { objects = changed_at x.objects k f })
untouched_tame x k f same = changed_tame x k f (λ y task v n e q. (task, ap task_in (sym (same y)) ∙ e, q, refl))

-- a task that doesn't run takes the place of the one before
pub task_tame : (x : Worker) (k : ℕ) (task : OwnTask) → ((v n : ℕ) → task.progress ≡ RunsOn v n → ⊥) →
    IsTame x (record x { objects = changed_at x.objects k (with_task task) })
task_tame x k task rests = changed_tame x k (with_task task) (λ y old v n e q. let same : task ≡ old = cc in
    absurd (rests v n (ap (λ (u : OwnTask). u.progress) same ∙ q)))

pub new_tame : (x : Worker) (y : Object) → ((task : OwnTask) (v n : ℕ) → task_in y.source ≡ Some task → task.progress ≡ RunsOn v n → ⊥) →
    IsTame x (record x { objects = x.objects ++ y ∷ [] })
new_tame x y rests = record {
  node = refl;
  live = refl;
  run = refl;
  began = refl;
  runs = λ i task v n e q. by_item i task v n q (item_at (x.objects ++ y ∷ []) i) refl e;
}
  where
    by_item : (i : ℕ) (task : OwnTask) (v n : ℕ) → task.progress ≡ RunsOn v n → (o : Option Object) → item_at (x.objects ++ y ∷ []) i ≡ o →
        task_of o ≡ Some task → RanAlready x i task.number v n
    by_item i task v n q None g e = absurd (cc)
    by_item i task v n q (Some z) g e = elim (push_cases x.objects i y z g) [
      | inl at ↦ record { task = task; at = ap task_of at ∙ e; progress = q; numbered = refl }
      | inr (last, is) ↦ absurd (rests task v n (ap (λ (u : Object). task_in u.source) is ∙ e) q)
    ]

-- the objects of a new task
pub born_tame : (x : Worker) (a : Attempt) (serial : ℕ) (spec : Birth) (others : ℕ) (ids : List Id) →
    IsTame x (record x { objects = x.objects ++ task_objects a serial spec others ids })
born_tame x a serial spec others ids = record {
  node = refl;
  live = refl;
  run = refl;
  began = refl;
  runs = λ i task v n e q. elim (new_tasks x.objects a serial spec others ids i) [
    | inl same ↦ record { task = task; at = sym same ∙ e; progress = q; numbered = refl }
    | inr (none, new) ↦ absurd (new_not_run spec task v n (sym new ∙ e) q)
  ];
}

get_mapped : {X Y : Type 0} (f : X → Y) (xs : List X) (i : ℕ) (y : Y) → slice_get (map f xs) i ≡ Some y → (x : X) × (slice_get xs i ≡ Some x) × (y ≡ f x)
get_mapped f [] i y e = absurd (cc)
get_mapped f (x ∷ xs) zero y e = (x, refl, (let g : y ≡ f x = cc in g))
get_mapped f (x ∷ xs) (suc i) y e = get_mapped f xs i y e

pub item_mapped : {X Y : Type 0} (f : X → Y) (xs : List X) (k : ℕ) (y : Y) → item_at (map f xs) k ≡ Some y → (x : X) × (item_at xs k ≡ Some x) × (y ≡ f x)
item_mapped f xs zero y e = absurd (cc)
item_mapped f xs (suc i) y e = get_mapped f xs i y e

pub locations_tame : (x : Worker) (m : ℕ) → IsTame x (record x { objects = map (without_location m) x.objects })
locations_tame x m = record {
  node = refl;
  live = refl;
  run = refl;
  began = refl;
  runs = λ i task v n e q. by_item i task v n q (item_at (map (without_location m) x.objects) i) refl e;
}
  where
    by_item : (i : ℕ) (task : OwnTask) (v n : ℕ) → task.progress ≡ RunsOn v n → (o : Option Object) → item_at (map (without_location m) x.objects) i ≡ o →
        task_of o ≡ Some task → RanAlready x i task.number v n
    by_item i task v n q None g e = absurd (cc)
    by_item i task v n q (Some z) g e =
        let r = item_mapped (without_location m) x.objects i z g in
        record { task = task; at = ap task_of r.1 ∙ ap (λ (u : Object). task_in u.source) (sym r.2) ∙ e; progress = q; numbered = refl }

-- ---- changes that leave tasks as they are

pub record LeavesTasks (x y : Worker) : Type 0 where
  pub tame : IsTame x y
  pub tasks : (k : ℕ) → task_of (item_at y.objects k) ≡ task_of (item_at x.objects k)

pub same_left : (x y : Worker) → y.node ≡ x.node → y.is_live ≡ x.is_live → y.run ≡ x.run → y.began ≡ x.began → y.objects ≡ x.objects → LeavesTasks x y
same_left x y node live run began objects = record { tame = same_tame x y node live run began objects; tasks = λ k. ap (λ ys. task_of (item_at ys k)) objects }

pub untouched_left : (x : Worker) (k : ℕ) (f : Object → Object) → ((y : Object) → (f y).source ≡ y.source) →
    LeavesTasks x (record x { objects = changed_at x.objects k f })
untouched_left x k f same = record { tame = untouched_tame x k f same; tasks = λ m. same_tasks x.objects k m f same }

pub put_left : (x : Worker) (y : Object) → y.source ≡ WasPut → LeavesTasks x (record x { objects = x.objects ++ y ∷ [] })
put_left x y put = record {
  tame = new_tame x y (λ task v n e _. put_not_task task (ap task_in (sym put) ∙ e));
  tasks = λ k. by_item k (item_at (x.objects ++ y ∷ []) k) refl (item_at x.objects k) refl;
}
  where
    by_item : (k : ℕ) (o : Option Object) → item_at (x.objects ++ y ∷ []) k ≡ o → (q : Option Object) → item_at x.objects k ≡ q →
        task_of (item_at (x.objects ++ y ∷ []) k) ≡ task_of (item_at x.objects k)
    by_item k None e q f = ap task_of e ∙ ap task_of (sym (append_none x.objects (y ∷ []) k e))
    by_item k (Some z) e (Some u) f = ap task_of (there_more x.objects (y ∷ []) k u f) ∙ ap task_of (sym f)
    by_item k (Some z) e None f = elim (push_cases x.objects k y z e) [
      | inl at ↦ ap task_of e ∙ ap task_of (sym at)
      | inr (last, is) ↦ ap task_of e ∙ ap (λ (u : Object). task_in u.source) (sym is) ∙ ap task_in put ∙ ap task_of (sym f)
    ]

pub locations_left : (x : Worker) (m : ℕ) → LeavesTasks x (record x { objects = map (without_location m) x.objects })
locations_left x m = record { tame = locations_tame x m; tasks = λ k. by_item k (item_at x.objects k) refl }
  where
    get_map : (xs : List Object) (i : ℕ) → task_of (slice_get (map (without_location m) xs) i) ≡ task_of (slice_get xs i)
    get_map [] i = refl
    get_map (y ∷ xs) zero = refl
    get_map (y ∷ xs) (suc i) = get_map xs i

    by_item : (k : ℕ) (o : Option Object) → item_at x.objects k ≡ o → task_of (item_at (map (without_location m) x.objects) k) ≡ task_of (item_at x.objects k)
    by_item zero o e = refl
    by_item (suc i) o e = get_map x.objects i
