-- What an object is made from is older, in every sound run: a birth names what was born before it, and takes its owner's next serial.
use Rattle.std.proofs.Common.{◌≡◌, ℕ, zero, suc, ◌+◌, ◌<◌, ◌≤◌, List, [], ◌∷◌, ◌++◌, Option, Some, None, inl, inr, refl, ap, sym, subst, ◌∙◌, arith, append-nil, append_assoc}
use Rattle.std.specs.Prelude.{Bool, true, false, if◌then◌else◌, ◌==◌}
use Rattle.std.proofs.lemmas.Bool.Decides.{nat_tests}
use Rattle.meaning.specs.Births.{Bearing, Part, birth_at, is_made_by, part_at, part_of, same_id}
use Rattle.meaning.specs.Ids.{ArgumentsIn, BirthIn, ValueIn}
use Rattle.meaning.specs.Readings.{IsBorn, NameEarlier}
use Rattle.meaning.specs.Values.{Argument, Birth, Id, Int, Items, Known, Named, Put, Task, Value, results_of}
use Rattle.meaning.proofs.BirthLaws.{at_test, made_below, made_owner, or_else, part_at-push, same_id-true}
use Rattle.script_laws.proofs.Agreeing.{birth_more}
use Rattle.task_spec.specs.Dereferenced.{dereferenced_in, id_in, id_read, ids_read}
use Rattle.event_log.specs.Breaks.{Among}
use Rattle.event_log.specs.Entries.{Born, Entry}
use Rattle.event_log.specs.Legal.{Legal}
use Rattle.event_log.specs.Rules.{Allowed, Setting}
use Rattle.event_log.specs.Words.{births, born_in, next_serial}
use Rattle.event_log.proofs.SaneLaws.{always}
use Rattle.event_log.proofs.WordLaws.{births_push, next_serial-push}
use Rattle.holding_steps.specs.of_protocol.Laws.{AreOlder}
use Rattle.holding_steps.specs.of_protocol.Nodes.{Node}
use Rattle.holding_steps.specs.of_protocol.Numbered.{item_at}
use Rattle.holding_steps.specs.of_protocol.Recovery.{arguments_by, is_lost_at, task_for}
use Rattle.holding_steps.specs.of_protocol.Sets.{object_id}
use Rattle.holding_steps.specs.of_protocol.Steps.{object_at}
use Rattle.holding_steps.specs.of_protocol.Tables.{Beside, ByTask, ObjectSource, Object, OwnTask, WasPut, Worker, task_by, task_in, task_of}
use Rattle.holding_steps.specs.of_protocol.Cluster.{ClusterState, here, worker_at}
use Rattle.protocol_legal.specs.Knows.{IsResultOf, KnowsSource, KnowsObject, KnowsTask}
use Rattle.protocol_legal.specs.Past.{Past, past}
use Rattle.protocol_legal.specs.Whole.{setting_of}
use Rattle.protocol_owed.proofs.Envelopes.{among-append_cases, among-nothing}
use Rattle.holding_steps.proofs.of_meaning_laws.LogLaw.{legal_logs_read}
use Rattle.protocol_laws.specs.Plans.{PlansHavePremises}
use Rattle.protocol_laws.specs.Sound.{IsSound}

some_is : {X : Type 0} (x y : X) → Some x ≡ Some y → x ≡ y
some_is x y e = cc

-- ---- serials are given in order

abbrev NumberedFrom : List Bearing → List Bearing → Type 0
NumberedFrom before [] = Unit {0}
NumberedFrom before (x ∷ xs) = (x.object.serial ≡ next_serial x.object.owner before) × NumberedFrom (before ++ x ∷ []) xs

numbered_push : (before xs : List Bearing) (x : Bearing) → NumberedFrom before xs → x.object.serial ≡ next_serial x.object.owner (before ++ xs) →
    NumberedFrom before (xs ++ x ∷ [])
numbered_push before [] x n e = (subst (λ bs. x.object.serial ≡ next_serial x.object.owner bs) (append-nil before) e, tt)
numbered_push before (y ∷ xs) x n e = (
  n.0,
  numbered_push (before ++ y ∷ []) xs x n.1 (subst (λ bs. x.object.serial ≡ next_serial x.object.owner bs) (sym (append_assoc before (y ∷ []) xs)) e),
)

abbrev NumberedLog : List Entry → Type 0
NumberedLog log = NumberedFrom [] (births log)

numbered_same : (before : List Entry) (x : Entry) → born_in x ≡ [] → NumberedLog before → NumberedLog (before ++ x ∷ [])
numbered_same before x e n =
    subst (λ bs. NumberedFrom [] bs) (sym (births_push before x ∙ (ap (λ xs. births before ++ xs) e ∙ append-nil (births before)))) n

numbered_step : (s : Setting) (before : List Entry) (x : Entry) → NumberedLog before → Allowed s before x → NumberedLog (before ++ x ∷ [])
numbered_step s before (Born o a b) n may =
    subst (λ bs. NumberedFrom [] bs) (sym (births_push before (Born o a b))) (numbered_push [] (births before) (record { object = o; birth = b }) n may.next)
numbered_step s before x n may = numbered_same before x refl n

numbered_log : (s : Setting) (log : List Entry) → Legal s log → NumberedLog log
numbered_log s log legal = always NumberedLog numbered_step s log (refl, tt) legal

-- ---- so what was born has a serial below its owner's next

abbrev Bound : List Bearing → Type 0
Bound bs = (o : Id) → IsBorn bs o → o.serial < next_serial o.owner bs

as_many : (n r : ℕ) → ◌≡◌ {A = ℕ} (if n == n then r else 0) r
as_many n r = let e : (n == n) ≡ true = grind (arith, nat_tests) in ap {B = ℕ} (λ t. if t then r else 0) e

bound_made : (bs : List Bearing) (x : Bearing) (o : Id) → x.object.serial ≡ next_serial x.object.owner bs → is_made_by x o ≡ true →
    o.serial < next_serial o.owner (bs ++ x ∷ [])
bound_made bs x o next m =
    let k = made_below x o m in
    let i = next_serial-push x.object.owner bs x in
    let n = as_many x.object.owner (results_of x.birth) in
    let below : o.serial < next_serial x.object.owner (bs ++ x ∷ []) = omega (arith, k, i, n, next) in
    subst (λ w. o.serial < next_serial w (bs ++ x ∷ [])) (made_owner x o m) below

bound_new : (bs : List Bearing) (x : Bearing) (o : Id) (p : Part) → x.object.serial ≡ next_serial x.object.owner bs → part_at (x ∷ []) o ≡ Some p →
    o.serial < next_serial o.owner (bs ++ x ∷ [])
bound_new bs x o p next e =
    at_test
    (λ t. (if t then Some (part_of x o) else None) ≡ Some p → (t ≡ true → o.serial < next_serial o.owner (bs ++ x ∷ [])) →
    o.serial < next_serial o.owner (bs ++ x ∷ [])) (is_made_by x o)
    (λ t _ f. f refl) (λ t k f. absurd (cc)) e (bound_made bs x o next)

bound_by : (bs : List Bearing) (x : Bearing) (o : Id) (p : Part) (q : Option Part) → x.object.serial ≡ next_serial x.object.owner bs →
    ((c : Part) → q ≡ Some c → o.serial < next_serial o.owner bs) → or_else q (part_at (x ∷ []) o) ≡ Some p → o.serial < next_serial o.owner (bs ++ x ∷ [])
bound_by bs x o p None next old e = bound_new bs x o p next e
bound_by bs x o p (Some c) next old e = let k = old c refl in let m = next_serial-push o.owner bs x in omega (arith, k, m)

bound_push : (bs : List Bearing) (x : Bearing) → x.object.serial ≡ next_serial x.object.owner bs → Bound bs → Bound (bs ++ x ∷ [])
bound_push bs x next h o b = bound_by bs x o b.0 (part_at bs o) next (λ c e. h o (c, e)) (sym (part_at-push bs x o) ∙ b.1)

bound_nothing : Bound []
bound_nothing o b = let e = b.1 in absurd (cc)

-- ---- and what a birth names, of the same owner, is older

abbrev IsOlder : Id → Id → Type 0
IsOlder o y = y.owner ≡ o.owner → y.serial < o.serial

older_one : (before : List Bearing) (x : Bearing) (o y : Id) → Bound before → x.object.serial ≡ next_serial x.object.owner before → x.object ≡ o →
    IsBorn before y → IsOlder o y
older_one before x o y bound next is born own =
    let below : y.serial < next_serial y.owner before = bound y born in
    let owner : y.owner ≡ x.object.owner = own ∙ ap (λ (i : Id). i.owner) (sym is) in
    let same : next_serial y.owner before ≡ next_serial x.object.owner before = ap (λ w. next_serial w before) owner in
    let serial : x.object.serial ≡ o.serial = ap (λ (i : Id). i.serial) is in
    omega (arith, below, same, next, serial)

older_from : (before xs : List Bearing) → Bound before → NumberedFrom before xs → NameEarlier before xs → (o : Id) (b : Birth) → birth_at xs o ≡ Some b →
    BirthIn (IsOlder o) b
older_from before [] bound n m o b e = absurd (cc)
older_from before (x ∷ xs) bound n m o b e =
    at_test (λ t. same_id x.object o ≡ t → (if t then Some x.birth else birth_at xs o) ≡ Some b → BirthIn (IsOlder o) b) (same_id x.object o)
    (λ _ same f. subst (λ d. BirthIn (IsOlder o) d) (some_is x.birth b f)
    (birth_more (IsBorn before) (IsOlder o) (λ y born. older_one before x o y bound n.0 (same_id-true x.object o same) born) x.birth m.1))
    (λ _ _ f. older_from (before ++ x ∷ []) xs (bound_push before x n.0 bound) n.1 m.2 o b f) refl e

-- ---- what is dereferenced is named

in_value : (P : Id → Type 0) (v : Value) → ValueIn P v → (o : Id) → Among o (id_in v) → P o
in_value P (Named y) h o (zero, e) = subst P (some_is y o e) h
in_value P (Named y) h o (suc k, e) = absurd (cc)
in_value P (Int n) h o i = absurd (among-nothing o i)
in_value P (Items vs) h o i = absurd (among-nothing o i)
in_value P (Known c) h o i = absurd (among-nothing o i)

in_argument : (P : Id → Type 0) (a : Argument) → ValueIn P a.value → (o : Id) → Among o (id_read a) → P o
in_argument P a h o i =
    at_test (λ t. Among o (if t then id_in a.value else []) → P o) a.marked (λ _ j. in_value P a.value h o j) (λ _ j. absurd (among-nothing o j)) i

in_arguments : (P : Id → Type 0) (args : List Argument) → ArgumentsIn P args → (o : Id) → Among o (ids_read args) → P o
in_arguments P [] h o i = absurd (among-nothing o i)
in_arguments P (a ∷ args) h o i = elim (among-append_cases (id_read a) (ids_read args) o i) [
  | inl j ↦ in_argument P a h.0 o j
  | inr j ↦ in_arguments P args h.1 o j
]

in_birth : (P : Id → Type 0) (b : Birth) → BirthIn P b → (o : Id) → Among o (dereferenced_in b) → P o
in_birth P (Put v) h o i = absurd (among-nothing o i)
in_birth P (Task f args depth retries others) h o i = in_arguments P args h o i

-- ---- in a sound run

module _ (s : Setting) (log : List Entry) (c : ClusterState) (sound : IsSound s log c) (w : ℕ) (x : Worker) (node : Node) (at : worker_at c w ≡ Some x)
    (live : x.is_live ≡ true) where
  legal : Legal (setting_of s c) log
  legal = sound.between.legal

  named : (k : ℕ) (b : Birth) → birth_at (births log) (object_id w k) ≡ Some b → BirthIn (IsOlder (object_id w k)) b
  named k b e =
      older_from [] (births log) bound_nothing (numbered_log (setting_of s c) log legal) (legal_logs_read (setting_of s c) log legal).earlier
      (object_id w k) b e

  -- what is lost is the worker's own
  own_lost : (o : Id) → is_lost_at x.objects (object_at (here c w x node) o) ≡ true → o.owner ≡ w
  own_lost o lost = by_test (o.owner == w) refl lost
    where
      same_number : (m n : ℕ) → (m == n) ≡ true → m ≡ n
      same_number m n f = grind (arith, nat_tests)

      by_test : (t : Bool) → (o.owner == w) ≡ t → is_lost_at x.objects (if t then item_at x.objects o.serial else None) ≡ true → o.owner ≡ w
      by_test true e f = same_number o.owner w e
      by_test false e f = absurd (cc)

  abbrev p : Past
  p = past log sound.between.asked

  knows_source : (k : ℕ) (z : Object) → item_at x.objects k ≡ Some z → (m : ObjectSource) → z.source ≡ m → KnowsSource p x.node x.objects (object_id w k) z m
  knows_source k z there m e =
      subst (KnowsSource p x.node x.objects (object_id w k) z) e ((sound.between.knows.workers w x at live).objects k z there).source

  -- what the task is made from that stands with the object of that serial
  by_task : (k : ℕ) (r : Option Object) → item_at x.objects k ≡ r → (task : OwnTask) → task_of r ≡ Some task → (o : Id) → o.owner ≡ w →
      Among o (dereferenced_in task.spec) → o.serial < k
  by_task k None there task e o own i = absurd (cc)
  by_task k (Some z) there task e o own i = by_its z.source refl e
    where
      by_its : (m : ObjectSource) → z.source ≡ m → task_in m ≡ Some task → o.serial < k
      by_its WasPut f g = absurd (cc)
      by_its (Beside n) f g = absurd (cc)
      by_its (ByTask own_task) f g =
          let same : own_task ≡ task = some_is own_task task g in
          let q : KnowsTask p (object_id w k) x.objects own_task × IsResultOf p x.objects (object_id w k) z k own_task =
          knows_source k z there (ByTask own_task) f in
          let spec : birth_at (births log) (object_id w k) ≡ Some task.spec =
          subst (λ (d : OwnTask). birth_at (births log) (object_id w k) ≡ Some d.spec) same q.0.spec in
          in_birth (IsOlder (object_id w k)) task.spec (named k task.spec spec) o i own

  by_source : (k : ℕ) (z : Object) → item_at x.objects k ≡ Some z → (o : Id) → o.owner ≡ w → (m : ObjectSource) → z.source ≡ m →
      Among o (arguments_by (task_by x.objects m)) → o.serial < k
  by_source k z there o own WasPut e i = absurd (among-nothing o i)
  by_source k z there o own (ByTask task) e i = by_task k (Some z) there task (ap task_in e) o own i
  by_source k z there o own (Beside n) e i =
      let q : (task : OwnTask) × (task_of (item_at x.objects n) ≡ Some task) × IsResultOf p x.objects (object_id w k) z n task =
      knows_source k z there (Beside n) e in
      let first : o.serial < n = by_task n (item_at x.objects n) refl q.0 q.1 o own (subst (λ r. Among o (arguments_by r)) q.1 i) in
      let row : IsResultOf p x.objects (object_id w k) z n q.0 = q.2 in
      let serial : k ≡ n + row.0 = row.2 in
      omega (arith, first, serial)

  by_object : (k : ℕ) (o : Id) → o.owner ≡ w → (r : Option Object) → item_at x.objects k ≡ r →
      Among o (arguments_by (task_for (here c w x node) r)) → o.serial < k
  by_object k o own None e i = absurd (among-nothing o i)
  by_object k o own (Some z) e i = by_source k z e o own z.source refl i

  older : AreOlder (here c w x node)
  older k o lost = by_object k o (own_lost o lost.lost) (item_at x.objects k) refl lost.argument

  from_one : (k : ℕ) (z : Object) → item_at x.objects k ≡ Some z → 1 ≤ k
  from_one zero z e = absurd (cc)
  from_one (suc k) z e = omega arith

pub plans_have_premises : PlansHavePremises
plans_have_premises s log c sound w x node at live = record { older = older s log c sound w x node at live; counted = from_one s log c sound w x node at live }
