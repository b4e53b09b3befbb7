-- What is owed at an end that is told, and at its acceptance.
use Rattle.std.proofs.Common.{◌⊎◌, [], ap, arith, inl, inr, length, length-append, List, None, Option, refl, Some, subst, suc, sym, zero, ℕ, ◌++◌, ◌+◌, ◌-◌, ◌<◌}
use Rattle.std.proofs.Common.{◌∙◌, ◌∷◌, ◌≡◌, ◌≢◌, ◌≤◌}
use Rattle.std.specs.Prelude.{false, if◌then◌else◌, is_some, map, slice_get, true, ◌&&◌, ◌==◌, ◌||◌}
use Rattle.std.proofs.lemmas.List.Concat.{flat_map-append}
use Rattle.std.proofs.lemmas.Bool.Decides.{nat_tests}
use Rattle.meaning.proofs.BirthLaws.{at_test, first_is_made, is_made, made_below, made_from, made_owner, part_is_made}
use Rattle.meaning.specs.Births.{birth_at, is_made_by, Part, part_at, part_of}
use Rattle.meaning.specs.Values.{Birth, Id, Outcome, results_of}
use Rattle.event_log.specs.Breaks.{Among}
use Rattle.event_log.specs.Entries.{Accepted, Attempt, Begun, Born, Deliver, Ended, Entry, Event, Fault, Faulted, Got, In, Opened, Printed, Refused, Released, Resolved, main_attempt}
use Rattle.event_log.specs.Events.{node_of}
use Rattle.event_log.specs.Rules.{Setting}
use Rattle.event_log.specs.Words.{releases_of, accepted_in, accepts_of, attempt, births, opened_in, run_in, runs_of, same_attempt, worker_of}
use Rattle.event_log.proofs.EventLaws.{word-more}
use Rattle.event_log.proofs.WordLaws.{same_attempt-refl, same_attempt-true}
use Rattle.holding.proofs.Words.{begun_born}
use Rattle.event_log.specs.Sane.{Sane}
use Rattle.event_log.proofs.SaneLaws.{legal_logs_are_sane}
use Rattle.protocol.specs.Answers.{Step, Takes, answer}
use Rattle.protocol.specs.Asking.{rests}
use Rattle.protocol.specs.Deliveries.{reached}
use Rattle.protocol.specs.Ends.{accepts, finished_by, finished_reached, hears_of_end, if_present}
use Rattle.protocol.specs.Jobs.{CommitInput}
use Rattle.protocol.specs.Messages.{At, EndedResult, Finished, FinishedAck, Envelope, envelope, TheWorker}
use Rattle.protocol.specs.Nodes.{Node}
use Rattle.protocol.specs.Numbered.{changed_at, item_at}
use Rattle.protocol.specs.Locations.{answers_settled, answers_settled_by, tells_locations}
use Rattle.protocol.specs.Sets.{has, object_id}
use Rattle.protocol.specs.Releases.{release_step}
use Rattle.protocol.specs.Steps.{changes, each_result, WorkerContext, object_at, own_id, own_object, store_here, with_task_of}
use Rattle.protocol.specs.Tables.{AskedAt, AtRest, is_pending_task, is_under_way, Object, OwnTask, locations_for, Progress, Execution, RunsOn, task_in}
use Rattle.protocol.specs.Tables.{task_of, with_content, with_task, without_askers, Worker}
use Rattle.protocol.specs.Cluster.{ClusterState, here, node_at, worker_at}
use Rattle.lease_discipline.specs.of_protocol_legal.Knows.{IsSettled, KnowsProgress, KnowsPut, KnowsTask, once}
use Rattle.lease_discipline.proofs.of_protocol_legal.EndRows.{IsToldOf, settled_in, settled_rows, settles_rows, told_of}
use Rattle.protocol_owed.proofs.Envelopes.{among-nothing}
use Rattle.lease_discipline.specs.of_protocol_legal.Made.{AreSmallEnds, IsEndedAt, IsTaken, IsWhollyEndedAt}
use Rattle.lease_discipline.specs.of_protocol_legal.Past.{past}
use Rattle.lease_discipline.specs.of_protocol_legal.Says.{Says}
use Rattle.lease_discipline.specs.of_protocol_legal.Whole.{Between, setting_of}
use Rattle.protocol_owed.specs.Replies.{AcceptedIsTold, FinishIsAcknowledged, Happening}
use Rattle.protocol_owed.specs.Runs.{Running}
use Rattle.protocol_owed.specs.Seen.{IsCalm, Tells}
use Rattle.protocol_owed.proofs.Moves as M
use Rattle.protocol_owed.proofs.Replying.{Logged, Sent, end_is_accepted, end_is_heard, sent_after, sent_stays}
use Rattle.protocol_owed.proofs.Owing.{askers_are_told}
use Rattle.lease_discipline.specs.Told.{IsInStep}
use Rattle.lease_discipline.proofs.Events.{among_at}
use Rattle.owed_replies.specs.Kept.{IsAnswered, IsAwaitedBy, IsBornIn, IsRightEnvelope}
use Rattle.owed_replies.specs.Law.{happening}
use Rattle.owed_replies.proofs.Advancing.{IsBrought, all_among, among_flat, entry_born, flat_among, owner_has}
use Rattle.owed_replies.proofs.Contents.{AtsAreKnown}
use Rattle.owed_replies.proofs.Delivered.{born_serial, delivered_out, owner_there}
use Rattle.owed_replies.proofs.Known.{born_by_past}
use Rattle.owed_replies.proofs.Answering.{IsThere, Leaves, rows_answered}
use Rattle.owed_replies.proofs.Objects.{same_item}
use Rattle.owed_replies.proofs.Quiet.{accepted_among, begun_first, kept_if_small, knows_of, MadeBy, no_dead_nodes, no_fault, node_alive, none_begun}
use Rattle.owed_replies.proofs.Quiet.{none_lost, none_lost_put, OfPut, OfTask, Origin, origin, part_is, put_no_task, same_contents, same_part}
use Rattle.event_log.proofs.Extending.{births-more}
use Rattle.std.specs.List.{list_any}
use Rattle.values.specs.Cells.{if_small}
use Rattle.sequence.proofs.Places.{and_left}
use Rattle.protocol.specs.Stores.{Store, is_copy_of}
use Rattle.protocol_owed.proofs.Nodes.{changed_cases, there_still}
use Rattle.smallest_steps.proofs.Known.{own_here}
use Rattle.owed_replies.proofs.Runs.{RunReplies}

module _ (s : Setting) (r : Running) (k : RunReplies s r) (calm : IsCalm r.log) where
  abbrev c : ClusterState
  c = r.whole

  abbrev b : Between s r.log r.whole
  b = k.step.sound.between

  -- ---- the end that is told

  -- what a Finished says, and its owner with the task's first object
  pub record IsEnd (i w v : ℕ) (a : Attempt) (n : ℕ) (rs : List EndedResult) : Type 0 where
    pub own : v ≡ a.object.owner
    pub ended : IsWhollyEndedAt r.log a n
    pub small : AreSmallEnds r.log a rs
    pub worker : Worker
    pub there : worker_at c v ≡ Some worker
    pub lives : worker.is_live ≡ true
    pub node : Node
    pub home : node_at c worker.node ≡ Some node
    pub object : Object
    pub item : item_at worker.objects a.object.serial ≡ Some object

  -- an attempt that ended was born
  run_born : (a : Attempt) (w : ℕ) → worker_of a r.log ≡ Some w → same_attempt a main_attempt ≡ false → IsBornIn r.log a.object
  run_born a w runs other =
      elim (begun_born k.step.sound.past k.step.sound.held.joined.legal a w (k.step.sound.held.joined.tells.runs a w runs)) [
        | inl main ↦ absurd (is_main (subst (λ q. same_attempt q main_attempt ≡ false) main.0 other))
        | inr first ↦ born_by_past s r.log c k.step.sound a.object (a.object, first.0)
      ]
    where
      is_main : same_attempt main_attempt main_attempt ≡ false → ⊥
      is_main e = let f = same_attempt-refl main_attempt in cc

  pub end_of : (i w v : ℕ) (a : Attempt) (n : ℕ) (rs : List EndedResult) → item_at c.network i ≡ Some (envelope (TheWorker w) (TheWorker v) (Finished a n rs)) → IsEnd i w v a n rs
  end_of i w v a n rs sent =
      let l : Envelope = envelope (TheWorker w) (TheWorker v) (Finished a n rs) in
      let right : IsRightEnvelope r.log l = k.replies.envelopes l (among_at c.network i l sent) in
      let told = all_among (Says (past r.log b.asked)) c.network l b.knows.told (among_at c.network i l sent) in
      let says : IsWhollyEndedAt r.log a n = told.0 in
      let born : IsBornIn r.log a.object = run_born a says.worker says.runs right.1 in
      let x = owner_there s r.log c b calm a.object (entry_born r.log a.object born) in
      let home = k.step.leases.homes a.object.owner x.0 x.1 in
      let z = owner_has s r.log c b a.object (entry_born r.log a.object born) x.0 x.1 x.2 (born_serial (setting_of s c) r.log b.legal a.object born) in
      record {
        own = right.0;
        ended = says;
        small = told.1;
        worker = x.0;
        there = subst (λ u. worker_at c u ≡ Some x.0) (sym right.0) x.1;
        lives = x.2;
        node = home.0;
        home = home.1;
        object = z.0;
        item = z.1;
      }

  own_now : (m n : ℕ) → m ≡ n → (n == m) ≡ true
  own_now m n e = grind (arith, nat_tests)

  -- the object there has the task, whose first attempt runs and isn't accepted, or is
  pub data Stage (a : Attempt) (x : Worker) (z : Object) : Type 0 where
    Pends : (task : OwnTask) (is : task_in z.source ≡ Some task) (present : if_present a task ≡ true)
        (knows : KnowsTask (past r.log b.asked) a.object x.objects task) (unaccepted : accepts_of a r.log ≡ [])
        (only : (number w : ℕ) → worker_of (attempt a.object number) r.log ≡ Some w → number ≡ a.number) → Stage a x z
    IsAccepted : Among (Accepted a) r.log → Stage a x z

  accepted_in_log : (a : Attempt) → Among a (accepts_of a r.log) → Among (Accepted a) r.log
  accepted_in_log a i = let q = flat_among (accepted_in a) r.log a i in by_entry q.0 q.2 q.1
    where
      by_entry : (x : Entry) → Among a (accepted_in a x) → Among x r.log → Among (Accepted a) r.log
      by_entry (Accepted d) j l = at_test (λ t. same_attempt d a ≡ t → Among a (if t then d ∷ [] else []) → Among (Accepted a) r.log) (same_attempt d a)
          (λ _ e _. subst (λ q. Among (Accepted q) r.log) (same_attempt-true d a e) l) (λ _ _ h. absurd (among-nothing a h)) refl j
      by_entry (In e seat) j l = absurd (among-nothing a j)
      by_entry (Refused code) j l = absurd (among-nothing a j)
      by_entry (Opened w n) j l = absurd (among-nothing a j)
      by_entry (Begun d w) j l = absurd (among-nothing a j)
      by_entry (Born o d x) j l = absurd (among-nothing a j)
      by_entry (Got d o x) j l = absurd (among-nothing a j)
      by_entry (Printed v) j l = absurd (among-nothing a j)
      by_entry (Ended d x) j l = absurd (among-nothing a j)
      by_entry (Faulted d o f) j l = absurd (among-nothing a j)
      by_entry (Resolved o f) j l = absurd (among-nothing a j)
      by_entry (Released o) j l = absurd (among-nothing a j)

  none_in : (xs : List ℕ) (w i : ℕ) → xs ≡ [] → slice_get xs i ≡ Some w → ⊥
  none_in xs w i e f = among-nothing w (i, ap (λ ys. slice_get ys i) (sym e) ∙ f)

  some_at : {X : Type 0} (xs : List X) (i : ℕ) → i < length xs → (x : X) × (slice_get xs i ≡ Some x)
  some_at [] i low = absurd (omega (arith, low))
  some_at (x ∷ xs) zero low = (x, refl)
  some_at (x ∷ xs) (suc i) low = some_at xs i (omega (arith, low))

  sane : Sane r.log
  sane = legal_logs_are_sane (setting_of s c) r.log b.legal

  -- what was accepted has run
  accepted_ran : (a : Attempt) → Among a (accepts_of a r.log) → (w : ℕ) × (worker_of a r.log ≡ Some w)
  accepted_ran a i =
      let ended = sane.accepted a i.0 a i.1 in
      sane.ended a ended.1.0 ended.0 ended.1.1

  -- the table of an owner
  module _ (v : ℕ) (a : Attempt) (n : ℕ) (own : v ≡ a.object.owner) (ended : IsWhollyEndedAt r.log a n) (x : Worker) (at : worker_at c v ≡ Some x) (live : x.is_live ≡ true) where
    at_owner : worker_at c a.object.owner ≡ Some x
    at_owner = subst (λ u. worker_at c u ≡ Some x) own at

    pub stage : (z : Object) → item_at x.objects a.object.serial ≡ Some z → Stage a x z
    stage z there = by_origin (origin s r.log c b calm a.object x z at_owner there)
      where
        unfaulted : z.fault ≡ None
        unfaulted = no_fault s r.log c b calm a.object x z at_owner there

        first_part : part_at (births r.log) a.object ≡ Some (part_of (record { object = a.object; birth = ended.birth }) a.object)
        first_part = sane.grouped.whole a.object a.object ended.birth ended.born (first_is_made (record { object = a.object; birth = ended.birth }))

        by_progress : (m : MadeBy s r.log c b calm a.object x z) → m.first ≡ a.object → KnowsTask (past r.log b.asked) a.object x.objects m.task → (q : Progress) →
            m.task.progress ≡ q → Stage a x z
        by_progress m first q (AskedAt t i) e = absurd (none_begun s r.log c b calm a.object m.task x.objects t i a.number ended.worker q e ended.runs)
        by_progress m first q (RunsOn w i) e =
            let p = subst (KnowsProgress (past r.log b.asked) a.object m.task) e q.progress in
            let run = begun_first s r.log c b calm a.object m.task w i a.number ended.worker p.0 q.begun ended.runs in
            let same : m.task.number ≡ a.number = run.0 ∙ sym run.1 in
            Pends m.task (ap task_of (sym there) ∙ ap (λ (o : Id). task_of (item_at x.objects o.serial)) (sym first) ∙ m.there)
            (ap (λ g. is_under_way g && (m.task.number == a.number)) e ∙ own_now a.number m.task.number (sym same)) q
            (subst (λ j. accepts_of (attempt a.object j) r.log ≡ []) same p.1)
            (λ number u ran. (begun_first s r.log c b calm a.object m.task w i number u p.0 q.begun ran).1 ∙ sym run.1)
        by_progress m first q AtRest e =
            let p = subst (KnowsProgress (past r.log b.asked) a.object m.task) e q.progress in
            let settled : IsSettled r.log m.first m.place z = m.result.rests (ap is_under_way e) unfaulted in
            let accepted : Among (attempt a.object settled.number) (accepts_of (attempt a.object settled.number) r.log) =
            subst (λ o. Among (attempt o settled.number) (accepts_of (attempt o settled.number) r.log)) first settled.accepted.accepted in
            let ran = accepted_ran (attempt a.object settled.number) accepted in
            let run = begun_first s r.log c b calm a.object m.task p.0 p.1 a.number ended.worker p.2 q.begun ended.runs in
            let other = begun_first s r.log c b calm a.object m.task p.0 p.1 settled.number ran.0 p.2 q.begun ran.1 in
            let same : settled.number ≡ a.number = other.1 ∙ sym run.1 in
            IsAccepted (accepted_in_log a (subst (λ i. Among (attempt a.object i) (accepts_of (attempt a.object i) r.log)) same accepted))

        by_origin : Origin (past r.log b.asked) a.object x z → Stage a x z
        by_origin (OfPut q) = absurd (none_in (runs_of a.object r.log) ended.worker a.number q.unbegun ended.runs)
        by_origin (OfTask m) =
            let same = part_is s r.log c b calm a.object x z m (part_of (record { object = a.object; birth = ended.birth }) a.object) first_part in
            let first : m.first ≡ a.object = sym (ap (λ (p : Part). p.born.object) same) in
            by_progress m first (subst (λ o. KnowsTask (past r.log b.asked) o x.objects m.task) first m.knows) m.task.progress refl

    -- ---- the objects of a task at the acceptance

    module _ (rs : List EndedResult) (small : AreSmallEnds r.log a rs) (task : OwnTask) (present : if_present a task ≡ true)
        (knows : KnowsTask (past r.log b.asked) a.object x.objects task) (unaccepted : accepts_of a r.log ≡ [])
        (only : (number w : ℕ) → worker_of (attempt a.object number) r.log ≡ Some w → number ≡ a.number) (node : Node) (home : node_at c x.node ≡ Some node)
        (node_lives : node.is_live ≡ true) where
      pending : is_pending_task task ≡ true
      pending = and_left (is_pending_task task) (task.number == a.number) present

      same_birth : (p q : Birth) → ◌≡◌ {A = Option Birth} (Some p) (Some q) → p ≡ q
      same_birth p q e = cc

      spec_is : ended.birth ≡ task.spec
      spec_is = same_birth ended.birth task.spec (sym ended.born ∙ knows.spec)

      abbrev pub results : ℕ
      results = results_of task.spec

      abbrev pub row_id : ℕ → Id
      row_id i = object_id a.object.owner (a.object.serial + i)

      -- with what the attempt ended for each
      pub content_of : (i : ℕ) → i < results → (d : Outcome) × (slice_get ended.contents i ≡ Some d)
      content_of i low = some_at ended.contents i (subst (λ l. i < l) (sym (ended.all ∙ ap results_of spec_is)) low)

      pub told_for : (i : ℕ) (low : i < results) → IsToldOf rs i (content_of i low).0
      told_for i low =
          let same : small.0 ≡ ended.contents = same_contents s r.log c b calm a small.0 ended.contents small.1 ended.ended in
          told_of rs ended.contents i (content_of i low).0 (small.2 ∙ ap (map if_small) same) (content_of i low).1

      -- the row of each before
      pub row_of : (i : ℕ) → i < results → (z : Object) × (item_at x.objects (a.object.serial + i) ≡ Some z) × (z.is_released ≡ false)
      row_of i low = let q = knows.rows i low in (q.object, q.there, q.is_released ∙ knows.kept pending)

      row_part : (i : ℕ) → i < results → part_at (births r.log) (row_id i) ≡ Some (record { born = record { object = a.object; birth = task.spec }; place = i })
      row_part i low =
          let made : is_made_by (record { object = a.object; birth = task.spec }) (row_id i) ≡ true =
          is_made (record { object = a.object; birth = task.spec }) (row_id i) refl (omega arith) (omega (arith, low)) in
          sane.grouped.whole a.object (row_id i) task.spec knows.spec made ∙
          ap (λ j. Some (record { born = record { object = a.object; birth = task.spec }; place = j })) (place_is a.object.serial i)
        where
          place_is : (m j : ℕ) → (m + j) - m ≡ j
          place_is m j = omega arith

      -- none has its content yet
      pub unsettled : (i : ℕ) (low : i < results) → (row_of i low).0.settled ≡ None
      unsettled i low = by_number (row_of i low).0.settled refl
        where
          z : Object
          z = (row_of i low).0

          by_origin : Origin (past r.log b.asked) (row_id i) x z → (number : ℕ) → z.settled ≡ Some number → ⊥
          by_origin (OfPut q) number e = put_row (no_put q)
            where
              put_row : ⊥ → ⊥
              put_row f = f

              no_put : KnowsPut r.log x.node (row_id i) z → ⊥
              no_put q =
                  let same = same_part s r.log c b calm _ _ (sym q.part ∙ row_part i low) in
                  put_no_task s r.log c b calm task.spec q.value knows.is_task (sym (ap (λ (p : Part). p.born.birth) same))
          by_origin (OfTask m) number e =
              let same = part_is s r.log c b calm (row_id i) x z m _ (row_part i low) in
              let first : m.first ≡ a.object = sym (ap (λ (p : Part). p.born.object) same) in
              let accepted : Among (attempt a.object number) (accepts_of (attempt a.object number) r.log) =
              subst (λ o. Among (attempt o number) (accepts_of (attempt o number) r.log)) first (m.result.made number e).accepted in
              let ran = accepted_ran (attempt a.object number) accepted in
              let is : number ≡ a.number = only number ran.0 ran.1 in
              among-nothing a (subst (λ xs. Among a xs) unaccepted (subst (λ j. Among (attempt a.object j) (accepts_of (attempt a.object j) r.log)) is accepted))

          by_number : (o : Option ℕ) → z.settled ≡ o → z.settled ≡ None
          by_number None e = e
          by_number (Some number) e = absurd (by_origin (origin s r.log c b calm (row_id i) x z at_owner (row_of i low).1) number e)

      -- ---- what is in the store

      -- what ended at a live node is in its store, unless it is small
      pub kept_there : (i : ℕ) (low : i < results) → if_small (content_of i low).0 ≡ None → n ≡ x.node → list_any (is_copy_of (row_id i) a.number) node.store.primaries ≡ true
      kept_there i low none here_too = elim ((b.knows.at_nodes x.node node home node_lives).store.kept (row_id i) a.number (inr made)) [
        | inl there ↦ there
        | inr gone ↦ absurd (not_taken gone)
      ]
        where
          part : Part
          part = record { born = record { object = a.object; birth = task.spec }; place = i }

          made : IsEndedAt r.log (row_id i) a.number x.node
          made = record {
            part = part;
            worker = ended.worker;
            runs = ended.runs;
            home = ended.home ∙ ap (λ m. Some m) here_too;
            content = (content_of i low).0;
            result = record { born = row_part i low; contents = ended.contents; ended = ended.ended; content = (content_of i low).1 };
          }

          not_taken : IsTaken r.log (row_id i) a.number x.node → ⊥
          not_taken (inl released) =
              let row = row_of i low in
              let none_yet : releases_of (row_id i) r.log ≡ [] =
              (knows_of s r.log c b calm (row_id i) x row.0 at_owner row.1).released ∙ ap (λ t. once t (row_id i)) row.2 in
              among-nothing (row_id i) (subst (λ xs. Among (row_id i) xs) none_yet released)
          not_taken (inr (inl (put, inl lost))) = none_lost_put r.log calm lost.before lost.after x.node (row_id i) lost.parts lost.lost
          not_taken (inr (inl (put, inr killed))) = node_alive r.log calm x.node killed
          not_taken (inr (inr (ended_too, inl lost))) = none_lost r.log calm _ lost.2
          not_taken (inr (inr (ended_too, inr little))) =
              kept_if_small s r.log c b calm (row_id i) a.number part (content_of i low).0 (if_small (content_of i low).0) (row_part i low) ended.contents ended.ended
              (content_of i low).1 refl none little

      -- ---- after the acceptance

      abbrev rested : List Object
      rested = changed_at x.objects a.object.serial (with_task (rests task))

      -- what stays of a row
      pub record IsLike (z y : Object) : Type 0 where
        pub askers : y.askers ≡ z.askers
        pub fault : y.fault ≡ None
        pub kept : y.is_released ≡ false

      -- it comes to rest
      pub rest_row : (i : ℕ) (low : i < results) → (y : Object) × (item_at rested (a.object.serial + i) ≡ Some y) × IsLike (row_of i low).0 y
      rest_row i low =
          let row = row_of i low in
          let now = there_still x.objects a.object.serial (a.object.serial + i) (with_task (rests task)) row.0 row.1 in
          (now.0, now.1, by_case now.0 (changed_cases x.objects a.object.serial (a.object.serial + i) (with_task (rests task)) now.0 now.1))
        where
          j : ℕ
          j = a.object.serial + i

          itself : IsLike (row_of i low).0 (row_of i low).0
          itself = record { askers = refl; fault = no_fault s r.log c b calm (row_id i) x (row_of i low).0 at_owner (row_of i low).1; kept = (row_of i low).2 }

          task_changed : (y : Object) → IsLike (row_of i low).0 y → IsLike (row_of i low).0 (with_task (rests task) y)
          task_changed y l = record { askers = l.askers; fault = l.fault; kept = l.kept }

          by_case : (y : Object) → ((j ≡ a.object.serial) × (z : Object) × (item_at x.objects j ≡ Some z) × (y ≡ with_task (rests task) z)) ⊎ ((j ≢ a.object.serial) × (item_at x.objects j ≡ Some y)) →
              IsLike (row_of i low).0 y
          by_case y (inl (e, z, old, q)) =
              subst (IsLike (row_of i low).0) (sym q) (task_changed z (subst (IsLike (row_of i low).0) (same_item x.objects j (row_of i low).0 z (row_of i low).1 old) itself))
          by_case y (inr (e, old)) = subst (IsLike (row_of i low).0) (same_item x.objects j (row_of i low).0 y (row_of i low).1 old) itself

      abbrev start : WorkerContext
      start = here c v x node

      module _ (u : ℕ) where
        abbrev pub accepted_here : WorkerContext
        accepted_here = hears_of_end (accepts start a task n rs) u a

        abbrev pub new_row : (i : ℕ) (low : i < results) → Object
        new_row i low = with_content a.number n (told_for i low).result.ids (told_for i low).result.kept (rest_row i low).0

        same_worker : accepted_here.worker ≡ record x { objects = settled_rows rested a.object.serial a.number n results rs }
        same_worker = ap (λ (g : WorkerContext). g.worker) (settles_rows (with_task_of start a.object (rests task)) a.object a.number n results rs)

        same_store : store_here accepted_here ≡ node.store
        same_store = ap (λ (g : WorkerContext). g.there.node.store) (settles_rows (with_task_of start a.object (rests task)) a.object a.number n results rs)

        pub same_me : accepted_here.me ≡ v
        same_me = ap (λ (g : WorkerContext). g.me) (settles_rows (with_task_of start a.object (rests task)) a.object a.number n results rs)

        pub same_run : accepted_here.worker.run ≡ x.run
        same_run = ap (λ (y : Worker). y.run) same_worker

        pub none_dead : accepted_here.worker.dead_nodes ≡ []
        none_dead = ap (λ (y : Worker). y.dead_nodes) same_worker ∙ no_dead_nodes s r.log c b calm v x at

        pub now_there : (i : ℕ) (low : i < results) → own_object accepted_here (a.object.serial + i) ≡ Some (new_row i low)
        now_there i low =
            ap (λ (y : Worker). item_at y.objects (a.object.serial + i)) same_worker ∙
            settled_in rested a.object.serial a.number n results rs i (told_for i low).result (rest_row i low).0 low (told_for i low).there (rest_row i low).1

        is_there : (i : ℕ) (low : i < results) → IsThere accepted_here a.number n (a.object.serial + i) (new_row i low)
        is_there i low =
            let t = told_for i low in record {
              unfaulted = (rest_row i low).2.fault;
              kept = (rest_row i low).2.kept;
              settled = refl;
              content = t.result.kept;
              locations = refl;
              keeps = refl;
              stored = λ none home.
                  ap (λ m. list_any (is_copy_of (object_id m (a.object.serial + i)) a.number) (store_here accepted_here).primaries) (same_me ∙ own) ∙
                  ap (λ (t : Store). list_any (is_copy_of (row_id i) a.number) t.primaries) same_store ∙
                  kept_there i low (sym t.small ∙ none) (home ∙ ap (λ (y : Worker). y.node) same_worker);
            }

        pub are_there : (j : ℕ) → a.object.serial ≤ j → j < a.object.serial + results → (z : Object) → own_object accepted_here j ≡ Some z → IsThere accepted_here a.number n j z
        are_there j low high z at_j =
            let i : ℕ = j - a.object.serial in
            let below : i < results = omega (arith, low, high) in
            let is : a.object.serial + i ≡ j = omega (arith, low) in
            let there : own_object accepted_here j ≡ Some (new_row i below) = ap (own_object accepted_here) (sym is) ∙ now_there i below in
            subst (λ y. IsThere accepted_here a.number n j y) (same_item accepted_here.worker.objects j (new_row i below) z there at_j)
            (subst (λ m. IsThere accepted_here a.number n m (new_row i below)) is (is_there i below))

        -- what comes of the answer to one of them
        pub row_answered : (Q : WorkerContext → Type 0) → ((h : WorkerContext) (o : Id) → Q h → Q (answers_settled h o)) → (W : Option Execution → Type 0) → (i : ℕ) (low : i < results) →
            ((h g : WorkerContext) (j : ℕ) → h.me ≡ v → j ≢ a.object.serial + i → Leaves h g j → W h.worker.run → W g.worker.run) →
            ((h : WorkerContext) → h.me ≡ v → own_object h (a.object.serial + i) ≡ Some (new_row i low) → IsThere h a.number n (a.object.serial + i) (new_row i low) →
            h.worker.dead_nodes ≡ [] → W h.worker.run → Q (answers_settled h (own_id h (a.object.serial + i)))) →
            W x.run → (z : Object) → item_at x.objects a.object.serial ≡ Some z → task_in z.source ≡ Some task → Q (finished_reached start u a n rs)
        row_answered Q stays W i low others answered runs z item is =
            let whole : Q (each_result answers_settled accepted_here a.object task) =
            rows_answered Q stays W v a.number n (a.object.serial + i) (new_row i low) others answered results accepted_here a.object.serial
            (omega arith) (omega (arith, low)) same_me (now_there i low) are_there none_dead (subst W (sym same_run) runs) in
            let at_first : object_at start a.object ≡ Some z = ap (λ t. if t then item_at x.objects a.object.serial else None) (own_now v a.object.owner own) ∙ item in
            subst (λ o. Q (finished_by start u a n rs (task_of o))) (sym at_first) (subst (λ t. Q (finished_by start u a n rs t)) (sym is)
            (subst (λ t. Q (if t then each_result answers_settled accepted_here a.object task else hears_of_end start u a)) (sym present) whole))

  -- ---- an event that is taken

  module _ (e : Event) (seat : ℕ) (handed : CommitInput) (step : Step) (answered : answer c e handed ≡ Takes step) where
    abbrev hap : Happening
    hap = happening s r e seat step

    pub as_delivery : (i : ℕ) → e ≡ Deliver i → answer c (Deliver i) handed ≡ Takes step
    as_delivery i is = subst (λ f. answer c f handed ≡ Takes step) is answered

    -- the owner's own object
    pub own_object_at : (v : ℕ) (a : Attempt) (x : Worker) (node : Node) (z : Object) → v ≡ a.object.owner → item_at x.objects a.object.serial ≡ Some z → object_at (here c v x node) a.object ≡ Some z
    own_object_at v a x node z own there = ap (λ t. if t then item_at x.objects a.object.serial else None) (own_now v a.object.owner own) ∙ there

    pub finish_owed : FinishIsAcknowledged hap
    finish_owed w v a n rs (i, is, sent) =
        let q : IsEnd i w v a n rs = end_of i w v a n rs sent in
        let h : WorkerContext = here c v q.worker q.node in
        let out = delivered_out c i handed step (TheWorker w) v (Finished a n rs) q.worker q.node sent q.there q.lives q.home (as_delivery i is) in (
          subst (λ ls. Among (envelope (TheWorker v) (TheWorker w) (FinishedAck a)) ls) (sym out.1) (end_is_heard h w a n rs),
          λ unaccepted. subst (λ es. Among (Accepted a) es) (sym out.0)
              (by_stage q h refl unaccepted (stage v a n q.own q.ended q.worker q.there q.lives q.object q.item)),
        )
      where
        by_stage : (q : IsEnd i w v a n rs) (h : WorkerContext) → here c v q.worker q.node ≡ h → (Among (Accepted a) r.log → ⊥) → Stage a q.worker q.object →
            Logged (Accepted a) (release_step (reached h (TheWorker w) (Finished a n rs)))
        by_stage q h same unaccepted (IsAccepted j) = absurd (unaccepted j)
        by_stage q h same unaccepted (Pends task made present knows none only) =
            subst (λ g. Logged (Accepted a) (release_step (reached g (TheWorker w) (Finished a n rs)))) same
            (end_is_accepted (here c v q.worker q.node) w a n rs task (ap task_of (own_object_at v a q.worker q.node q.object q.own q.item) ∙ made) present)

    pub more_runs : (a : Attempt) (es : List Entry) (w : ℕ) → worker_of a r.log ≡ Some w → worker_of a (r.log ++ es) ≡ Some w
    more_runs a es w f = word-more (run_in a.object) r.log es a.number w f

    pub more_opened : (w : ℕ) (es : List Entry) (n : ℕ) → node_of w r.log ≡ Some n → node_of w (r.log ++ es) ≡ Some n
    more_opened zero es n f = absurd (cc)
    more_opened (suc j) es n f = word-more opened_in r.log es j n f

    same_some : (m n : ℕ) → ◌≡◌ {A = Option ℕ} (Some m) (Some n) → m ≡ n
    same_some m n f = cc

    none_fault : (o : Option Fault) → o ≡ None → is_some o ≡ true → ⊥
    none_fault None f g = cc
    none_fault (Some x) f g = cc

    none_number : (o : Option ℕ) → o ≡ None → is_some o ≡ true → ⊥
    none_number None f g = cc
    none_number (Some x) f g = cc

    -- what is accepted now wasn't before
    pub not_twice : (a : Attempt) → IsInStep s (r.log ++ In e seat ∷ step.entries) step.whole → Among (Accepted a) step.entries → Among (Accepted a) r.log → ⊥
    not_twice a after logged i =
        let es : List Entry = In e seat ∷ step.entries in
        let sane : Sane (r.log ++ es) = legal_logs_are_sane (setting_of s step.whole) (r.log ++ es) after.sound.between.legal in
        let parts : accepts_of a (r.log ++ es) ≡ accepts_of a r.log ++ accepts_of a es = flat_map-append (accepted_in a) r.log es in
        let first = some_length (accepts_of a r.log) a (accepted_among s r.log c b calm a i) in
        let second = some_length (accepts_of a es) a (among_flat (accepted_in a) es (Accepted a) a (suc logged.0, logged.1)
        (subst (λ t. Among a (if t then a ∷ [] else [])) (sym (same_attempt-refl a)) (zero, refl))) in
        let count : length (accepts_of a (r.log ++ es)) ≡ length (accepts_of a r.log) + length (accepts_of a es) = ap length parts ∙ length-append (accepts_of a r.log) (accepts_of a es) in
        let once = sane.one_acceptance a in
        omega (arith, first, second, count, once)
      where
        some_length : (xs : List Attempt) (x : Attempt) → Among x xs → 1 ≤ length xs
        some_length [] x j = absurd (among-nothing x j)
        some_length (z ∷ xs) x j = omega arith

    -- a live worker's node lives
    pub node_lives : (v : ℕ) (x : Worker) → worker_at c v ≡ Some x → x.is_live ≡ true → (m : Node) → node_at c x.node ≡ Some m → m.is_live ≡ true
    node_lives v x at live m home =
        let u = b.knows.housed v x at live in
        let g : u.0 ≡ m = same_node u.0 m (sym u.1 ∙ home) in
        ap (λ (z : Node). z.is_live) (sym g) ∙ u.2
      where
        same_node : (p q : Node) → ◌≡◌ {A = Option Node} (Some p) (Some q) → p ≡ q
        same_node p q e = cc

    -- the part of an object of the attempt's task
    pub record IsRowOf (a : Attempt) (spec : Birth) (y : Id) (place : ℕ) : Type 0 where
      pub owner : a.object.owner ≡ y.owner
      pub serial : y.serial ≡ a.object.serial + place
      pub within : place < results_of spec

    pub row_in : (es : List Entry) → Sane (r.log ++ es) → (y : Id) (part : Part) → part_at (births (r.log ++ es)) y ≡ Some part → (spec : Birth) →
        birth_at (births r.log) part.born.object ≡ Some spec → (number : ℕ) → IsRowOf (attempt part.born.object number) spec y (y.serial - part.born.object.serial)
    row_in es after y part born spec known number =
        let made = (part_is_made (births (r.log ++ es)) y part born).0 in
        let same : part.born.birth ≡ spec = one_birth part.born.birth spec (sym (after.grouped.firsts y part born) ∙ births-more r.log es part.born.object spec known) in
        let low = made_from part.born y made in
        let high : y.serial < part.born.object.serial + results_of spec = subst (λ d. y.serial < part.born.object.serial + results_of d) same (made_below part.born y made) in
        record { owner = made_owner part.born y made; serial = omega (arith, low); within = omega (arith, low, high) }
      where
        one_birth : (p q : Birth) → ◌≡◌ {A = Option Birth} (Some p) (Some q) → p ≡ q
        one_birth p q e = cc

    pub accepted_owed : ((a : Attempt) → Among (Accepted a) step.entries → IsBrought c e a) → IsInStep s (r.log ++ In e seat ∷ step.entries) step.whole →
        AtsAreKnown (r.log ++ In e seat ∷ step.entries) step.envelopes → AcceptedIsTold hap
    accepted_owed brought after known_then y number n w m at logged request is =
        let a : Attempt = attempt at.part.born.object number in
        let f : IsBrought c e a = brought a logged in
        let q : IsEnd f.number f.sender f.owner a f.node f.results = end_of f.number f.sender f.owner a f.node f.results f.sent in
        let out = delivered_out c f.number handed step (TheWorker f.sender) f.owner (Finished a f.node f.results) q.worker q.node f.sent q.there q.lives q.home (as_delivery f.number f.event) in
        by_stage f q out.1 (stage f.owner a f.node q.own q.ended q.worker q.there q.lives q.object q.item)
      where
        a : Attempt
        a = attempt at.part.born.object number

        by_stage : (f : IsBrought c e a) (q : IsEnd f.number f.sender f.owner a f.node f.results) →
            step.envelopes ≡ (release_step (reached (here c f.owner q.worker q.node) (TheWorker f.sender) (Finished a f.node f.results))).there.out.envelopes →
            Stage a q.worker q.object → Tells (r.log ++ In e seat ∷ step.entries) step.envelopes y w number n
        by_stage f q envelopes (IsAccepted i) = absurd (not_twice a after logged i)
        by_stage f q envelopes (Pends task made present knows unaccepted only) =
            let at_y : worker_at c y.owner ≡ Some q.worker = subst (λ v. worker_at c v ≡ Some q.worker) (q.own ∙ row.owner) q.there in
            let awaited : IsAwaitedBy w old.0 = k.replies.askers w y m request is q.worker old.0 at_y q.lives (ap (item_at q.worker.objects) row.serial ∙ old.1) in
            let asks : has old.0.askers w ≡ true = elim awaited [
              | inl t ↦ t
              | inr t ↦ absurd (answered_not at_y t)
            ] in
            let sent : Sent l (finished_reached h f.sender a f.node f.results) = row_answered f.owner a f.node q.own q.ended q.worker q.there q.lives f.results q.small task present knows unaccepted only q.node q.home
            lives f.sender (Sent l) (λ g o p. M.answers_settled-kept (Sent l) (sent_stays l) g o p) (λ _. Unit {0}) place row.within (λ _ _ _ _ _ _ _. tt)
            (λ g me there _ _ _. tells g me there asks) tt q.object q.item made in
            let told : Among l step.envelopes = subst (λ ls. Among l ls) (sym envelopes) (sent_after l (finished_reached h f.sender a f.node f.results) sent) in
            let by_owner =
            subst (λ v. Among (envelope (TheWorker v) (TheWorker w) (At y number (locations_for f.node kept) kept)) step.envelopes) (q.own ∙ row.owner) told in
            record {
              nodes = locations_for f.node kept;
              kept = kept;
              told = by_owner;
              known = known_then y.owner w number y (locations_for f.node kept) kept by_owner;
              named = λ none. subst (λ d. has (locations_for f.node d) n ≡ true) (sym none) (ap (λ t. t || false) (own_now n f.node (sym node_is)));
            }
          where
            place : ℕ
            place = y.serial - at.part.born.object.serial

            row : IsRowOf a task.spec y place
            row = row_in (In e seat ∷ step.entries) (legal_logs_are_sane (setting_of s step.whole) (r.log ++ In e seat ∷ step.entries) after.sound.between.legal) y at.part at.born task.spec knows.spec number

            lives : q.node.is_live ≡ true
            lives = node_lives f.owner q.worker q.there q.lives q.node q.home

            old : (z : Object) × (item_at q.worker.objects (a.object.serial + place) ≡ Some z) × (z.is_released ≡ false)
            old = row_of f.owner a f.node q.own q.ended q.worker q.there q.lives f.results q.small task present knows unaccepted only q.node q.home lives place row.within

            h : WorkerContext
            h = here c f.owner q.worker q.node

            new : Object
            new = new_row f.owner a f.node q.own q.ended q.worker q.there q.lives f.results q.small task present knows unaccepted only q.node q.home lives f.sender place row.within

            kept : Option Outcome
            kept = new.kept

            l : Envelope
            l = envelope (TheWorker f.owner) (TheWorker w) (At y number (locations_for f.node kept) kept)

            row_is : (g : WorkerContext) → g.me ≡ f.owner → own_id g (a.object.serial + place) ≡ y
            row_is g me = ap (λ v. object_id v (a.object.serial + place)) (me ∙ q.own ∙ row.owner) ∙ ap (object_id y.owner) (sym row.serial)

            tells : (g : WorkerContext) → g.me ≡ f.owner → own_object g (a.object.serial + place) ≡ Some new → has old.0.askers w ≡ true →
                Sent l (answers_settled g (own_id g (a.object.serial + place)))
            tells g me there asks =
                let o : Id = own_id g (a.object.serial + place) in
                let same : new.askers ≡ old.0.askers =
                (rest_row f.owner a f.node q.own q.ended q.worker q.there q.lives f.results q.small task present knows unaccepted only q.node q.home lives place row.within).2.askers in
                let told : Sent (envelope (TheWorker g.me) (TheWorker w) (At o number (locations_for f.node kept) kept)) (tells_locations (changes g o without_askers) new.askers o new) =
                askers_are_told (changes g o without_askers) new.askers o new w (ap (λ ws. has ws w) same ∙ asks) in
                let as_l : Sent l (tells_locations (changes g o without_askers) new.askers o new) =
                subst (λ p. Sent (envelope (TheWorker f.owner) (TheWorker w) (At p number (locations_for f.node kept) kept)) (tells_locations (changes g o without_askers) new.askers o new)) (row_is g me)
                (subst (λ v. Sent (envelope (TheWorker v) (TheWorker w) (At o number (locations_for f.node kept) kept)) (tells_locations (changes g o without_askers) new.askers o new)) me told) in
                subst (λ z. Sent l (answers_settled_by g o z)) (sym (own_here g (a.object.serial + place) ∙ there))
                (M.needs_own_if_waiting-kept (Sent l) (sent_stays l) (tells_locations (changes g o without_askers) new.askers o new) o as_l)

            answered_not : worker_at c y.owner ≡ Some q.worker → IsAnswered old.0 → ⊥
            answered_not at_y (inl t) =
                none_number old.0.settled (unsettled f.owner a f.node q.own q.ended q.worker q.there q.lives f.results q.small task present knows unaccepted only q.node q.home lives place row.within) t
            answered_not at_y (inr t) = none_fault old.0.fault (no_fault s r.log c b calm y q.worker old.0 at_y (ap (item_at q.worker.objects) row.serial ∙ old.1)) t

            node_is : f.node ≡ n
            node_is =
                let runner : at.worker ≡ q.ended.worker = same_some at.worker q.ended.worker (sym at.ran ∙ more_runs a (In e seat ∷ step.entries) q.ended.worker q.ended.runs) in
                same_some f.node n (sym (more_opened q.ended.worker (In e seat ∷ step.entries) f.node q.ended.home) ∙
                ap (λ v. node_of v (r.log ++ In e seat ∷ step.entries)) (sym runner) ∙ at.place)
