-- The counts of the log are those of the tables, event by event; so a refusal for a limit is one by the counts of the log.
use Rattle.std.proofs.Common.{◌≡◌, ◌<◌, ◌≤◌, ◌⊎◌, inl, inr, ℕ, zero, suc, ◌+◌, List, [], ◌∷◌, ◌++◌, length, map, Option, Some, None, refl, sym, ap, ◌∙◌, subst, arith, length-append}
use Rattle.std.specs.Prelude.{Bool, true, false, if◌then◌else◌, ◌&&◌, nat_lt}
use Rattle.std.specs.List.{flat_map}
use Rattle.std.proofs.lemmas.Bool.{and_parts}
use Rattle.std.proofs.lemmas.Bool.Decides.{nat_tests}
use Rattle.std.proofs.lemmas.List.Concat.{flat_map-append}
use Rattle.meaning.specs.Mains.{KeepsMainApart}
use Rattle.event_log.specs.Breaks.{Among}
use Rattle.event_log.specs.Causes.{shown}
use Rattle.event_log.specs.Entries.{Claim, Commit, Deliver, Entry, Event, Evict, In, Join, Kill, KillNode, Lose, Notice, NoticeNode, Refused, Tick}
use Rattle.event_log.specs.Entries.{Refusal, Limit}
use Rattle.event_log.specs.Events.{accepted_events, join_in, joins}
use Rattle.event_log.specs.Legal.{opening}
use Rattle.event_log.specs.Rules.{Setting}
use Rattle.event_log.specs.Words.{births, born_in, opened, opened_in}
use Rattle.event_log.proofs.EventLaws.{accepted-event, accepted-refused}
use Rattle.protocol.specs.Answers.{Answer, Refuses, Step, Takes, answer, decided, given_out, logged, takes, whole_after}
use Rattle.protocol.specs.Events.{happens}
use Rattle.protocol.specs.Jobs.{CommitInput, Nothing}
use Rattle.protocol.specs.Refusals.{is_of_job, is_within_limits, refusal}
use Rattle.protocol.specs.Tables.{Worker}
use Rattle.protocol.specs.Cluster.{Transition, ClusterState}
use Rattle.owed_laws.specs.of_protocol_laws.Shown.{IsAsShown, hidden, refusal_of}
use Rattle.owed_laws.specs.of_protocol_laws.Sound.{IsSound}
use Rattle.owed_laws.proofs.of_protocol_laws.Shown.{refusals_are_as_shown}
use Rattle.owed_laws.specs.of_protocol_legal.Whole.{setting_of}
use Rattle.protocol_owed.specs.Runs.{Handing, Running, after_event, after_events, opening_run}
use Rattle.protocol_owed.proofs.Counting.{are_parts, happens-counted, no_event, not_refused}
use Rattle.owed_laws.specs.of_lease_discipline.Slots.{AreRight}
use Rattle.owed_laws.specs.of_lease_discipline.Told.{IsInStep}
use Rattle.owed_laws.proofs.of_lease_discipline.Told.{events_stay_in_step, opening_is_in_step}
use Rattle.owed_laws.specs.Law.{IsReached}
use Rattle.count_laws.specs.Counts.{Counts, behind, borne, counted, is_within, objects_born, would_open}
use Rattle.count_laws.specs.Law.{AreCounted, EventsAreLimited, IsFull, IsLimited, PassesLimit, RunsAreCounted, RunsAreWithin}
use Rattle.count_laws.proofs.Added.{many, many_born}
use Rattle.count_laws.proofs.Events.{claim_grows_none, event_grows}
use Rattle.count_laws.proofs.Numbers.{refusal_is_no_limit, shown_is_no_limit}

-- ---- counts

same_counts : {a b : ℕ} {i j : ℕ} {k l : ℕ} → a ≡ b → i ≡ j → k ≡ l →
    ◌≡◌ {A = Counts} (record { nodes = a; workers = i; objects = k }) (record { nodes = b; workers = j; objects = l })
same_counts e f g = cc

no_more : (n : ℕ) → n + 0 ≡ n
no_more n = omega (arith)

long : (xs : List Worker) → length (map (λ (x : Worker). x.node) xs) ≡ length xs
long [] = refl
long (x ∷ xs) = ap suc (long xs)

long_nil : {X : Type 0} (xs : List X) → length (xs ++ []) ≡ length xs
long_nil [] = refl
long_nil (x ∷ xs) = ap suc (long_nil xs)

-- the parts of an event that was accepted bring its join, if it is one
joins_then : (log : List Entry) (e : Event) (seat : ℕ) (es : List Entry) → are_parts es ≡ true → length (joins (log ++ In e seat ∷ es)) ≡ length (joins log) + length (join_in e)
joins_then log e seat es q =
    let f : accepted_events (log ++ In e seat ∷ es) ≡ accepted_events log ++ e ∷ [] =
    accepted-event log e seat es (no_event es q) ∙ ap (λ b. accepted_events log ++ (if b then [] else e ∷ [])) (not_refused es q) in
    ap (λ xs. length (flat_map join_in xs)) f ∙ ap length (flat_map-append join_in (accepted_events log) (e ∷ []))
    ∙ length-append (joins log) (join_in e ++ []) ∙ ap (λ k. length (joins log) + k) (long_nil (join_in e))

refused_counts : (s : Setting) (log : List Entry) (e : Event) (seat : ℕ) (code : Refusal) → counted s (log ++ In e seat ∷ Refused code ∷ []) ≡ counted s log
refused_counts s log e seat code =
    let es : List Entry = In e seat ∷ Refused code ∷ [] in
    same_counts (ap (λ xs. s.nodes + length (flat_map join_in xs)) (accepted-refused log e seat code))
    (many opened_in log es ∙ no_more (length (opened log))) (ap (λ n. 1 + n) (many_born log es ∙ no_more (objects_born (flat_map born_in log))))

-- ---- one event of a sound run whose objects are counted

module _ (s : Setting) (log : List Entry) (c : ClusterState) (sound : IsSound s log c) (made : c.made ≡ objects_born (births log)) where
  workers_long : length c.workers ≡ length (opened log)
  workers_long = sym (ap length sound.between.knows.opened ∙ long c.workers)

  pub now_counted : AreCounted s (record { whole = c; log = log })
  now_counted = record { nodes = sound.between.knows.nodes; workers = workers_long; objects = made }

  module _ (e : Event) (seat : ℕ) (handed : CommitInput) where
    abbrev m : Transition
    m = happens c e handed

    abbrev pub next : Counts
    next = behind (counted s log) c e handed

    taken_counts : refusal c e handed ≡ None → counted s (log ++ In e seat ∷ m.out.entries) ≡ next
    taken_counts r =
        let i = happens-counted c e handed in
        let g = event_grows s log c sound e handed r in
        let j = joins_then log e seat m.out.entries i.quiet in
        let b = many_born log (In e seat ∷ m.out.entries) in
        let k = g.born in
        same_counts (nodes_more s.nodes (length (joins log)) (length (join_in e)) _ j) (many opened_in log (In e seat ∷ m.out.entries))
        (objects_more (objects_born (flat_map born_in log)) (objects_born (flat_map born_in m.out.entries)) (borne e handed) _ b k)
      where
        nodes_more : (a n k l : ℕ) → l ≡ n + k → a + l ≡ (a + n) + k
        nodes_more a n k l f = omega (arith, f)

        objects_more : (n i k l : ℕ) → l ≡ n + i → i ≡ k → 1 + l ≡ (1 + n) + k
        objects_more n i k l f g = omega (arith, f, g)

    -- the tables after it have as many as the log would have
    limits_as : refusal c e handed ≡ None → is_within_limits m.whole ≡ is_within next
    limits_as r =
        let i = happens-counted c e handed in
        let g = event_grows s log c sound e handed r in
        ap (λ n. nat_lt n 65 && nat_lt (length m.whole.workers) 1025 && nat_lt m.whole.made 1000001) (i.nodes ∙ ap (λ n. n + length (join_in e)) sound.between.knows.nodes)
        ∙ ap (λ n. nat_lt next.nodes 65 && nat_lt n 1025 && nat_lt m.whole.made 1000001) (g.workers ∙ ap (λ n. n + would_open c e handed) workers_long)
        ∙ ap (λ n. nat_lt next.nodes 65 && nat_lt next.workers 1025 && nat_lt n 1000001) (g.made ∙ ap (λ n. n + borne e handed) made)

    -- what comes of an answer
    pub record Comes (a : Answer) : Type 0 where
      pub accepted : (step : Step) → a ≡ Takes step → counted s (log ++ logged e seat a) ≡ next
      pub otherwise : (code : Refusal) → a ≡ Refuses code → counted s (log ++ logged e seat a) ≡ counted s log
      pub within : is_within (counted s log) ≡ true → is_within (counted s (log ++ logged e seat a)) ≡ true
      pub objects : (whole_after c a).made ≡ objects_born (births (log ++ logged e seat a))
      pub few : (step : Step) → a ≡ Takes step → would_open c e handed ≤ 1

    refused_comes : (code : Refusal) → Comes (Refuses code)
    refused_comes code =
        let f = refused_counts s log e seat code in
        record {
          accepted = λ step i. absurd (apart step i);
          otherwise = λ k i. f;
          within = λ i. ap is_within f ∙ i;
          objects = made ∙ sym (ap (λ (n : Counts). n.objects) f);
          few = λ step i. absurd (apart step i);
        }
      where
        apart : (step : Step) → Refuses code ≡ Takes step → ⊥
        apart step i = cc

    limited_comes : (t : Bool) → is_within_limits m.whole ≡ t → refusal c e handed ≡ None → Comes (if t then takes m (given_out c e) else Refuses Limit)
    limited_comes false w r = refused_comes Limit
    limited_comes true w r =
        let f = taken_counts r in
        record {
          accepted = λ step i. f;
          otherwise = λ code i. absurd (apart code i);
          within = λ i. ap is_within f ∙ sym (limits_as r) ∙ w;
          objects = (event_grows s log c sound e handed r).made ∙ ap (λ n. n + borne e handed) made ∙ sym (ap (λ (n : Counts). n.objects) f);
          few = λ step i. (event_grows s log c sound e handed r).few;
        }
      where
        apart : (code : Refusal) → takes m (given_out c e) ≡ Refuses code → ⊥
        apart code i = cc

    decided_comes : (o : Option Refusal) → refusal c e handed ≡ o → Comes (decided c e handed o)
    decided_comes (Some code) r = refused_comes code
    decided_comes None r = limited_comes (is_within_limits m.whole) refl r

    pub comes : Comes (answer c e handed)
    comes = decided_comes (refusal c e handed) refl

    -- ---- where it is refused 37

    abbrev pub Passes : Type 0
    Passes = PassesLimit s (record { whole = c; log = log }) (record { event = e; seat = seat; handed = handed })

    same_code : (code k : Refusal) → Refuses code ≡ Refuses k → code ≡ k
    same_code code k i = cc

    differ : {X : Type 0} (t : Bool) → t ≡ true → t ≡ false → X
    differ t i j = absurd (cc)

    -- the log shows no cause where the number is 37
    shows_no_cause : refusal_of (answer c e handed) ≡ Some Limit → shown (setting_of s c) log (is_of_job handed) e ≡ None
    shows_no_cause i = go (shown (setting_of s c) log (is_of_job handed) e) refl (refusals_are_as_shown s log c sound e handed)
      where
        go : (o : Option Refusal) → shown (setting_of s c) log (is_of_job handed) e ≡ o → IsAsShown e o (refusal_of (answer c e handed)) → o ≡ None
        go None f h = refl
        go (Some code) f h = absurd (shown_is_no_limit (setting_of s c) log (is_of_job handed) e (f ∙ sym h ∙ i))

    -- no other number refuses it then
    untold : answer c e handed ≡ Refuses Limit → refusal c e handed ≡ None
    untold i = go (refusal c e handed) refl i
      where
        go : (o : Option Refusal) → refusal c e handed ≡ o → decided c e handed o ≡ Refuses Limit → refusal c e handed ≡ None
        go (Some code) r j = absurd (refusal_is_no_limit c e handed (r ∙ ap (λ k. Some k) (same_code code Limit j)))
        go None r j = r

    pub opens_few : answer c e handed ≡ Refuses Limit → would_open c e handed ≤ 1
    opens_few i = (event_grows s log c sound e handed (untold i)).few

    beyond : answer c e handed ≡ Refuses Limit → is_within next ≡ false
    beyond i = go (refusal c e handed) refl i
      where
        by_test : (t : Bool) → is_within_limits m.whole ≡ t → refusal c e handed ≡ None → (if t then takes m (given_out c e) else Refuses Limit) ≡ Refuses Limit → is_within next ≡ false
        by_test true w r j = absurd (cc)
        by_test false w r j = sym (limits_as r) ∙ w

        go : (o : Option Refusal) → refusal c e handed ≡ o → decided c e handed o ≡ Refuses Limit → is_within next ≡ false
        go (Some code) r j = absurd (refusal_is_no_limit c e handed (r ∙ ap (λ k. Some k) (same_code code Limit j)))
        go None r j = by_test (is_within_limits m.whole) refl r j

    pub refused_passes : answer c e handed ≡ Refuses Limit → Passes
    refused_passes i = record { unshown = shows_no_cause (ap refusal_of i); beyond = beyond i }

    -- where nothing is added, no limit is passed
    adds_nothing : is_within (counted s log) ≡ true → length (join_in e) ≡ 0 → would_open c e handed ≡ 0 → borne e handed ≡ 0 → is_within next ≡ true
    adds_nothing w i j k =
        ap is_within (same_counts (none _ _ i) (none _ _ j) (none _ _ k)) ∙ w
      where
        none : (n l : ℕ) → l ≡ 0 → n + l ≡ n
        none n l f = omega (arith, f)

-- of an event that isn't refused for what the tables alone show, the only number that the log doesn't show is 37; the others add nothing
only_limit : (code : Refusal) → Among code (Limit ∷ []) → code ≡ Limit
only_limit code (zero, e) = cc
only_limit code (suc k, e) = absurd (cc)

module _ (s : Setting) (log : List Entry) (c : ClusterState) (sound : IsSound s log c) (made : c.made ≡ objects_born (births log)) (w : is_within (counted s log) ≡ true) where
  hidden_limit : (e : Event) (seat : ℕ) (handed : CommitInput) → is_within (behind (counted s log) c e handed) ≡ false → (code : Refusal) → Among code (hidden e) → code ≡ Limit
  hidden_limit (Claim v) seat handed b code h = differ s log c sound made (Claim v) seat handed _ (adds_nothing s log c sound made (Claim v) seat handed w refl (claim_grows_none c v handed) refl) b
  hidden_limit (Evict n o) seat handed b code h = differ s log c sound made (Evict n o) seat handed _ (adds_nothing s log c sound made (Evict n o) seat handed w refl refl refl) b
  hidden_limit (Lose n o) seat handed b code h = differ s log c sound made (Lose n o) seat handed _ (adds_nothing s log c sound made (Lose n o) seat handed w refl refl refl) b
  hidden_limit (Commit j) seat handed b code h = only_limit code h
  hidden_limit (Deliver k) seat handed b code h = only_limit code h
  hidden_limit (Tick v) seat handed b code h = only_limit code h
  hidden_limit (Notice v u) seat handed b code h = only_limit code h
  hidden_limit (NoticeNode v n) seat handed b code h = only_limit code h
  hidden_limit (Kill v) seat handed b code h = only_limit code h
  hidden_limit (KillNode n) seat handed b code h = only_limit code h
  hidden_limit Join seat handed b code h = only_limit code h

  passes_refused : (e : Event) (seat : ℕ) (handed : CommitInput) → Passes s log c sound made e seat handed → answer c e handed ≡ Refuses Limit
  passes_refused e seat handed p =
      go (refusal c e handed) refl
      (subst (λ o. IsAsShown e o (refusal_of (answer c e handed))) p.unshown (refusals_are_as_shown s log c sound e handed))
    where
      by_test : (t : Bool) → is_within_limits (happens c e handed).whole ≡ t → refusal c e handed ≡ None → (if t then takes (happens c e handed) (given_out c e) else Refuses Limit) ≡ Refuses Limit
      by_test false i r = refl
      by_test true i r = differ s log c sound made e seat handed _ (sym (limits_as s log c sound made e seat handed r) ∙ i) p.beyond

      go : (o : Option Refusal) → refusal c e handed ≡ o → IsAsShown e None (refusal_of (decided c e handed o)) → decided c e handed o ≡ Refuses Limit
      go (Some code) r h = ap (λ k. Refuses k) (hidden_limit e seat handed p.beyond code h)
      go None r h = by_test (is_within_limits (happens c e handed).whole) refl r

  -- ---- by the log alone

  within_nodes : nat_lt (counted s log).nodes 65 ≡ true
  within_nodes = (and_parts _ _ (and_parts (nat_lt (counted s log).nodes 65 && nat_lt (counted s log).workers 1025) (nat_lt (counted s log).objects 1000001) w).0).0

  within_workers : nat_lt (counted s log).workers 1025 ≡ true
  within_workers = (and_parts (nat_lt (counted s log).nodes 65) (nat_lt (counted s log).workers 1025) (and_parts (nat_lt (counted s log).nodes 65 && nat_lt (counted s log).workers 1025) (nat_lt (counted s log).objects 1000001) w).0).1

  within_objects : nat_lt (counted s log).objects 1000001 ≡ true
  within_objects = (and_parts (nat_lt (counted s log).nodes 65 && nat_lt (counted s log).workers 1025) (nat_lt (counted s log).objects 1000001) w).1

  -- one of three tests fails
  which : (t u v : Bool) → (t && u && v) ≡ false → (t ≡ false) ⊎ (u ≡ false) ⊎ (v ≡ false)
  which false u v e = inl refl
  which true false v e = inr (inl refl)
  which true true v e = inr (inr e)

  last_node : (n : ℕ) → nat_lt n 65 ≡ true → nat_lt (n + 1) 65 ≡ false → n ≡ 64
  last_node n e f = grind (arith, nat_tests)

  unjoined : {X : Type 0} (n : ℕ) → nat_lt n 65 ≡ true → nat_lt (n + 0) 65 ≡ false → X
  unjoined n e f = absurd (apart (nat_lt n 65) e (ap (λ i. nat_lt i 65) (sym (no_more n)) ∙ f))
    where
      apart : (t : Bool) → t ≡ true → t ≡ false → ⊥
      apart t i j = cc

  -- one node more is too many where there are 64, and none more never is
  by_join : (e : Event) → nat_lt ((counted s log).nodes + length (join_in e)) 65 ≡ false → (e ≡ Join) × ((counted s log).nodes ≡ 64)
  by_join Join f = (refl, last_node (counted s log).nodes within_nodes f)
  by_join (Claim v) f = unjoined (counted s log).nodes within_nodes f
  by_join (Commit j) f = unjoined (counted s log).nodes within_nodes f
  by_join (Deliver k) f = unjoined (counted s log).nodes within_nodes f
  by_join (Tick v) f = unjoined (counted s log).nodes within_nodes f
  by_join (Notice v u) f = unjoined (counted s log).nodes within_nodes f
  by_join (NoticeNode v n) f = unjoined (counted s log).nodes within_nodes f
  by_join (Evict n o) f = unjoined (counted s log).nodes within_nodes f
  by_join (Lose n o) f = unjoined (counted s log).nodes within_nodes f
  by_join (Kill v) f = unjoined (counted s log).nodes within_nodes f
  by_join (KillNode n) f = unjoined (counted s log).nodes within_nodes f

  full : (g : Handing) → answer c g.event g.handed ≡ Refuses Limit → IsFull (counted s log) g
  full g i =
      elim (which (nat_lt ((counted s log).nodes + length (join_in g.event)) 65) (nat_lt ((counted s log).workers + would_open c g.event g.handed) 1025)
      (nat_lt ((counted s log).objects + borne g.event g.handed) 1000001) (refused_passes s log c sound made g.event g.seat g.handed i).beyond) [
        | inl f ↦ inl (by_join g.event f)
        | inr (inl f) ↦ inr (inl (last_worker (counted s log).workers (would_open c g.event g.handed) within_workers (opens_few s log c sound made g.event g.seat g.handed i) f))
        | inr (inr f) ↦ inr (inr (too_many ((counted s log).objects + borne g.event g.handed) f))
      ]
    where
      last_worker : (n k : ℕ) → nat_lt n 1025 ≡ true → k ≤ 1 → nat_lt (n + k) 1025 ≡ false → n ≡ 1024
      last_worker n k e f h = grind (arith, nat_tests, f)

      too_many : (n : ℕ) → nat_lt n 1000001 ≡ false → 1000000 < n
      too_many n e = grind (arith, nat_tests)

  -- a join opens and bears nothing
  join_full : is_within (behind (counted s log) c Join Nothing) ≡ false → (counted s log).nodes ≡ 64
  join_full f =
      elim (which (nat_lt ((counted s log).nodes + 1) 65) (nat_lt ((counted s log).workers + 0) 1025) (nat_lt ((counted s log).objects + 0) 1000001) f) [
        | inl i ↦ last_node (counted s log).nodes within_nodes i
        | inr (inl i) ↦ clash _ (ap (λ n. nat_lt n 1025) (no_more (counted s log).workers) ∙ within_workers) i
        | inr (inr i) ↦ clash _ (ap (λ n. nat_lt n 1000001) (no_more (counted s log).objects) ∙ within_objects) i
      ]
    where
      clash : {X : Type 0} (t : Bool) → t ≡ true → t ≡ false → X
      clash t i j = absurd (cc)

  fills : (counted s log).nodes ≡ 64 → is_within (behind (counted s log) c Join Nothing) ≡ false
  fills e = ap (λ n. nat_lt (n + 1) 65 && nat_lt ((counted s log).workers + 0) 1025 && nat_lt ((counted s log).objects + 0) 1000001) e

  bears_beyond : (t u : Bool) (n : ℕ) → 1000000 < n → (t && u && nat_lt n 1000001) ≡ false
  bears_beyond t u n f = only t u (nat_lt n 1000001) (too_many n f)
    where
      too_many : (n : ℕ) → 1000000 < n → nat_lt n 1000001 ≡ false
      too_many n f = grind (arith, nat_tests, f)

      only : (t u v : Bool) → v ≡ false → (t && u && v) ≡ false
      only true true v e = e
      only true false v e = refl
      only false u v e = refl

  pub limited : (g : Handing) → IsLimited s (record { whole = c; log = log }) g
  limited g =
      let k = comes s log c sound made g.event g.seat g.handed in
      record {
        refused = refused_passes s log c sound made g.event g.seat g.handed;
        passes = passes_refused g.event g.seat g.handed;
        full = full g;
        joins = λ e i. join_full (subst (λ (x : Event). is_within (behind (counted s log) c x g.handed) ≡ false) e (refused_passes s log c sound made g.event g.seat g.handed i).beyond);
        no_join = λ e i. passes_refused g.event g.seat g.handed (record {
          unshown = ap (shown (setting_of s c) log (is_of_job g.handed)) e;
          beyond = subst (λ (x : Event). is_within (behind (counted s log) c x g.handed) ≡ false) (sym e) (fills i);
        });
        no_births = λ u f. passes_refused g.event g.seat g.handed (record { unshown = u; beyond = bears_beyond (nat_lt ((counted s log).nodes + length (join_in g.event)) 65) (nat_lt ((counted s log).workers + would_open c g.event g.handed) 1025) ((counted s log).objects + borne g.event g.handed) f });
        accepted = k.accepted;
        one_opens = k.few;
        numbers = λ e. one_more (counted s log).workers _ within_workers (event_grows s log c sound g.event g.handed e).few;
        otherwise = k.otherwise;
        within = k.within w;
      }
    where
      one_more : (n k : ℕ) → nat_lt n 1025 ≡ true → k ≤ 1 → n + k ≤ 1025
      one_more n k e f = grind (arith, nat_tests, f)

-- ---- runs

abbrev Objects : Running → Type 0
Objects r = r.whole.made ≡ objects_born (births r.log)

-- what is true of each run that was reached
record Counted (s : Setting) (r : Running) : Type 0 where
  sound : IsSound s r.log r.whole
  objects : Objects r
  within : s.nodes ≤ 64 → is_within (counted s r.log) ≡ true

stays_counted : (s : Setting) → KeepsMainApart s.script → (r : Running) (gs : List Handing) → AreRight s r gs → IsInStep s r.log r.whole → Objects r →
    (s.nodes ≤ 64 → is_within (counted s r.log) ≡ true) → Counted s (after_events r gs)
stays_counted s apart r [] right step made w = record { sound = step.sound; objects = made; within = w }
stays_counted s apart r (g ∷ gs) right step made w =
    let k = comes s r.log r.whole step.sound made g.event g.seat g.handed in
    stays_counted s apart (after_event r g) gs right.1 (events_stay_in_step s apart r.log r.whole g.event g.seat g.handed step right.0) k.objects (λ n. k.within (w n))

opening_within : (s : Setting) → s.nodes ≤ 64 → is_within (counted s opening) ≡ true
unfolding accepted_events
opening_within s few = ap (λ t. t && true && true) (below s.nodes few)
  where
    below : (n : ℕ) → n ≤ 64 → nat_lt (n + 0) 65 ≡ true
    below n f = grind (arith, nat_tests, f)

reached_counted : (s : Setting) (slots : ℕ) → 0 < s.nodes → KeepsMainApart s.script → (r : Running) → IsReached s slots r → Counted s r
reached_counted s slots some apart r reached =
    subst (Counted s) reached.leads
    (stays_counted s apart (opening_run s.nodes slots) reached.handings reached.right (opening_is_in_step s slots some) refl (opening_within s))

pub runs_are_counted : RunsAreCounted
runs_are_counted s slots some apart r reached = let k = reached_counted s slots some apart r reached in now_counted s r.log r.whole k.sound k.objects

pub runs_are_within : RunsAreWithin
runs_are_within s slots some few apart r reached = (reached_counted s slots some apart r reached).within few

pub events_are_limited : EventsAreLimited
events_are_limited s slots some few apart r reached g =
    let k = reached_counted s slots some apart r reached in limited s r.log r.whole k.sound k.objects (k.within few) g
