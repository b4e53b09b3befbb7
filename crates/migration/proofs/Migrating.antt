-- The history of a replay replays to the same run.
use Rattle.std.proofs.Common.{◌≡◌, ℕ, zero, suc, ◌+◌, true, false, Bool, List, [], ◌∷◌, ◌++◌, length, map}
use Rattle.std.proofs.Common.{Option, Some, None, refl, sym, ap, ◌∙◌, subst, arith, inl, inr, length-append}
use Rattle.std.specs.Prelude.{if◌then◌else◌}
use Rattle.std.specs.List.{flat_map}
use Rattle.std.proofs.lemmas.List.Concat.{flat_map-append}
use Rattle.meaning.specs.Syntax.{Script}
use Rattle.segment.specs.Jobs.{Done}
use Rattle.event_log.specs.Entries.{Entry, In, Refused, Event, Claim}
use Rattle.event_log.specs.Entries.{Limit}
use Rattle.event_log.specs.Events.{accepted_events, claims, claim_in, refused_next}
use Rattle.event_log.specs.Legal.{has_event}
use Rattle.log_entries.specs.declared.refusal.Refusal.{Refusal}
use Rattle.event_files.specs.declared.line.Line.{Line}
use Rattle.event_files.specs.declared.line.Line.TheVariants as lines
use Rattle.event_files.specs.declared.recorded.RecordedEvent.{RecordedEvent}
use Rattle.event_files.specs.LogHistory as recorded
use Rattle.protocol.specs.Jobs.{CommitInput, Job}
use Rattle.protocol.specs.Cluster.{ClusterState, Transition}
use Rattle.protocol.specs.Events.{happens}
use Rattle.protocol.specs.Refusals.{is_within_limits, refusal}
use Rattle.protocol.specs.Answers.{Answer, Refuses, decided, given_out, logged, takes}
use Rattle.protocol_owed.proofs.Counting.{happens-counted, no_event, not_refused}
use Rattle.seats.specs.of_protocol_board.Cores.{RunState}
use Rattle.seats.specs.of_protocol_board.Cores.{GivesThat, Reply, Tells, Answers, Follows}
use Rattle.seats.specs.of_protocol_board.Cores as replies
use Rattle.seats.specs.Counted.{ClaimsGaveJobs}
use Rattle.seats.specs.of_protocol_board.Replays.{AllPlay, LinePlays, Play, PlaysHistory, Plays, Settles, Step, found_no_memory, given_by, next_line}
use Rattle.migration.specs.Migration.{Begins, HistoriesReplay, Said, SaidPlays, claims_after, given_at, said_by, said_from}
use Rattle.seats.proofs.Counted.{answers_counted, fresh_claims}
use Rattle.seats.proofs.Jobs.{claim_gives}

abbrev pub said : ℕ → Event → Option ℕ → Said
said seat e given = record { seat = seat; event = e; given = given }

-- ---- what a log says, behind one event more

pub count_from : ℕ → List Entry → ℕ
count_from n [] = n
count_from n (In e s ∷ rest) = count_from (claims_after e (refused_next rest) n) rest
count_from n (x ∷ rest) = count_from n rest

one_more : (b : Bool) (e : Event) (n : ℕ) → claims_after e b n ≡ n + length (flat_map claim_in (if b then [] else e ∷ []))
one_more true (Claim w) n = omega arith
one_more false (Claim w) n = omega arith
one_more true e n = omega arith
one_more false e n = omega arith

count_claims : (n : ℕ) (log : List Entry) → count_from n log ≡ n + length (claims log)
unfolding accepted_events count_from
count_claims n [] = omega arith
count_claims n (In e s ∷ rest) =
    let first : List Event = if refused_next rest then [] else e ∷ [] in
    let later = count_claims (claims_after e (refused_next rest) n) rest in
    let here = one_more (refused_next rest) e n in
    let all = ap length (flat_map-append claim_in first (accepted_events rest)) ∙ length-append (flat_map claim_in first) (claims rest) in
    omega (arith, later, here, all)
count_claims n (x ∷ rest) = count_claims n rest

unrefused_more : (log es : List Entry) → refused_next es ≡ false → refused_next (log ++ es) ≡ refused_next log
unrefused_more [] es h = h
unrefused_more (Refused code ∷ log) es h = refl
unrefused_more (x ∷ log) es h = refl

pub said-append : (n : ℕ) (log es : List Entry) → refused_next es ≡ false → said_from n (log ++ es) ≡ said_from n log ++ said_from (count_from n log) es
unfolding count_from
said-append n [] es h = refl
said-append n (In e s ∷ log) es h =
    ap (λ b. said s e (given_at e b n) ∷ said_from (claims_after e b n) (log ++ es)) (unrefused_more log es h)
    ∙ ap (λ xs. said s e (given_at e (refused_next log) n) ∷ xs) (said-append (claims_after e (refused_next log) n) log es h)
said-append n (x ∷ log) es h = said-append n log es h

none_said : (n : ℕ) (es : List Entry) → has_event es ≡ false → said_from n es ≡ []
none_said n [] h = refl
none_said n (In e s ∷ es) h = absurd (cc)
none_said n (x ∷ es) h = none_said n es h

said-event : (log : List Entry) (e : Event) (s : ℕ) (es : List Entry) → has_event es ≡ false →
    said_from 0 (log ++ In e s ∷ es) ≡ said_from 0 log ++ said s e (given_at e (refused_next es) (length (claims log))) ∷ []
said-event log e s es h =
    let claimed = count_claims 0 log in
    let same : count_from 0 log ≡ length (claims log) = omega (arith, claimed) in
    said-append 0 log (In e s ∷ es) refl
    ∙ ap (λ xs. said_from 0 log ++ said s e (given_at e (refused_next es) (count_from 0 log)) ∷ xs) (none_said (claims_after e (refused_next es) (count_from 0 log)) es h)
    ∙ ap (λ n. said_from 0 log ++ said s e (given_at e (refused_next es) n) ∷ []) same

-- ---- what is told of an event is what the log says of it

claim_told : (w n : ℕ) (job : Job) (told : Reply) → job.number ≡ n + 1 → GivesThat (Some job) told → given_at (Claim w) false n ≡ given_by (Claim w) told
claim_told w n job told number h =
    sym (ap (given_by (Claim w)) h ∙ ap (λ k. Some k) number)

given_taken : (c : ClusterState) (e : Event) (handed : CommitInput) (told : Reply) (n : ℕ) → n ≡ length c.jobs → refusal c e handed ≡ None → GivesThat (given_out c e) told →
    given_at e false n ≡ given_by e told
given_taken c (Claim w) handed told n same r h =
    let g = claim_gives c w handed r in
    claim_told w n g.0 told (g.2 ∙ ap (λ k. k + 1) (sym same)) (subst (λ o. GivesThat o told) g.1 h)
given_taken c e handed told n same r h = refl

given_refused : (e : Event) (n : ℕ) (told : Reply) (r : Refusal) → told ≡ replies.Refuses r → given_at e true n ≡ given_by e told
given_refused (Claim w) n told r h = sym (ap (given_by (Claim w)) h)
given_refused e n told r h = refl

abbrev Says : List Entry → Event → ℕ → Answer → Reply → Type 0
Says log e seat a told = said_from 0 (log ++ logged e seat a) ≡ said_from 0 log ++ said seat e (given_by e told) ∷ []

refused_says : (log : List Entry) (e : Event) (seat : ℕ) (code : Refusal) (told : Reply) → Tells (Refuses code) told → Says log e seat (Refuses code) told
refused_says log e seat code told h =
    said-event log e seat (Refused code ∷ []) refl ∙ ap (λ g. said_from 0 log ++ said seat e g ∷ []) (given_refused e (length (claims log)) told code h)

taken_says : (log : List Entry) (c : ClusterState) (e : Event) (seat : ℕ) (handed : CommitInput) (told : Reply) → length (claims log) ≡ length c.jobs → refusal c e handed ≡ None →
    GivesThat (given_out c e) told → Says log e seat (takes (happens c e handed) (given_out c e)) told
taken_says log c e seat handed told same r h =
    let m : Transition = happens c e handed in
    let es : List Entry = m.out.entries in
    let q = (happens-counted c e handed).quiet in
    said-event log e seat es (no_event es q)
    ∙ ap (λ b. said_from 0 log ++ said seat e (given_at e b (length (claims log))) ∷ []) (not_refused es q)
    ∙ ap (λ g. said_from 0 log ++ said seat e g ∷ []) (given_taken c e handed told (length (claims log)) same r h)

limited_says : (log : List Entry) (c : ClusterState) (e : Event) (seat : ℕ) (handed : CommitInput) (told : Reply) → length (claims log) ≡ length c.jobs → refusal c e handed ≡ None →
    (b : Bool) → Tells (if b then takes (happens c e handed) (given_out c e) else Refuses Limit) told →
    Says log e seat (if b then takes (happens c e handed) (given_out c e) else Refuses Limit) told
limited_says log c e seat handed told same r true h = taken_says log c e seat handed told same r h
limited_says log c e seat handed told same r false h = refused_says log e seat Limit told h

decided_says : (log : List Entry) (c : ClusterState) (e : Event) (seat : ℕ) (handed : CommitInput) (told : Reply) → length (claims log) ≡ length c.jobs → (o : Option Refusal) →
    refusal c e handed ≡ o → Tells (decided c e handed o) told → Says log e seat (decided c e handed o) told
decided_says log c e seat handed told same None r h = limited_says log c e seat handed told same r (is_within_limits (happens c e handed).whole) h
decided_says log c e seat handed told same (Some code) r h = refused_says log e seat code told h

pub record IsSaid (before : RunState) (e : Event) (seat : ℕ) (after : RunState) (told : Reply) : Type 0 where
  pub says : said_from 0 after.log ≡ said_from 0 before.log ++ said seat e (given_by e told) ∷ []
  pub goes_on : after.is_halted ≡ false

pub follows_said : (before after : RunState) (e : Event) (seat : ℕ) (d : Option Done) (told : Reply) → length (claims before.log) ≡ length before.whole.jobs →
    found_no_memory told ≡ false → Follows before e seat d after told → IsSaid before e seat after told
follows_said before after e seat d told same memory (inl out) =
    let f : true ≡ false = sym (ap found_no_memory out.told_so) ∙ memory in absurd (cc)
follows_said before after e seat d told same memory (inr (handed, is_handed, is)) = record {
  says = ap (said_from 0) is.log ∙ decided_says before.log before.whole e seat handed told same (refusal before.whole e handed) refl is.told_so;
  goes_on = is.goes_on;
}

-- ---- plays

pub none_play : {A : Type 0} (plays : A → Play → Play → Type 0) (p : Play) → AllPlay plays [] p p
unfolding AllPlay
none_play plays p = refl

pub all_more : {A : Type 0} (plays : A → Play → Play → Type 0) (xs : List A) (x : A) (a b c : Play) → AllPlay plays xs a b → plays x b c → AllPlay plays (xs ++ x ∷ []) a c
unfolding AllPlay
all_more plays [] x a b c h k = (c, subst (λ p. plays x p c) h k, refl)
all_more plays (y ∷ xs) x a b c (p, here, rest) k = (p, here, all_more plays xs x p b c rest k)

-- the history of the run so far was replayed to a play that is the same but for the lines
record Reached (script : Script) (first q : Play) : Type 0 where
  pub begun : ℕ
  pub lines : List ℕ
  pub plays : AllPlay (SaidPlays script) (said_from 0 q.run.log) first (record q { begun = begun; lines = lines })
  pub jobs : ClaimsGaveJobs q.run
  pub goes_on : q.run.is_halted ≡ false

at_first : (script : Script) (first : Play) → Begins first → Reached script first first
at_first script first h = record {
  begun = first.begun;
  lines = first.lines;
  plays = subst (λ l. AllPlay (SaidPlays script) (said_from 0 l) first first) (sym h.log) (none_play (SaidPlays script) first);
  jobs = fresh_claims first.run (h.log, h.jobs, h.goes_on);
  goes_on = h.goes_on;
}

at_next_line : (script : Script) (first q : Play) → Reached script first q → Reached script first (next_line q)
at_next_line script first q h = record { begun = h.begun; lines = h.lines; plays = h.plays; jobs = h.jobs; goes_on = h.goes_on }

behind_step : (script : Script) (first q r : Play) (e : Event) → Reached script first q → Step script q e 0 r → Reached script first r
behind_step script first q r e h s =
    let p : Play = record q { begun = h.begun; lines = h.lines } in
    let t : Play = record r { begun = h.begun + 1; lines = h.lines ++ (h.begun + 1) ∷ [] } in
    let step : Step script (next_line p) e 0 t = record {
      within = s.within;
      told = s.told;
      answered = s.answered;
      goes_on = s.goes_on;
      jobs = s.jobs;
      counted = s.counted;
      sent = s.sent;
      same_line = refl;
      lines = refl;
    } in
    let a = s.answered in
    let f = follows_said q.run r.run e 0 a.0 s.told (h.jobs h.goes_on) s.goes_on (a.2.follows h.goes_on) in
    record {
      begun = h.begun + 1;
      lines = h.lines ++ (h.begun + 1) ∷ [];
      plays = subst (λ xs. AllPlay (SaidPlays script) xs first t) (sym f.says)
          (all_more (SaidPlays script) (said_from 0 q.run.log) (said 0 e (given_by e s.told)) first p t h.plays (step, refl));
      jobs = (answers_counted q.run r.run e 0 a.0 s.told h.jobs a.2).jobs;
      goes_on = f.goes_on;
    }

behind_settles : (script : Script) (but : List ℕ) (n : ℕ) (first q r : Play) → Reached script first q → Settles script but n q r → Reached script first r
unfolding Settles
behind_settles script but zero first q r h same = subst (Reached script first) (sym same) h
behind_settles script but (suc n) first q r h (between, e, before, named, step) =
    behind_step script first between r e (behind_settles script but n first q between h before) step

behind_line : (script : Script) (line : Line) (first q r : Play) → Reached script first q → LinePlays script line q r → Reached script first r
behind_line script (lines.Event e) first q r h step = behind_step script first (next_line q) r e (at_next_line script first q h) step
behind_line script (lines.Settle workers) first q r h (n, settles, rest) =
    behind_settles script workers n first (next_line q) r (at_next_line script first q h) settles

behind_lines : (script : Script) (ls : List Line) (first q r : Play) → Reached script first q → Plays script ls q r → Reached script first r
unfolding AllPlay
behind_lines script [] first q r h same = subst (Reached script first) (sym same) h
behind_lines script (line ∷ ls) first q r h (between, here, rest) =
    behind_lines script ls first between r (behind_line script line first q between h here) rest

-- ---- as the code records it

same_given : (e : Event) (b : Bool) (n : ℕ) → recorded.given_by e b n ≡ given_at e b n
same_given (Claim w) b n = refl
same_given e b n = refl

same_claims : (e : Event) (b : Bool) (n : ℕ) → recorded.claims_behind e b n ≡ claims_after e b n
same_claims (Claim w) b n = refl
same_claims e b n = refl

pub same_said : (n : ℕ) (log : List Entry) → map said_by (recorded.recorded_from n log) ≡ said_from n log
same_said n [] = refl
same_said n (In e s ∷ rest) =
    let b = refused_next rest in
    ap (λ g. said s e g ∷ map said_by (recorded.recorded_from (recorded.claims_behind e b n) rest)) (same_given e b n)
    ∙ ap (λ xs. said s e (given_at e b n) ∷ xs) (same_said (recorded.claims_behind e b n) rest)
    ∙ ap (λ k. said s e (given_at e b n) ∷ said_from k rest) (same_claims e b n)
same_said n (x ∷ rest) = same_said n rest

pub recorded_plays : (script : Script) (rs : List RecordedEvent) (a b : Play) → AllPlay (SaidPlays script) (map said_by rs) a b → PlaysHistory script rs a b
unfolding AllPlay
recorded_plays script [] a b h = h
recorded_plays script (r ∷ rs) a b (p, here, rest) = (p, here, recorded_plays script rs p b rest)

pub histories_replay : HistoriesReplay
histories_replay script ls first after log begins plays same =
    let h = behind_lines script ls first first after (at_first script first begins) plays in
    let again : Play = record after { begun = h.begun; lines = h.lines } in
    let says : said_from 0 after.run.log ≡ map said_by (recorded.recorded_in log) = ap (said_from 0) (sym same) ∙ sym (same_said 0 log) in
    (again, recorded_plays script (recorded.recorded_in log) first again (subst (λ xs. AllPlay (SaidPlays script) xs first again) says h.plays), refl)
