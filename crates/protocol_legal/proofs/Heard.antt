-- An event that is no delivery to a dead worker: so it is from its coming in to the last of its entries.
use Rattle.std.proofs.Common.{◌≡◌, ℕ, true, false, List, [], ◌∷◌, ◌++◌, inl, inr, Option, Some, None, refl, sym, ap, ◌∙◌, subst, append-nil, append_assoc}
use Rattle.std.specs.Prelude.{if◌then◌else◌, not}
use Rattle.std.specs.List.{list_any}
use Rattle.std.proofs.lemmas.Option.{same_Some}
use Rattle.kind_laws.specs.of_event_log.Entries.{Event, Claim, Commit, Deliver, Tick, Notice, NoticeNode, Evict, Lose, Kill, KillNode, Join, Entry, In}
use Rattle.kind_laws.specs.of_event_log.Events.{accepted_events, is_live, kills, node_of, on_node, refused_next, under_way}
use Rattle.kind_laws.specs.of_event_log.Legal.{has_event}
use Rattle.kind_laws.specs.of_event_log.Rules.{Receiver, ToWorker, ToNode, worker_to, actor, Setting, IsHeard, IsOwn}
use Rattle.kind_laws.proofs.of_event_log.EventLaws.{accepted-event}
use Rattle.kind_laws.proofs.of_event_log.Extending.{node_of-more}
use Rattle.protocol_legal.proofs.FrameIn.{lives_more}

to_worker : (r : Option Receiver) (w : ℕ) → worker_to r ≡ Some w → r ≡ Some (ToWorker w)
to_worker None w h = absurd (cc)
to_worker (Some (ToWorker v)) w h = cc
to_worker (Some (ToNode n)) w h = absurd (cc)

heard_by : (s : Setting) (before : List Entry) (e : Event) (w : ℕ) → actor s before e ≡ Some w → is_live w before ≡ true → IsHeard s before e
heard_by s before (Deliver m) w h k = inr (w, to_worker (s.receiver m) w h, k)
heard_by s before (Claim v) w h k = tt
heard_by s before (Commit j) w h k = tt
heard_by s before (Tick v) w h k = tt
heard_by s before (Notice v x) w h k = tt
heard_by s before (NoticeNode v x) w h k = tt
heard_by s before (Evict v x) w h k = tt
heard_by s before (Lose v x) w h k = tt
heard_by s before (Kill v) w h k = tt
heard_by s before (KillNode v) w h k = tt
heard_by s before Join w h k = tt

-- an own event of a live worker
pub heard_now : (s : Setting) (log : List Entry) (e : Event) (w : ℕ) → IsOwn s log w → under_way log ≡ Some e → IsHeard s log e
heard_now s log e w own now = subst (IsHeard s log) (same_Some own.event e (sym own.now ∙ now)) (heard_by s log own.event w own.own own.lives)

-- who lives was opened
pub home_of_live : (log : List Entry) (w : ℕ) → is_live w log ≡ true → (n : ℕ) × (node_of w log ≡ Some n)
unfolding is_live
home_of_live log w h = go (node_of w log) refl h
  where
    go : (o : Option ℕ) → node_of w log ≡ o → on_node o false (λ n. not (list_any (kills w n) (accepted_events log))) ≡ true → (n : ℕ) × (node_of w log ≡ Some n)
    go None e k = absurd (cc)
    go (Some n) e k = (n, e)

-- behind entries that are no events
accepts_same : (log : List Entry) (e : Event) (seat : ℕ) (es : List Entry) → has_event es ≡ false → refused_next es ≡ false → accepted_events (log ++ In e seat ∷ es) ≡ accepted_events (log ++ In e seat ∷ []) ++ []
accepts_same log e seat es h r =
    accepted-event log e seat es h ∙ ap (λ b. accepted_events log ++ (if b then [] else e ∷ [])) r
    ∙ sym (accepted-event log e seat [] refl) ∙ sym (append-nil (accepted_events (log ++ In e seat ∷ [])))

live_later : (log : List Entry) (e : Event) (seat : ℕ) (es : List Entry) → has_event es ≡ false → refused_next es ≡ false → (w : ℕ) → is_live w (log ++ In e seat ∷ []) ≡ true → is_live w (log ++ In e seat ∷ es) ≡ true
live_later log e seat es h r w k =
    let home = home_of_live (log ++ In e seat ∷ []) w k in
    let later : node_of w (log ++ In e seat ∷ es) ≡ Some home.0 = subst (λ l. node_of w l ≡ Some home.0) (append_assoc log (In e seat ∷ []) es) (node_of-more (log ++ In e seat ∷ []) es w home.0 home.1) in
    lives_more (log ++ In e seat ∷ []) (log ++ In e seat ∷ es) [] (accepts_same log e seat es h r) w home.0 home.1 later refl ∙ k

pub heard_later : (s : Setting) (log : List Entry) (e : Event) (seat : ℕ) (es : List Entry) → has_event es ≡ false → refused_next es ≡ false → (x : Event) → IsHeard s (log ++ In e seat ∷ []) x → IsHeard s (log ++ In e seat ∷ es) x
heard_later s log e seat es h r (Deliver m) (inl k) = inl k
heard_later s log e seat es h r (Deliver m) (inr k) = inr (k.0, k.1, live_later log e seat es h r k.0 k.2)
heard_later s log e seat es h r (Claim w) k = tt
heard_later s log e seat es h r (Commit j) k = tt
heard_later s log e seat es h r (Tick w) k = tt
heard_later s log e seat es h r (Notice w v) k = tt
heard_later s log e seat es h r (NoticeNode w n) k = tt
heard_later s log e seat es h r (Evict n o) k = tt
heard_later s log e seat es h r (Lose n o) k = tt
heard_later s log e seat es h r (Kill w) k = tt
heard_later s log e seat es h r (KillNode n) k = tt
heard_later s log e seat es h r Join k = tt
