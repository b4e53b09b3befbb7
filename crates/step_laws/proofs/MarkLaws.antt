-- Deliveries: the mark is set after the message was handed over.
use Rattle.std.proofs.Common.{◌≡◌, ℕ, ◌+◌, ◌<◌, Bool, true, false, List, length, Some, None, refl, sym, ap, ◌∙◌}
use Rattle.std.specs.Prelude.{if◌then◌else◌}
use Rattle.protocol.specs.of_event_log.Entries.{Entry}
use Rattle.step_laws.specs.Later.{marked}
use Rattle.step_laws.specs.Limits.{entries_limited, is_within, whole_limited}
use Rattle.step_laws.proofs.Later.{delivered_later, delivered_unmarked}
use Rattle.protocol.specs.Events.{delivered, delivered_to}
use Rattle.protocol.specs.Messages.{Envelope}
use Rattle.protocol.specs.Numbered.{item_at}
use Rattle.protocol.specs.Cluster.{Transition, ClusterState}

some_marked : (c : ClusterState) (i : ℕ) (m : Transition) (es : List Entry) (b : Bool) → (if b then Some m.out.entries else None) ≡ Some es
    → marked i (if b then m.whole else c) ≡ (if b then marked i m.whole else c)
some_marked c i m es true e = refl
some_marked c i m es false e = absurd cc

none_marked : (c : ClusterState) (i : ℕ) (m : Transition) (b : Bool) → (if b then Some m.out.entries else None) ≡ None → (if b then m.whole else c) ≡ (if b then marked i m.whole else c)
none_marked c i m true e = absurd cc
none_marked c i m false e = refl

pub delivered_marked : (c mid : ClusterState) (i k : ℕ) (l : Envelope) (es : List Entry) → i < length c.delivered → k ≡ 1 + i → item_at c.network k ≡ Some l
    → mid ≡ whole_limited c (delivered_to c l l.receiver) → entries_limited (delivered_to c l l.receiver) ≡ Some es → marked i mid ≡ whole_limited c (delivered c k)
delivered_marked c mid i k l es less e g w t =
    let m = delivered_to c l l.receiver in
    ap (marked i) w ∙ some_marked c i m es (is_within m.whole.made m.whole) t ∙ sym (ap (whole_limited c) (delivered_later c i k l less e g))

pub delivered_not_marked : (c mid : ClusterState) (i k : ℕ) (l : Envelope) → i < length c.delivered → k ≡ 1 + i → item_at c.network k ≡ Some l
    → mid ≡ whole_limited c (delivered_to c l l.receiver) → entries_limited (delivered_to c l l.receiver) ≡ None → mid ≡ whole_limited c (delivered c k)
delivered_not_marked c mid i k l less e g w t =
    let m = delivered_to c l l.receiver in
    w ∙ none_marked c i m (is_within m.whole.made m.whole) t ∙ sym (ap (whole_limited c) (delivered_later c i k l less e g))

pub delivered_entries : (c : ClusterState) (i k : ℕ) (l : Envelope) → i < length c.delivered → k ≡ 1 + i → item_at c.network k ≡ Some l
    → entries_limited (delivered c k) ≡ entries_limited (delivered_to c l l.receiver)
delivered_entries c i k l less e g = ap entries_limited (delivered_later c i k l less e g)

pub unmarked : (c : ClusterState) (k : ℕ) (l : Envelope) → item_at c.delivered k ≡ None → item_at c.network k ≡ Some l → delivered c k ≡ delivered_to c l l.receiver
unmarked c k l e g = delivered_unmarked c k l e g
