-- What is answered where a limit may be passed.
use Rattle.std.proofs.Common.{◌≡◌, Bool, true, false, List, [], ◌∷◌, Option, Some, None, refl, ap, ◌∙◌}
use Rattle.std.specs.Prelude.{if◌then◌else◌}
use Rattle.event_log.specs.Entries.{Entry, Event}
use Rattle.event_log.specs.Entries as log
use Rattle.event_log.specs.Entries.{Refusal, Limit}
use Rattle.step_laws.specs.Limits.{entries_limited, whole_limited}
use Rattle.protocol.specs.Answers.{Refuses, answer, decided, given_out, takes, whole_after}
use Rattle.protocol.specs.Events.{happens}
use Rattle.protocol.specs.Jobs.{CommitInput, Job}
use Rattle.protocol.specs.Refusals.{is_within_limits, refusal}
use Rattle.protocol.specs.Cluster.{Transition, ClusterState}
use Rattle.event_answers.specs.Replies.{come_of, outcome_of}
use Rattle.event_answers.specs.declared.verdict.Verdict.TheVariants.{Refused, Taken}

whole_by : (c : ClusterState) (m : Transition) (given : Option Job) (b : Bool) → whole_after c (if b then takes m given else Refuses Limit) ≡ (if b then m.whole else c)
whole_by c m given true = refl
whole_by c m given false = refl

-- the whole after an event that nothing refuses beforehand
pub tried_whole : (c : ClusterState) (e : Event) (handed : CommitInput) → refusal c e handed ≡ None
    → whole_after c (answer c e handed) ≡ whole_limited c (happens c e handed)
tried_whole c e handed r =
    ap (λ o. whole_after c (decided c e handed o)) r ∙ whole_by c (happens c e handed) (given_out c e) (is_within_limits (happens c e handed).whole)

some_is : {X : Type 0} (x y : X) → Some x ≡ Some y → x ≡ y
some_is x y e = cc

entries_by : (m : Transition) (given : Option Job) (es : List Entry) (b : Bool) → (if b then Some m.out.entries else None) ≡ Some es
    → come_of (if b then takes m given else Refuses Limit) ≡ es
entries_by m given es true h = some_is m.out.entries es h
entries_by m given es false h = absurd cc

outcome_by : (m : Transition) (given : Option Job) (es : List Entry) (b : Bool) → (if b then Some m.out.entries else None) ≡ Some es
    → outcome_of (if b then takes m given else Refuses Limit) ≡ Taken given
outcome_by m given es true h = refl
outcome_by m given es false h = absurd cc

limit_by : (m : Transition) (given : Option Job) (b : Bool) → (if b then Some m.out.entries else None) ≡ None → (if b then takes m given else Refuses Limit) ≡ Refuses Limit
limit_by m given true h = absurd cc
limit_by m given false h = refl

-- it is taken
pub tried_entries : (c : ClusterState) (e : Event) (handed : CommitInput) (es : List Entry) → refusal c e handed ≡ None
    → entries_limited (happens c e handed) ≡ Some es
    → come_of (answer c e handed) ≡ es
tried_entries c e handed es r h =
    ap (λ o. come_of (decided c e handed o)) r ∙ entries_by (happens c e handed) (given_out c e) es (is_within_limits (happens c e handed).whole) h

pub tried_outcome : (c : ClusterState) (e : Event) (handed : CommitInput) (es : List Entry) → refusal c e handed ≡ None
    → entries_limited (happens c e handed) ≡ Some es
    → outcome_of (answer c e handed) ≡ Taken (given_out c e)
tried_outcome c e handed es r h =
    ap (λ o. outcome_of (decided c e handed o)) r ∙ outcome_by (happens c e handed) (given_out c e) es (is_within_limits (happens c e handed).whole) h

-- it would pass a limit
tried_limit : (c : ClusterState) (e : Event) (handed : CommitInput) → refusal c e handed ≡ None → entries_limited (happens c e handed) ≡ None
    → answer c e handed ≡ Refuses Limit
tried_limit c e handed r h = ap (decided c e handed) r ∙ limit_by (happens c e handed) (given_out c e) (is_within_limits (happens c e handed).whole) h

pub limit_entries : (c : ClusterState) (e : Event) (handed : CommitInput) → refusal c e handed ≡ None → entries_limited (happens c e handed) ≡ None
    → come_of (answer c e handed) ≡ log.Refused Limit ∷ []
limit_entries c e handed r h = ap come_of (tried_limit c e handed r h)

pub limit_outcome : (c : ClusterState) (e : Event) (handed : CommitInput) → refusal c e handed ≡ None → entries_limited (happens c e handed) ≡ None
    → outcome_of (answer c e handed) ≡ Refused Limit
limit_outcome c e handed r h = ap outcome_of (tried_limit c e handed r h)

-- it is refused beforehand
pub refused_entries : (c : ClusterState) (e : Event) (code : Refusal) (handed : CommitInput) → refusal c e handed ≡ Some code
    → come_of (answer c e handed) ≡ log.Refused code ∷ []
refused_entries c e code handed r = ap (λ o. come_of (decided c e handed o)) r

pub refused_outcome : (c : ClusterState) (e : Event) (code : Refusal) (handed : CommitInput) → refusal c e handed ≡ Some code
    → outcome_of (answer c e handed) ≡ Refused code
refused_outcome c e code handed r = ap (λ o. outcome_of (decided c e handed o)) r

pub refused_whole : (c : ClusterState) (e : Event) (code : Refusal) (handed : CommitInput) → refusal c e handed ≡ Some code → whole_after c (answer c e handed) ≡ c
refused_whole c e code handed r = ap (λ o. whole_after c (decided c e handed o)) r
