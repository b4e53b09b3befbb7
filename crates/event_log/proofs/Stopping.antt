-- Where an attempt stops, behind a commit and behind entries of others.
use Rattle.std.proofs.Common.{◌≡◌, ℕ, List, [], ◌∷◌, ◌++◌, ◌⊎◌, inl, inr, refl, sym, ◌∙◌, subst, append-nil, append_assoc}
use Rattle.script_laws.specs.of_meaning.Values.{Value, Birth, Id}
use Rattle.script_laws.specs.of_meaning.Runs.{Stop, Needs, Over, Piece, behind}
use Rattle.event_log.specs.Entries.{Attempt, Commit, Entry, In, Born, Printed, main_attempt}
use Rattle.event_log.specs.Words.{own_in, own_births, got_in, printed_in, printed_by, ended_in, faulted_in}
use Rattle.event_log.specs.Rules.{Setting, Stops, IsOwnCommit}
use Rattle.event_log.specs.Commits.{commit_entries, IsLeft, MayCommit}
use Rattle.event_log.proofs.OwnLaws.{own_commit, own_commit-plain}
use Rattle.event_log.proofs.LeftLaws.{unchanged, replays_on, left_on, bears, prints_one}

-- the attempt still stops there behind an entry that says nothing of it
pub stops_on : (s : Setting) (before : List Entry) (a : Attempt) (stop : Stop) (e : Entry) → own_in a e ≡ [] → got_in a e ≡ [] → printed_in a e ≡ [] → ended_in a e ≡ [] → faulted_in a e ≡ [] →
    Stops s before a stop → Stops s (before ++ e ∷ []) a stop
stops_on s before a stop e ho hg hp he hf h = record {
  base = h.base;
  p = h.p;
  replays = replays_on s before a h.base h.p e hg he hf h.replays;
  own = unchanged (own_in a) before e ho ∙ h.own;
  prints = unchanged (printed_in a) before e hp ∙ h.prints;
  stopped = h.stopped;
}

-- where nothing is left to log, it stops as its replay does
nothing_left : (s : Setting) (before : List Entry) (a : Attempt) (base next : Id) (p : Piece) → IsLeft s before a base next p [] [] → Stops s before a p.stop
nothing_left s before a base next p h = record {
  base = base;
  p = p;
  replays = h.replays;
  own = sym (append-nil (own_births a before)) ∙ h.own;
  prints = sym (append-nil (printed_by a before)) ∙ h.prints;
  stopped = refl;
}

needs_entries : (s : Setting) (a : Attempt) (base next : Id) (p : Piece) (before : List Entry) (stop : Stop) (r : Value) → stop ≡ Needs r → Stops s before a p.stop → Stops s (before ++ commit_entries a next [] [] stop) a p.stop
needs_entries s a base next p before (Needs q) r e h = subst (λ b. Stops s b a p.stop) (sym (append-nil before)) h
needs_entries s a base next p before (Over c) r e h = absurd (cc)

prints_stop : (s : Setting) (base next : Id) (p : Piece) (r : Value) → p.stop ≡ Needs r → (before : List Entry) (vs : List Value) → IsOwnCommit before main_attempt next.owner → IsLeft s before main_attempt base next p [] vs →
    Stops s (before ++ commit_entries main_attempt next [] vs p.stop) main_attempt p.stop
prints_stop s base next p r e before [] o h = needs_entries s main_attempt base next p before p.stop r e (nothing_left s before main_attempt base next p h)
prints_stop s base next p r e before (v ∷ vs) o h =
    subst (λ b. Stops s b main_attempt p.stop) (append_assoc before (Printed v ∷ []) (commit_entries main_attempt next [] vs p.stop))
    (prints_stop s base next p r e (before ++ Printed v ∷ []) vs (own_commit-plain before (Printed v) main_attempt next.owner refl o) (prints_one s base p before next v vs o h).1)

print_or_stop : (s : Setting) (a : Attempt) (base next : Id) (p : Piece) (r : Value) → p.stop ≡ Needs r → (before : List Entry) (vs : List Value) → (vs ≡ []) ⊎ (a ≡ main_attempt) → IsOwnCommit before a next.owner →
    IsLeft s before a base next p [] vs → Stops s (before ++ commit_entries a next [] vs p.stop) a p.stop
print_or_stop s a base next p r e before vs (inl f) o h =
    subst (λ ws. IsLeft s before a base next p [] ws → Stops s (before ++ commit_entries a next [] ws p.stop) a p.stop) (sym f)
    (λ k. needs_entries s a base next p before p.stop r e (nothing_left s before a base next p k)) h
print_or_stop s a base next p r e before vs (inr f) o h =
    subst (λ x. IsOwnCommit before x next.owner → IsLeft s before x base next p [] vs → Stops s (before ++ commit_entries x next [] vs p.stop) x p.stop) (sym f)
    (λ i k. prints_stop s base next p r e before vs i k) o h

stop_from : (s : Setting) (a : Attempt) (base next : Id) (p : Piece) (r : Value) → p.stop ≡ Needs r → (before : List Entry) (news : List Birth) (vs : List Value) → IsOwnCommit before a next.owner →
    IsLeft s before a base next p news vs → Stops s (before ++ commit_entries a next news vs p.stop) a p.stop
stop_from s a base next p r e before [] vs o h = print_or_stop s a base next p r e before vs h.of_main o h
stop_from s a base next p r e before (b ∷ bs) vs o h =
    subst (λ x. Stops s x a p.stop) (append_assoc before (Born next a b ∷ []) (commit_entries a (behind next b) bs vs p.stop))
    (stop_from s a base (behind next b) p r e (before ++ Born next a b ∷ []) bs vs (own_commit-plain before (Born next a b) a next.owner refl o) (bears s a base p before next b bs vs o h).1)

-- behind a commit that stops at a get, the attempt needs what it gets
pub stops_after_commit : (s : Setting) (log : List Entry) (j seat : ℕ) (a : Attempt) (base next : Id) (p : Piece) (news : List Birth) (vs : List Value) (r : Value) → p.stop ≡ Needs r →
    MayCommit log j a next → IsLeft s log a base next p news vs → Stops s (log ++ In (Commit j) seat ∷ commit_entries a next news vs p.stop) a (Needs r)
stops_after_commit s log j seat a base next p news vs r e c l =
    let i = In (Commit j) seat in
    let o = own_commit log j seat a next.owner c.claimed c.lives c.runs in
    let left = left_on s log a base next p news vs i refl refl refl refl refl refl l in
    subst (λ st. Stops s (log ++ i ∷ commit_entries a next news vs p.stop) a st) e
    (subst (λ b. Stops s b a p.stop) (append_assoc log (i ∷ []) (commit_entries a next news vs p.stop)) (stop_from s a base next p r e (log ++ i ∷ []) news vs o left))
