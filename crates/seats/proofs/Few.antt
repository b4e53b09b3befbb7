-- No more commits are accepted than a log has entries.
use Rattle.std.proofs.Common.{◌≡◌, ℕ, suc, ◌+◌, ◌≤◌, Bool, true, false, List, [], ◌∷◌, ◌++◌, length, ap, arith, length-append}
use Rattle.std.specs.Prelude.{if◌then◌else◌}
use Rattle.std.specs.List.{flat_map}
use Rattle.event_log.specs.Entries.{Entry, In, Event, Claim, Commit, Deliver, Tick, Notice, NoticeNode, Evict, Lose, Kill, KillNode, Join}
use Rattle.event_log.specs.Events.{accepted_events, commit_in, refused_next}
use Rattle.event_log.specs.Books.{Totals, totals_of}
use Rattle.event_log.specs.Laws.{plus}

one_at_most : (e : Event) → length (commit_in e) ≤ 1
one_at_most (Claim w) = omega arith
one_at_most (Commit j) = omega arith
one_at_most (Deliver k) = omega arith
one_at_most (Tick w) = omega arith
one_at_most (Notice w v) = omega arith
one_at_most (NoticeNode w n) = omega arith
one_at_most (Evict n o) = omega arith
one_at_most (Lose n o) = omega arith
one_at_most (Kill w) = omega arith
one_at_most (KillNode n) = omega arith
one_at_most Join = omega arith

few_in : (es : List Event) → length (flat_map commit_in es) ≤ length es
few_in [] = omega arith
few_in (e ∷ es) = let h = few_in es in let k = one_at_most e in let m = length-append (commit_in e) (flat_map commit_in es) in omega (arith, h, k, m)

taken_or_not : (b : Bool) (e : Event) (es : List Event) (n : ℕ) → length es ≤ n → length ((if b then [] else e ∷ []) ++ es) ≤ suc n
taken_or_not true e es n h = omega (arith, h)
taken_or_not false e es n h = omega (arith, h)

few_accepted : (log : List Entry) → length (accepted_events log) ≤ length log
unfolding accepted_events
few_accepted [] = omega arith
few_accepted (In e seat ∷ rest) = taken_or_not (refused_next rest) e (accepted_events rest) (length rest) (few_accepted rest)
few_accepted (x ∷ rest) = let h = few_accepted rest in omega (arith, h)

few_commits : (log : List Entry) → (totals_of log).commits ≤ length log
few_commits log = let a = few_in (accepted_events log) in let b = few_accepted log in omega (arith, a, b)

-- behind one event more
pub few_behind : (before : Totals) (more : Totals) (log : List Entry) (commits : ℕ) → totals_of log ≡ plus before more →
    commits ≡ before.commits → commits + more.commits ≤ length log
few_behind before more log commits e same =
    let f : (totals_of log).commits ≡ before.commits + more.commits = ap (λ (t : Totals). t.commits) e in
    let g = few_commits log in
    omega (arith, f, g, same)

-- how many there are behind it
pub commits_now : (before : Totals) (more : Totals) (log : List Entry) (commits now : ℕ) → totals_of log ≡ plus before more →
    commits ≡ before.commits → now ≡ commits + more.commits → now ≡ (totals_of log).commits
commits_now before more log commits now e same is =
    let f : (totals_of log).commits ≡ before.commits + more.commits = ap (λ (t : Totals). t.commits) e in
    omega (arith, f, same, is)
