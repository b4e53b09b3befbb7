-- Entries that are logged one by one.
use Rattle.std.proofs.Common.{◌≡◌, ℕ, List, [], ◌∷◌, ◌++◌, map, refl, ap, sym, ◌∙◌}
use Rattle.std.proofs.lemmas.List.{append_assoc, append-nil}
use Rattle.meaning.specs.Runs.{behind, past}
use Rattle.meaning.specs.Values.{Birth, Id, Value, results_of}
use Rattle.event_log.specs.Entries as logged
use Rattle.event_log.specs.Entries.{Attempt, Entry}
use Rattle.event_log.specs.Commits.{commit_entries}
use Rattle.protocol.specs.Jobs.{Stopped, AtGet, AtEnd, stop_of}
use Rattle.protocol.specs.Steps.{WorkerContext, logs, logs_all}
use Rattle.commit_steps.specs.Logged.{born, ended}

abbrev with_entries : WorkerContext → List Entry → WorkerContext
with_entries h es = record h { there = record h.there { out = record h.there.out { entries = es } } }

pub two_logged : (h : WorkerContext) (es fs : List Entry) → logs_all (logs_all h es) fs ≡ logs_all h (es ++ fs)
two_logged h es fs = ap (with_entries h) (append_assoc h.there.out.entries es fs)

pub one_logged : (h : WorkerContext) (e : Entry) (fs : List Entry) → logs_all (logs h e) fs ≡ logs_all h (e ∷ fs)
one_logged h e fs = two_logged h (e ∷ []) fs

-- a birth, and those behind it
pub next_born : (h : WorkerContext) (a : Attempt) (next later : Id) (b : Birth) (bs : List Birth) (count : ℕ) → count ≡ results_of b → later ≡ past next count →
    logs_all (logs h (logged.Born next a b)) (born a later bs) ≡ logs_all h (born a next (b ∷ bs))
next_born h a next later b bs count e f =
    ap (λ n. logs_all (logs h (logged.Born next a b)) (born a n bs)) (f ∙ ap (past next) e)
    ∙ one_logged h (logged.Born next a b) (born a (behind next b) bs)

pub none_logged : (h : WorkerContext) → logs_all h [] ≡ h
none_logged h = ap (with_entries h) (append-nil h.there.out.entries)

pub commit_parts : (a : Attempt) (next : Id) (bs : List Birth) (vs : List Value) (s : Stopped)
    → commit_entries a next bs vs (stop_of s) ≡ born a next bs ++ (map logged.Printed vs ++ ended a s)
commit_parts a next (b ∷ bs) vs s = ap (λ es. logged.Born next a b ∷ es) (commit_parts a (behind next b) bs vs s)
commit_parts a next [] (v ∷ vs) s = ap (λ es. logged.Printed v ∷ es) (commit_parts a next [] vs s)
commit_parts a next [] [] (AtGet y) = refl
commit_parts a next [] [] (AtEnd cs) = refl

pub all_logged : (h : WorkerContext) (a : Attempt) (next : Id) (bs : List Birth) (vs : List Value) (s : Stopped)
    → logs_all (logs_all (logs_all h (born a next bs)) (map logged.Printed vs)) (ended a s) ≡ logs_all h (commit_entries a next bs vs (stop_of s))
all_logged h a next bs vs s =
    two_logged (logs_all h (born a next bs)) (map logged.Printed vs) (ended a s)
    ∙ two_logged h (born a next bs) (map logged.Printed vs ++ ended a s)
    ∙ ap (logs_all h) (sym (commit_parts a next bs vs s))
