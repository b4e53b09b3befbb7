-- Where a trap comes from, one attempt after the other.
use Rattle.std.proofs.Common.{◌≡◌, ℕ, suc, List, [], ◌++◌, Some, None, refl, ap, sym, ◌∙◌, append_assoc}
use Rattle.std.proofs.lemmas.List.{append-nil}
use Rattle.meaning.specs.Values.{Id}
use Rattle.event_log.specs.Entries.{Attempt, Entry}
use Rattle.log_words.specs.declared.contents.Contents.{Contents}
use Rattle.protocol_data.specs.declared.job.JobRecord.{JobRecord}
use Rattle.main_text.specs.Traps.{made_step, own_text, run_text, trap_got, trap_step, trap_text, trapped_of, traps_text}

no_text : (how : Contents) (jobs : List JobRecord) (log : List Entry) (lines : List ℕ) (a : Attempt) → traps_text how jobs log lines 0 a ≡ []
unfolding traps_text
no_text how jobs log lines a = refl

one_text : (how : Contents) (jobs : List JobRecord) (log : List Entry) (lines : List ℕ) (m : ℕ) (a : Attempt) →
    traps_text how jobs log lines (suc m) a ≡ trap_step how jobs log lines (traps_text how jobs log lines m) a (trap_got log a)
unfolding traps_text
one_text how jobs log lines m a = refl

-- so many at most, and none is left
pub none_left : (how : Contents) (jobs : List JobRecord) (log : List Entry) (lines : List ℕ) (a : Attempt) (n : ℕ) (text whole : List ℕ) → n ≡ 0 →
    text ++ traps_text how jobs log lines n a ≡ whole → text ≡ whole
none_left how jobs log lines a n text whole e h =
    sym (append-nil text) ∙ ap (λ xs. text ++ xs) (sym (no_text how jobs log lines a)) ∙ ap (λ k. text ++ traps_text how jobs log lines k a) (sym e) ∙ h

-- its own code trapped
pub own_written : (how : Contents) (jobs : List JobRecord) (log : List Entry) (lines : List ℕ) (a : Attempt) (n m : ℕ) (old new whole : List ℕ) → n ≡ suc m →
    trap_got log a ≡ None → old ++ traps_text how jobs log lines n a ≡ whole → new ≡ old ++ own_text log a → new ≡ whole
own_written how jobs log lines a n m old new whole e none h put =
    put ∙ ap (λ o. old ++ trap_step how jobs log lines (traps_text how jobs log lines m) a o) (sym none)
    ∙ ap (λ xs. old ++ xs) (sym (one_text how jobs log lines m a)) ∙ ap (λ k. old ++ traps_text how jobs log lines k a) (sym e) ∙ h

-- it got a trap, and the log has no attempt that ended with it
pub got_written : (how : Contents) (jobs : List JobRecord) (log : List Entry) (lines : List ℕ) (a : Attempt) (y : Id) (n m : ℕ) (old new whole : List ℕ) → n ≡ suc m →
    trap_got log a ≡ Some y → trapped_of log y ≡ None →
    old ++ traps_text how jobs log lines n a ≡ whole → new ≡ old ++ trap_text how jobs log lines a y → new ≡ whole
got_written how jobs log lines a y n m old new whole e got none h put =
    let told : List ℕ = trap_text how jobs log lines a y in
    put ∙ ap (λ xs. old ++ xs) (sym (append-nil told))
    ∙ ap (λ o. old ++ (told ++ made_step jobs log lines (traps_text how jobs log lines m) o)) (sym none)
    ∙ ap (λ o. old ++ trap_step how jobs log lines (traps_text how jobs log lines m) a o) (sym got)
    ∙ ap (λ xs. old ++ xs) (sym (one_text how jobs log lines m a)) ∙ ap (λ k. old ++ traps_text how jobs log lines k a) (sym e) ∙ h

-- it got a trap, with which that attempt ended
pub next_written : (how : Contents) (jobs : List JobRecord) (log : List Entry) (lines : List ℕ) (a b : Attempt) (y : Id) (n m : ℕ) (old mid new whole : List ℕ) →
    n ≡ suc m → trap_got log a ≡ Some y → trapped_of log y ≡ Some b →
    old ++ traps_text how jobs log lines n a ≡ whole → mid ≡ old ++ trap_text how jobs log lines a y → new ≡ mid ++ run_text jobs log lines b →
    new ++ traps_text how jobs log lines m b ≡ whole
next_written how jobs log lines a b y n m old mid new whole e got made h put run =
    let told : List ℕ = trap_text how jobs log lines a y in
    let ran : List ℕ = run_text jobs log lines b in
    let rest : List ℕ = traps_text how jobs log lines m b in
    ap (λ xs. xs ++ rest) run ∙ append_assoc mid ran rest ∙ ap (λ xs. xs ++ (ran ++ rest)) put ∙ append_assoc old told (ran ++ rest)
    ∙ ap (λ o. old ++ (told ++ made_step jobs log lines (traps_text how jobs log lines m) o)) (sym made)
    ∙ ap (λ o. old ++ trap_step how jobs log lines (traps_text how jobs log lines m) a o) (sym got)
    ∙ ap (λ xs. old ++ xs) (sym (one_text how jobs log lines m a)) ∙ ap (λ k. old ++ traps_text how jobs log lines k a) (sym e) ∙ h
