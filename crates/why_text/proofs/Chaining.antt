-- The accounts on the way to a cause, one by one.
use Rattle.std.proofs.Common.{◌≡◌, ℕ, suc, true, false, if◌then◌else◌, List, [], ◌++◌, codes, refl, ap, sym, ◌∙◌, append_assoc}
use Rattle.std.proofs.lemmas.List.{append-nil}
use Rattle.meaning.specs.Values.{Id}
use Rattle.meaning.specs.Births.{same_id}
use Rattle.event_log.specs.Entries.{Entry}
use Rattle.log_words.specs.declared.contents.Contents.{Contents}
use Rattle.why_text.specs.Text.{account, causes_text}
use Rattle.why_text.specs.Ways.{next_cause}

one_text : (how : Contents) (log : List Entry) (lines : List ℕ) (z : Id) (m : ℕ) (o : Id) →
    causes_text how log lines z (suc m) o
    ≡ account how log lines o ++ (if same_id o z then [] else codes "\n" ++ causes_text how log lines z m (next_cause log z o))
unfolding causes_text
one_text how log lines z m o = refl

no_text : (how : Contents) (log : List Entry) (lines : List ℕ) (z o : Id) → causes_text how log lines z 0 o ≡ []
unfolding causes_text
no_text how log lines z o = refl

-- so many at most, and none is left
pub none_left : (how : Contents) (log : List Entry) (lines : List ℕ) (z o : Id) (n : ℕ) (text whole : List ℕ) → n ≡ 0 →
    text ++ causes_text how log lines z n o ≡ whole → text ≡ whole
none_left how log lines z o n text whole e h =
    sym (append-nil text) ∙ ap (λ xs. text ++ xs) (sym (no_text how log lines z o)) ∙ ap (λ k. text ++ causes_text how log lines z k o) (sym e) ∙ h

-- the last account is written
pub last_text : (how : Contents) (log : List Entry) (lines : List ℕ) (z o : Id) (n m : ℕ) (old new whole : List ℕ) → n ≡ suc m → same_id o z ≡ true →
    old ++ causes_text how log lines z n o ≡ whole → new ≡ old ++ account how log lines o → new ≡ whole
last_text how log lines z o n m old new whole e is h put =
    put ∙ ap (λ xs. old ++ xs) (sym (append-nil (account how log lines o)))
    ∙ ap (λ b. old ++ (account how log lines o ++ (if b then [] else codes "\n" ++ causes_text how log lines z m (next_cause log z o)))) (sym is)
    ∙ ap (λ xs. old ++ xs) (sym (one_text how log lines z m o)) ∙ ap (λ k. old ++ causes_text how log lines z k o) (sym e) ∙ h

-- one more account is written
pub next_text : (how : Contents) (log : List Entry) (lines : List ℕ) (z o next : Id) (n m : ℕ) (old mid new whole : List ℕ) → n ≡ suc m → same_id o z ≡ false →
    next ≡ next_cause log z o → old ++ causes_text how log lines z n o ≡ whole → mid ≡ old ++ account how log lines o → new ≡ mid ++ codes "\n" →
    new ++ causes_text how log lines z m next ≡ whole
next_text how log lines z o next n m old mid new whole e other is h put line =
    let rest : Id → List ℕ = λ p. causes_text how log lines z m p in
    let told : List ℕ = account how log lines o in
    ap (λ xs. xs ++ rest next) line ∙ append_assoc mid (codes "\n") (rest next) ∙ ap (λ xs. xs ++ (codes "\n" ++ rest next)) put
    ∙ append_assoc old told (codes "\n" ++ rest next) ∙ ap (λ p. old ++ (told ++ (codes "\n" ++ rest p))) is
    ∙ ap (λ b. old ++ (told ++ (if b then [] else codes "\n" ++ rest (next_cause log z o)))) (sym other)
    ∙ ap (λ xs. old ++ xs) (sym (one_text how log lines z m o)) ∙ ap (λ k. old ++ causes_text how log lines z k o) (sym e) ∙ h
