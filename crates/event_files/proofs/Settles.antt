-- The workers of a settle line are read exactly where they are written so.
use Rattle.std.proofs.Common.{◌≡◌, ℕ, ◌<◌, ◌^◌, Bool, true, false, List, [], ◌∷◌, ◌++◌, Option, Some, None, refl, sym, ap, ◌∙◌, subst, arith}
use Rattle.std.specs.Prelude.{IfSome, ◌==◌, if◌then◌else◌}
use Rattle.std.specs.Fmt.{decimal}
use Rattle.std.proofs.lemmas.Bool.{eqb-true}
use Rattle.std.proofs.lemmas.List.{append_assoc, append-nil}
use Rattle.std.specs.Option.{option_map}
use Rattle.event_files.specs.Lines.{AreWorkers, workers_text}
use Rattle.event_files.specs.Reading.{go_on, has, parted, worker_in, before_first, words_in, all_workers, workers_in}
use Rattle.event_files.proofs.Decimals.{number_in-decimal, given_of}
use Rattle.event_files.proofs.Marks.{parted-is, IsParted, none-parted, no_mark_in_decimal}
use Rattle.event_files.proofs.EventTexts.{IsWorkerIn, worker_in-is}

-- ---- words

pub words_in-mark : (x rest : List ℕ) → has 32 x ≡ false → words_in (x ++ 32 ∷ rest) ≡ x ∷ words_in rest
words_in-mark [] rest h = refl
words_in-mark (b ∷ x) rest h = by_test (b == 32) (words_in-mark x rest) h
  where
    by_test : (t : Bool) → (has 32 x ≡ false → words_in (x ++ 32 ∷ rest) ≡ x ∷ words_in rest) → (if t then true else has 32 x) ≡ false →
        (if t then [] ∷ words_in (x ++ 32 ∷ rest) else before_first b (words_in (x ++ 32 ∷ rest))) ≡ (b ∷ x) ∷ words_in rest
    by_test true r f = cc
    by_test false r f = rw (r f) refl

pub words_in-alone : (x : List ℕ) → has 32 x ≡ false → words_in x ≡ x ∷ []
words_in-alone [] h = refl
words_in-alone (b ∷ x) h = by_test (b == 32) (words_in-alone x) h
  where
    by_test : (t : Bool) → (has 32 x ≡ false → words_in x ≡ x ∷ []) → (if t then true else has 32 x) ≡ false →
        (if t then [] ∷ words_in x else before_first b (words_in x)) ≡ (b ∷ x) ∷ []
    by_test true r f = cc
    by_test false r f = rw (r f) refl

words_text : List (List ℕ) → List ℕ
words_text [] = []
words_text (x ∷ xs) = 32 ∷ (x ++ words_text xs)

words_text-before : (b : ℕ) (xs : List (List ℕ)) (bytes : List ℕ) → words_text xs ≡ 32 ∷ bytes → words_text (before_first b xs) ≡ 32 ∷ b ∷ bytes
unfolding words_text
words_text-before b [] bytes e = cc
words_text-before b (x ∷ xs) bytes e = cc

words_text-words : (bytes : List ℕ) → words_text (words_in bytes) ≡ 32 ∷ bytes
unfolding words_text
words_text-words [] = refl
words_text-words (b ∷ bytes) = by_test (b == 32) refl (words_text-words bytes)
  where
    by_test : (t : Bool) → (b == 32) ≡ t → words_text (words_in bytes) ≡ 32 ∷ bytes →
        words_text (if t then [] ∷ words_in bytes else before_first b (words_in bytes)) ≡ 32 ∷ b ∷ bytes
    by_test true e r = let f : b ≡ 32 = eqb-true b 32 e in ap (λ z. 32 ∷ z) (r ∙ ap (λ z. z ∷ bytes) (sym f))
    by_test false e r = words_text-before b (words_in bytes) bytes r

-- ---- workers

pub record AreWorkersIn (bytes : List ℕ) (ws : List ℕ) : Type 0 where
  pub fit : AreWorkers ws
  pub written : bytes ≡ workers_text ws

workers_of_words : (xs : List (List ℕ)) → IfSome (all_workers xs) (AreWorkersIn (words_text xs))
unfolding words_text
workers_of_words [] = record { fit = tt; written = refl }
workers_of_words (x ∷ xs) = by_case (worker_in x) (worker_in-is x) (all_workers xs) (workers_of_words xs)
  where
    by_case : (r : Option ℕ) → IfSome r (IsWorkerIn x) → (s : Option (List ℕ)) → IfSome s (AreWorkersIn (words_text xs)) →
        IfSome (go_on r (λ w. go_on s (λ ws. Some (w ∷ ws)))) (AreWorkersIn (32 ∷ (x ++ words_text xs)))
    by_case None h s k = tt
    by_case (Some w) h None k = tt
    by_case (Some w) h (Some ws) k = record {
      fit = (h.fits, k.fit);
      written = ap (λ z. 32 ∷ (z ++ words_text xs)) h.written ∙ ap (λ z. 32 ∷ (decimal w ++ z)) k.written;
    }

pub workers_in-is : (bytes : List ℕ) → IfSome (workers_in bytes) (AreWorkersIn (32 ∷ bytes))
workers_in-is bytes = subst (λ z. IfSome (workers_in bytes) (AreWorkersIn z)) (words_text-words bytes) (workers_of_words (words_in bytes))

worker_in-decimal : (w : ℕ) → w < 2 ^ 32 → worker_in (decimal w) ≡ Some w
worker_in-decimal w h = rw (number_in-decimal 32 w (omega arith) h) refl

no_space : (w : ℕ) → w < 2 ^ 32 → has 32 (decimal w) ≡ false
no_space w h = no_mark_in_decimal 32 w (omega arith) (omega arith)

pub workers_in-text : (w : ℕ) (ws : List ℕ) → AreWorkers (w ∷ ws) → workers_in (decimal w ++ workers_text ws) ≡ Some (w ∷ ws)
workers_in-text w [] h =
    let e = ap words_in (append-nil (decimal w)) ∙ words_in-alone (decimal w) (no_space w h.0) in
    ap all_workers e ∙ (rw (worker_in-decimal w h.0) refl)
workers_in-text w (v ∷ ws) h =
    let e = words_in-mark (decimal w) (decimal v ++ workers_text ws) (no_space w h.0) in
    let r : all_workers (words_in (decimal v ++ workers_text ws)) ≡ Some (v ∷ ws) = workers_in-text v ws h.1 in
    ap all_workers e ∙ (rw (worker_in-decimal w h.0, r) refl)

-- ---- one worker after another

abbrev pub after_these : List ℕ → Option (List ℕ) → Option (List ℕ)
after_these done rest = option_map (λ ws. done ++ ws) rest

pub none_done : (o : Option (List ℕ)) → o ≡ after_these [] o
none_done None = refl
none_done (Some ws) = refl

pub one_more : (done : List ℕ) (rest word after : List ℕ) (w : ℕ) → parted 32 rest ≡ Some (word, after) → worker_in word ≡ Some w →
    after_these done (workers_in rest) ≡ after_these (done ++ w ∷ []) (workers_in after)
one_more done rest word after w e f =
    let p = given_of (IsParted 32 rest) (parted 32 rest) (word, after) (parted-is 32 rest) e in
    let g = ap words_in p.are ∙ words_in-mark word after p.none_before in
    ap (λ z. after_these done (all_workers z)) g ∙ ap (λ z. after_these done (go_on z (λ v. go_on (workers_in after) (λ ws. Some (v ∷ ws))))) f
    ∙ joined (workers_in after)
  where
    joined : (o : Option (List ℕ)) → after_these done (go_on o (λ ws. Some (w ∷ ws))) ≡ after_these (done ++ w ∷ []) o
    joined None = refl
    joined (Some ws) = ap (λ z. Some z) (sym (append_assoc done (w ∷ []) ws))

pub no_worker : (done : List ℕ) (rest word after : List ℕ) → parted 32 rest ≡ Some (word, after) → worker_in word ≡ None →
    after_these done (workers_in rest) ≡ None
no_worker done rest word after e f =
    let p = given_of (IsParted 32 rest) (parted 32 rest) (word, after) (parted-is 32 rest) e in
    let g = ap words_in p.are ∙ words_in-mark word after p.none_before in
    ap (λ z. after_these done (all_workers z)) g ∙ ap (λ z. after_these done (go_on z (λ v. go_on (workers_in after) (λ ws. Some (v ∷ ws))))) f

pub last_worker : (done : List ℕ) (rest : List ℕ) (r : Option ℕ) → parted 32 rest ≡ None → r ≡ worker_in rest →
    after_these done (workers_in rest) ≡ option_map (λ w. done ++ w ∷ []) r
last_worker done rest r e f = ap (λ z. after_these done (all_workers z)) (words_in-alone rest (none-parted 32 rest e)) ∙ by_case (worker_in rest) ∙ ap (option_map (λ w. done ++ w ∷ [])) (sym f)
  where
    by_case : (o : Option ℕ) → after_these done (go_on o (λ w. go_on (Some []) (λ ws. Some (w ∷ ws)))) ≡ option_map (λ w. done ++ w ∷ []) o
    by_case None = refl
    by_case (Some w) = refl
