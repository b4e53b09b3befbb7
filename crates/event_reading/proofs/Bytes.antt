-- Bytes that are read one after the other.
use Rattle.std.proofs.Common.{◌≡◌, ◌∙◌, ◌⊎◌, ◌<◌, ◌≤◌, ℕ, true, false, List, [], ◌∷◌, ◌++◌, length, Option, None, Some, inl, inr, refl, sym, ap, subst, append_assoc, arith}
use Rattle.std.specs.Prelude.{reverse, option_to_list, IsSome, IfSome}
use Rattle.std.proofs.lemmas.List.{reverse-append, append-nil, length-append}
use Rattle.std.specs.Str.{bytes_eq}
use Rattle.std.proofs.lemmas.Slice.Eq.{bytes_eq-Decides}
use Rattle.event_files.specs.Reading.{behind}
use Rattle.event_files.specs.Recorded.{header}
use Rattle.event_files.proofs.Marks.{behind-is}
use Rattle.event_reading.specs.Known.{IfKnown, IsBegun, IsHeaderTaken, IsNextByte, left_of}

-- what holds of two steps holds of both
pub through : (before between after : Option (List ℕ)) (P Q S : List ℕ → List ℕ → Type 0) → IfKnown before between P → IfKnown between after Q →
    ((b m r : List ℕ) → P b m → Q m r → S b r) → IfKnown before after S
through None between after P Q S h k f = tt
through (Some b) None after P Q S h k f = absurd h
through (Some b) (Some m) None P Q S h k f = absurd k
through (Some b) (Some m) (Some r) P Q S h k f = f b m r h k

pub mapped : (before after : Option (List ℕ)) (P Q : List ℕ → List ℕ → Type 0) → IfKnown before after P → ((b r : List ℕ) → P b r → Q b r) →
    IfKnown before after Q
mapped None after P Q h f = tt
mapped (Some b) None P Q h f = absurd h
mapped (Some b) (Some r) P Q h f = f b r h

pub same : (known : Option (List ℕ)) (P : List ℕ → List ℕ → Type 0) → ((b : List ℕ) → P b b) → IfKnown known known P
same None P f = tt
same (Some b) P f = f b

pub of_known : (before after : Option (List ℕ)) (P : List ℕ → List ℕ → Type 0) (Q : List ℕ → Type 0) → IfKnown before after P →
    ((b r : List ℕ) → P b r → Q b) → IfSome before Q
of_known None after P Q h f = tt
of_known (Some b) None P Q h f = absurd h
of_known (Some b) (Some r) P Q h f = f b r h

-- nothing was read ahead
pub none_ahead : (known : Option (List ℕ)) → left_of [] known ≡ known
none_ahead None = refl
none_ahead (Some b) = refl

pub popped : (old new : List ℕ) (o : Option ℕ) (known : Option (List ℕ)) → old ≡ new ++ option_to_list o → IsSome o →
    IfKnown (left_of old known) (left_of new known) (IsNextByte o)
popped old new None known e h = absurd (cc)
popped old new (Some x) None e h = tt
popped old new (Some x) (Some k) e h =
    ap (λ l. reverse l ++ k) e ∙ ap (λ l. l ++ k) (reverse-append new (x ∷ []))

-- what was read ahead and is popped
pub popped_of : (before : Option (List ℕ)) (old new : List ℕ) (o : Option ℕ) (known : Option (List ℕ)) →
    IfKnown before (left_of old known) (λ b r. r ≡ b) → old ≡ new ++ option_to_list o → IsSome o →
    IfKnown before (left_of new known) (IsNextByte o)
popped_of before old new o known h e some =
    through before (left_of old known) (left_of new known) (λ b r. r ≡ b) (IsNextByte o) (IsNextByte o) h (popped old new o known e some)
    (λ b m r same next. subst (λ z. IsNextByte o z r) same next)

-- ---- beginnings

pub not_same : (a b : List ℕ) → bytes_eq a b ≡ false → a ≡ b → ⊥
not_same a b f e = let t : bytes_eq a b ≡ true = (bytes_eq-Decides a b).1 e in cc

pub begun_more : (before between after : Option (List ℕ)) (front more : List ℕ) (x : ℕ) → length front < 9 → more ≡ front ++ x ∷ [] →
    IfKnown before between (λ b r. b ≡ front ++ r) → IfKnown between after (IsNextByte (Some x)) → IfKnown before after (λ b r. b ≡ more ++ r)
begun_more before between after front more x few grown h k =
    through before between after (λ b r. b ≡ front ++ r) (IsNextByte (Some x)) (λ b r. b ≡ more ++ r) h k
    (λ b m r e f. e ∙ ap (λ z. front ++ z) f ∙ sym (append_assoc front (x ∷ []) r) ∙ ap (λ z. z ++ r) (sym grown))

pub begun_all : (before between after : Option (List ℕ)) (front : List ℕ) → length front ≤ 9 →
    IfKnown before between (λ b r. b ≡ front ++ r) → IfKnown between after (IsNextByte None) → IfKnown before after (IsBegun front)
begun_all before between after front few h k =
    through before between after (λ b r. b ≡ front ++ r) (IsNextByte None) (IsBegun front) h k
    (λ b m r e f. record { are = e ∙ ap (λ z. front ++ z) (f.0 ∙ sym f.1); enough = inr f.1; few = few })

pub begun_enough : (before after : Option (List ℕ)) (front : List ℕ) → length front ≡ 9 →
    IfKnown before after (λ b r. b ≡ front ++ r) → IfKnown before after (IsBegun front)
begun_enough before after front nine h =
    mapped before after (λ b r. b ≡ front ++ r) (IsBegun front) h (λ b r e. record { are = e; enough = inl nine; few = omega (arith, nine) })

same_front : (front other rest more : List ℕ) → length front ≡ length other → front ++ rest ≡ other ++ more → front ≡ other
same_front [] [] rest more l e = refl
same_front [] (c ∷ other) rest more l e = absurd (omega (arith, l))
same_front (b ∷ front) [] rest more l e = absurd (omega (arith, l))
same_front (b ∷ front) (c ∷ other) rest more l e =
    let heads : b ≡ c = cc in
    let tails : front ++ rest ≡ other ++ more = cc in
    let shorter : length front ≡ length other = omega (arith, l) in
    let again = same_front front other rest more shorter tails in
    cc

none_of : (o : Option (List ℕ)) → ((x : List ℕ) → o ≡ Some x → ⊥) → o ≡ None
none_of None f = refl
none_of (Some x) f = absurd (f x refl)

no_header : (front b r : List ℕ) → IsBegun front b r → (front ≡ header → ⊥) → behind header b ≡ None
no_header front b r h other = none_of (behind header b) (λ x e. by_length x (h.are) (behind-is header b x e) h.enough)
  where
    by_length : (x : List ℕ) → b ≡ front ++ r → b ≡ header ++ x → (length front ≡ 9) ⊎ (r ≡ []) → ⊥
    by_length x e f (inl nine) = other (same_front front header r x nine (sym e ∙ f))
    by_length x e f (inr all) =
        let l = ap length (sym e ∙ f) ∙ length-append header x in
        let k : length (front ++ r) ≡ length front = ap length (ap (λ z. front ++ z) all ∙ append-nil front) in
        let few = h.few in
        let nine : length front ≡ 9 = omega (arith, l, k, few) in
        other (same_front front header r x nine (sym e ∙ f))

pub header_taken : (before after : Option (List ℕ)) (front : List ℕ) → front ≡ header → IfKnown before after (IsBegun front) →
    IfKnown before after (IsHeaderTaken true)
header_taken before after front same h =
    mapped before after (IsBegun front) (IsHeaderTaken true) h (λ b r begun. begun.are ∙ ap (λ z. z ++ r) same)

pub header_left : (before known : Option (List ℕ)) (front old new : List ℕ) → (front ≡ header → ⊥) → IfKnown before (left_of old known) (IsBegun front) →
    reverse new ≡ front ++ reverse old → IfKnown before (left_of new known) (IsHeaderTaken false)
header_left None known front old new other h e = tt
header_left (Some b) None front old new other h e = h
header_left (Some b) (Some k) front old new other h e = (
  ap (λ z. z ++ k) e ∙ append_assoc front (reverse old) k ∙ sym h.are,
  no_header front b (reverse old ++ k) h other,
)
