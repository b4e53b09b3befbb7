-- What is written step by step.
use Rattle.std.proofs.Common.{◌≡◌, ℕ, List, ◌++◌, ap, ◌∙◌, append_assoc}
use Rattle.summary_text.specs.Functions.{attempts_words, ends_words}

pub two : (s t u a b : List ℕ) → t ≡ s ++ a → u ≡ t ++ b → u ≡ s ++ (a ++ b)
two s t u a b e f = f ∙ ap (λ x. x ++ b) e ∙ append_assoc s a b

pub three : (s t u v a b c : List ℕ) → t ≡ s ++ a → u ≡ t ++ b → v ≡ u ++ c → v ≡ s ++ (a ++ (b ++ c))
three s t u v a b c e f g = two s t v a (b ++ c) e (two t u v b c f g)

pub four : (s t u v w a b c d : List ℕ) → t ≡ s ++ a → u ≡ t ++ b → v ≡ u ++ c → w ≡ v ++ d → w ≡ s ++ (a ++ (b ++ (c ++ d)))
four s t u v w a b c d e f g h = two s t w a (b ++ (c ++ d)) e (three t u v w b c d f g h)

pub five : (s t u v w x a b c d i : List ℕ) → t ≡ s ++ a → u ≡ t ++ b → v ≡ u ++ c → w ≡ v ++ d → x ≡ w ++ i →
    x ≡ s ++ (a ++ (b ++ (c ++ (d ++ i))))
five s t u v w x a b c d i e f g h j = two s t x a (b ++ (c ++ (d ++ i))) e (four t u v w x b c d i f g h j)

pub six : (s t u v w x y a b c d i k : List ℕ) → t ≡ s ++ a → u ≡ t ++ b → v ≡ u ++ c → w ≡ v ++ d → x ≡ w ++ i → y ≡ x ++ k →
    y ≡ s ++ (a ++ (b ++ (c ++ (d ++ (i ++ k)))))
six s t u v w x y a b c d i k e f g h j l = two s t y a (b ++ (c ++ (d ++ (i ++ k)))) e (five t u v w x y b c d i k f g h j l)

-- equal numbers have equal words
pub same_numbers : (first : List ℕ) (a d l r f u a' d' l' r' f' u' : ℕ) → a ≡ a' → d ≡ d' → l ≡ l' → r ≡ r' → f ≡ f' → u ≡ u' →
    first ++ (attempts_words a d l ++ ends_words r f u) ≡ first ++ (attempts_words a' d' l' ++ ends_words r' f' u')
same_numbers first a d l r f u a' d' l' r' f' u' e g h i j k =
    ap (λ n. first ++ (attempts_words n d l ++ ends_words r f u)) e
    ∙ ap (λ n. first ++ (attempts_words a' n l ++ ends_words r f u)) g
    ∙ ap (λ n. first ++ (attempts_words a' d' n ++ ends_words r f u)) h
    ∙ ap (λ n. first ++ (attempts_words a' d' l' ++ ends_words n f u)) i
    ∙ ap (λ n. first ++ (attempts_words a' d' l' ++ ends_words r' n u)) j
    ∙ ap (λ n. first ++ (attempts_words a' d' l' ++ ends_words r' f' n)) k
