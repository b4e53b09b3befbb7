-- What is written step by step.
use Rattle.std.proofs.Common.{◌≡◌, ℕ, List, ◌++◌, ap, ◌∙◌, append_assoc}

pub two_written : (old mid new a b : List ℕ) → mid ≡ old ++ a → new ≡ mid ++ b → new ≡ old ++ (a ++ b)
two_written old mid new a b e f = f ∙ ap (λ t. t ++ b) e ∙ append_assoc old a b

pub three_written : (old first second new a b c : List ℕ) → first ≡ old ++ a → second ≡ first ++ b → new ≡ second ++ c → new ≡ old ++ (a ++ (b ++ c))
three_written old first second new a b c e f g = two_written old first new a (b ++ c) e (two_written first second new b c f g)

pub four_written : (old first second third new a b c d : List ℕ) → first ≡ old ++ a → second ≡ first ++ b → third ≡ second ++ c → new ≡ third ++ d →
    new ≡ old ++ (a ++ (b ++ (c ++ d)))
four_written old first second third new a b c d e f g h = two_written old first new a (b ++ (c ++ d)) e (three_written first second third new b c d f g h)
