-- The lines in front of a history, put together.
use Rattle.std.proofs.Common.{◌≡◌, ℕ, List, ◌∙◌, ap}
use Rattle.run_heads.specs.Heads.{cluster_text, head_text, script_text, with_head}

pub put_together : (nodes slots threads : ℕ) (script history all head cluster sum : List ℕ) → all ≡ with_head head history → head ≡ head_text cluster threads sum →
    cluster ≡ cluster_text nodes slots → sum ≡ script_text script → all ≡ with_head (head_text (cluster_text nodes slots) threads (script_text script)) history
put_together nodes slots threads script history all head cluster sum e f g h =
    e ∙ ap (λ x. with_head x history) (f ∙ ap (λ x. head_text x threads sum) g ∙ ap (head_text (cluster_text nodes slots) threads) h)
