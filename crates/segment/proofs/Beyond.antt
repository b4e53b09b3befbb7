-- A piece, and the piece without what a job has already.
use Rattle.std.proofs.Common.{◌≡◌, List, [], ◌∷◌, ◌++◌, length, drop, sym, ap, ◌∙◌, refl}
use Rattle.meaning.specs.Lists.{IsFirst}
use Rattle.meaning.specs.Meaning.{replay}
use Rattle.meaning.specs.Syntax.{Script}
use Rattle.meaning.specs.Runs as runs
use Rattle.meaning.specs.Values as meant
use Rattle.evaluation.specs.declared.piece.Piece.{Piece}
use Rattle.evaluation.specs.Pieces.{piece_of, stop_of}
use Rattle.segment.specs.Jobs.{JobParts, replay_of, beyond, whole_of}
use Rattle.segment.specs.Pieces.{done_of}

abbrev pub made : List meant.Birth → List meant.Value → runs.Stop → runs.Piece
made bs vs s = record { births = bs; prints = vs; stop = s }

parts_equal : (bs cs : List meant.Birth) (vs ws : List meant.Value) (s t : runs.Stop) → bs ≡ cs → vs ≡ ws → s ≡ t → made bs vs s ≡ made cs ws t
parts_equal bs cs vs ws s t eb ev es = ap (λ x. made x vs s) eb ∙ ap (λ x. made cs x s) ev ∙ ap (λ x. made cs ws x) es

pub beyond_made : (j : JobParts) (p : Piece) (r : runs.Piece) (bs : List meant.Birth) (vs : List meant.Value) → piece_of p ≡ r →
    bs ≡ drop (length j.births) p.outcomes.births → vs ≡ drop (length j.prints) p.outcomes.prints → made bs vs (stop_of p.outcomes.stop) ≡ beyond j r
beyond_made j p r bs vs e eb ev =
    parts_equal bs (drop (length j.births) p.outcomes.births) vs (drop (length j.prints) p.outcomes.prints) (stop_of p.outcomes.stop) (stop_of p.outcomes.stop) eb ev refl ∙ ap (beyond j) e

-- a replay on what a job has is the job's
pub replayed_as : (script : Script) (k j : JobParts) (p : runs.Piece) (spec : meant.Birth) (cs : List meant.Outcome) → k ≡ j → spec ≡ k.spec → cs ≡ k.answers →
    p ≡ replay script spec k.base cs → p ≡ replay_of script j
replayed_as script k j p spec cs same spec_is answers e =
    e ∙ ap (λ b. replay script b k.base cs) spec_is ∙ ap (replay script k.spec k.base) answers ∙ ap (replay_of script) same

-- a beginning, and what comes after it
beginning_and_rest : {X : Type 0} (xs ys : List X) → IsFirst xs ys → ys ≡ xs ++ drop (length xs) ys
beginning_and_rest [] ys h = refl
beginning_and_rest (x ∷ xs) [] h = absurd h
beginning_and_rest (x ∷ xs) (y ∷ ys) h = ap (λ z. z ∷ ys) h.0 ∙ ap (λ zs. x ∷ zs) (beginning_and_rest xs ys h.1)

-- with what the job had, what is beyond it is the whole
pub whole_made : (j : JobParts) (p : Piece) (r : runs.Piece) → IsFirst j.births r.births → IsFirst j.prints r.prints → piece_of p ≡ beyond j r → r ≡ whole_of (done_of j p)
whole_made j p r fb fv e =
    let bs = j.births in
    let vs = j.prints in
    let nb : drop (length bs) r.births ≡ p.outcomes.births = sym (ap (λ q. q.births) e) in
    let nv : drop (length vs) r.prints ≡ p.outcomes.prints = sym (ap (λ q. q.prints) e) in
    parts_equal r.births (bs ++ p.outcomes.births) r.prints (vs ++ p.outcomes.prints) r.stop (stop_of p.outcomes.stop)
    (beginning_and_rest bs r.births fb ∙ ap (λ x. bs ++ x) nb)
    (beginning_and_rest vs r.prints fv ∙ ap (λ x. vs ++ x) nv)
    (sym (ap (λ q. q.stop) e))
