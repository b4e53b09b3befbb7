-- What begins the same is the same as far as it goes.
use Rattle.std.proofs.Common.{◌≡◌, ℕ, List, [], ◌∷◌, length, refl, sym, ap, ◌∙◌, subst, arith}
use Rattle.meaning.specs.Lists.{IsFirst}
use Rattle.meaning.specs.Meaning.{replay}
use Rattle.meaning.specs.Syntax.{Script}
use Rattle.meaning.specs.Values as meant
use Rattle.event_log.specs.Entries.{Attempt}
use Rattle.segment.specs.Jobs.{IsBegun, JobParts}
use Rattle.protocol.specs.Answers.{job_of}
use Rattle.protocol.specs.Jobs.{Job}
use Rattle.protocol.specs.Tables.{Execution}
use Rattle.protocol_core.specs.SameJobs.{HasItsAnswers, IsInPace, IsLike, IsShaped}

-- two beginnings of one list that are as long are the same
beginnings_same : {X : Type 0} (xs ys zs : List X) → IsFirst xs zs → IsFirst ys zs → length xs ≡ length ys → xs ≡ ys
beginnings_same [] [] zs f g e = refl
beginnings_same [] (y ∷ ys) zs f g e = absurd (omega (arith, e))
beginnings_same (x ∷ xs) [] zs f g e = absurd (omega (arith, e))
beginnings_same (x ∷ xs) (y ∷ ys) [] f g e = absurd f
beginnings_same (x ∷ xs) (y ∷ ys) (z ∷ zs) f g e =
    ap (λ v. v ∷ xs) (sym f.0 ∙ g.0) ∙ ap (λ vs. y ∷ vs) (beginnings_same xs ys zs f.1 g.1 (omega (arith, e)))

abbrev job : ℕ → Attempt → meant.Birth → meant.Id → List meant.Birth → List meant.Value → List meant.Outcome → Job
job n a b o bs vs cs = record { number = n; attempt = a; spec = b; base = o; births = bs; prints = vs; answers = cs }

same_job : (n m : ℕ) (a c : Attempt) (b d : meant.Birth) (o p : meant.Id) (bs ds : List meant.Birth) (vs ws : List meant.Value) (cs es : List meant.Outcome) →
    n ≡ m → a ≡ c → b ≡ d → o ≡ p → bs ≡ ds → vs ≡ ws → cs ≡ es → job n a b o bs vs cs ≡ job m c d p ds ws es
same_job n m a c b d o p bs ds vs ws cs es en ea eb eo es1 es2 es3 =
    ap (λ x. job x a b o bs vs cs) en ∙ ap (λ x. job m x b o bs vs cs) ea ∙ ap (λ x. job m c x o bs vs cs) eb ∙ ap (λ x. job m c d x bs vs cs) eo
    ∙ ap (λ x. job m c d p x vs cs) es1 ∙ ap (λ x. job m c d p ds x cs) es2 ∙ ap (λ x. job m c d p ds ws x) es3

-- a job that is like the attempt is the attempt's, where both begin what the task does on the answers
pub like_is_same : (script : Script) (j : JobParts) (number : ℕ) (run : Execution) → IsInPace script run → IsBegun script j → IsLike j number run →
    j ≡ job_of number run
like_is_same script j number run pace begun is =
    let whole : replay script j.spec j.base j.answers ≡ replay script run.spec run.base run.answers =
    ap (λ b. replay script b j.base j.answers) is.spec ∙ ap (λ o. replay script run.spec o j.answers) is.base
    ∙ ap (replay script run.spec run.base) is.answers in
    same_job j.number number j.attempt run.attempt j.spec run.spec j.base run.base j.births run.births
    j.prints run.prints j.answers run.answers is.number is.attempt is.spec is.base
    (beginnings_same j.births run.births (replay script run.spec run.base run.answers).births (subst (λ r. IsFirst j.births r.births) whole begun.births)
    pace.births is.births)
    (beginnings_same j.prints run.prints (replay script run.spec run.base run.answers).prints (subst (λ r. IsFirst j.prints r.prints) whole begun.prints)
    pace.prints is.prints)
    is.answers

-- so is one of that shape, where as many of its answers are the attempt's
pub shaped_is_same : (script : Script) (j : JobParts) (number : ℕ) (run : Execution) → IsInPace script run → HasItsAnswers j run → IsBegun script j → IsShaped j number run →
    j ≡ job_of number run
shaped_is_same script j number run pace answers begun is =
    like_is_same script j number run pace begun
    (record {
      number = is.number;
      attempt = is.attempt;
      spec = is.spec;
      base = is.base;
      answers = answers is.attempt is.answers;
      births = is.births;
      prints = is.prints;
    })
