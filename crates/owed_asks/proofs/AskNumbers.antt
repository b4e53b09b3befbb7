-- An ask's number is less than how many messages were sent, since those before it are asks too, each of a number of its own.
use Rattle.std.proofs.Common.{◌≡◌, ℕ, zero, suc, ◌+◌, ◌<◌, ◌≤◌, List, [], ◌∷◌, length, Option, Some, None, refl, ap, sym, subst, ◌∙◌, arith}
use Rattle.std.specs.Prelude.{Bool, true, false, if◌then◌else◌, nat_lt, slice_get}
use Rattle.std.proofs.lemmas.Bool.Decides.{nat_tests}
use Rattle.event_log.specs.Entries.{Attempt}
use Rattle.event_log.specs.Words.{attempt}
use Rattle.protocol.specs.Messages.{Ask, Envelope, Message}
use Rattle.protocol.specs.Sets.{object_id}
use Rattle.lease_discipline.specs.Asks.{Asked}
use Rattle.owed_asks.specs.Law.{AskNumbersAreLow}
use Rattle.owed_asks.specs.Routes.{AsksFollow}
use Rattle.owed_asks.proofs.Laws.{RunKeeps, runs_keep}
use Rattle.protocol_owed.specs.Runs.{Running, after_events, opening_run}

abbrev ask_number : Message → Option ℕ
ask_number (Ask a t) = Some t
ask_number _ = None

abbrev is_below : ℕ → Option ℕ → Bool
is_below k None = false
is_below k (Some t) = nat_lt t k

abbrev one_if : Bool → ℕ
one_if b = if b then 1 else 0

-- how many of these are asks of a number below that
abbrev count : ℕ → List Envelope → ℕ
count k [] = 0
count k (l ∷ ls) = one_if (is_below k (ask_number l.message)) + count k ls

one_at_most : (b : Bool) → one_if b ≤ 1
one_at_most true = omega arith
one_at_most false = omega arith

at_most_all : (k : ℕ) (ls : List Envelope) → count k ls ≤ length ls
at_most_all k [] = omega arith
at_most_all k (l ∷ ls) =
    let first = one_at_most (is_below k (ask_number l.message)) in
    let rest = at_most_all k ls in
    omega (arith, first, rest)

wider_test : (a b : Bool) → (a ≡ true → b ≡ true) → one_if a ≤ one_if b
wider_test false b f = omega arith
wider_test true b f = subst (λ x. 1 ≤ one_if x) (sym (f refl)) (omega arith)

wider_one : (k : ℕ) (o : Option ℕ) → one_if (is_below k o) ≤ one_if (is_below (k + 1) o)
wider_one k None = omega arith
wider_one k (Some t) = wider_test (nat_lt t k) (nat_lt t (k + 1)) (λ e. still t k e)
  where
    still : (t k : ℕ) → nat_lt t k ≡ true → nat_lt t (k + 1) ≡ true
    still t k e = grind (arith, nat_tests)

wider : (k : ℕ) (ls : List Envelope) → count k ls ≤ count (k + 1) ls
wider k [] = omega arith
wider k (l ∷ ls) =
    let first = wider_one k (ask_number l.message) in
    let rest = wider k ls in
    omega (arith, first, rest)

not_below : (k : ℕ) → nat_lt k k ≡ false
not_below k = grind (arith, nat_tests)

below_next : (k : ℕ) → nat_lt k (k + 1) ≡ true
below_next k = grind (arith, nat_tests)

new_one : (k : ℕ) (o : Option ℕ) → o ≡ Some k → one_if (is_below k o) + 1 ≤ one_if (is_below (k + 1) o)
new_one k o e =
    subst (λ p. one_if (is_below k p) + 1 ≤ one_if (is_below (k + 1) p)) (sym e)
    (subst (λ a. one_if a + 1 ≤ one_if (nat_lt k (k + 1))) (sym (not_below k)) (subst (λ b. 1 ≤ one_if b) (sym (below_next k)) (omega arith)))

-- the ask of that number is one more
one_more : (k : ℕ) (ls : List Envelope) (i : ℕ) (l : Envelope) → slice_get ls i ≡ Some l → ask_number l.message ≡ Some k → count k ls + 1 ≤ count (k + 1) ls
one_more k [] i l e f = absurd (cc)
one_more k (x ∷ ls) zero l e f =
    let same : x ≡ l = cc in
    let first = new_one k (ask_number x.message) (ap (λ (y : Envelope). ask_number y.message) same ∙ f) in
    let rest = wider k ls in
    omega (arith, first, rest)
one_more k (x ∷ ls) (suc i) l e f =
    let first = wider_one k (ask_number x.message) in
    let rest = one_more k ls i l e f in
    omega (arith, first, rest)

many : (sent : List Envelope) (a : Attempt) → AsksFollow sent → (t n : ℕ) → Asked sent a t n → t + 1 ≤ count (t + 1) sent
many sent a follow zero n asked = let new = one_more 0 sent asked.1.0 _ asked.1.1 refl in omega (arith, new)
many sent a follow (suc t) n asked =
    let same : suc t ≡ t + 1 = omega arith in
    let before = follow a t n (subst (λ i. Asked sent a i n) same asked) in
    let old = many sent a follow t before.0 before.1 in
    let new = one_more (suc t) sent asked.1.0 _ asked.1.1 refl in
    let counts : count (suc t) sent ≡ count (t + 1) sent = ap (λ i. count i sent) same in
    omega (arith, old, new, counts)

low : (sent : List Envelope) (a : Attempt) → AsksFollow sent → (t n : ℕ) → Asked sent a t n → t < length sent
low sent a follow t n asked =
    let so_many = many sent a follow t n asked in
    let all = at_most_all (t + 1) sent in
    omega (arith, so_many, all)

pub ask_numbers_are_low : AskNumbersAreLow
ask_numbers_are_low s slots some slot apart gs right =
    let r : Running = after_events (opening_run s.nodes slots) gs in
    let keeps : RunKeeps s r = runs_keep s slots some slot apart gs right in
    record {
      sent = λ a t n asked. low r.whole.network a keeps.routes.follow t n asked;
      standing = λ v k x task t n at own asked.
          low r.whole.network (attempt (object_id v k) task.number) keeps.routes.follow t n ((keeps.routes.owners v x at).standing k task t n own asked);
    }
