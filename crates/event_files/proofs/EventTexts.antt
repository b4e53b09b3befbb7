-- A text is read as an event exactly where it is that event's text.
use Rattle.std.proofs.Common.{◌≡◌, ℕ, ◌<◌, ◌^◌, false, List, ◌∷◌, ◌++◌, Option, Some, None, refl, sym, ap, ◌∙◌, subst, arith}
use Rattle.std.specs.Prelude.{IfSome, codes, if◌then◌else◌, Bool, true}
use Rattle.std.specs.Option.{option_map}
use Rattle.std.specs.Fmt.{decimal}
use Rattle.std.specs.Str.{bytes_eq}
use Rattle.std.proofs.lemmas.Slice.Eq.{bytes_eq-Decides}
use Rattle.ids.specs.Texts.{object_text, IsObject}
use Rattle.meaning.specs.Values.{Id}
use Rattle.log_entries.specs.Texts.{event_text}
use Rattle.log_entries.specs.declared.event.Event.{Event}
use Rattle.log_entries.specs.declared.event.Event.TheVariants.{Claim, Commit, Deliver, Tick, Notice, NoticeNode, Evict, Lose, Kill, KillNode, Join}
use Rattle.event_files.specs.Lines.{IsEvent}
use Rattle.event_files.specs.Reading.{pick, go_on, both, has, parted, behind, number_in, worker_in, node_in, object_in, two_workers_in, worker_and_node_in, node_and_object_in, event_in}
use Rattle.event_files.proofs.Decimals.{number_in-decimal, number_in-is, given_of}
use Rattle.event_files.proofs.Marks.{pick_keeps, map_keeps, behind-is, parted-at, parted-is, IsParted, no_mark_in_decimal, has-append}
use Rattle.event_files.proofs.Objects.{object_in-text, object_in-is}

space : (n : ℕ) (rest : List ℕ) → n < 2 ^ 32 → parted 32 (decimal n ++ 32 ∷ rest) ≡ Some (decimal n, rest)
space n rest h = parted-at 32 (decimal n) rest (no_mark_in_decimal 32 n (omega arith) (omega arith))

small : (n : ℕ) → n < 2 ^ 32 → number_in 32 (decimal n) ≡ Some n
small n h = number_in-decimal 32 n (omega arith) h

-- ---- what is written is read

pub event_in-text : (e : Event) → IsEvent e → event_in (event_text e) ≡ Some e
unfolding event_in
event_in-text (Claim w) h = rw (small w h) refl
event_in-text (Commit j) h = rw (number_in-decimal 64 j h h) refl
event_in-text (Deliver m) h = rw (number_in-decimal 64 m h h) refl
event_in-text (Tick w) h = rw (small w h) refl
event_in-text (Notice w v) h = rw (space w (decimal v) h.0, small w h.0, small v h.1) refl
event_in-text (NoticeNode w n) h = rw (space w (decimal n) h.0, small w h.0, small n h.1) refl
event_in-text (Evict n o) h = rw (space n (object_text o) h.0, small n h.0, object_in-text o h.1) refl
event_in-text (Lose n o) h = rw (space n (object_text o) h.0, small n h.0, object_in-text o h.1) refl
event_in-text (Kill w) h = rw (small w h) refl
event_in-text (KillNode n) h = rw (small n h) refl
event_in-text Join h = refl

-- ---- what is read is written so

pub record IsWorkerIn (x : List ℕ) (w : ℕ) : Type 0 where
  pub fits : w < 2 ^ 32
  pub written : x ≡ decimal w

record IsNodeIn (x : List ℕ) (n : ℕ) : Type 0 where
  pub fits : n < 2 ^ 32
  pub written : x ≡ decimal n

record IsNumberIn (x : List ℕ) (n : ℕ) : Type 0 where
  pub fits : n < 2 ^ 64
  pub written : x ≡ decimal n

pub worker_in-is : (x : List ℕ) → IfSome (worker_in x) (IsWorkerIn x)
worker_in-is x = by_case (number_in 32 x) (number_in-is 32 x)
  where
    by_case : (r : Option ℕ) → IfSome r (λ n. (n < 2 ^ 32) × (x ≡ decimal n)) → IfSome r (IsWorkerIn x)
    by_case None h = tt
    by_case (Some n) h = record { fits = h.0; written = h.1 }

node_in-is : (x : List ℕ) → IfSome (node_in x) (IsNodeIn x)
node_in-is x = by_case (number_in 32 x) (number_in-is 32 x)
  where
    by_case : (r : Option ℕ) → IfSome r (λ n. (n < 2 ^ 32) × (x ≡ decimal n)) → IfSome r (IsNodeIn x)
    by_case None h = tt
    by_case (Some n) h = record { fits = h.0; written = h.1 }

number_is : (x : List ℕ) → IfSome (number_in 64 x) (IsNumberIn x)
number_is x = by_case (number_in 64 x) (number_in-is 64 x)
  where
    by_case : (r : Option ℕ) → IfSome r (λ n. (n < 2 ^ 64) × (x ≡ decimal n)) → IfSome r (IsNumberIn x)
    by_case None h = tt
    by_case (Some n) h = record { fits = h.0; written = h.1 }

-- two fields, with a space between
record AreFields {A B : Type 0} (P : List ℕ → A → Type 0) (Q : List ℕ → B → Type 0) (x : List ℕ) (y : A × B) : Type 0 where
  pub front : List ℕ
  pub back : List ℕ
  pub are : x ≡ front ++ 32 ∷ back
  pub first : P front y.0
  pub second : Q back y.1

two_fields : {A B : Type 0} (P : List ℕ → A → Type 0) (Q : List ℕ → B → Type 0) (x f g : List ℕ) (r : Option A) (s : Option B) →
    IfSome r (P f) → IfSome s (Q g) → x ≡ f ++ 32 ∷ g → IfSome (both r s) (AreFields P Q x)
two_fields P Q x f g None s h k e = tt
two_fields P Q x f g (Some m) None h k e = tt
two_fields P Q x f g (Some m) (Some n) h k e = record { front = f; back = g; are = e; first = h; second = k }

fields : {A B : Type 0} (P : List ℕ → A → Type 0) (Q : List ℕ → B → Type 0) (a : List ℕ → Option A) (b : List ℕ → Option B) →
    ((x : List ℕ) → IfSome (a x) (P x)) → ((x : List ℕ) → IfSome (b x) (Q x)) →
    (x : List ℕ) → IfSome (go_on (parted 32 x) (λ y. both (a y.0) (b y.1))) (AreFields P Q x)
fields P Q a b p q x =
    pick_keeps (AreFields P Q x) (parted 32 x) (λ y. both (a y.0) (b y.1)) None (λ y e.
    let parts = given_of (IsParted 32 x) (parted 32 x) y (parted-is 32 x) e in
    two_fields P Q x y.0 y.1 (a y.0) (b y.1) (p y.0) (q y.1) parts.are) tt

record IsObjectIn (x : List ℕ) (o : Id) : Type 0 where
  pub fits : IsObject o
  pub written : x ≡ object_text o

object_is : (x : List ℕ) → IfSome (object_in x) (IsObjectIn x)
object_is x = by_case (object_in x) (object_in-is x)
  where
    by_case : (r : Option Id) → IfSome r (λ o. IsObject o × (x ≡ object_text o)) → IfSome r (IsObjectIn x)
    by_case None h = tt
    by_case (Some n) h = record { fits = h.0; written = h.1 }

two_written : (x f g a b : List ℕ) → x ≡ f ++ 32 ∷ g → f ≡ a → g ≡ b → x ≡ a ++ (codes " " ++ b)
two_written x f g a b e h k = e ∙ ap (λ z. z ++ 32 ∷ g) h ∙ ap (λ z. a ++ 32 ∷ z) k

pub record IsEventIn (x : List ℕ) (e : Event) : Type 0 where
  pub fits : IsEvent e
  pub written : x ≡ event_text e

of_kind : {A : Type 0} (P : List ℕ → A → Type 0) (front bytes : List ℕ) (read : List ℕ → Option A) (make : A → Event) (y : Option Event) →
    ((x : List ℕ) → IfSome (read x) (P x)) → ((x : List ℕ) (a : A) → P x a → IsEventIn (front ++ x) (make a)) → IfSome y (IsEventIn bytes) →
    IfSome (pick (behind front bytes) (λ x. option_map make (read x)) y) (IsEventIn bytes)
of_kind P front bytes read make y p q h =
    pick_keeps (IsEventIn bytes) (behind front bytes) (λ x. option_map make (read x)) y (λ x e.
    map_keeps (IsEventIn bytes) (read x) make (λ a f.
    subst (λ b. IsEventIn b (make a)) (sym (behind-is front bytes x e)) (q x a (given_of (P x) (read x) a (p x) f)))) h

is_join : (bytes : List ℕ) → IfSome (if bytes_eq bytes (codes "join") then Some Join else None) (IsEventIn bytes)
is_join bytes = by_test (bytes_eq bytes (codes "join")) refl
  where
    by_test : (t : Bool) → bytes_eq bytes (codes "join") ≡ t → IfSome (if t then Some Join else None) (IsEventIn bytes)
    by_test true e = record { fits = tt; written = (bytes_eq-Decides bytes (codes "join")).0 e }
    by_test false e = tt

pub event_in-is : (bytes : List ℕ) → IfSome (event_in bytes) (IsEventIn bytes)
unfolding event_in
event_in-is bytes =
    of_kind IsWorkerIn (codes "claim ") bytes worker_in (λ w. Claim w) _ worker_in-is (λ x w h. record { fits = h.fits; written = ap (λ z. codes "claim " ++ z) h.written }) (
    of_kind IsNumberIn (codes "commit ") bytes (number_in 64) (λ j. Commit j) _ number_is (λ x j h. record { fits = h.fits; written = ap (λ z. codes "commit " ++ z) h.written }) (
    of_kind IsNumberIn (codes "deliver ") bytes (number_in 64) (λ m. Deliver m) _ number_is (λ x m h. record { fits = h.fits; written = ap (λ z. codes "deliver " ++ z) h.written }) (
    of_kind IsWorkerIn (codes "tick ") bytes worker_in (λ w. Tick w) _ worker_in-is (λ x w h. record { fits = h.fits; written = ap (λ z. codes "tick " ++ z) h.written }) (
    of_kind (AreFields IsWorkerIn IsWorkerIn) (codes "notice ") bytes two_workers_in (λ p. Notice p.0 p.1) _ (fields IsWorkerIn IsWorkerIn worker_in worker_in worker_in-is worker_in-is)
    (λ x p h. record { fits = (h.first.fits, h.second.fits); written = ap (λ z. codes "notice " ++ z) (two_written x h.front h.back (decimal p.0) (decimal p.1) h.are h.first.written h.second.written) }) (
    of_kind (AreFields IsWorkerIn IsNodeIn) (codes "notice-node ") bytes worker_and_node_in (λ p. NoticeNode p.0 p.1) _ (fields IsWorkerIn IsNodeIn worker_in node_in worker_in-is node_in-is)
    (λ x p h. record { fits = (h.first.fits, h.second.fits); written = ap (λ z. codes "notice-node " ++ z) (two_written x h.front h.back (decimal p.0) (decimal p.1) h.are h.first.written h.second.written) }) (
    of_kind (AreFields IsNodeIn IsObjectIn) (codes "evict ") bytes node_and_object_in (λ p. Evict p.0 p.1) _ (fields IsNodeIn IsObjectIn node_in object_in node_in-is object_is)
    (λ x p h. record { fits = (h.first.fits, h.second.fits); written = ap (λ z. codes "evict " ++ z) (two_written x h.front h.back (decimal p.0) (object_text p.1) h.are h.first.written h.second.written) }) (
    of_kind (AreFields IsNodeIn IsObjectIn) (codes "lose ") bytes node_and_object_in (λ p. Lose p.0 p.1) _ (fields IsNodeIn IsObjectIn node_in object_in node_in-is object_is)
    (λ x p h. record { fits = (h.first.fits, h.second.fits); written = ap (λ z. codes "lose " ++ z) (two_written x h.front h.back (decimal p.0) (object_text p.1) h.are h.first.written h.second.written) }) (
    of_kind IsWorkerIn (codes "kill ") bytes worker_in (λ w. Kill w) _ worker_in-is (λ x w h. record { fits = h.fits; written = ap (λ z. codes "kill " ++ z) h.written }) (
    of_kind IsNodeIn (codes "kill-node ") bytes node_in (λ n. KillNode n) _ node_in-is (λ x n h. record { fits = h.fits; written = ap (λ z. codes "kill-node " ++ z) h.written }) (
    is_join bytes))))))))))

-- ---- an event's text has no line feed, and isn't passed over

feed : (n : ℕ) → n < 2 ^ 64 → has 10 (decimal n) ≡ false
feed n h = no_mark_in_decimal 10 n (omega arith) h

feed_in_object : (o : Id) → IsObject o → has 10 (object_text o) ≡ false
feed_in_object o h = has-append 10 (decimal o.owner) (codes "." ++ decimal o.serial) (feed o.owner (omega (arith, h.0))) (feed o.serial h.1)

feed_in_two : (m : ℕ) (back : List ℕ) → m < 2 ^ 32 → has 10 back ≡ false → has 10 (decimal m ++ (codes " " ++ back)) ≡ false
feed_in_two m back h k = has-append 10 (decimal m) (codes " " ++ back) (feed m (omega arith)) k

pub event_in_a_line : (e : Event) → IsEvent e → has 10 (event_text e) ≡ false
event_in_a_line (Claim w) h = feed w (omega arith)
event_in_a_line (Commit j) h = feed j h
event_in_a_line (Deliver m) h = feed m h
event_in_a_line (Tick w) h = feed w (omega arith)
event_in_a_line (Notice w v) h = feed_in_two w (decimal v) h.0 (feed v (omega (arith, h.1)))
event_in_a_line (NoticeNode w n) h = feed_in_two w (decimal n) h.0 (feed n (omega (arith, h.1)))
event_in_a_line (Evict n o) h = feed_in_two n (object_text o) h.0 (feed_in_object o h.1)
event_in_a_line (Lose n o) h = feed_in_two n (object_text o) h.0 (feed_in_object o h.1)
event_in_a_line (Kill w) h = feed w (omega arith)
event_in_a_line (KillNode n) h = feed n (omega arith)
event_in_a_line Join h = refl
