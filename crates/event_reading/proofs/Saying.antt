-- What the next line says.
use Rattle.std.proofs.Common.{◌≡◌, ◌≢◌, ◌∙◌, ◌<◌, ◌≤◌, ◌^◌, ℕ, Bool, true, false, List, [], ◌∷◌, ◌++◌, length, Option, None, Some, refl, sym, ap, subst, append_assoc, arith}
use Rattle.std.specs.Prelude.{codes, ◌==◌, if◌then◌else◌, IfSome}
use Rattle.std.specs.Fmt.{decimal}
use Rattle.std.proofs.lemmas.Fmt.{length-decimal-le}
use Rattle.std.proofs.lemmas.List.{append-nil, length-append}
use Rattle.ids.specs.Texts.{IsObject, object_text}
use Rattle.meaning.specs.Values.{Id}
use Rattle.log_entries.specs.Texts.{event_text}
use Rattle.log_entries.specs.declared.event.Event.{Event}
use Rattle.log_entries.specs.declared.event.Event.TheVariants as events
use Rattle.event_files.specs.Files.{IsRow as IsRowOf, Passed, Said, Row as RowOf, is_passed, row_text}
use Rattle.event_files.specs.Lines.{IsEvent, IsLine, line_text, settle_text, workers_text}
use Rattle.event_files.specs.Plans.{IsPlanLine, plan_line_text}
use Rattle.event_files.specs.Reading.{behind, has, line_in, parted}
use Rattle.event_files.specs.Recorded.{IsGiven, IsRecorded, given_text, recorded_text}
use Rattle.event_files.specs.declared.line.Line.{Line}
use Rattle.event_files.specs.declared.line.Line.TheVariants as lines
use Rattle.event_files.specs.declared.plan.PlanLine.{PlanLine}
use Rattle.event_files.specs.declared.recorded.RecordedEvent.{RecordedEvent}
use Rattle.event_files.proofs.Marks.{behind-append, behind-is, has-append, none-parted}
use Rattle.event_files.proofs.Rows.{Reads, cut, no_row}
use Rattle.event_files.proofs.Readers.{reads_lines}
use Rattle.event_reading.specs.declared.next_line.Next.{Next}
use Rattle.event_reading.specs.declared.next_line.Next.TheVariants as nexts
use Rattle.event_reading.specs.declared.row.LineEnd.{LineEnd}
use Rattle.event_reading.specs.declared.row.LineEnd.TheVariants as ends
use Rattle.raysim_streams.specs.declared.CommandRefusal.{CommandRefusal}
use Rattle.raysim_streams.specs.declared.CommandRefusal.TheVariants.{At, NoMemory, Stopped, BadLine, WrongJob, Failed}
use Rattle.raysim_streams.specs.declared.Failure.TheVariants.{Read, Write, Closed}
use Rattle.raysim_streams.specs.Settled.{Counts, one_more}
use Rattle.event_reading.specs.Known.{IfKnown, IsReadRefusal}
use Rattle.event_reading.specs.Rows.{GoesOnLong, IsBadHere, IsCut, IsLineRead, IsLineRefusal, IsLongSettle, IsNextLine, IsRow, IsSaidBy, IsSettleOver, IsSettleRefusal}
use Rattle.event_reading.proofs.Bytes.{mapped, of_known, same, through}

-- ---- how long lines are

number_short : (n : ℕ) → n < 2 ^ 64 → length (decimal n) ≤ 20
number_short n h = length-decimal-le 20 n (omega arith) (omega (arith, h)) h

small_short : (n : ℕ) → n < 2 ^ 32 → length (decimal n) ≤ 10
small_short n h = length-decimal-le 10 n (omega arith) (omega (arith, h)) (omega (arith, h))

object_short : (o : Id) → IsObject o → length (object_text o) ≤ 32
object_short o h =
    let a = length-append (decimal o.owner) (codes "." ++ decimal o.serial) in
    let b = small_short o.owner h.0 in
    let d = number_short o.serial h.1 in
    omega (arith, a, b, d)

two_short : (w v : ℕ) → w < 2 ^ 32 → v < 2 ^ 32 → length (decimal w ++ (codes " " ++ decimal v)) ≤ 21
two_short w v h k =
    let a = length-append (decimal w) (codes " " ++ decimal v) in
    let b = small_short w h in
    let d = small_short v k in
    omega (arith, a, b, d)

place_short : (n : ℕ) (o : Id) → n < 2 ^ 32 → IsObject o → length (decimal n ++ (codes " " ++ object_text o)) ≤ 43
place_short n o h k =
    let a = length-append (decimal n) (codes " " ++ object_text o) in
    let b = small_short n h in
    let d = object_short o k in
    omega (arith, a, b, d)

event_short : (e : Event) → IsEvent e → length (event_text e) ≤ 49
event_short (events.Claim w) h = let a = small_short w h in omega (arith, a)
event_short (events.Commit j) h = let a = number_short j h in omega (arith, a)
event_short (events.Deliver m) h = let a = number_short m h in omega (arith, a)
event_short (events.Tick w) h = let a = small_short w h in omega (arith, a)
event_short (events.Notice w v) h = let a = two_short w v h.0 h.1 in omega (arith, a)
event_short (events.NoticeNode w n) h = let a = two_short w n h.0 h.1 in omega (arith, a)
event_short (events.Evict n o) h = let a = place_short n o h.0 h.1 in omega (arith, a)
event_short (events.Lose n o) h = let a = place_short n o h.0 h.1 in omega (arith, a)
event_short (events.Kill w) h = let a = small_short w h in omega (arith, a)
event_short (events.KillNode n) h = let a = small_short n h in omega (arith, a)
event_short events.Join h = omega arith

pub plan_short : (p : PlanLine) → IsPlanLine p → length (plan_line_text p) ≤ 70
plan_short p h =
    let a = length-append (decimal p.commits) (codes " " ++ event_text p.event) in
    let b = number_short p.commits h.0 in
    let d = event_short p.event h.1 in
    omega (arith, a, b, d)

said_short : (e : Event) (given : Option ℕ) → IsEvent e → IsGiven e given → length (event_text e ++ given_text given) ≤ 49
said_short e None h k = let a = event_short e h in let b = length-append (event_text e) [] in omega (arith, a, b)
said_short (events.Claim w) (Some j) h k =
    let a = small_short w h in
    let b = number_short j k in
    let d = length-append (decimal w) (codes " " ++ decimal j) in
    omega (arith, a, b, d)
said_short e (Some j) h k = absurd k

pub recorded_short : (r : RecordedEvent) → IsRecorded r → length (recorded_text r) ≤ 70
recorded_short r h =
    let a = length-append (decimal r.seat) (codes " " ++ (event_text r.event ++ given_text r.given)) in
    let b = number_short r.seat (omega (arith, h.0)) in
    let d = said_short r.event r.given h.1 h.2 in
    omega (arith, a, b, d)

-- ---- lines that go on

passed_longer : (line x : List ℕ) → is_passed line ≡ false → is_passed (line ++ x) ≡ false
passed_longer [] x h = absurd (cc)
passed_longer (b ∷ line) x h = h

filled : (line r : List ℕ) → is_passed line ≡ false → line ++ r ≢ []
filled [] r h = absurd (cc)
filled (b ∷ line) r h = λ e. absurd (cc)

no_longer_row : {A : Type 0} (is : A → Type 0) (text : A → List ℕ) (line x : List ℕ) → is_passed line ≡ false →
    ((a : A) (x : List ℕ) → is a → text a ≢ line ++ x) → (r : RowOf A) → IsRowOf is r → row_text text r ≢ line ++ x
no_longer_row is text line x k never (Passed z) h e =
    let f : is_passed z ≡ false = ap is_passed e ∙ passed_longer line x k in let g : is_passed z ≡ true = h.0 in absurd (cc)
no_longer_row is text line x k never (Said a) h e = never a x h e

cut_bad : {A : Type 0} (is : A → Type 0) (text : A → List ℕ) (line r : List ℕ) → has 10 line ≡ false → is_passed line ≡ false →
    ((a : A) (x : List ℕ) → is a → text a ≢ line ++ x) → IsBadHere is text (line ++ r)
cut_bad {A} is text line r h k never = by_end (parted 10 r) refl
  where
    by_end : (o : Option (List ℕ × List ℕ)) → parted 10 r ≡ o → IsBadHere is text (line ++ r)
    by_end None e = record {
      line = line ++ r;
      rest = [];
      written = sym (append-nil (line ++ r));
      in_a_line = has-append 10 line r h (none-parted 10 r e);
      is_bad = filled line r k;
    }
    by_end (Some (x, y)) e = let p = cut 10 r x y e in record {
      line = line ++ x;
      rest = 10 ∷ y;
      written = ap (λ z. line ++ z) p.are ∙ sym (append_assoc line x (10 ∷ y));
      in_a_line = has-append 10 line x h p.none_before;
      is_bad = (refl, no_longer_row is text line x k never);
    }

too_long : {A : Type 0} (is : A → Type 0) (text : A → List ℕ) (line : List ℕ) → ((a : A) → is a → length (text a) ≤ 70) → 70 < length line →
    (a : A) (x : List ℕ) → is a → text a ≢ line ++ x
too_long is text line short more a x i e = let l = ap length e ∙ length-append line x in let s = short a i in omega (arith, l, s, more)

still_none : (front line x : List ℕ) → length front ≤ length line → behind front line ≡ None → behind front (line ++ x) ≡ None
still_none [] line x l h = absurd (cc)
still_none (c ∷ front) [] x l h = absurd (omega (arith, l))
still_none (c ∷ front) (b ∷ line) x l h = by_test (b == c) (still_none front line x (omega (arith, l))) h
  where
    by_test : (t : Bool) → (behind front line ≡ None → behind front (line ++ x) ≡ None) → (if t then behind front line else None) ≡ None →
        (if t then behind front (line ++ x) else None) ≡ None
    by_test true r f = r f
    by_test false r f = refl

no_line : (line : List ℕ) → 70 < length line → behind (codes "settle but ") line ≡ None → (l : Line) (x : List ℕ) → IsLine l → line_text l ≢ line ++ x
no_line line more none (lines.Event e) x h f =
    let l = ap length f ∙ length-append line x in let s = event_short e h in omega (arith, l, s, more)
no_line line more none (lines.Settle []) x h f = let l = ap length f ∙ length-append line x in omega (arith, l, more)
no_line line more none (lines.Settle (w ∷ ws)) x h f =
    let some : behind (codes "settle but ") (line ++ x) ≡ Some (decimal w ++ workers_text ws) =
    ap (behind (codes "settle but ")) (sym f) ∙ behind-append (codes "settle but ") (decimal w ++ workers_text ws) in
    let still = still_none (codes "settle but ") line x (omega (arith, more)) none in
    absurd (cc)

-- ---- what the next line says

said_so : {A : Type 0} (is : A → Type 0) (text : A → List ℕ) (read : List ℕ → Option A) → Reads is text read → (line b r : List ℕ) (next : Next A) →
    IsRow line b r → is_passed line ≡ false → IsSaidBy read next line → IsNextLine is text read next b r
said_so is text read own line b r nexts.End row said e = absurd e
said_so is text read own line b r nexts.Passed row said e = absurd e
said_so is text read own line b r (nexts.Said a) row said e = (line, row, said, e)
said_so is text read own line b r nexts.Bad row said e = record {
  line = line;
  rest = 10 ∷ r;
  written = row.are;
  in_a_line = row.in_a_line;
  is_bad = (refl, no_row is text read own line said e);
}

pub said_next : {A : Type 0} (is : A → Type 0) (text : A → List ℕ) (read : List ℕ → Option A) → Reads is text read → (before after : Option (List ℕ))
    (line shown : List ℕ) (next : Next A) → shown ≡ line → IfKnown before after (λ b r. IsRow line b r × (is_passed line ≡ false)) →
    IsSaidBy read next shown → IfKnown before after (IsNextLine is text read next)
said_next is text read own before after line shown next same h e =
    mapped before after (λ b r. IsRow line b r × (is_passed line ≡ false)) (IsNextLine is text read next) h
    (λ b r p. said_so is text read own line b r next p.0 p.1 (subst (IsSaidBy read next) same e))

pub unended_bad : {A : Type 0} (is : A → Type 0) (text : A → List ℕ) (before after : Option (List ℕ)) →
    IfKnown before after (λ b r. (b ≢ []) × (has 10 b ≡ false)) → IfKnown before after (λ b r. IsBadHere is text b)
unended_bad is text before after h =
    mapped before after (λ b r. (b ≢ []) × (has 10 b ≡ false)) (λ b r. IsBadHere is text b) h
    (λ b r p. record { line = b; rest = []; written = sym (append-nil b); in_a_line = p.1; is_bad = p.0 })

pub long_bad : {A : Type 0} (is : A → Type 0) (text : A → List ℕ) (before after : Option (List ℕ)) (line : List ℕ) →
    ((a : A) → is a → length (text a) ≤ 70) → IfKnown before after (IsCut 70 line) → IfKnown before after (λ b r. IsBadHere is text b)
long_bad is text before after line short h =
    mapped before after (IsCut 70 line) (λ b r. IsBadHere is text b) h
    (λ b r p. subst (IsBadHere is text) (sym p.are) (cut_bad is text line r p.in_a_line p.said (too_long is text line short p.is_long)))

-- ---- settles that are long

pub no_settle : (known : Option (List ℕ)) (begun : List ℕ) → behind (codes "settle but ") begun ≡ None →
    IfKnown known known (λ b r. (whole : List ℕ) → IsCut 70 begun whole b → IsNextLine IsLine line_text line_in nexts.Bad whole r)
no_settle known begun none =
    same known (λ b r. (whole : List ℕ) → IsCut 70 begun whole b → IsNextLine IsLine line_text line_in nexts.Bad whole r)
    (λ b whole p. subst (IsBadHere IsLine line_text) (sym p.are)
    (cut_bad IsLine line_text begun b p.in_a_line p.said (no_line begun p.is_long none)))

pub settle_said : (most : ℕ) (before after : Option (List ℕ)) (begun line shown : List ℕ) (end : LineEnd) (next : Next Line) → end ≡ ends.Feed → shown ≡ line →
    IfKnown before after (IsLineRead most begun line end) → IsSaidBy line_in next shown →
    IfKnown before after (λ b r. (whole : List ℕ) → IsCut 70 begun whole b → IsNextLine IsLine line_text line_in next whole r)
settle_said most before after begun line shown end next is_feed same_line h e =
    mapped before after (IsLineRead most begun line ends.Feed)
    (λ b r. (whole : List ℕ) → IsCut 70 begun whole b → IsNextLine IsLine line_text line_in next whole r)
    (subst (λ x. IfKnown before after (IsLineRead most begun line x)) is_feed h)
    (λ b r p whole q. said_so IsLine line_text line_in reads_lines line whole r next (record {
      are = q.are ∙ ap (λ z. begun ++ z) p.rest.are ∙ sym (append_assoc begun p.taken (10 ∷ r)) ∙ ap (λ z. z ++ 10 ∷ r) (sym p.line);
      in_a_line = ap (has 10) p.line ∙ has-append 10 begun p.taken q.in_a_line p.rest.in_a_line;
    }) (ap is_passed p.line ∙ passed_longer begun p.taken q.said) (subst (IsSaidBy line_in next) same_line e))

pub settle_ends : (most : ℕ) (before after : Option (List ℕ)) (begun line : List ℕ) (end : LineEnd) → end ≡ ends.Nothing →
    IfKnown before after (IsLineRead most begun line end) →
    IfKnown before after (λ b r. (whole : List ℕ) → IsCut 70 begun whole b → IsNextLine IsLine line_text line_in nexts.Bad whole r)
settle_ends most before after begun line end is_end h =
    mapped before after (IsLineRead most begun line ends.Nothing)
    (λ b r. (whole : List ℕ) → IsCut 70 begun whole b → IsNextLine IsLine line_text line_in nexts.Bad whole r)
    (subst (λ x. IfKnown before after (IsLineRead most begun line x)) is_end h)
    (λ b r p whole q. record {
      line = begun ++ p.taken;
      rest = [];
      written = q.are ∙ ap (λ z. begun ++ z) p.rest.are.0 ∙ sym (append-nil (begun ++ p.taken));
      in_a_line = has-append 10 begun p.taken q.in_a_line p.rest.in_a_line;
      is_bad = filled begun p.taken q.said;
    })

pub settle_next : (before between after : Option (List ℕ)) (begun : List ℕ) (next : Next Line) → IfKnown before between (IsCut 70 begun) →
    IfKnown between after (λ b r. (whole : List ℕ) → IsCut 70 begun whole b → IsNextLine IsLine line_text line_in next whole r) →
    IfKnown before after (IsNextLine IsLine line_text line_in next)
settle_next before between after begun next h k =
    through before between after (IsCut 70 begun) (λ b r. (whole : List ℕ) → IsCut 70 begun whole b → IsNextLine IsLine line_text line_in next whole r)
    (IsNextLine IsLine line_text line_in next) h k (λ b m r p f. f b p)

-- ---- settles that there is no room for

pub settle_length : (line ws : List ℕ) → line_in line ≡ Some (lines.Settle ws) → length line ≡ length (settle_text ws)
settle_length line ws e = ap length (reads_lines.only line (lines.Settle ws) e).1

begins_so : (ws : List ℕ) → behind (codes "settle") (settle_text ws) ≢ None
begins_so [] = λ e. absurd (cc)
begins_so (w ∷ ws) = λ e. absurd (cc)

over_long : (room : ℕ) (line rest b : List ℕ) → IsSettleOver room line → has 10 line ≡ false → b ≡ line ++ rest → IsLongSettle room b
over_long room line rest b o h e = record {
  line = line;
  rest = rest;
  written = e;
  in_a_line = h;
  is_settle = subst (λ z. behind (codes "settle") z ≢ None) (sym (reads_lines.only line (lines.Settle o.0) o.1).1) (begins_so o.0);
  is_long = o.2;
}

-- the refusal of a read is one of the line
pub unread : (over : List ℕ → Type 0) (known : Option (List ℕ)) (old mid new : ℕ) (r : CommandRefusal) → mid ≡ old → IsReadRefusal (mid, new) r →
    IsLineRefusal over known (old, new) r
unread over known old mid new NoMemory e k = k ∙ e
unread over known old mid new (Failed Read) e k = k ∙ ap (λ n. one_more n) e
unread over known old mid new (Failed Write) e k = k
unread over known old mid new (Failed Closed) e k = k
unread over known old mid new (At code span) e k = k
unread over known old mid new (Stopped code) e k = absurd k
unread over known old mid new (BadLine n) e k = k
unread over known old mid new (WrongJob n) e k = k

-- and so is that of what a line says, where no read failed
of_said : (over : List ℕ → Type 0) (room : ℕ) (known : Option (List ℕ)) (line : List ℕ) (reads : Counts) (r : CommandRefusal) → reads.1 ≡ reads.0 →
    (IsSettleOver room line → IfSome known over) → IsSettleRefusal room line r → IsLineRefusal over known reads r
of_said over room known line reads NoMemory unfailed f k = unfailed
of_said over room known line reads (Stopped code) unfailed f k = (k.0, f k.1)
of_said over room known line reads (Failed failure) unfailed f k = absurd k
of_said over room known line reads (At code span) unfailed f k = k
of_said over room known line reads (BadLine n) unfailed f k = k
of_said over room known line reads (WrongJob n) unfailed f k = k

pub said_over : (room : ℕ) (before after : Option (List ℕ)) (line shown : List ℕ) (reads : Counts) (r : CommandRefusal) → reads.1 ≡ reads.0 → shown ≡ line →
    IfKnown before after (λ b r. IsRow line b r × (is_passed line ≡ false)) → IsSettleRefusal room shown r →
    IsLineRefusal (IsLongSettle room) before reads r
said_over room before after line shown reads r unfailed same_line h k =
    of_said (IsLongSettle room) room before line reads r unfailed
    (λ o. of_known before after (λ b r. IsRow line b r × (is_passed line ≡ false)) (IsLongSettle room) h
    (λ b r p. over_long room line (10 ∷ r) b o p.0.in_a_line p.0.are))
    (subst (λ z. IsSettleRefusal room z r) same_line k)

-- a settle that goes on and ends with its line feed
pub feed_over : (room : ℕ) (before after : Option (List ℕ)) (begun line shown : List ℕ) (end : LineEnd) (reads : Counts) (r : CommandRefusal) →
    reads.1 ≡ reads.0 → end ≡ ends.Feed → shown ≡ line → IfKnown before after (IsLineRead room begun line end) → IsSettleRefusal room shown r →
    IsLineRefusal (GoesOnLong room begun) before reads r
feed_over room before after begun line shown end reads r unfailed is_feed same_line h k =
    of_said (GoesOnLong room begun) room before line reads r unfailed
    (λ o. of_known before after (IsLineRead room begun line ends.Feed) (GoesOnLong room begun)
    (subst (λ x. IfKnown before after (IsLineRead room begun line x)) is_feed h)
    (λ b r p whole q. over_long room line (10 ∷ r) whole o
    (ap (has 10) p.line ∙ has-append 10 begun p.taken q.in_a_line p.rest.in_a_line)
    (q.are ∙ ap (λ z. begun ++ z) p.rest.are ∙ sym (append_assoc begun p.taken (10 ∷ r)) ∙ ap (λ z. z ++ 10 ∷ r) (sym p.line))))
    (subst (λ z. IsSettleRefusal room z r) same_line k)

begun_so : (begun x more : List ℕ) → behind (codes "settle but ") begun ≡ Some x → behind (codes "settle") (begun ++ more) ≢ None
begun_so begun x more e =
    subst (λ z. behind (codes "settle") (z ++ more) ≢ None) (sym (behind-is (codes "settle but ") begun x e)) (λ f. absurd (cc))

-- and one that goes on for longer than there is room
pub cut_over : (room : ℕ) (before after : Option (List ℕ)) (begun line x : List ℕ) (end : LineEnd) → end ≡ ends.Cut →
    behind (codes "settle but ") begun ≡ Some x → IfKnown before after (IsLineRead room begun line end) → IfSome before (GoesOnLong room begun)
cut_over room before after begun line x end is_cut some h =
    of_known before after (IsLineRead room begun line ends.Cut) (GoesOnLong room begun)
    (subst (λ x. IfKnown before after (IsLineRead room begun line x)) is_cut h)
    (λ b r p whole q. record {
      line = line;
      rest = r;
      written = q.are ∙ ap (λ z. begun ++ z) p.rest.are ∙ sym (append_assoc begun p.taken r) ∙ ap (λ z. z ++ r) (sym p.line);
      in_a_line = ap (has 10) p.line ∙ has-append 10 begun p.taken q.in_a_line p.rest.in_a_line;
      is_settle = subst (λ z. behind (codes "settle") z ≢ None) (sym p.line) (begun_so begun x p.taken some);
      is_long = p.is_long;
    })

pub long_over : (room : ℕ) (before between : Option (List ℕ)) (begun : List ℕ) (old mid new : ℕ) (r : CommandRefusal) → mid ≡ old →
    IfKnown before between (IsCut 70 begun) → IsLineRefusal (GoesOnLong room begun) between (mid, new) r →
    IsLineRefusal (IsLongSettle room) before (old, new) r
long_over room before between begun old mid new NoMemory e h k = k ∙ e
long_over room None between begun old mid new (Stopped code) e h k = (k.0, tt)
long_over room (Some b) None begun old mid new (Stopped code) e h k = absurd h
long_over room (Some b) (Some m) begun old mid new (Stopped code) e h k = (k.0, k.1 b h)
long_over room before between begun old mid new (Failed Read) e h k = k ∙ ap (λ n. one_more n) e
long_over room before between begun old mid new (Failed Write) e h k = k
long_over room before between begun old mid new (Failed Closed) e h k = k
long_over room before between begun old mid new (At code span) e h k = k
long_over room before between begun old mid new (BadLine n) e h k = k
long_over room before between begun old mid new (WrongJob n) e h k = k
