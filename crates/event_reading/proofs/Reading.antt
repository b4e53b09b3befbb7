-- Lines that are read one after the other, and kept.
use Rattle.std.proofs.Common.{◌≡◌, ◌∙◌, ◌+◌, ◌≤◌, ℕ, Bool, true, false, List, [], ◌∷◌, ◌++◌, length, Option, None, Some, refl, sym, ap, subst, append_assoc, arith}
use Rattle.std.specs.Prelude.{◌==◌, if◌then◌else◌, IfSome, drop}
use Rattle.std.proofs.lemmas.List.{append-nil, length-append}
use Rattle.event_files.specs.Files.{IsBadAt, IsFile, is_passed, rows_text}
use Rattle.event_files.specs.Numbering.{line_numbers, numbers_from}
use Rattle.event_files.specs.Lines.{IsLine, line_text}
use Rattle.event_files.specs.Plans.{IsPlanLine, plan_line_in, plan_line_text}
use Rattle.event_files.specs.Reading.{behind, has, line_in}
use Rattle.event_files.specs.Recorded.{IsRecorded, IsRecordedRefusal, IsRefusalBehind, header, recorded_in, recorded_text}
use Rattle.event_files.specs.declared.error.EventError.TheVariants as errors
use Rattle.event_files.specs.declared.event_file.EventFile.TheVariants as files
use Rattle.event_files.specs.declared.line.Line.{Line}
use Rattle.event_files.specs.declared.plan.PlanLine.{PlanLine}
use Rattle.event_files.specs.declared.recorded.RecordedEvent.{RecordedEvent}
use Rattle.event_files.proofs.Marks.{behind-append}
use Rattle.event_files.proofs.Rows.{IsReadTo, Reads, begins, ends, goes_past, goes_with}
use Rattle.event_files.proofs.Readers.{reads_lines, reads_plans}
use Rattle.raysim_streams.specs.declared.CommandRefusal.{CommandRefusal}
use Rattle.raysim_streams.specs.declared.CommandRefusal.TheVariants.{At, NoMemory, Stopped, BadLine, WrongJob, Failed}
use Rattle.raysim_streams.specs.Settled.{Counts, one_more}
use Rattle.raysim_streams.specs.declared.Failure.TheVariants.{Read, Write, Closed}
use Rattle.event_reading.specs.declared.kept.Kept.{Kept}
use Rattle.event_reading.specs.declared.next_line.Next.TheVariants as nexts
use Rattle.event_reading.specs.Known.{IfKnown, IsHeaderTaken, left_of}
use Rattle.event_reading.specs.Kept.{IsKeptOf}
use Rattle.event_reading.specs.Rows.{IsBadHere, IsLineRefusal, IsLongSettle, IsNextLine, settle_size}
use Rattle.event_reading.specs.Files.{AreEventsKept, AreKept, AreLinesKept, AreSettlesLong, BeginsWith, ExplainsBehind, ExplainsFile, ExplainsRows, IsPlanLong, each_is_event, settled}
use Rattle.event_reading.proofs.Bytes.{of_known, same, through}

-- ---- the numbers of lines

mark_cons : (b : ℕ) (bs : List ℕ) → has 10 (b ∷ bs) ≡ false → ((b == 10) ≡ false) × (has 10 bs ≡ false)
mark_cons b bs h = by_test (b == 10) h
  where
    by_test : (t : Bool) → (if t then true else has 10 bs) ≡ false → (t ≡ false) × (has 10 bs ≡ false)
    by_test true k = absurd (cc)
    by_test false k = (refl, k)

rest_of_line : (n : ℕ) (line rest : List ℕ) → has 10 line ≡ false → numbers_from n false (line ++ 10 ∷ rest) ≡ numbers_from (n + 1) true rest
rest_of_line n [] rest h = refl
rest_of_line n (b ∷ line) rest h = let k = mark_cons b line h in rw (k.0) (rest_of_line n line rest k.1)

whole_line : (n b : ℕ) (line rest : List ℕ) → has 10 (b ∷ line) ≡ false →
    numbers_from n true ((b ∷ line) ++ 10 ∷ rest) ≡ (if b == 35 then [] else n ∷ []) ++ numbers_from (n + 1) true rest
whole_line n b line rest h = let k = mark_cons b line h in rw (k.0) (ap (λ z. (if b == 35 then [] else n ∷ []) ++ z) (rest_of_line n line rest k.1))

passed_number : (n : ℕ) (line rest : List ℕ) → has 10 line ≡ false → is_passed line ≡ true →
    numbers_from n true (line ++ 10 ∷ rest) ≡ numbers_from (n + 1) true rest
passed_number n [] rest h k = refl
passed_number n (b ∷ line) rest h k = let e : (b == 35) ≡ true = k in whole_line n b line rest h ∙ rw e refl

said_number : (n : ℕ) (line rest : List ℕ) → has 10 line ≡ false → is_passed line ≡ false →
    numbers_from n true (line ++ 10 ∷ rest) ≡ n ∷ numbers_from (n + 1) true rest
said_number n [] rest h k = absurd (cc)
said_number n (b ∷ line) rest h k = let e : (b == 35) ≡ false = k in whole_line n b line rest h ∙ rw e refl

-- ---- files that are read

-- what is kept of the lines so far, and the number of the next one; the first has the number `from`
pub record IsReading {A : Type 0} (counts : A → Bool) (is : A → Type 0) (text : A → List ℕ) (from : ℕ) (k : Kept A) (number : ℕ) (b r : List ℕ) : Type 0 where
  pub n : ℕ
  pub is_number : number ≡ n + from
  pub all : List A
  pub numbers : List ℕ
  pub read : IsReadTo is text b r all n
  pub numbered : numbers_from from true b ≡ numbers ++ numbers_from number true r
  pub are_kept : IsKeptOf counts all numbers k

pub reading_begins : {A : Type 0} (counts : A → Bool) (is : A → Type 0) (text : A → List ℕ) (from : ℕ) (k : Kept A) (known : Option (List ℕ)) → IsKeptOf counts [] [] k →
    IfKnown known known (IsReading counts is text from k from)
reading_begins {A} counts is text from k known h = same known (IsReading counts is text from k from) (λ b. record {
  n = 0;
  is_number = omega arith;
  all = [];
  numbers = [];
  read = begins is text b;
  numbered = refl;
  are_kept = h;
})

pub reading_passes : {A : Type 0} (counts : A → Bool) (is : A → Type 0) (text : A → List ℕ) (read : List ℕ → Option A) (from number : ℕ) (k : Kept A)
    (before between after : Option (List ℕ)) → IfKnown before between (IsReading counts is text from k number) →
    IfKnown between after (IsNextLine is text read nexts.Passed) → IfKnown before after (IsReading counts is text from k (number + 1))
reading_passes {A} counts is text read from number k before between after h next =
    through before between after (IsReading counts is text from k number) (IsNextLine is text read nexts.Passed) (IsReading counts is text from k (number + 1)) h next
    (λ b m r p q. record {
      n = p.n + 1;
      is_number = (let e = p.is_number in omega (arith, e));
      all = p.all;
      numbers = p.numbers;
      read = goes_past is text b m q.0 r p.all p.n p.read (record { none_before = q.1.in_a_line; are = q.1.are }) q.2;
      numbered = p.numbered ∙ ap (λ z. p.numbers ++ z) (ap (numbers_from number true) q.1.are ∙ passed_number number q.0 r q.1.in_a_line q.2);
      are_kept = p.are_kept;
    })

pub reading_says : {A : Type 0} (counts : A → Bool) (is : A → Type 0) (text : A → List ℕ) (read : List ℕ → Option A) → Reads is text read → (from number : ℕ) (k j : Kept A) (a : A)
    (before between after : Option (List ℕ)) → IfKnown before between (IsReading counts is text from k number) →
    IfKnown between after (IsNextLine is text read (nexts.Said a)) →
    ((all : List A) (numbers : List ℕ) → IsKeptOf counts all numbers k → IsKeptOf counts (all ++ a ∷ []) (numbers ++ number ∷ []) j) →
    IfKnown before after (IsReading counts is text from j (number + 1))
reading_says {A} counts is text read own from number k j a before between after h next keeps =
    through before between after (IsReading counts is text from k number) (IsNextLine is text read (nexts.Said a)) (IsReading counts is text from j (number + 1)) h next
    (λ b m r p q. record {
      n = p.n + 1;
      is_number = (let e = p.is_number in omega (arith, e));
      all = p.all ++ a ∷ [];
      numbers = p.numbers ++ number ∷ [];
      read = goes_with is text read own b m q.0 r p.all p.n a p.read (record { none_before = q.1.in_a_line; are = q.1.are }) q.3;
      numbered = p.numbered ∙ ap (λ z. p.numbers ++ z) (ap (numbers_from number true) q.1.are ∙ said_number number q.0 r q.1.in_a_line q.2)
          ∙ sym (append_assoc p.numbers (number ∷ []) (numbers_from (number + 1) true r));
      are_kept = keeps p.all p.numbers p.are_kept;
    })

all_numbered : (number from : ℕ) (b m numbers : List ℕ) → m ≡ [] → numbers_from from true b ≡ numbers ++ numbers_from number true m →
    numbers ≡ numbers_from from true b
all_numbered number from b m numbers e f = sym (f ∙ ap (λ z. numbers ++ numbers_from number true z) e ∙ append-nil numbers)

pub reading_ends : {A : Type 0} (counts : A → Bool) (is : A → Type 0) (text : A → List ℕ) (read : List ℕ → Option A) (from number : ℕ) (k : Kept A)
    (before between after : Option (List ℕ)) → IfKnown before between (IsReading counts is text from k number) →
    IfKnown between after (IsNextLine is text read nexts.End) → IfSome before (λ bytes. AreKept counts is text from bytes k)
reading_ends {A} counts is text read from number k before between after h next =
    of_known before after (λ b r. AreKept counts is text from b k) (λ b. AreKept counts is text from b k)
    (through before between after (IsReading counts is text from k number) (IsNextLine is text read nexts.End) (λ b r. AreKept counts is text from b k) h next
    (λ b m r p q. record {
      all = p.all;
      numbers = p.numbers;
      is_file = ends is text b m p.all p.n p.read (ap length q.0);
      numbered = all_numbered number from b m p.numbers q.0 p.numbered;
      are_kept = p.are_kept;
    })) (λ b r x. x)

bad_so : {A : Type 0} (is : A → Type 0) (text : A → List ℕ) (b m : List ℕ) (all : List A) (n : ℕ) → IsReadTo is text b m all n → IsBadHere is text m →
    IsBadAt is text b (n + 1)
bad_so is text b m all n h bad = record {
  rows = h.rows;
  line = bad.line;
  rest = bad.rest;
  are_rows = h.are_rows;
  written = h.written ∙ ap (λ z. rows_text text h.rows ++ z) bad.written;
  place = ap (λ i. i + 1) h.count;
  in_a_line = bad.in_a_line;
  is_bad = bad.is_bad;
}

pub reading_is_bad : {A : Type 0} (counts : A → Bool) (is : A → Type 0) (text : A → List ℕ) (read : List ℕ → Option A) (number : ℕ) (k : Kept A)
    (before between after : Option (List ℕ)) → IfKnown before between (IsReading counts is text 1 k number) →
    IfKnown between after (IsNextLine is text read nexts.Bad) → IfSome before (λ b. IsBadAt is text b number)
reading_is_bad {A} counts is text read number k before between after h next =
    of_known before after (λ b r. IsBadAt is text b number) (λ b. IsBadAt is text b number)
    (through before between after (IsReading counts is text 1 k number) (IsNextLine is text read nexts.Bad) (λ b r. IsBadAt is text b number) h next
    (λ b m r p q. subst (IsBadAt is text b) (sym p.is_number) (bad_so is text b m p.all p.n p.read q))) (λ b r x. x)

pub behind_is_bad : (number : ℕ) (k : Kept RecordedEvent) (before between after : Option (List ℕ)) →
    IfKnown before between (IsReading each_is_event IsRecorded recorded_text 2 k number) → IfKnown between after (IsNextLine IsRecorded recorded_text recorded_in nexts.Bad) →
    IfSome before (λ b. IsRecordedRefusal b (errors.BadLine number))
behind_is_bad number k before between after h next =
    of_known before after (λ b r. IsRecordedRefusal b (errors.BadLine number)) (λ b. IsRecordedRefusal b (errors.BadLine number))
    (through before between after (IsReading each_is_event IsRecorded recorded_text 2 k number) (IsNextLine IsRecorded recorded_text recorded_in nexts.Bad)
    (λ b r. IsRecordedRefusal b (errors.BadLine number)) h next
    (λ b m r p q. (p.n + 1, (let e = p.is_number in omega (arith, e)), bad_so IsRecorded recorded_text b m p.all p.n p.read q))) (λ b r x. x)

-- ---- plans

-- the lines so far, and the number of the next one
pub record IsPlanRead (lines : List PlanLine) (number : ℕ) (b r : List ℕ) : Type 0 where
  pub n : ℕ
  pub is_number : number ≡ n + 1
  pub read : IsReadTo IsPlanLine plan_line_text b r lines n

pub plan_begins : (known : Option (List ℕ)) (lines : List PlanLine) → lines ≡ [] → IfKnown known known (IsPlanRead lines 1)
plan_begins known lines e = subst (λ l. IfKnown known known (IsPlanRead l 1)) (sym e)
    (same known (IsPlanRead [] 1) (λ b. record { n = 0; is_number = refl; read = begins IsPlanLine plan_line_text b }))

pub plan_passes : (number : ℕ) (lines : List PlanLine) (before between after : Option (List ℕ)) → IfKnown before between (IsPlanRead lines number) →
    IfKnown between after (IsNextLine IsPlanLine plan_line_text plan_line_in nexts.Passed) → IfKnown before after (IsPlanRead lines (number + 1))
plan_passes number lines before between after h next =
    through before between after (IsPlanRead lines number) (IsNextLine IsPlanLine plan_line_text plan_line_in nexts.Passed) (IsPlanRead lines (number + 1)) h next
    (λ b m r p q. record {
      n = p.n + 1;
      is_number = ap (λ i. i + 1) p.is_number;
      read = goes_past IsPlanLine plan_line_text b m q.0 r lines p.n p.read (record { none_before = q.1.in_a_line; are = q.1.are }) q.2;
    })

pub plan_says : (number : ℕ) (lines more : List PlanLine) (a : PlanLine) (before between after : Option (List ℕ)) → more ≡ lines ++ a ∷ [] →
    IfKnown before between (IsPlanRead lines number) → IfKnown between after (IsNextLine IsPlanLine plan_line_text plan_line_in (nexts.Said a)) →
    IfKnown before after (IsPlanRead more (number + 1))
plan_says number lines more a before between after grown h next =
    subst (λ l. IfKnown before after (IsPlanRead l (number + 1))) (sym grown)
    (through before between after (IsPlanRead lines number) (IsNextLine IsPlanLine plan_line_text plan_line_in (nexts.Said a))
    (IsPlanRead (lines ++ a ∷ []) (number + 1)) h next
    (λ b m r p q. record {
      n = p.n + 1;
      is_number = ap (λ i. i + 1) p.is_number;
      read = goes_with IsPlanLine plan_line_text plan_line_in reads_plans b m q.0 r lines p.n a p.read
          (record { none_before = q.1.in_a_line; are = q.1.are }) q.3;
    }))

pub plan_ends : (number : ℕ) (lines : List PlanLine) (before between after : Option (List ℕ)) → IfKnown before between (IsPlanRead lines number) →
    IfKnown between after (IsNextLine IsPlanLine plan_line_text plan_line_in nexts.End) → IfSome before (λ b. IsFile IsPlanLine plan_line_text b lines)
plan_ends number lines before between after h next =
    of_known before after (λ b r. IsFile IsPlanLine plan_line_text b lines) (λ b. IsFile IsPlanLine plan_line_text b lines)
    (through before between after (IsPlanRead lines number) (IsNextLine IsPlanLine plan_line_text plan_line_in nexts.End)
    (λ b r. IsFile IsPlanLine plan_line_text b lines) h next
    (λ b m r p q. ends IsPlanLine plan_line_text b m lines p.n p.read (ap length q.0))) (λ b r x. x)

pub plan_is_bad : (number : ℕ) (lines : List PlanLine) (before between after : Option (List ℕ)) → IfKnown before between (IsPlanRead lines number) →
    IfKnown between after (IsNextLine IsPlanLine plan_line_text plan_line_in nexts.Bad) → IfSome before (λ b. IsBadAt IsPlanLine plan_line_text b number)
plan_is_bad number lines before between after h next =
    of_known before after (λ b r. IsBadAt IsPlanLine plan_line_text b number) (λ b. IsBadAt IsPlanLine plan_line_text b number)
    (through before between after (IsPlanRead lines number) (IsNextLine IsPlanLine plan_line_text plan_line_in nexts.Bad)
    (λ b r. IsBadAt IsPlanLine plan_line_text b number) h next
    (λ b m r p q. subst (IsBadAt IsPlanLine plan_line_text b) (sym p.is_number) (bad_so IsPlanLine plan_line_text b m lines p.n p.read q))) (λ b r x. x)

begins_with : {A : Type 0} (is : A → Type 0) (text : A → List ℕ) (b r : List ℕ) (says : List A) (n : ℕ) → IsReadTo is text b r says n →
    BeginsWith is text b says r
begins_with is text b r says n p = record {
  front = rows_text text p.rows;
  is_file = record { rows = p.rows; are_rows = p.are_rows; written = refl; said = p.said };
  written = p.written;
}

pub plan_is_long : (number : ℕ) (lines : List PlanLine) (a : PlanLine) (before between after : Option (List ℕ)) → 262144 ≤ length lines →
    IfKnown before between (IsPlanRead lines number) → IfKnown between after (IsNextLine IsPlanLine plan_line_text plan_line_in (nexts.Said a)) →
    IfSome before IsPlanLong
plan_is_long number lines a before between after many h next =
    of_known before after (IsPlanRead (lines ++ a ∷ []) (number + 1)) IsPlanLong (plan_says number lines (lines ++ a ∷ []) a before between after refl h next)
    (λ b r p. record {
      says = lines ++ a ∷ [];
      rest = r;
      begins = begins_with IsPlanLine plan_line_text b r (lines ++ a ∷ []) p.n p.read;
      are_many = (let l = length-append lines (a ∷ []) in omega (arith, l, many));
    })

-- ---- the room for settle lines

-- what the settle lines so far have left of it
pub record HasRoom (room : ℕ) (b r : List ℕ) : Type 0 where
  pub n : ℕ
  pub all : List Line
  pub read : IsReadTo IsLine line_text b r all n
  pub is_room : room + settled all ≡ 1048576

pub room_begins : (known : Option (List ℕ)) → IfKnown known known (HasRoom 1048576)
room_begins known = same known (HasRoom 1048576) (λ b. record { n = 0; all = []; read = begins IsLine line_text b; is_room = refl })

pub room_passes : (room left : ℕ) (before between after : Option (List ℕ)) → room ≡ left → IfKnown before between (HasRoom room) →
    IfKnown between after (IsNextLine IsLine line_text line_in nexts.Passed) → IfKnown before after (HasRoom left)
room_passes room left before between after e h next =
    through before between after (HasRoom room) (IsNextLine IsLine line_text line_in nexts.Passed) (HasRoom left) h next
    (λ b m r p q. record {
      n = p.n + 1;
      all = p.all;
      read = goes_past IsLine line_text b m q.0 r p.all p.n p.read (record { none_before = q.1.in_a_line; are = q.1.are }) q.2;
      is_room = ap (λ x. x + settled p.all) (sym e) ∙ p.is_room;
    })

settled_more : (all : List Line) (l : Line) → settled (all ++ l ∷ []) ≡ settled all + settle_size l
settled_more [] l = omega arith
settled_more (x ∷ all) l = let e = settled_more all l in omega (arith, e)

pub room_says : (room left : ℕ) (l : Line) (before between after : Option (List ℕ)) → room ≡ left + settle_size l → IfKnown before between (HasRoom room) →
    IfKnown between after (IsNextLine IsLine line_text line_in (nexts.Said l)) → IfKnown before after (HasRoom left)
room_says room left l before between after e h next =
    through before between after (HasRoom room) (IsNextLine IsLine line_text line_in (nexts.Said l)) (HasRoom left) h next
    (λ b m r p q. record {
      n = p.n + 1;
      all = p.all ++ l ∷ [];
      read = goes_with IsLine line_text line_in reads_lines b m q.0 r p.all p.n l p.read (record { none_before = q.1.in_a_line; are = q.1.are }) q.3;
      is_room = (let s = settled_more p.all l in let i = p.is_room in omega (arith, e, s, i));
    })

settles_long : (room : ℕ) (before between : Option (List ℕ)) → IfKnown before between (HasRoom room) → IfSome between (IsLongSettle room) →
    IfSome before AreSettlesLong
settles_long room None between h k = tt
settles_long room (Some b) None h k = absurd h
settles_long room (Some b) (Some r) h k = record {
  says = h.all;
  rest = r;
  begins = begins_with IsLine line_text b r h.all h.n h.read;
  room = room;
  is_room = h.is_room;
  next = k;
}

pub lines_stop : (room : ℕ) (before between : Option (List ℕ)) (old mid new : ℕ) (r : CommandRefusal) → mid ≡ old → IfKnown before between (HasRoom room) →
    IsLineRefusal (IsLongSettle room) between (mid, new) r → ExplainsRows IsLine line_text AreSettlesLong before (old, new) r
lines_stop room before between old mid new NoMemory e h k = k ∙ e
lines_stop room before between old mid new (Stopped code) e h k = (k.0, settles_long room before between h k.1)
lines_stop room before between old mid new (Failed Read) e h k = k ∙ ap (λ n. one_more n) e
lines_stop room before between old mid new (Failed Write) e h k = k
lines_stop room before between old mid new (Failed Closed) e h k = k
lines_stop room before between old mid new (At code span) e h k = k
lines_stop room before between old mid new (BadLine n) e h k = absurd k
lines_stop room before between old mid new (WrongJob n) e h k = k

-- ---- both formats

pub at_first : (known after : Option (List ℕ)) (ahead : List ℕ) (taken t : Bool) → ahead ≡ [] → taken ≡ t →
    IfKnown (left_of ahead known) after (IsHeaderTaken taken) → IfKnown (left_of [] known) after (IsHeaderTaken t)
at_first known after ahead taken t e f h =
    subst (λ x. IfKnown (left_of [] known) after (IsHeaderTaken x)) f (subst (λ l. IfKnown (left_of l known) after (IsHeaderTaken taken)) e h)

pub behind_refused : (known after : Option (List ℕ)) (reads : Counts) (r : CommandRefusal) → IfKnown (left_of [] known) after (IsHeaderTaken true) →
    ExplainsBehind after reads r → ExplainsFile known reads r
behind_refused None after reads (BadLine n) h k = tt
behind_refused (Some b) None reads (BadLine n) h k = absurd h
behind_refused (Some b) (Some x) reads (BadLine n) h k =
    subst (λ o. IsRefusalBehind o b (errors.BadLine n)) (sym (ap (behind header) h ∙ behind-append header x)) k
behind_refused known after reads NoMemory h k = k
behind_refused known after reads (Failed Read) h k = k
behind_refused known after reads (Failed Write) h k = k
behind_refused known after reads (Failed Closed) h k = k
behind_refused known after reads (At code span) h k = k
behind_refused known after reads (Stopped code) h k = absurd k
behind_refused known after reads (WrongJob n) h k = k

pub lines_refused : (known after : Option (List ℕ)) (reads : Counts) (r : CommandRefusal) → IfKnown (left_of [] known) after (IsHeaderTaken false) →
    ExplainsRows IsLine line_text AreSettlesLong after reads r → ExplainsFile known reads r
lines_refused None after reads (BadLine n) h k = tt
lines_refused (Some b) None reads (BadLine n) h k = absurd h
lines_refused (Some b) (Some x) reads (BadLine n) h k =
    subst (λ o. IsRefusalBehind o b (errors.BadLine n)) (sym h.1) (subst (λ z. IsBadAt IsLine line_text z n) h.0 k)
lines_refused known after reads NoMemory h k = k
lines_refused known after reads (Failed Read) h k = k
lines_refused known after reads (Failed Write) h k = k
lines_refused known after reads (Failed Closed) h k = k
lines_refused known after reads (At code span) h k = k
lines_refused None after reads (Stopped code) h k = (k.0, tt)
lines_refused (Some b) None reads (Stopped code) h k = absurd h
lines_refused (Some b) (Some x) reads (Stopped code) h k = (k.0, subst AreSettlesLong h.0 k.1)
lines_refused known after reads (WrongJob n) h k = k

pub history_kept : (known after : Option (List ℕ)) (k : Kept RecordedEvent) → IfKnown (left_of [] known) after (IsHeaderTaken true) →
    IfSome after (λ x. AreKept each_is_event IsRecorded recorded_text 2 x k) → IfSome known (λ b. AreEventsKept b (record {
      says = files.Recorded k.says;
      numbers = k.numbers;
      is_whole = k.is_whole;
      events = k.events;
    }))
history_kept None after k h kept = tt
history_kept (Some b) None k h kept = absurd h
history_kept (Some b) (Some x) k h kept = record {
  all = files.Recorded kept.all;
  numbers = kept.numbers;
  is_file = (x, h, kept.is_file);
  numbered = kept.numbered ∙ ap (λ z. drop 1 (line_numbers z)) (sym h);
  are_kept = kept.are_kept;
}

pub lines_kept : (known after : Option (List ℕ)) (k : Kept Line) → IfKnown (left_of [] known) after (IsHeaderTaken false) →
    IfSome after (λ x. AreLinesKept x k) → IfSome known (λ b. AreEventsKept b (record {
      says = files.Lines k.says;
      numbers = k.numbers;
      is_whole = k.is_whole;
      events = k.events;
    }))
lines_kept None after k h kept = tt
lines_kept (Some b) None k h kept = absurd h
lines_kept (Some b) (Some x) k h kept = record {
  all = files.Lines kept.all;
  numbers = kept.numbers;
  is_file = subst (λ z. IsFile IsLine line_text z kept.all) h.0 kept.is_file;
  numbered = kept.numbered ∙ ap (λ z. line_numbers z) h.0;
  are_kept = kept.are_kept;
}
