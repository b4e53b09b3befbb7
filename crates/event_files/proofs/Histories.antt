-- Format 2 reads what it writes.
use Rattle.std.proofs.Common.{◌≡◌, ℕ, ◌<◌, ◌^◌, Bool, true, false, List, [], ◌∷◌, ◌++◌, Option, Some, None, refl, sym, ap, ◌∙◌, subst, append-nil, arith}
use Rattle.std.specs.Prelude.{IfSome, codes, if◌then◌else◌, nat_lt}
use Rattle.std.proofs.lemmas.Fmt.{decimal_is_IsNumeral, decimal_nonempty}
use Rattle.std.proofs.lemmas.Str.Parse.{digit_at}
use Rattle.std.specs.Option.{option_map}
use Rattle.std.specs.List.{flat_map}
use Rattle.std.specs.Fmt.{decimal}
use Rattle.std.proofs.lemmas.Bool.Decides.{nat_tests}
use Rattle.std.proofs.lemmas.List.{append_assoc}
use Rattle.log_entries.specs.Texts.{event_text}
use Rattle.log_entries.specs.declared.event.Event.{Event}
use Rattle.log_entries.specs.declared.event.Event.TheVariants.{Claim}
use Rattle.event_files.specs.declared.recorded.RecordedEvent.{RecordedEvent}
use Rattle.event_files.specs.Lines.{IsEvent}
use Rattle.event_files.specs.Files.{Row, Said, is_passed, AreRows, rows_text, all_said}
use Rattle.event_files.specs.Reading.{pick, has, parted, behind, number_in, worker_in, event_in}
use Rattle.event_files.specs.Recorded.{IsGiven, IsRecorded, given_text, recorded_text, recorded, seat_in, claim_in, other_in, said_in, recorded_in}
use Rattle.event_files.specs.Recorded.{AreRecorded, IsRecordedFile, recorded_line, recorded_file}
use Rattle.event_files.proofs.Decimals.{number_in-decimal, number_in-is, given_of}
use Rattle.event_files.proofs.Marks.{pick_keeps, behind-append, behind-is, parted-at, parted-is, IsParted, no_mark_in_decimal, has-append}
use Rattle.event_files.proofs.EventTexts.{IsEventIn, IsWorkerIn, event_in-text, event_in-is, event_in_a_line, worker_in-is}
use Rattle.event_files.proofs.Readers.{digit_first}
use Rattle.event_files.proofs.Rows.{Reads}

-- ---- what is written is read

seat_read : (s : ℕ) → s < 9 → seat_in (decimal s) ≡ Some s
seat_read s h =
    let number = number_in-decimal 64 s (omega (arith, h)) (omega (arith, h)) in
    let few : nat_lt s 9 ≡ true = grind (arith, nat_tests) in
    rw (number, few) refl

said_read : (s : ℕ) (e : Event) (given : Option ℕ) → IsEvent e → IsGiven e given → said_in s (event_text e ++ given_text given) ≡ Some (recorded s e given)
said_read s (Claim w) None h k = absurd k
said_read s (Claim w) (Some j) h k =
    let space : parted 32 (decimal w ++ 32 ∷ decimal j) ≡ Some (decimal w, decimal j) =
    parted-at 32 (decimal w) (decimal j) (no_mark_in_decimal 32 w (omega arith) (omega (arith, h))) in
    let worker = number_in-decimal 32 w (omega (arith, h)) h in
    let job = number_in-decimal 64 j k k in
    rw (space, worker, job) refl
said_read s e (Some j) h k = absurd k
said_read s e None h k = ap (said_in s) (append-nil (event_text e)) ∙ (rw (event_in-text e h) refl)

pub recorded_in-text : (r : RecordedEvent) → IsRecorded r → recorded_in (recorded_text r) ≡ Some r
unfolding recorded_in
recorded_in-text r h =
    let space = parted-at 32 (decimal r.seat) (event_text r.event ++ given_text r.given) (no_mark_in_decimal 32 r.seat (omega arith) (omega (arith, h.0))) in
    rw (space, seat_read r.seat h.0) (said_read r.seat r.event r.given h.1 h.2)

-- ---- what is read is written so

record IsRecordedIn (bytes : List ℕ) (r : RecordedEvent) : Type 0 where
  pub is : IsRecorded r
  pub written : bytes ≡ recorded_text r

-- the seat's and what is said of it
record IsSaidIn (seat : ℕ) (bytes : List ℕ) (r : RecordedEvent) : Type 0 where
  pub same_seat : r.seat ≡ seat
  pub fits : IsEvent r.event
  pub given : IsGiven r.event r.given
  pub written : bytes ≡ event_text r.event ++ given_text r.given

seat_in-is : (bytes : List ℕ) → IfSome (seat_in bytes) (λ s. (s < 9) × (bytes ≡ decimal s))
seat_in-is bytes =
    pick_keeps (λ s. (s < 9) × (bytes ≡ decimal s)) (number_in 64 bytes) _ None
    (λ n e. by_test n (given_of (λ m. (m < 2 ^ 64) × (bytes ≡ decimal m)) (number_in 64 bytes) n (number_in-is 64 bytes) e).1 (nat_lt n 9) refl) tt
  where
    by_test : (n : ℕ) → bytes ≡ decimal n → (t : Bool) → nat_lt n 9 ≡ t → IfSome (if t then Some n else None) (λ s. (s < 9) × (bytes ≡ decimal s))
    by_test n e true f = (grind (arith, nat_tests), e)
    by_test n e false f = tt

job_is : (seat : ℕ) (bytes front back : List ℕ) (w : ℕ) → bytes ≡ codes "claim " ++ (front ++ 32 ∷ back) → IsWorkerIn front w →
    (o : Option ℕ) → IfSome o (λ j. (j < 2 ^ 64) × (back ≡ decimal j)) → IfSome (option_map (λ j. recorded seat (Claim w) (Some j)) o) (IsSaidIn seat bytes)
job_is seat bytes front back w e worker None h = tt
job_is seat bytes front back w e worker (Some j) h = record {
  same_seat = refl;
  fits = worker.fits;
  given = h.0;
  written = e ∙ ap (λ z. codes "claim " ++ (z ++ 32 ∷ back)) worker.written ∙ ap (λ z. codes "claim " ++ (decimal w ++ 32 ∷ z)) h.1;
}

claim_is : (seat : ℕ) (bytes x : List ℕ) → bytes ≡ codes "claim " ++ x → IfSome (claim_in seat x) (IsSaidIn seat bytes)
claim_is seat bytes x e =
    pick_keeps (IsSaidIn seat bytes) (parted 32 x) _ None (λ y f.
    pick_keeps (IsSaidIn seat bytes) (worker_in y.0) _ None (λ w g.
    job_is seat bytes y.0 y.1 w (e ∙ ap (λ z. codes "claim " ++ z) (given_of (IsParted 32 x) (parted 32 x) y (parted-is 32 x) f).are)
    (given_of (IsWorkerIn y.0) (worker_in y.0) w (worker_in-is y.0) g) (number_in 64 y.1) (number_in-is 64 y.1)) tt) tt

not_claim : (e : Event) → behind (codes "claim ") (event_text e) ≡ None → IsGiven e None
not_claim (Claim w) h = let f = behind-append (codes "claim ") (decimal w) in absurd (cc)
not_claim e h = tt

other_is : (seat : ℕ) (bytes : List ℕ) → behind (codes "claim ") bytes ≡ None → (o : Option Event) → IfSome o (IsEventIn bytes) →
    IfSome (option_map (λ e. recorded seat e None) o) (IsSaidIn seat bytes)
other_is seat bytes h None k = tt
other_is seat bytes h (Some e) k = record {
  same_seat = refl;
  fits = k.fits;
  given = not_claim e (ap (behind (codes "claim ")) (sym k.written) ∙ h);
  written = k.written ∙ sym (append-nil (event_text e));
}

said_is : (seat : ℕ) (bytes : List ℕ) → IfSome (said_in seat bytes) (IsSaidIn seat bytes)
said_is seat bytes = by_case (behind (codes "claim ") bytes) refl
  where
    by_case : (o : Option (List ℕ)) → behind (codes "claim ") bytes ≡ o → IfSome (pick o (λ x. claim_in seat x) (other_in seat bytes)) (IsSaidIn seat bytes)
    by_case None e = other_is seat bytes e (event_in bytes) (event_in-is bytes)
    by_case (Some x) e = claim_is seat bytes x (behind-is (codes "claim ") bytes x e)

recorded_is : (bytes front back : List ℕ) (s : ℕ) → bytes ≡ front ++ 32 ∷ back → (s < 9) × (front ≡ decimal s) →
    (o : Option RecordedEvent) → IfSome o (IsSaidIn s back) → IfSome o (IsRecordedIn bytes)
recorded_is bytes front back s e seat None h = tt
recorded_is bytes front back s e seat (Some r) h = record {
  is = (subst (λ k. k < 9) (sym h.same_seat) seat.0, h.fits, h.given);
  written =
      e ∙ ap (λ z. z ++ 32 ∷ back) (seat.1 ∙ ap decimal (sym h.same_seat))
      ∙ ap (λ z. decimal r.seat ++ 32 ∷ z) h.written;
}

recorded_in-is : (bytes : List ℕ) → IfSome (recorded_in bytes) (IsRecordedIn bytes)
unfolding recorded_in
recorded_in-is bytes =
    pick_keeps (IsRecordedIn bytes) (parted 32 bytes) _ None (λ x e.
    pick_keeps (IsRecordedIn bytes) (seat_in x.0) _ None (λ s f.
    recorded_is bytes x.0 x.1 s (given_of (IsParted 32 bytes) (parted 32 bytes) x (parted-is 32 bytes) e).are
    (given_of (λ s. (s < 9) × (x.0 ≡ decimal s)) (seat_in x.0) s (seat_in-is x.0) f) (said_in s x.1) (said_is s x.1)) tt) tt

recorded_only : (bytes : List ℕ) (r : RecordedEvent) → recorded_in bytes ≡ Some r → IsRecorded r × (bytes ≡ recorded_text r)
recorded_only bytes r e = let k = given_of (IsRecordedIn bytes) (recorded_in bytes) r (recorded_in-is bytes) e in (k.is, k.written)

given_in_a_line : (e : Event) (given : Option ℕ) → IsGiven e given → has 10 (given_text given) ≡ false
given_in_a_line e None h = refl
given_in_a_line (Claim w) (Some j) h = no_mark_in_decimal 10 j (omega arith) h
given_in_a_line e (Some j) h = absurd h

recorded_in_a_line : (r : RecordedEvent) → IsRecorded r → has 10 (recorded_text r) ≡ false
recorded_in_a_line r h =
    has-append 10 (decimal r.seat) (codes " " ++ (event_text r.event ++ given_text r.given))
    (no_mark_in_decimal 10 r.seat (omega arith) (omega (arith, h.0)))
    (has-append 10 (event_text r.event) (given_text r.given) (event_in_a_line r.event h.1) (given_in_a_line r.event r.given h.2))

recorded_not_passed : (r : RecordedEvent) → IsRecorded r → is_passed (recorded_text r) ≡ false
recorded_not_passed r h =
    let small : r.seat < 2 ^ 64 = omega (arith, h.0) in
    digit_first (decimal r.seat) (codes " " ++ (event_text r.event ++ given_text r.given)) (decimal_nonempty r.seat small)
    (digit_at (decimal r.seat) 0 (decimal_is_IsNumeral r.seat small).0.1 (decimal_nonempty r.seat small))

pub reads_recorded : Reads IsRecorded recorded_text recorded_in
reads_recorded = record { reads = recorded_in-text; only = recorded_only; in_a_line = recorded_in_a_line; not_passed = recorded_not_passed }

-- ---- histories that are printed

rows_of : List RecordedEvent → List (Row RecordedEvent)
rows_of [] = []
rows_of (r ∷ events) = Said r ∷ rows_of events

printed_rows : (events : List RecordedEvent) → AreRecorded events → AreRows IsRecorded (rows_of events)
unfolding rows_of
printed_rows [] h = tt
printed_rows (r ∷ events) h = (h.0, printed_rows events h.1)

printed_text : (events : List RecordedEvent) → flat_map recorded_line events ≡ rows_text recorded_text (rows_of events)
unfolding rows_of
printed_text [] = refl
printed_text (r ∷ events) =
    append_assoc (recorded_text r) (10 ∷ []) (flat_map recorded_line events) ∙ ap (λ z. recorded_text r ++ 10 ∷ z) (printed_text events)

printed_said : (events : List RecordedEvent) → events ≡ all_said (rows_of events)
unfolding rows_of
printed_said [] = refl
printed_said (r ∷ events) = ap (λ z. r ∷ z) (printed_said events)

pub printed_recorded : (events : List RecordedEvent) → AreRecorded events → IsRecordedFile (recorded_file events) events
printed_recorded events h = (
  flat_map recorded_line events,
  refl,
  record { rows = rows_of events; are_rows = printed_rows events h; written = printed_text events; said = printed_said events },
)
