-- The history of a log is read again.
use Rattle.std.proofs.Common.{◌≡◌, ℕ, suc, ◌+◌, ◌≤◌, ◌<◌, ◌^◌, Bool, true, false, List, [], ◌∷◌, ◌++◌, length, drop, get_or, Option, Some, refl, sym, ap, ◌∙◌, subst, arith}
use Rattle.std.specs.Prelude.{slice_get}
use Rattle.std.proofs.lemmas.Option.{slice_get_read}
use Rattle.std.proofs.lemmas.List.{append_assoc, drop_more}
use Rattle.event_log.specs.Entries.{Event, Claim, Entry, In}
use Rattle.event_log.specs.Events.{refused_next}
use Rattle.event_log.specs.Words.{events}
use Rattle.event_files.specs.declared.event_file.EventFile.TheVariants as files
use Rattle.event_files.specs.declared.recorded.RecordedEvent.{RecordedEvent}
use Rattle.event_files.specs.Lines.{AreEvents, IsEvent}
use Rattle.event_files.specs.LogHistory.{AreSeated, claims_behind, given_by, recorded_from, recorded_in}
use Rattle.event_files.specs.Recorded.{AreRecorded, IsEventFile, IsGiven, IsRecorded, IsRecordedFile, recorded_file}
use Rattle.event_files.proofs.Histories.{printed_recorded}

-- ---- event by event

recorded_push : (told : List RecordedEvent) (r : RecordedEvent) → AreRecorded told → IsRecorded r → AreRecorded (told ++ r ∷ [])
recorded_push [] r h k = (k, tt)
recorded_push (x ∷ told) r h k = (h.0, recorded_push told r h.1 k)

-- one event more of a log may stand in a file
pub fits_more : (log : List Entry) (place seat : ℕ) (x : Entry) (e : Event) (given : Option ℕ) (told more : List RecordedEvent) →
    place < length log → x ≡ get_or log place x → x ≡ In e seat → IsEvent e × IsGiven e given →
    more ≡ told ++ record { seat = seat; event = e; given = given } ∷ [] → (AreSeated log → AreRecorded told) → AreSeated log → AreRecorded more
fits_more log place seat x e given told more l at is fits are h seated =
    let found : slice_get log place ≡ Some (In e seat) = slice_get_read log (length log) place x refl l at ∙ ap (λ y. Some y) is in
    subst AreRecorded (sym are) (recorded_push told (record { seat = seat; event = e; given = given }) (h seated) (seated place e seat found, fits.0, fits.1))

-- with it the events so far and those of the rest are those of the log
pub found_more : (log : List Entry) (place seat claims behind : ℕ) (x : Entry) (e : Event) (refused : Bool) (given : Option ℕ) (told more : List RecordedEvent) →
    place < length log → x ≡ get_or log place x → x ≡ In e seat → refused ≡ refused_next (drop (place + 1) log) → given ≡ given_by e refused claims →
    behind ≡ claims_behind e refused claims → more ≡ told ++ record { seat = seat; event = e; given = given } ∷ [] →
    told ++ recorded_from claims (drop place log) ≡ recorded_in log → more ++ recorded_from behind (drop (place + 1) log) ≡ recorded_in log
found_more log place seat claims behind x e refused given told more l at is next gives goes are h =
    let left : drop place log ≡ In e seat ∷ drop (place + 1) log = drop_more log place x l ∙ ap (λ y. y ∷ drop (place + 1) log) (sym at ∙ is) in
    rw (are, goes, gives, next) (append_assoc told _ _ ∙ sym (ap (λ y. told ++ recorded_from claims y) left) ∙ h)

no_event : (claims : ℕ) (x : Entry) (rest : List Entry) → ((e : Event) (seat : ℕ) → x ≡ In e seat → ⊥) → recorded_from claims (x ∷ rest) ≡ recorded_from claims rest
no_event claims (In e seat) rest none = absurd (none e seat refl)
no_event claims x rest none = refl

-- and so past an entry that is none
pub found_past : (log : List Entry) (place claims behind : ℕ) (x : Entry) (told more : List RecordedEvent) →
    place < length log → x ≡ get_or log place x → ((e : Event) (seat : ℕ) → x ≡ In e seat → ⊥) → behind ≡ claims → more ≡ told →
    told ++ recorded_from claims (drop place log) ≡ recorded_in log → more ++ recorded_from behind (drop (place + 1) log) ≡ recorded_in log
found_past log place claims behind x told more l at none same are h =
    let left : drop place log ≡ x ∷ drop (place + 1) log = drop_more log place x l ∙ ap (λ y. y ∷ drop (place + 1) log) (sym at) in
    rw (are, same) (sym (ap (λ y. told ++ y) (ap (recorded_from claims) left ∙ no_event claims x (drop (place + 1) log) none)) ∙ h)

pub few_more : (e : Event) (refused : Bool) (claims behind place : ℕ) → behind ≡ claims_behind e refused claims → claims ≤ place → behind ≤ place + 1
few_more (Claim w) true claims behind place e h = omega (arith, e)
few_more (Claim w) false claims behind place e h = omega (arith, e)
few_more x refused claims behind place e h = omega (arith, e)

-- what is written of a log whose events so may stand is read as these
pub history_file : (log : List Entry) (told : List RecordedEvent) (text : List ℕ) → text ≡ recorded_file told → told ≡ recorded_in log →
    (AreSeated log → AreRecorded told) → AreSeated log → IsEventFile text (files.Recorded (recorded_in log))
history_file log told text written says fits seated =
    subst (λ r. IsRecordedFile text r) says (subst (λ t. IsRecordedFile t told) (sym written) (printed_recorded told (fits seated)))

-- ---- by the log alone

given_fits : (e : Event) (refused : Bool) (claims : ℕ) → claims + 1 < 2 ^ 64 → IsGiven e (given_by e refused claims)
given_fits (Claim w) true claims h = omega arith
given_fits (Claim w) false claims h = h
given_fits e refused claims h = tt

few_behind : (e : Event) (refused : Bool) (claims left : ℕ) → claims + (left + 1) < 2 ^ 64 → claims_behind e refused claims + left < 2 ^ 64
few_behind (Claim w) true claims left h = omega (arith, h)
few_behind (Claim w) false claims left h = omega (arith, h)
few_behind e refused claims left h = omega (arith, h)

rest_seated : (x : Entry) (log : List Entry) → AreSeated (x ∷ log) → AreSeated log
rest_seated x log h k e seat f = h (suc k) e seat f

logs_fit : (claims : ℕ) (log : List Entry) → claims + length log < 2 ^ 64 → AreEvents (events log) → AreSeated log → AreRecorded (recorded_from claims log)
logs_fit claims [] l h seated = tt
logs_fit claims (In e seat ∷ log) l h seated = (
  (seated 0 e seat refl, h.0, given_fits e (refused_next log) claims (omega (arith, l))),
  logs_fit (claims_behind e (refused_next log) claims) log (few_behind e (refused_next log) claims (length log) (omega (arith, l))) h.1
      (rest_seated (In e seat) log seated),
)
logs_fit claims (x ∷ log) l h seated = logs_fit claims log (omega (arith, l)) h (rest_seated x log seated)

pub printed_log : (log : List Entry) → AreSeated log → AreEvents (events log) → length log < 2 ^ 64 →
    IsEventFile (recorded_file (recorded_in log)) (files.Recorded (recorded_in log))
printed_log log seated h l = printed_recorded (recorded_in log) (logs_fit 0 log (omega (arith, l)) h seated)
