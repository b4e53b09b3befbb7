-- What the texts say of what was kept.
use Rattle.std.proofs.Common.{◌≡◌, ℕ, Bool, true, false, List, ◌∷◌, ◌++◌, length, drop, refl, sym, ap, ◌∙◌, subst, arith}
use Rattle.event_files.specs.Files.{IsFile}
use Rattle.event_files.specs.Lines.{IsLine, line_text}
use Rattle.event_files.specs.Numbering.{AreNumbersOf, line_numbers}
use Rattle.event_files.specs.Recorded.{IsEventFile, IsRecorded, IsRecordedFile, header, recorded_text}
use Rattle.event_files.specs.declared.event_file.EventFile.{EventFile}
use Rattle.event_files.specs.declared.event_file.EventFile.TheVariants as files
use Rattle.event_files.specs.declared.line.Line.{Line}
use Rattle.event_files.specs.declared.recorded.RecordedEvent.{RecordedEvent}
use Rattle.event_reading.specs.Files.{AreEventsKept, AreLinesKept, IsKeptFile, each_is_event, is_event_line, said_numbers}
use Rattle.event_reading.specs.Kept.{IsKeptSo}
use Rattle.event_reading.specs.declared.events.KeptEvents.{KeptEvents}
use Rattle.event_reading.specs.declared.kept.Kept.{Kept}
use Rattle.kept_lists.specs.Texts.{SaysKept, SaysLines, file_text, numbered_text}
use Rattle.kept_lists.proofs.Rows.{AllAre, Rise, all_are, file_at, first_are, first_rise, numbers_at, said_rise}

-- ---- what was kept

-- of things in lines of these numbers, all or the first
pub kept_are : {A : Type 0} (counts : A → Bool) (is : A → Type 0) (whole : Bool) (all says : List A) (numbers kept : List ℕ) (events : ℕ) →
    IsKeptSo counts whole all numbers says kept events → AllAre is all → AllAre is says
kept_are counts is true all says numbers kept events h a = subst (AllAre is) h.said a
kept_are counts is false all says numbers kept events h a = first_are is says h.more (subst (AllAre is) h.said a)

pub kept_rise : {A : Type 0} (counts : A → Bool) (last : ℕ) (whole : Bool) (all says : List A) (numbers kept : List ℕ) (events : ℕ) →
    IsKeptSo counts whole all numbers says kept events → Rise last numbers → Rise last kept
kept_rise counts last true all says numbers kept events h r = subst (Rise last) h.numbered r
kept_rise counts last false all says numbers kept events h r = first_rise last kept h.more_numbers (subst (Rise last) h.numbered r)

pub kept_lengths : {A : Type 0} (counts : A → Bool) (whole : Bool) (all says : List A) (numbers kept : List ℕ) (events : ℕ) →
    IsKeptSo counts whole all numbers says kept events → length kept ≡ length says
kept_lengths counts true all says numbers kept events h = h.same_length
kept_lengths counts false all says numbers kept events h = h.same_length

-- ---- the numbers of lines, as the laws of event files tell them

abbrev pub LinesAreNumbered : Type 0
LinesAreNumbered = (bytes : List ℕ) (a : List Line) → (file : IsFile IsLine line_text bytes a) → AreNumbersOf 1 file.rows a (line_numbers bytes)

abbrev pub EventsAreNumbered : Type 0
EventsAreNumbered = (bytes : List ℕ) (a : List RecordedEvent) → (file : IsRecordedFile bytes a) →
    (numbers : List ℕ) × (line_numbers bytes ≡ 1 ∷ numbers) × AreNumbersOf 2 file.2.rows a numbers

-- lines of format 1
pub lines_say : LinesAreNumbered → (bytes : List ℕ) (whole : Bool) (all says : List Line) (numbers kept : List ℕ) (events : ℕ) →
    IsFile IsLine line_text bytes all → numbers ≡ line_numbers bytes → IsKeptSo is_event_line whole all numbers says kept events →
    IsFile IsLine line_text (numbered_text line_text 0 says kept) says × (line_numbers (numbered_text line_text 0 says kept) ≡ kept)
lines_say law bytes whole all says numbers kept events file numbered h =
    let are = kept_are is_event_line IsLine whole all says numbers kept events h (subst (AllAre IsLine) (sym file.said) (all_are IsLine file.rows file.are_rows)) in
    let rise = kept_rise is_event_line 0 whole all says numbers kept events h
    (subst (Rise 0) (sym (numbered ∙ (law bytes all file).0)) (said_rise 0 1 file.rows (omega arith))) in
    let l = kept_lengths is_event_line whole all says numbers kept events h in
    let made = file_at IsLine line_text 0 says kept are l in
    (made, (law (numbered_text line_text 0 says kept) says made).0 ∙ numbers_at 0 1 says kept refl rise l)

drop_first : (numbers : List ℕ) → drop 1 (1 ∷ numbers) ≡ numbers
drop_first numbers = refl

-- events of format 2
pub events_say : EventsAreNumbered → (bytes : List ℕ) (whole : Bool) (all says : List RecordedEvent) (numbers kept : List ℕ) (events : ℕ) →
    IsRecordedFile bytes all → numbers ≡ drop 1 (line_numbers bytes) → IsKeptSo each_is_event whole all numbers says kept events →
    IsRecordedFile (header ++ numbered_text recorded_text 1 says kept) says
    × (drop 1 (line_numbers (header ++ numbered_text recorded_text 1 says kept)) ≡ kept)
events_say law bytes whole all says numbers kept events file numbered h =
    let rows = file.2 in
    let of = law bytes all file in
    let are = kept_are each_is_event IsRecorded whole all says numbers kept events h (subst (AllAre IsRecorded) (sym rows.said) (all_are IsRecorded rows.rows rows.are_rows)) in
    let rise = kept_rise each_is_event 1 whole all says numbers kept events h
    (subst (Rise 1) (sym (numbered ∙ ap (drop 1) of.1 ∙ drop_first of.0 ∙ of.2.0)) (said_rise 1 2 rows.rows (omega arith))) in
    let l = kept_lengths each_is_event whole all says numbers kept events h in
    let text = header ++ numbered_text recorded_text 1 says kept in
    let made : IsRecordedFile text says = (numbered_text recorded_text 1 says kept, refl, file_at IsRecorded recorded_text 1 says kept are l) in
    let its = law text says made in
    (made, ap (drop 1) its.1 ∙ drop_first its.0 ∙ its.2.0 ∙ numbers_at 1 2 says kept refl rise l)

-- ---- the whole texts

file_says : LinesAreNumbered → EventsAreNumbered → (bytes : List ℕ) (all says : EventFile) (numbers kept : List ℕ) (whole : Bool) (events : ℕ) →
    IsEventFile bytes all → numbers ≡ said_numbers all bytes → IsKeptFile all numbers says kept whole events →
    IsEventFile (file_text says kept) says × (said_numbers says (file_text says kept) ≡ kept)
file_says l e bytes (files.Lines all) (files.Lines says) numbers kept whole events file numbered h = lines_say l bytes whole all says numbers kept events file numbered h
file_says l e bytes (files.Recorded all) (files.Recorded says) numbers kept whole events file numbered h =
    events_say e bytes whole all says numbers kept events file numbered h
file_says l e bytes (files.Lines all) (files.Recorded says) numbers kept whole events file numbered h = absurd h
file_says l e bytes (files.Recorded all) (files.Lines says) numbers kept whole events file numbered h = absurd h

pub kept_says : LinesAreNumbered → EventsAreNumbered → (k : KeptEvents) (text bytes : List ℕ) → text ≡ file_text k.says k.numbers → AreEventsKept bytes k → SaysKept k text
kept_says l e k text bytes same h =
    let so = file_says l e bytes h.all k.says h.numbers k.numbers k.is_whole k.events h.is_file h.numbered h.are_kept in
    subst (SaysKept k) (sym same) (record { is_file = so.0; numbered = so.1 })

pub plain_says : LinesAreNumbered → (k : Kept Line) (text bytes : List ℕ) → text ≡ numbered_text line_text 0 k.says k.numbers → AreLinesKept bytes k → SaysLines k text
plain_says l k text bytes same h =
    let so = lines_say l bytes k.is_whole h.all k.says h.numbers k.numbers k.events h.is_file h.numbered h.are_kept in
    subst (SaysLines k) (sym same) (record { is_file = so.0; numbered = so.1 })
