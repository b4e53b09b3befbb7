-- The report of a log in which main begins the serial run begins as the serial run's.
use Rattle.std.proofs.Common.{◌≡◌, ◌∙◌, ℕ, List, [], ◌∷◌, ◌++◌, inl, inr, Option, Some, None, map, take, refl, sym, ap, subst, append_assoc}
use Rattle.std.specs.Prelude.{slice_get, codes}
use Rattle.std.specs.List.{flat_map}
use Rattle.std.specs.Option.{option_map}
use Rattle.meaning.specs.Lists.{IsFirst}
use Rattle.meaning.specs.Values.{Value, Outcome}
use Rattle.meaning.specs.Syntax.{Number, Script}
use Rattle.meaning.specs.Runs.{serial_end}
use Rattle.meaning.specs.Meaning.{serial_run}
use Rattle.meaning.specs.Readings.{read_outcome}
use Rattle.meaning.specs.Kinds.{AllPlain, EndsIn}
use Rattle.event_log.specs.Entries.{Fault, Entry, main_attempt}
use Rattle.event_log.specs.Words.{Lack, printed_by, ends_of, faults_of}
use Rattle.event_log.specs.Serial.{reading_of, IsWhole, MainBegins}
use Rattle.script_check.specs.Scripts.{IsWellTyped}
use Rattle.report.specs.MainLines.{print_lines, end_line}
use Rattle.report_text.specs.of_report_lines.Main.{first as first_of, main_line, main_end, main_fault, status, unended_line}
use Rattle.report_text.specs.of_report_lines.Attempts.{attempt_in}
use Rattle.report_text.specs.of_report_lines.Objects.{resolve_in, release_in}
use Rattle.report_text.specs.of_report_lines.Refusals.{refused_lines}
use Rattle.report_text.specs.Report.{report_text}
use Rattle.report.specs.ValueTexts.{value_text}
use Rattle.serde_json.specs.Data.{array}
use Rattle.serde_json.specs.View.{items_of}
use Rattle.serde_json.specs.Written.{compact_text}
use Rattle.report_json.specs.Values.{value_data}
use Rattle.report_json.specs.Main.{main_data}
use Rattle.report_json.specs.Report.{report_data}
use Rattle.meaning_laws.proofs.Headline.{main_begins}
use Rattle.report_laws.specs.Serial.{serial_prints, serial_outcome}
use Rattle.report_laws.specs.Begins.{BeginsWith, HasCause}
use Rattle.report_laws.specs.Json.{SaysOfMain}
use Rattle.report_laws.specs.Law.{AreAsSerial, ReportsBeginAsSerial, LinesBegin}
use Rattle.report_text.proofs.of_report_lines.Ends.{main_ends_are}
use Rattle.report_laws.proofs.Plain.{main_is_safe, first_ends, first_read, all_read, outcome_read}
use Rattle.report_laws.proofs.Said.{lines_said, prints_said}

module _ (script : Script) (log : List Entry) (typed : IsWellTyped script) (m : MainBegins script log) where
  -- what main has printed are the first prints of the serial run
  pub prints_first : IsFirst (printed_by main_attempt log) (serial_prints script)
  prints_first =
      let plain = (main_is_safe script typed).serial_prints in
      subst (λ vs. IsFirst vs (serial_prints script)) (first_read (reading_of script log) (printed_by main_attempt log) (serial_prints script) plain m.begins.prints)
      m.begins.prints

  -- where it ended, they are all of them
  pub prints_all : (cs : List Outcome) → IsWhole (reading_of script log) log main_attempt 1 (serial_run script) cs → serial_prints script ≡ printed_by main_attempt log
  prints_all cs w =
      let plain = (main_is_safe script typed).serial_prints in
      w.prints ∙ all_read (reading_of script log) (printed_by main_attempt log) (subst AllPlain w.prints plain)

  as_read : (c : Outcome) → serial_outcome script ≡ read_outcome (reading_of script log) c → serial_outcome script ≡ c
  as_read c e =
      let number = first_ends (serial_end (serial_run script)) Number [] (main_is_safe script typed).serial in
      e ∙ outcome_read (reading_of script log) c (subst (λ d. EndsIn d Number) e number)

  -- and it ended as the serial run does, with one content
  pub end_same : (cs : List Outcome) → IsWhole (reading_of script log) log main_attempt 1 (serial_run script) cs → cs ≡ serial_outcome script ∷ []
  end_same cs w = go cs w.outcome
    where
      go : (ds : List Outcome) → serial_outcome script ∷ [] ≡ map (read_outcome (reading_of script log)) ds → ds ≡ serial_outcome script ∷ []
      go [] e = absurd (cc)
      go (c ∷ []) e = let same : serial_outcome script ≡ read_outcome (reading_of script log) c = cc in ap (λ d. d ∷ []) (sym (as_read c same))
      go (c ∷ d ∷ ds) e = absurd (cc)

  -- the contents with which it ended are those that make it whole
  pub whole_at : (cs : List Outcome) (ends : List (List Outcome)) → ends_of main_attempt log ≡ cs ∷ ends → IsWhole (reading_of script log) log main_attempt 1 (serial_run script) cs
  whole_at cs ends e = m.begins.ended 0 cs (ap (λ xs. slice_get xs 0) e)

  -- its fault has its cause
  pub fault_caused : HasCause log (main_fault log)
  fault_caused = go (faults_of main_attempt log) refl
    where
      go : (xs : List Lack) → faults_of main_attempt log ≡ xs → HasCause log (option_map (λ (x : Lack). x.fault) (first_of xs))
      go [] e = tt
      go (x ∷ xs) e = (x.object, m.faults 0 x (ap (λ ys. slice_get ys 0) e))

-- what a report says behind main's line
abbrev rest_of : List Entry → List ℕ
rest_of log = flat_map (attempt_in log) log ++ (flat_map resolve_in log ++ (flat_map release_in log ++ refused_lines None log))

-- it begins with the lines of main's prints and its line
begins_so : (log : List Entry) (vs : List Value) (line : List ℕ) → printed_by main_attempt log ≡ vs → main_line (main_end log) (main_fault log) ≡ line →
    BeginsWith (report_text log) (print_lines vs ++ line)
begins_so log vs line e f = (
  rest_of log,
  ap (λ t. t ++ (main_line (main_end log) (main_fault log) ++ rest_of log)) (lines_said log ∙ ap print_lines e)
      ∙ ap (λ t. print_lines vs ++ (t ++ rest_of log)) f
      ∙ sym (append_assoc (print_lines vs) line (rest_of log)),
)

-- and says so as JSON
says_so : (log : List Entry) (vs : List Value) (ended : Option Outcome) (fault : Option Fault) → printed_by main_attempt log ≡ vs →
    main_data (main_end log) (main_fault log) ≡ main_data ended fault → SaysOfMain (compact_text (report_data log) ++ codes "\n") vs ended fault
says_so log vs ended fault e f = record {
  document = report_data log;
  written = refl;
  prints = ap (λ ds. Some (array (items_of ds))) (prints_said log ∙ ap (map value_data) e);
  main = ap Some f;
}

-- where main of a log begins the serial run, so does its report
pub report_begins : (script : Script) (log : List Entry) → IsWellTyped script → MainBegins script log → AreAsSerial script log
report_begins script log typed m = go (ends_of main_attempt log) refl
  where
    go : (ends : List (List Outcome)) → ends_of main_attempt log ≡ ends → AreAsSerial script log
    go [] e =
        let prints = printed_by main_attempt log in
        let fault = main_fault log in
        let first = prints_first script log typed m in
        let cause = fault_caused script log typed m in
        let ended : main_end log ≡ None = ap first_of (main_ends_are log ∙ ap (λ ends. flat_map (take 1) ends) e) in
        let begins = begins_so log prints (unended_line fault) refl (ap (λ o. main_line o fault) ended) in
        let says = says_so log prints None fault refl (ap (λ o. main_data o fault) ended) in
        record {
          text = inr (record { prints = prints; fault = fault; said = begins; first = first; cause = cause }, ap status ended);
          json = inr (record { prints = prints; fault = fault; said = says; first = first; cause = cause }, ap status ended);
        }
    go (cs ∷ ends) e =
        let w = whole_at script log typed m cs ends e in
        let all = sym (prints_all script log typed m cs w) in
        let one = e ∙ ap (λ ds. ds ∷ ends) (end_same script log typed m cs w) in
        let ended : main_end log ≡ Some (serial_outcome script) = ap first_of (main_ends_are log ∙ ap (λ xs. flat_map (take 1) xs) one) in
        let begins = begins_so log (serial_prints script) (end_line (serial_outcome script)) all (ap (λ o. main_line o (main_fault log)) ended) in
        let says = says_so log (serial_prints script) (Some (serial_outcome script)) None all (ap (λ o. main_data o (main_fault log)) ended) in
        record { text = inl (begins, ap status ended); json = inl (says, ap status ended) }

pub reports_begin : ReportsBeginAsSerial
reports_begin s log typed h = report_begins s.script log typed (main_begins s log h)

pub lines_begin : LinesBegin
lines_begin [] all h = (print_lines all, refl)
lines_begin (v ∷ vs) [] h = absurd h
lines_begin (v ∷ vs) (w ∷ ws) h =
    let rest = lines_begin vs ws h.1 in (
      rest.0,
      ap (λ x. print_lines (x ∷ ws)) h.0
          ∙ ap (λ t. codes "print " ++ (value_text v ++ (codes "\n" ++ t))) rest.1
          ∙ ap (λ t. codes "print " ++ t) (sym (append_assoc (value_text v) (codes "\n" ++ print_lines vs) rest.0)),
    )
