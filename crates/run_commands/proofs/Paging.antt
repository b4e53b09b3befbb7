-- What `page` plays and writes.
use Rattle.std.proofs.Common.{◌≡◌, ◌∙◌, ◌⊎◌, ℕ, zero, suc, Bool, true, false, List, [], ◌∷◌, Option, None, Some, ap, refl, inr, subst, sym, take, arith}
use Rattle.std.specs.Prelude.{IfSome, if◌then◌else◌}
use Rattle.std.specs.Str.{IsAscii, IsUtf8}
use Rattle.std.specs.Io.KnownBytes.{Appends}
use Rattle.std.proofs.lemmas.Bool.{ltb-true, true≢false}
use Rattle.std.proofs.lemmas.Str.{IsUtf8-from_ascii}
use Rattle.meaning.specs.Syntax.{Script}
use Rattle.script_tokens.specs.Bytes.{all, is_ascii}
use Rattle.event_files.specs.declared.event_file.EventFile.{EventFile}
use Rattle.event_log.specs.Entries.{Entry}
use Rattle.log_words.specs.declared.contents.Contents.{Contents}
use Rattle.page_text.specs.Text.{page_text}
use Rattle.protocol.specs.Cluster.{ClusterState}
use Rattle.fault_runs.specs.of_protocol_board.Cores.{Size}
use Rattle.fault_runs.specs.of_protocol_board.Replays.{Play}
use Rattle.script_commands.specs.Scripts.{IsScript}
use Rattle.run_commands.specs.SimReports.{AreEvents, IfBoth, IsReplayed}
use Rattle.run_commands.specs.Pages.{IsPageBegun, IsPageIn, IsPageOf, IsPageWritten}

both : (t r : Bool) → (if t then r else false) ≡ true → (t ≡ true) × (r ≡ true)
both true r h = (refl, h)
both false r h = absurd (true≢false (sym h))

ascii_bytes : (bs : List ℕ) → all is_ascii bs ≡ true → IsAscii bs
ascii_bytes [] h i = omega arith
ascii_bytes (b ∷ bs) h zero = ltb-true _ _ (both (is_ascii b) (all is_ascii bs) h).0
ascii_bytes (b ∷ bs) h (suc i) = ascii_bytes bs (both (is_ascii b) (all is_ascii bs) h).1 i

-- ASCII is text
pub ascii_utf8 : (bs : List ℕ) → all is_ascii bs ≡ true → IsUtf8 bs
ascii_utf8 bs h = IsUtf8-from_ascii bs (ascii_bytes bs h)

-- a script's text is ASCII
pub script_ascii : (text : List ℕ) (script : Script) → IsScript text script → all is_ascii text ≡ true
script_ascii text script is = is.1.1.ascii

-- the page of a replay was made
pub page_so : (script : Script) (size : Size) (how : Contents) (says : EventFile) (play : Play) (text page : List ℕ) (status : ℕ) →
    IsReplayed script size says play → IsPageIn size how play text page status → IsPageOf script size how says text page status
page_so script size how says play text page status so made = record { play = play; replayed = so; shown = made.0; status_is = made.1 }

-- equal parts make equal pages
pub page_same : (how : Contents) (text text' : List ℕ) (nodes nodes' slots slots' : ℕ) (log log' : List Entry) (sent sent' : List ℕ) (whole whole' : ClusterState) →
    text ≡ text' → nodes ≡ nodes' → slots ≡ slots' → log ≡ log' → sent ≡ sent' → whole ≡ whole' →
    page_text how text nodes slots log sent whole ≡ page_text how text' nodes' slots' log' sent' whole'
page_same how text text' nodes nodes' slots slots' log log' sent sent' whole whole' t n s l m w =
    ap (λ x. page_text how x nodes slots log sent whole) t ∙ ap (λ x. page_text how text' x slots log sent whole) n
    ∙ ap (λ x. page_text how text' nodes' x log sent whole) s ∙ ap (λ x. page_text how text' nodes' slots' x sent whole) l
    ∙ ap (λ x. page_text how text' nodes' slots' log' x whole) m ∙ ap (λ x. page_text how text' nodes' slots' log' sent' x) w

-- what was written is a beginning of the page of what was read, where that is known
pub page_begun_so : (size : Size) (how : Contents) (known events : Option (List ℕ)) (text : List ℕ) (script : Script) (says : EventFile)
    (numbers shown page bytes : List ℕ) (status : ℕ) (before after : Option (List ℕ)) → IfSome known (λ b. text ≡ b) → IsScript text script →
    IfSome events (λ e. AreEvents e says numbers) → shown ≡ text → IsPageOf script size how says shown page status → bytes ≡ page →
    (k : ℕ) × Appends before after (take k bytes) → IfBoth known events (λ t e. (after ≡ before) ⊎ IsPageBegun size how t e before after)
page_begun_so size how None events text script says numbers shown page bytes status before after same is ls read made written a = tt
page_begun_so size how (Some b) None text script says numbers shown page bytes status before after same is ls read made written a = tt
page_begun_so size how (Some b) (Some e) text script says numbers shown page bytes status before after same is ls read made written (k, a) = inr (record {
  script = script;
  says = says;
  numbers = numbers;
  page = page;
  status = status;
  is_script = subst (λ t. IsScript t script) same is;
  are_events = ls;
  is_page = subst (λ t. IsPageOf script size how says t page status) (read ∙ same) made;
  count = k;
  written = subst (λ l. Appends before after (take k l)) written a;
})

-- and where all was written, it is the page of what was read
pub page_written_so : (size : Size) (how : Contents) (known events : Option (List ℕ)) (text : List ℕ) (script : Script) (says : EventFile)
    (numbers shown page bytes : List ℕ) (status : ℕ) (before after : Option (List ℕ)) → IfSome known (λ b. text ≡ b) → IsScript text script →
    IfSome events (λ e. AreEvents e says numbers) → shown ≡ text → IsPageOf script size how says shown page status → bytes ≡ page →
    Appends before after bytes → IfBoth known events (λ t e. IsPageWritten size how t e status before after)
page_written_so size how None events text script says numbers shown page bytes status before after same is ls read made written a = tt
page_written_so size how (Some b) None text script says numbers shown page bytes status before after same is ls read made written a = tt
page_written_so size how (Some b) (Some e) text script says numbers shown page bytes status before after same is ls read made written a = record {
  script = script;
  says = says;
  numbers = numbers;
  page = page;
  is_script = subst (λ t. IsScript t script) same is;
  are_events = ls;
  is_page = subst (λ t. IsPageOf script size how says t page status) (read ∙ same) made;
  written = subst (λ l. Appends before after l) written a;
}
