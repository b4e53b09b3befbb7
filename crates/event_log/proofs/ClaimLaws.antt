-- What the claim of a job logs may stand there.
use Rattle.std.proofs.Common.{◌≡◌, ℕ, List, [], ◌∷◌, ◌++◌, length, inl, inr, refl, sym, ap, ◌∙◌, subst}
use Rattle.script_laws.specs.of_meaning.Values.{Outcome, Id, Named}
use Rattle.script_laws.specs.of_meaning.Runs.{Needs}
use Rattle.event_log.specs.Entries.{Attempt, Claim, Entry, In, Accepted}
use Rattle.event_log.specs.Words.{attempt, run_in, own_in, got_in, printed_in, ended_in, faulted_in, accepted_in}
use Rattle.event_log.specs.Events.{was_told}
use Rattle.event_log.specs.Rules.{Setting, IsOwn, HasContent, MayGet, MayAccept}
use Rattle.event_log.specs.Claims.{CanGet, CanAccept, LawOfClaims}
use Rattle.event_log.proofs.EventLaws.{word-more}
use Rattle.event_log.proofs.Extending.{births-more, parts-more}
use Rattle.event_log.proofs.OwnLaws.{own_claim, own-plain, told-in, told-plain}
use Rattle.event_log.proofs.LeftLaws.{unchanged, unresolved_on, unspent_on}
use Rattle.event_log.proofs.Stopping.{stops_on}

-- an object's content stays its content
pub content-more : (log : List Entry) (x : Entry) (y : Id) (c : Outcome) → HasContent log y c → HasContent (log ++ x ∷ []) y c
content-more log x y c (inl h) = inl (h.0, births-more log (x ∷ []) y _ h.1, h.2)
content-more log x y c (inr h) = inr (record {
  part = h.part;
  born = parts-more log (x ∷ []) y h.part h.born;
  number = h.number;
  contents = h.contents;
  ended = (h.ended.0, word-more (ended_in (attempt h.part.born.object h.number)) log (x ∷ []) h.ended.0 h.contents h.ended.1);
  content = h.content;
})

-- what an attempt can get, it can get behind an entry that says nothing of it
pub can_get-more : (s : Setting) (log : List Entry) (w : ℕ) (a : Attempt) (y : Id) (c : Outcome) (x : Entry) → own_in a x ≡ [] → got_in a x ≡ [] → printed_in a x ≡ [] → ended_in a x ≡ [] → faulted_in a x ≡ [] →
    was_told w y.owner (log ++ x ∷ []) ≡ was_told w y.owner log → CanGet s log w a y c → CanGet s (log ++ x ∷ []) w a y c
can_get-more s log w a y c x ho hg hp he hf ht h = record {
  runs = word-more (run_in a.object) log (x ∷ []) a.number w h.runs;
  needs = stops_on s log a (Needs (Named y)) x ho hg hp he hf h.needs;
  content = content-more log x y c h.content;
  untold = ht ∙ h.untold;
}

pub may_get : (s : Setting) (before : List Entry) (w : ℕ) (a : Attempt) (y : Id) (c : Outcome) → IsOwn s before w → CanGet s before w a y c → MayGet s before a y c
may_get s before w a y c o h = record { worker = w; runs = h.runs; own = o; needs = h.needs; content = h.content; untold = h.untold }

-- what the owner can accept, it can accept behind an event
can_accept-in : (log : List Entry) (w seat : ℕ) (b : Attempt) → CanAccept log w b → CanAccept (log ++ In (Claim w) seat ∷ []) w b
can_accept-in log w seat b h =
    let i = In (Claim w) seat in
    record {
      owner = h.owner;
      not_main = h.not_main;
      contents = h.contents;
      ended = (h.ended.0, word-more (ended_in b) log (i ∷ []) h.ended.0 h.contents h.ended.1);
      last = ap (λ ws. length ws) (unchanged (run_in b.object) log i refl) ∙ h.last;
      unresolved = unresolved_on log b.object i refl (λ _. refl) h.unresolved;
      unspent = unspent_on log b.object i refl (λ _. refl) h.unspent;
      once = unchanged (accepted_in b) log i refl ∙ h.once;
    }

pub may_accept : (s : Setting) (before : List Entry) (w : ℕ) (b : Attempt) → IsOwn s before w → CanAccept before w b → MayAccept s before b
may_accept s before w b o h = record { own = subst (λ v. IsOwn s before v) (sym h.owner) o; not_main = h.not_main; contents = h.contents; ended = h.ended; last = h.last; unresolved = h.unresolved; unspent = h.unspent; once = h.once }

pub law_of_claims : LawOfClaims
law_of_claims s log w seat h none =
    let i = In (Claim w) seat in
    let o = own_claim s log seat w h in
    let get = λ (a : Attempt) (y : Id) (c : Outcome) (g : CanGet s log w a y c). can_get-more s log w a y c i refl refl refl refl refl (told-in log (Claim w) seat w y.owner refl) g in
    record {
      alone = record { no_event = refl; unrefused = refl; happens = (h, none); each = tt };
      got = λ a y c g. record { no_event = refl; unrefused = refl; happens = (h, none); each = (may_get s (log ++ i ∷ []) w a y c o (get a y c g), tt) };
      accepted = λ b a y c k g.
          let x = Accepted b in
          let before = log ++ i ∷ [] in
          record {
            no_event = refl;
            unrefused = refl;
            happens = (h, none);
            each = (
              may_accept s before w b o (can_accept-in log w seat b k),
              (may_get s (before ++ x ∷ []) w a y c (own-plain s before x w refl o) (can_get-more s before w a y c x refl refl refl refl refl (told-plain before x w y.owner refl) (get a y c g)), tt),
            );
          };
    }
