-- What a call counts is added to the ledgers and to the log alike.
use Rattle.std.proofs.Common.{◌≡◌, ℕ, List, Option, None, Some, sym, ap, ◌∙◌, subst}
use Rattle.std.specs.Prelude.{Bool, IfSome}
use Rattle.event_log.specs.Books.{Totals, totals_of}
use Rattle.event_log.specs.Entries.{Entry}
use Rattle.event_log.specs.Laws.{plus}
use Rattle.meaning.specs.Syntax.{Script}
use Rattle.books.specs.Laws.{from_seat}
use Rattle.books.specs.SeatTotals.{seat_totals}
use Rattle.event_files.specs.declared.plan.PlanLine.{PlanLine}
use Rattle.run_paths.specs.of_protocol_board.Cores.{Size}
use Rattle.seat_books.specs.Seats.{LedgersOf, SeatOf, with_counted}
use Rattle.seats.specs.Counted.{AddsFrom}
use Rattle.seats.specs.declared.end.Ended.{Ended}
use Rattle.seats.specs.Ends.{AddUp, IsEndAt, IsEndBeside}
use Rattle.seats.specs.Seated.{AreFrom}

pub all_add : (before after : List Entry) (counted more : Totals) (l m : LedgersOf) (watched seat : ℕ) →
    totals_of after ≡ plus (totals_of before) counted → more ≡ counted → m ≡ with_counted watched seat more l → totals_of before ≡ l.all →
    totals_of after ≡ m.all
all_add before after counted more l m watched seat adds same is so_far =
    adds ∙ ap (plus (totals_of before)) (sym same) ∙ ap (λ t. plus t more) so_far ∙ sym (ap (λ (x : LedgersOf). x.all) is)

pub watched_add : (before after : List Entry) (counted more : Totals) (l m : LedgersOf) (watched seat number : ℕ) →
    AddsFrom watched number counted before after → number ≡ seat → more ≡ counted → m ≡ with_counted watched seat more l →
    seat_totals watched before ≡ l.watched → seat_totals watched after ≡ m.watched
watched_add before after counted more l m watched seat number adds from same is so_far =
    adds ∙ ap (λ n. plus (seat_totals watched before) (from_seat watched n counted)) from
    ∙ ap (λ t. plus (seat_totals watched before) (from_seat watched seat t)) (sym same)
    ∙ ap (λ t. plus t (from_seat watched seat more)) so_far ∙ sym (ap (λ (x : LedgersOf). x.watched) is)

-- of the log of a run, if there is one
pub of_log : (P : List Entry → Type 0) (l : List Entry) → P l → (o : Option (List Entry)) → IfSome o (λ log. log ≡ l) → IfSome o P
of_log P l p None h = tt
of_log P l p (Some log) h = subst P (sym h) p

weaker : (P Q : List Entry → Type 0) (o : Option (List Entry)) → ((log : List Entry) → P log → Q log) → IfSome o P → IfSome o Q
weaker P Q None f h = tt
weaker P Q (Some log) f h = f log h

-- whichever seats these are
pub end_at : {X : Type 0} (script : Script) (is_open : Bool) (seats : List SeatOf) (n k watched : ℕ) (plan : List PlanLine) (size : Size) (end : Ended X) →
    n ≡ k → IsEndBeside script is_open seats n watched plan size end → IsEndAt script is_open k plan size end
end_at script is_open seats n k watched plan size end same h =
    (h.0, weaker (λ log. AddUp watched seats log × AreFrom n log) (AreFrom k) _ (λ log p. subst (λ i. AreFrom i log) same p.1) h.1)
