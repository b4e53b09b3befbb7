use Rattle.std.proofs.Common.{◌≡◌, ap, sym, ◌∙◌, rules, arith}
use Rattle.std.specs.Prelude.{Some, sum_by}
use Rattle.event_log.specs.Books.{Totals}
use Rattle.seat_books.specs.Holdings.{Holding}
use Rattle.seat_books.specs.Seats.{further_at, further_parts, parts_at}
use Rattle.seat_books.proofs.Closing.{held, held_is_book, marked_once, same_totals}
use Rattle.seat_books.proofs.ledgers.Ledgers.close.Goals as goal

-- all seats together hold all parts, of the further ledgers too
pub audit-requires : goal.audit-requires
audit-requires g c =
    let w = g.P.Watching.watched in
    let seats = c.args.seats.items in
    let pots = c.unwrap-pots.result in
    let all : pots.all.parts ≡ sum_by (λ s. parts_at w s.number) seats = search rules in
    let further : pots.further.parts ≡ sum_by (λ s. further_parts w s.number) seats = search rules in
    let one : g.V.Ledger.parts ≡ 1 = search rules in
    let a : c.bound.new.self.parts ≡ pots.all.parts = ap (λ (h : Holding). h.parts) c.bound.ensures.same in
    let f : c.bound-2.new.self.parts ≡ pots.further.parts = ap (λ (h : Holding). h.parts) c.bound-2.ensures.same in
    let k =
    marked_once w g.E.Ledger.parts seats c.requires.all (omega (arith, a, all, c.bound.ensures.bound))
    (omega (arith, f, further, one, c.bound-2.ensures.bound)) in
    (omega (arith, a, all, k.1), omega (arith, f, further, k.0))

-- the watched seat is one of them, and the further ledgers count what its book does
pub returns-clause-watched : goal.returns-clause-watched
returns-clause-watched g c =
    let w = g.P.Watching.watched in
    let seats = c.args.seats.items in
    let pots = c.unwrap-pots.result in
    let all : pots.all.parts ≡ sum_by (λ s. parts_at w s.number) seats = search rules in
    let further : pots.further.parts ≡ sum_by (λ s. further_parts w s.number) seats = search rules in
    let one : g.V.Ledger.parts ≡ 1 = search rules in
    let a : c.bound.new.self.parts ≡ pots.all.parts = ap (λ (h : Holding). h.parts) c.bound.ensures.same in
    let f : c.bound-2.new.self.parts ≡ pots.further.parts = ap (λ (h : Holding). h.parts) c.bound-2.ensures.same in
    let k =
    marked_once w g.E.Ledger.parts seats c.requires.all (omega (arith, a, all, c.bound.ensures.bound))
    (omega (arith, f, further, one, c.bound-2.ensures.bound)) in
    let events : pots.further.book.events ≡ sum_by (λ s. (further_at w s).book.events) seats = search rules in
    let given : pots.further.book.given ≡ sum_by (λ s. (further_at w s).book.given) seats = search rules in
    let commits : pots.further.book.commits ≡ sum_by (λ s. (further_at w s).book.commits) seats = search rules in
    let committed : pots.further.book.committed ≡ sum_by (λ s. (further_at w s).book.committed) seats = search rules in
    let book : pots.further.book ≡ held w seats = same_totals pots.further.book (held w seats) events given commits committed in
    let same : c.bound-2.new.self.book ≡ pots.further.book = ap (λ (h : Holding). h.book) c.bound-2.ensures.same in
    held_is_book w seats k.0 ∙ ap (λ (t : Totals). Some t) (sym book ∙ (sym same ∙ c.audit.ensures.further))
