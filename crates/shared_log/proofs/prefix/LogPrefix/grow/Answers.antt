use Rattle.std.proofs.Common.{ap, subst, sym, ◌∙◌, length}
use mathlib.Core.List.{IsPrefix}
use Rattle.shared_log.proofs.Growing.{grows_moves}
use Rattle.shared_log.proofs.prefix.LogPrefix.grow.Goals as goal

pub compare_exchange-found-requires : goal.compare_exchange-found-requires
compare_exchange-found-requires g c =
    let h = c.args.shared.now.word_is in
    let offer = c.plain-offer.ensures in
    let pen = c.no_pen-pen.ensures in
    let named = c.requires.named in
    let on : IsPrefix c.self.inside.seen.log g.B.Grown.log = subst (IsPrefix c.self.inside.seen.log) named (rw c.self.view_is c.requires.goes_on) in (
      ap (λ w. w.tracked) h,
      c.self.invariant.1 ∙ sym (ap (λ w. w.book) h),
      pen.0 ∙ (c.self.invariant.1 ∙ sym (ap (λ w. w.book) h)),
      offer.0,
      rw (ap (λ w. w.key) h, pen.1, offer.3)
          (grows_moves c.self.inside.seen.log g.B.Grown.log c.plain-offer.result.ask c.self.inside.entries (length c.args.log.now) (sym c.self.invariant.0) (ap length named) on),
    )
