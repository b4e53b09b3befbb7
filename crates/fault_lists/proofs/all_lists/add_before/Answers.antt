use Rattle.std.proofs.Common.{◌+◌, [], ◌∷◌, ap, drop, refl, sym, ◌∙◌, arith}
use Rattle.std.proofs.lemmas.List.{drop_more}
use Rattle.fault_lists.proofs.Firsts.{adds_none, passed}
use Rattle.fault_lists.proofs.all_lists.add_before.Goals as goal

pub returns : goal.returns
returns c =
    let log = c.args.log.now in
    let k = c.args.k in
    let x = c.index-log-k.result in
    record {
      added = record {
        more = [];
        adds = adds_none c.args.lists.now [] refl;
        whole =
            passed c.args.choice c.args.place c.args.seen.now c.note.new.self (drop k log) (drop (k + 1) log) x
            (drop_more log k x c.requires.there ∙ ap (λ y. y ∷ drop (k + 1) log) (sym c.index-log-k.is))
            c.in_default.not-In
            c.in_ok-note.ensures.done;
      };
      few = omega (arith, c.requires.few);
    }
