use Rattle.std.proofs.Common.{rules, ◌≡◌, ◌∙◌, ◌<◌, ◌≤◌, ◌^◌, refl, sym, subst, ℕ, List, Option, None, Some, unwrap_or}
use Rattle.std.specs.contracts.prelude.U8FromStr.TheImpl.{ghosts as u8_text}
use Rattle.clap.specs.Words.{ReadsOne, Row, Text, found_of, one_of, rows_of}
use Rattle.clap.proofs.CallerReads.{signed_reads}
use Rattle.clap.proofs.WalkLemmas.{one_text-rows}
use Rattle.raysim_options.specs.Meets.{IsWithin}
use Rattle.raysim_options.specs.Reads.{IsNumber}
use Rattle.raysim_options.proofs.read.number.Goals as goal

-- what `get_one` answers, or the default, is the number
is_number : (rows : List Row) (id : Text) (most default : ℕ) (r : Option ℕ) → 1 ≤ default → default ≤ most → most < 2 ^ 8 → IsWithin rows id 1 most
    → (one_of id rows ≡ None → r ≡ None) → ((t : Text) → one_of id rows ≡ Some t → ReadsOne u8_text.from_str_gives t r) → IsNumber rows id most default (unwrap_or r default)
is_number rows id most default r least limit fits within none value = go (one_of id rows) refl
  where
    is_none : r ≡ None → one_of id rows ≡ None → IsNumber rows id most default (unwrap_or r default)
    is_none is absent = subst (λ o. IsNumber rows id most default (unwrap_or o default)) (sym is) (record {
      given = λ t e. let bad = sym absent ∙ e in cc;
      absent = λ e. refl;
      least = least;
      limit = limit;
    })

    is_some : (t : Text) → one_of id rows ≡ Some t → (n : ℕ) → r ≡ Some n → 1 ≤ n → n ≤ most → IsNumber rows id most default (unwrap_or r default)
    is_some t given n is low high = subst (λ o. IsNumber rows id most default (unwrap_or o default)) (sym is) (record {
      given = λ u e. (subst (λ o. ReadsOne u8_text.from_str_gives u o) is (value u e)).0.1;
      absent = λ e. let bad = sym e ∙ given in cc;
      least = low;
      limit = high;
    })

    go : (o : Option Text) → one_of id rows ≡ o → IsNumber rows id most default (unwrap_or r default)
    go None e = is_none (none e) e
    go (Some t) e =
        let inside = within t e in
        let read = signed_reads _ u8_text.from_str_gives 8 1 most inside.0 r (subst (λ u. ReadsOne u8_text.from_str_gives u r) inside.1 (value t e)) (λ u x g. g.0) fits inside.2 in
        is_some t e read.0 read.1 read.2 read.3

pub returns : goal.returns
returns c =
    let same = one_text-rows (found_of c.args.matches.now) c.args.id.now in
    subst (IsNumber _ _ _ _) (sym c.unwrap_or.ensures) (is_number (rows_of (found_of c.args.matches.now)) c.args.id.now c.args.most c.args.default c.get_one.result c.requires.default.0 c.requires.default.1 (search rules) c.requires.within
    (λ e. c.get_one.ensures.none (same ∙ e)) (λ t e. c.get_one.ensures.value t (same ∙ e)))
