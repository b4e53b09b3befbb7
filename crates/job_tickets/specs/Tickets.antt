-- Tickets in the order in which they were given out.
use Rattle.std.specs.Prelude.{◌≡◌, ℕ, zero, suc, List, [], ◌∷◌, ◌++◌, length, Option, Some, None, slice_get, true, false}
use mathlib.Core.Option.{some}
use lib.ListN.{get_elem?}
use Rattle.atomic_table.specs.Seated.{TableId}
use Rattle.job_tickets.specs.declared.law.Claim.{Claim}
use Rattle.job_tickets.specs.declared.law.View.{View}

-- the name of no tickets
abbrev pub no_table : TableId
no_table = record { words = 0; slots = 0; views_name = 0; atom = 0; block = 0; offset = 0; slot_names = [] }

module _ {J : Type 0} where
  -- the ticket at that place is handed back
  abbrev pub taken_back : ℕ → List (Option J) → List (Option J)
  taken_back n [] = []
  taken_back zero (x ∷ all) = None ∷ all
  taken_back (suc n) (x ∷ all) = x ∷ taken_back n all

  -- the ticket with the claim is handed back: it was one of them
  abbrev pub TakenBack : Option (Claim J) → List (Option J) → List (Option J) → Type 0
  TakenBack None before after = after ≡ before
  TakenBack (Some k) before after = (slice_get before k.place ≡ Some (Some k.of)) × (after ≡ taken_back k.place before)

  -- ---- what a pass knows

  -- the keeper's, which has no claim
  abbrev pub knower : List (Option J) → View J
  knower all = record { keeps = true; all = all; claim = None }

  abbrev pub nobody : View J
  nobody = record { keeps = false; all = []; claim = None }

  abbrev pub without_claim : View J → View J
  without_claim v = record { keeps = v.keeps; all = v.all; claim = None }

  -- the claim alone
  abbrev pub claim_of : View J → View J
  claim_of v = record { keeps = false; all = []; claim = v.claim }

  abbrev pub with_claim : View J → View J → View J
  with_claim v w = record { keeps = v.keeps; all = v.all; claim = w.claim }

  -- ---- the rule

  -- one pass at most knows all tickets; each claim is one of them, and no two passes claim the same
  pub record Kept (words : List ℕ) (views : List (View J)) : Type 0 where
    pub keeper : ℕ
    pub all : List (Option J)
    pub known : (by : ℕ) (v : View J) → get_elem? views by ≡ some v → v.keeps ≡ true → (by ≡ keeper) × (v.all ≡ all)
    pub claimed : (by : ℕ) (v : View J) (k : Claim J) → get_elem? views by ≡ some v → v.claim ≡ Some k → slice_get all k.place ≡ Some (Some k.of)
    pub once : (by other : ℕ) (v w : View J) (k l : Claim J) → get_elem? views by ≡ some v → get_elem? views other ≡ some w →
        v.claim ≡ Some k → w.claim ≡ Some l → k.place ≡ l.place → by ≡ other

  -- ---- what a step tells

  -- the keeper gives that out, and has its claim
  abbrev pub Gave : Option J → View J → List ℕ → List ℕ → View J → Type 0
  Gave None v before after w = w ≡ v
  Gave (Some x) v before after w =
      w ≡ record { keeps = v.keeps; all = v.all ++ Some x ∷ []; claim = Some (record { place = length v.all; of = x }) }

  -- a claim of the keeper's was one of its tickets, and is none any more
  abbrev pub TookBack : View J → List ℕ → List ℕ → View J → Type 0
  TookBack v before after w = (w ≡ record { keeps = v.keeps; all = w.all; claim = None }) × TakenBack v.claim v.all w.all
