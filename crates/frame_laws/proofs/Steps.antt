-- One step of the machine.
use Rattle.std.proofs.Common.{◌≡◌, ℕ, zero, suc, Some, refl, ap, ◌∙◌}
use Rattle.std.specs.Prelude.{slice_get}
use Rattle.frame_laws.specs.Instructions.{Instruction}
use Rattle.frame_laws.specs.Machine.{Code, State, Act, Silent, perform, act, Reaches}

module _ (code : Code) (limit : ℕ) where
  pub sooner : {P : State → Type 0} (now next : State) → act code limit now ≡ Silent next → Reaches code limit P next → Reaches code limit P now
  sooner now next e r = record { count = suc r.count; at = r.at; comes = (next, e, r.comes); here = r.here }

  pub at_once : {P : State → Type 0} (now : State) → P now → Reaches code limit P now
  at_once now p = record { count = zero; at = now; comes = refl; here = p }

  pub fetched : (now : State) (i : Instruction) (a : Act) → slice_get code.instructions now.pc ≡ Some i → perform code limit now (Some i) ≡ a →
      act code limit now ≡ a
  fetched now i a h e = ap (λ o. perform code limit now o) h ∙ e
