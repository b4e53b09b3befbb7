-- An own object gains a holder, or loses one whose owner is dead.
use Rattle.std.proofs.Common.{◌≡◌, List, [], ◌∷◌, Some, None, inl, refl, sym, subst}
use Rattle.std.specs.Prelude.{if◌then◌else◌}
use Rattle.meaning.specs.Values.{Id}
use Rattle.meaning.proofs.BirthLaws.{at_test}
use Rattle.kind_laws.specs.of_event_log.Entries.{Entry}
use Rattle.kind_laws.specs.of_event_log.Holding.{HasId}
use Rattle.step_laws.specs.of_protocol.Sets.{object_id}
use Rattle.step_laws.specs.of_protocol.Tables.{Object, knows_dead, with_holder, with_dead_holder}
use Rattle.step_laws.specs.of_protocol.Steps.{WorkerContext, changes}
use Rattle.step_laws.specs.of_protocol.Holders.{adds_holder}
use Rattle.protocol_legal.specs.Past.{Asking}
use Rattle.protocol_legal.specs.Names.{IsDeadHolder, IsDeadIfAny, NamesOf}
use Rattle.protocol_legal.specs.During.{Frame, so_far, SoundHere}
use Rattle.protocol_legal.proofs.Names.{all_adding}
use Rattle.protocol_legal.proofs.Placing.{placed_sound}

pub held_names : (log : List Entry) (o e : Id) (x : Object) → HasId log e o → NamesOf log o x → NamesOf log o (with_holder e x)
held_names log o e x has k = record { ids = k.ids; holders = all_adding (λ d. HasId log d o) (e ∷ []) x.added k.holders (has, tt); dead = k.dead }

pub lost_names : (log : List Entry) (o e : Id) (x : Object) → IsDeadHolder log e o → NamesOf log o x → NamesOf log o (with_dead_holder e x)
lost_names log o e x lost k = record { ids = k.ids; holders = k.holders; dead = by x.dead_holder k.dead }
  where
    by : (d : _) → IsDeadIfAny log o d → IsDeadIfAny log o (Some (Rattle.step_laws.specs.of_protocol.Tables.id_or d e))
    by None h = lost
    by (Some d) h = h

module _ (f : Frame) (asked : List Asking) (h : WorkerContext) (s : SoundHere f asked h) (e o : Id) (same : o ≡ object_id h.me o.serial) where
  pub lost_sound : IsDeadHolder (so_far f h.there.out.entries) e o → SoundHere f asked (changes h o (with_dead_holder e))
  lost_sound lost = subst (λ z. SoundHere f asked (changes h z (with_dead_holder e))) (sym same)
      (placed_sound f asked h s o.serial (with_dead_holder e) (λ z. refl) (λ z. refl) (λ z. refl) (λ z. refl) (λ z. refl) (λ z. refl) (λ z e. e) (λ z j number m x made y u v. inl v)
      (λ x k. lost_names (so_far f h.there.out.entries) (object_id h.me o.serial) e x (subst (IsDeadHolder (so_far f h.there.out.entries) e) same lost) k))

  pub held_sound : HasId (so_far f h.there.out.entries) e o → SoundHere f asked (changes h o (with_holder e))
  held_sound has = subst (λ z. SoundHere f asked (changes h z (with_holder e))) (sym same)
      (placed_sound f asked h s o.serial (with_holder e) (λ z. refl) (λ z. refl) (λ z. refl) (λ z. refl) (λ z. refl) (λ z. refl) (λ z e. e) (λ z j number m x made y u v. inl v)
      (λ x k. held_names (so_far f h.there.out.entries) (object_id h.me o.serial) e x (subst (HasId (so_far f h.there.out.entries) e) same has) k))

pub adds_sound : (f : Frame) (asked : List Asking) (h : WorkerContext) (s : SoundHere f asked h) (e o : Id) → o ≡ object_id h.me o.serial → HasId (so_far f h.there.out.entries) e o → SoundHere f asked (adds_holder h e o)
adds_sound f asked h s e o same has =
    at_test (λ b. knows_dead h.worker e.owner ≡ b → SoundHere f asked (if b then changes (changes h o (with_holder e)) o (with_dead_holder e) else changes h o (with_holder e))) (knows_dead h.worker e.owner)
    (λ b k. lost_sound f asked (changes h o (with_holder e)) (held_sound f asked h s e o same has) e o same (has, s.knows.dead e.owner k))
    (λ b k. held_sound f asked h s e o same has) refl
