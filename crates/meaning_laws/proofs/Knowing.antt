-- An attempt bears, needs and ends with only what it knows.
use Rattle.std.proofs.Common.{◌≡◌, List, [], ◌∷◌, ◌++◌, sym, ap, ◌∙◌, subst}
use Rattle.meaning.specs.Lists.{IsFirst}
use Rattle.meaning.specs.Values.{Named, Birth, Id}
use Rattle.meaning.specs.Runs.{Stop, Needs, Over, Piece}
use Rattle.meaning.specs.Meaning.{replay}
use Rattle.meaning.specs.Births.{Bearing, numbered}
use Rattle.meaning.specs.Ids.{BirthIn, StopIn}
use Rattle.meaning.specs.Law.{IsGiven}
use Rattle.script_laws.proofs.Given.{law_of_ids}
use Rattle.event_log.specs.Entries.{Attempt, Entry}
use Rattle.event_log.specs.Words.{own_births, answers_of}
use Rattle.event_log.specs.Rules.{Setting, Stops, MayBear}
use Rattle.meaning_laws.specs.Known.{Knows, AttemptsGiveOnlyKnown}

module _ (s : Setting) (before : List Entry) (a : Attempt) where
  stops_known : (stop : Stop) (h : Stops s before a stop) → StopIn (Knows before a h.replays.spec) stop
  stops_known stop h =
      let r = h.replays in
      let given = law_of_ids s.script r.spec h.base (answers_of a before) in
      let q = replay s.script r.spec h.base (answers_of a before) in
      let own : own_births a before ≡ numbered h.base q.births = h.own ∙ ap (λ (p : Piece). numbered h.base p.births) r.replayed in
      let known : StopIn (Knows before a r.spec) q.stop = subst (λ xs. StopIn (IsGiven r.spec xs (answers_of a before)) q.stop) (sym own) given.stop in
      subst (λ st. StopIn (Knows before a r.spec) st) (ap (λ (p : Piece). p.stop) (sym r.replayed) ∙ h.stopped) known

  bears_known : (o : Id) (b : Birth) (h : MayBear s before o a b) → BirthIn (Knows before a h.replays.spec) b
  bears_known o b h =
      let r = h.replays in
      let x : Bearing = record { object = o; birth = b } in
      let own : IsFirst (own_births a before ++ x ∷ []) (numbered h.base (replay s.script r.spec h.base (answers_of a before)).births) =
      subst (λ (q : Piece). IsFirst (own_births a before ++ x ∷ []) (numbered h.base q.births)) r.replayed h.own in
      (law_of_ids s.script r.spec h.base (answers_of a before)).births (own_births a before) x own

pub attempts_give_only_known : AttemptsGiveOnlyKnown
attempts_give_only_known s before a = record {
  bears = bears_known s before a;
  ends = λ cs h. stops_known s before a (Over cs) h.stops;
  gets = λ y c h. stops_known s before a (Needs (Named y)) h.needs;
  faults = λ y f h. stops_known s before a (Needs (Named y)) h.needs;
}
