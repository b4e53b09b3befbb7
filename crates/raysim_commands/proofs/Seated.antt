-- The events of a history came from seats that a history may name.
use Rattle.std.proofs.Common.{◌≤◌, ◌<◌, ℕ, zero, suc, List, [], ◌∷◌, refl, sym, subst, arith}
use Rattle.meaning.specs.Syntax.{Script}
use Rattle.event_log.specs.Entries.{Entry, Event}
use Rattle.event_files.specs.declared.line.Line.{Line}
use Rattle.event_files.specs.declared.line.Line.TheVariants as lines
use Rattle.event_files.specs.LogHistory.{AreSeated}
use Rattle.run_commands.specs.of_protocol_board.Cores.{Size}
use Rattle.run_commands.specs.of_protocol_board.Replays.{AllPlay, LinePlays, Play, Plays, Settles, Step, next_line}
use Rattle.run_commands.specs.SimReports.{first_play}
use Rattle.replay_laws.proofs.of_migration.of_seats.Seated.{behind_answers, none_of_opening}
use Rattle.replay_laws.specs.of_seats.Seated.{AreFrom}

-- ---- on threads

pub few_seats : (threads : ℕ) (log : List Entry) → threads ≤ 8 → AreFrom threads log → AreSeated log
few_seats threads log few from k e seat at = omega (arith, few, (from k e seat at).1)

-- ---- of lines of format 1, each of whose events comes from seat 0

behind_step : (script : Script) (before after : Play) (e : Event) → Step script before e 0 after → AreSeated before.run.log → AreSeated after.run.log
behind_step script before after e s h =
    behind_answers (λ n. n < 9) before.run after.run e 0 s.answered.0 s.told s.answered.2 (omega arith) h

behind_settle : (script : Script) (but : List ℕ) (n : ℕ) (before after : Play) → Settles script but n before after → AreSeated before.run.log →
    AreSeated after.run.log
unfolding Settles
behind_settle script but zero before after same h = subst (λ (p : Play). AreSeated p.run.log) (sym same) h
behind_settle script but (suc n) before after (between, e, settled, is_next, s) h =
    behind_step script between after e s (behind_settle script but n before between settled h)

behind_line : (script : Script) (line : Line) (before after : Play) → LinePlays script line before after → AreSeated before.run.log →
    AreSeated after.run.log
behind_line script (lines.Event e) before after s h = behind_step script (next_line before) after e s h
behind_line script (lines.Settle workers) before after (n, settled, rests) h = behind_settle script workers n (next_line before) after settled h

behind_all : (script : Script) (xs : List Line) (before after : Play) → AllPlay (LinePlays script) xs before after → AreSeated before.run.log →
    AreSeated after.run.log
unfolding AllPlay
behind_all script [] before after same h = subst (λ (p : Play). AreSeated p.run.log) (sym same) h
behind_all script (x ∷ xs) before after (between, here, rest) h = behind_all script xs between after rest (behind_line script x before between here h)

pub played_from_0 : (script : Script) (xs : List Line) (size : Size) (after : Play) → Plays script xs (first_play size) after → AreSeated after.run.log
played_from_0 script xs size after plays =
    behind_all script xs (first_play size) after plays (none_of_opening (λ n. n < 9) (first_play size).run.log refl)
