-- Why a replay is stopped, as a number.
use Rattle.std.specs.Prelude.{ℕ}
use Rattle.protocol_board.specs.declared.stopped.ReplayStop.{ReplayStop}
use Rattle.protocol_board.specs.declared.stopped.ReplayStop.TheVariants as stops

abbrev pub stopped_code : ReplayStop → ℕ
stopped_code stops.NoMemory = 39
stopped_code stops.TooLong = 41
stopped_code stops.WrongJob = 42
