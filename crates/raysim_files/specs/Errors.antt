-- Why a read or a write failed.
use Rattle.std.specs.Prelude.{Option}
use Rattle.std.specs.declared.io.Error.{Error}
use Rattle.raysim_files.specs.declared.with_error.WithError.{WithError}

-- the error of its last call that failed, if one did
abbrev pub last_error : {T : Type 0} → WithError T → Option Error
last_error w = w.error
