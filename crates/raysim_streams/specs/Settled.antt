-- What a read or a write comes to.
use Rattle.std.specs.Prelude.{◌≡◌, ℕ, ◌+◌, ◌%◌, ◌^◌, Result, Ok, Err, nat_le, if◌then◌else◌}
use Rattle.std.specs.IoError.{error_kind}
use Rattle.std.specs.declared.io.Error.{Error}
use Rattle.std.specs.declared.io.ErrorKind.{ErrorKind}
use Rattle.std.specs.declared.io.ErrorKind.TheVariants.{BrokenPipe}
use Rattle.raysim_streams.specs.declared.failure.Failure.{Failure}
use Rattle.raysim_streams.specs.declared.failure.Failure.TheVariants.{Read, Write, Closed}

-- what a failed write is called whose error has this kind: into a pipe that nobody reads any more it tells that it is closed
abbrev pub failure_of_write : ErrorKind → Failure
failure_of_write BrokenPipe = Closed
failure_of_write kind = Write

-- what a read comes to
abbrev pub settled_read : Result ℕ Error → Result ℕ Failure
settled_read (Ok n) = Ok n
settled_read (Err e) = Err Read

-- what a write comes to, where `least` bytes at least were to be written
abbrev pub settled_write : Result ℕ Error → ℕ → Result ℕ Failure
settled_write (Ok n) least = if nat_le least n then Ok n else Err Write
settled_write (Err e) least = Err (failure_of_write (error_kind e))

-- a count of failures after one more; it counts modulo 2 ^ 64, so that it never stands still
abbrev pub one_more : ℕ → ℕ
one_more n = (n + 1) % 2 ^ 64

-- a failure of a write
abbrev pub IsOfWriting : Failure → Type 0
IsOfWriting Read = ⊥
IsOfWriting Write = Unit {0}
IsOfWriting Closed = Unit {0}

-- how many failures a stream has had, before a call and after it
abbrev pub Counts : Type 0
Counts = ℕ × ℕ

-- the stream failed within the call, which ended with that
abbrev pub FailedIn : Counts → Type 0
FailedIn counts = counts.1 ≡ one_more counts.0
