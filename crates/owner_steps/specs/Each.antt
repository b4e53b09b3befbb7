-- What is done with each of some own objects.
use Rattle.std.specs.Prelude.{ℕ, ◌-◌}
use Rattle.meaning.specs.Values.{Id}
use Rattle.protocol.specs.Steps.{WorkerContext, each_from, own_id}

-- f with each own object from the one serial to before the other, in order
abbrev pub each_own : (WorkerContext → Id → WorkerContext) → WorkerContext → ℕ → ℕ → WorkerContext
each_own f h from end = each_from (λ g k. f g (own_id g k)) h from (end - from)
