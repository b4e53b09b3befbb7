-- What a log is read beside.
use Rattle.std.specs.Prelude.{ℕ, Option}
use Rattle.script_laws.specs.of_meaning.Syntax.{Script}

-- to whom a message goes
pub data Receiver : Type 0 where
  ToWorker : (w : ℕ) → Receiver
  ToNode : (n : ℕ) → Receiver

-- the script, the number of the cluster's first nodes, and the network, which says to whom each message goes that was sent
pub record Setting : Type 0 where
  pub script : Script
  pub nodes : ℕ
  pub receiver : ℕ → Option Receiver
