use Rattle.owed_asks.proofs.AskNumbers.{ask_numbers_are_low}
use Rattle.owed_asks.proofs.law.asks_are_numbered_low.Goals as goal

pub returns : goal.returns
returns c = ask_numbers_are_low
