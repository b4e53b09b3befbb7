use Rattle.std.proofs.Common.{◌≡◌, ◌++◌, string_bytes, take}
use Rattle.std.specs.List.{flat_map}
use Rattle.log_words.specs.Index.{IsIndexOf}
use Rattle.state_text.specs.Nodes.{ask_lines}
use Rattle.state_text.proofs.nodes.write_asks.Given as goal

abbrev pub invariant-loop-key : goal.invariant-loop-key
invariant-loop-key l =
    IsIndexOf l.index l.log →
    string_bytes l.text ≡ string_bytes l.fn.text ++ flat_map (ask_lines l.log l.number) (take l.key-index l.queue)
