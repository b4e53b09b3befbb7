use Rattle.std.proofs.Common.{◌≡◌, ◌++◌, string_bytes, take}
use Rattle.std.specs.List.{flat_map}
use Rattle.log_words.specs.Contents.{other_content}
use Rattle.log_words.proofs.contents.write_other_contents.Given as goal

abbrev pub invariant-loop-content : goal.invariant-loop-content
invariant-loop-content l = string_bytes l.text ≡ string_bytes l.fn.text ++ flat_map (other_content l.contents) (take l.content-index l.others)
