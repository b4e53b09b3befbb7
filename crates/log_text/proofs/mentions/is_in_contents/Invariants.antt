use Rattle.std.proofs.Common.{◌≡◌, drop}
use Rattle.std.specs.List.{list_any}
use Rattle.log_text.specs.Mentions.{is_in_content}
use Rattle.log_text.proofs.mentions.is_in_contents.Given as goal

abbrev pub invariant-loop-content : goal.invariant-loop-content
invariant-loop-content l =
    list_any (is_in_content l.object) l.contents ≡ list_any (is_in_content l.object) (drop l.content-index l.contents)
