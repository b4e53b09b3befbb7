use Rattle.std.proofs.Common.{◌≡◌, ◌++◌, string_bytes, take}
use Rattle.std.specs.List.{flat_map}
use Rattle.log_words.specs.Index.{IsIndexOf}
use Rattle.main_text.specs.Links.{link_text}
use Rattle.main_text.proofs.links.add_links.Given as goal

abbrev pub invariant-loop-link : goal.invariant-loop-link
invariant-loop-link l =
    IsIndexOf l.index l.log →
    string_bytes l.text ≡ string_bytes l.fn.text ++ flat_map (link_text l.contents l.log l.lines l.whole) (take l.link-index l.links)
