use Rattle.std.proofs.Common.{◌≡◌, [], drop}
use Rattle.event_log.specs.Words.{births}
use Rattle.log_words.specs.Index.{IsIndexOf}
use Rattle.endpoint_text.specs.Nodes.{copies_from, seen_of}
use Rattle.endpoint_text.proofs.copies.copies_at.Given as goal

-- the copies so far and the entries that are left give those of the whole log
abbrev pub invariant-loop-place : goal.invariant-loop-place
invariant-loop-place l =
    IsIndexOf l.index l.log →
    copies_from (births l.log) (seen_of l.site) l.objects.items (drop l.place l.before) ≡ copies_from (births l.log) (seen_of l.site) [] l.before
