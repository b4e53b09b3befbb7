use Rattle.std.proofs.Common.{◌≡◌, ◌+◌, ◌++◌, string_bytes, drop}
use Rattle.message_text.specs.Envelopes.{envelopes_text}
use Rattle.message_text.proofs.envelopes.write_envelopes.Given as goal

-- the text so far with the messages that are left, numbered on
abbrev pub invariant-loop-place : goal.invariant-loop-place
invariant-loop-place l =
    string_bytes l.text ++ envelopes_text l.contents (l.before + l.place) (drop l.place l.envelopes) ≡ string_bytes l.fn.text ++ envelopes_text l.contents l.before l.envelopes
