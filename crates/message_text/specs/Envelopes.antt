-- The line of a message: who sends it with which number to whom, and what it says.
use Rattle.std.specs.Prelude.{ℕ, ◌+◌, List, [], ◌∷◌, ◌++◌, codes}
use Rattle.std.specs.Fmt.{decimal}
use Rattle.log_words.specs.declared.contents.Contents.{Contents}
use Rattle.protocol_data.specs.declared.message.Envelope.{Envelope}
use Rattle.message_text.specs.Messages.{endpoint_name, message_text}

abbrev pub envelope_head : ℕ → Envelope → List ℕ
envelope_head k l =
    codes "    " ++ (endpoint_name l.sender ++ (codes " sends message " ++ (decimal k ++ (codes " to " ++ (endpoint_name l.receiver ++ codes ": ")))))

-- w1 sends message 3 to w2: Push(a1.1#0, remote(3) sq(7))
abbrev pub envelope_line : Contents → ℕ → Envelope → List ℕ
envelope_line how k l = envelope_head k l ++ (message_text how l.message ++ codes "\n")

-- the messages behind the first k, which have the next numbers
abbrev pub envelopes_text : Contents → ℕ → List Envelope → List ℕ
envelopes_text how k [] = []
envelopes_text how k (l ∷ ls) = envelope_line how (k + 1) l ++ envelopes_text how (k + 1) ls
