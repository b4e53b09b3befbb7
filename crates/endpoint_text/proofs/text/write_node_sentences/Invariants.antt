use Rattle.std.proofs.Common.{◌≡◌, ◌≤◌, ◌++◌, string_bytes, drop}
use Rattle.why_text.specs.Moments.{first_moment, moment_of}
use Rattle.endpoint_text.specs.Told.{told}
use Rattle.endpoint_text.specs.Nodes.{seen_of, node_sentence}
use Rattle.endpoint_text.proofs.text.write_node_sentences.Given as goal

-- the text so far with the sentences of the rest, from this moment on; and no more events came than entries
abbrev pub invariant-loop-place : goal.invariant-loop-place
invariant-loop-place l = record {
  written :
      string_bytes l.text
      ++ told (node_sentence l.contents l.log l.lines l.envelopes (seen_of l.site)) l.lines l.log l.place (moment_of l.moment) (drop l.place l.log)
      ≡ string_bytes l.fn.text ++ told (node_sentence l.contents l.log l.lines l.envelopes (seen_of l.site)) l.lines l.log 0 first_moment l.log;
  counted : l.moment.number ≤ l.place;
}
