-- What is known of an attempt, as contracts see it.
use Rattle.std.specs.Prelude.{map}
use Rattle.values.specs.Values.{content_of}
use Rattle.kept_frames.specs.declared.known.Known.{Known}
use Rattle.kept_frames.specs.Known.{KnownData}

abbrev pub data_of : Known → KnownData
data_of k = record { attempt = k.attempt; spec = k.spec; base = k.base; births = k.births; prints = k.prints; answers = map content_of k.answers.items }
