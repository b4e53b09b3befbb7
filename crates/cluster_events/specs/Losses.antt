-- Which copies of an object go at a node.
use Rattle.meaning.specs.Values.{Id}
use Rattle.protocol.specs.Stores.{Store, evicted, without_copies}
use Rattle.cluster_events.specs.declared.stores.Loss.{Loss}
use Rattle.cluster_events.specs.declared.stores.Loss.TheVariants.{Evicted, Lost}

-- the store behind it
abbrev pub behind : Loss → Id → Store → Store
behind Evicted o s = evicted s o
behind Lost o s = without_copies s o
