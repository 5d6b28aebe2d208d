-- The network that lies in the tables that a caller lends, by which contracts name it. Its closures are given as the list that they are.
use Rattle.std.specs.Prelude.{List}
use Rattle.model.specs.Network.{Network, network}
use Rattle.model.specs.declared.closure.Closure.{Closure}
use Rattle.model.specs.declared.network.Network.{Network as Lent}

abbrev pub lent_network : Lent → List Closure → Network
lent_network lent closures =
    network lent.junctions lent.fences.now lent.tails.now lent.heads.now lent.lengths.now lent.holds.now lent.speeds.now closures
