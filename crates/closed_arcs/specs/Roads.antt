-- The network that lies in the tables of a value of the code, and its roads, by which contracts name them.
use Rattle.model.specs.Closures.{closures_of}
use Rattle.model.specs.Lent.{lent_network}
use Rattle.model.specs.Network.{Network, Roads, roads_of}
use Rattle.closed_arcs.specs.declared.roads.Roads.{Roads as Lent}

abbrev pub network_in : Lent → Network
network_in lent = lent_network lent.network.now (closures_of lent.closures.now)

abbrev pub roads_in : Lent → Roads
roads_in lent = roads_of (network_in lent)
