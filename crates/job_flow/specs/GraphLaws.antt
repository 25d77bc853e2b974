-- The laws of single-rate graphs, by number, in one.
use Rattle.single_rate.specs.Tiers.{NodesAreFound, NodesStandOnce, FiringsAreThere, FiringsStandInOrder, FiringsAreAll, GraphsHaveTiers, EndsAreThere, EdgesHaveTokens, NamesHaveLengths}
use Rattle.single_rate.specs.Ports.{EdgesHavePorts, PortsAreUsed}

pub record GraphLaws : Type 0 where
  pub found : NodesAreFound
  pub once : NodesStandOnce
  pub there : FiringsAreThere
  pub stands : FiringsStandInOrder
  pub all : FiringsAreAll
  pub tiers : GraphsHaveTiers
  pub ends : EndsAreThere
  pub tokens : EdgesHaveTokens
  pub names_fit : NamesHaveLengths
  pub ports : EdgesHavePorts
  pub used : PortsAreUsed
