use Rattle.std.proofs.Common.{arith}
use Rattle.job_compiler.proofs.SoundEdges.{pair_ends, pairs_rise, sizes_within}
use Rattle.job_compiler.proofs.parts.map_nodes.Goals as goal

pub node_costs-requires-clause-fits : goal.node_costs-requires-clause-fits
node_costs-requires-clause-fits c = rw c.items-2.ensures (let within = sizes_within c.args.graph.now c.requires.sound in omega arith)

pub map-requires-clause-edges : goal.map-requires-clause-edges
map-requires-clause-edges c = rw (c.requires.pairs, c.items.ensures) (pair_ends c.args.graph.now c.requires.sound)

pub map-requires-clause-rising : goal.map-requires-clause-rising
map-requires-clause-rising c = rw (c.requires.pairs, c.items-3.ensures) (pairs_rise c.args.graph.now c.requires.sound)
