use Rattle.pisdf_model.proofs.EachGraph.{not_each, one_more}
use Rattle.pisdf_model.proofs.range.each_graph_in_range.Goals as goal

pub returns-then-not-graph_in_range : goal.returns-then-not-graph_in_range
returns-then-not-graph_in_range c =
    not_each c.args.version c.args.top c.args.graphs.now c.loop-number.number c.index-graphs-number.result c.graph_in_range.result c.loop-number-test.true c.index-graphs-number.is c.graph_in_range.ensures c.if-not-graph_in_range.true

pub loop-number-preserved : goal.loop-number-preserved
loop-number-preserved c =
    one_more c.args.version c.args.top c.args.graphs.now c.loop-number.number c.index-graphs-number.result c.loop-number-test.true c.index-graphs-number.is (c.graph_in_range.ensures.0 c.if-not-graph_in_range.false) c.loop-number.invariant
