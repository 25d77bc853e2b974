use Rattle.std.proofs.Common.{rules}
use Rattle.job_compiler.proofs.compiling.compile_scheduled.Goals as goal

pub graph_parts-requires-clause-graph : goal.graph_parts-requires-clause-graph
graph_parts-requires-clause-graph c = record {
  counts = c.args.schedule.counts;
  order = c.args.schedule.order;
  repetition = c.requires.schedule.repetition;
  order_is = c.requires.schedule.order;
  expanded = search rules;
}
