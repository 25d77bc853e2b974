use Rattle.std.proofs.Common.{rules, arith}
use Rattle.job_compiler.proofs.SoundEdges.{sizes_within}
use Rattle.job_report.proofs.OneOrdering.{apart_of, few_parts, homes_there, only_ordering}
use Rattle.job_report.proofs.ordering.ordering_of.Goals as goal

pub ordered-requires-clause-workers : goal.ordered-requires-clause-workers
ordered-requires-clause-workers c = rw (c.graph.ensures.value, c.mapping.ensures.value, c.workers.ensures) (homes_there c.args.job.now c.level.ensures.kept.mapped)

pub ordered-requires-clause-few : goal.ordered-requires-clause-few
ordered-requires-clause-few c = rw c.graph.ensures.value (few_parts c.args.job.now c.level.ensures.kept)

pub ordered-requires-clause-sum : goal.ordered-requires-clause-sum
ordered-requires-clause-sum c = let within = sizes_within c.graph.result.now c.graph.ensures.expanded.sound in omega arith

pub returns-clause-ordering : goal.returns-clause-ordering
returns-clause-ordering c = search rules

pub returns-clause-only : goal.returns-clause-only
returns-clause-only c = only_ordering c.args.job.now c.ordered.result (returns-clause-ordering c) (rw (c.graph.ensures.value, c.mapping.ensures.value, c.workers.ensures) at c.ordered.ensures.only_orders)

pub returns-clause-apart : goal.returns-clause-apart
returns-clause-apart c = apart_of c.args.job.now c.ordered.result (rw c.graph.ensures.value at c.ordered.ensures.apart) (rw c.graph.ensures.value at c.ordered.ensures.possible)
