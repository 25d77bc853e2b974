use Rattle.std.proofs.Common.{rules, arith, length, ap, ◌∙◌}
use Rattle.sdf_level.specs.declared.single_rate.SingleRate.{SingleRate}
use Rattle.worker_mapping.specs.Costs.{pairs_of}
use Rattle.job_compiler.proofs.SoundEdges.{pair_ends, pairs_rise, sizes_within}
use Rattle.job_report.proofs.OneReport.{bounds_of, only_report}
use Rattle.job_report.proofs.report.report_on.Goals as goal

pub node_costs-requires-clause-fits : goal.node_costs-requires-clause-fits
node_costs-requires-clause-fits c = rw c.items-edges.ensures (let within = sizes_within c.graph-graph.result.now c.graph-graph.ensures.expanded.sound in omega arith)

pub report-requires-clause-edges : goal.report-requires-clause-edges
report-requires-clause-edges c = rw (c.deref.ensures.value, c.in_ok-pairs.ensures, c.items-edges.ensures, c.items.ensures) (pair_ends c.graph-graph.result.now c.graph-graph.ensures.expanded.sound)

pub report-requires-clause-rising : goal.report-requires-clause-rising
report-requires-clause-rising c = rw (c.deref.ensures.value, c.in_ok-pairs.ensures, c.items-edges.ensures, c.items-2.ensures) (pairs_rise c.graph-graph.result.now c.graph-graph.ensures.expanded.sound)

pub returns-clause-report : goal.returns-clause-report
returns-clause-report c = search rules

pub returns-clause-only : goal.returns-clause-only
returns-clause-only c = only_report c.args.job.now (rw c.graph-graph.ensures.value at c.graph-graph.ensures.expanded.sound) c.report.result (returns-clause-report c)

pub returns-clause-bounds : goal.returns-clause-bounds
returns-clause-bounds c =
    let costs = rw (c.items-edges.ensures, c.items.ensures) at c.in_ok-costs.ensures in
    bounds_of c.args.job.now (length c.items.result.now) c.deref.result.now c.deref-2.result.now c.workers.result c.report.result
    (ap length (c.items.ensures ∙ ap (λ (g : SingleRate). g.nodes) c.graph-graph.ensures.value))
    (c.deref.ensures.value ∙ c.in_ok-pairs.ensures ∙ ap pairs_of (c.items-edges.ensures ∙ ap (λ (g : SingleRate). g.edges) c.graph-graph.ensures.value))
    c.workers.ensures
    (rw c.deref-2.ensures.value (rw c.graph-graph.ensures.value at costs))
    c.report.ensures.feasible c.report.ensures.no_shorter c.report.ensures.no_faster c.report.ensures.no_longer
