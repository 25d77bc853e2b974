use Rattle.std.proofs.Common.{List, Vec, Global, ap, sym, ◌∙◌, subst}
use Rattle.sdf_level.specs.Lists.{lists_of}
use Rattle.pisdf_meaning.specs.Running.{HaveRows}
use Rattle.pisdf_meaning.specs.declared.outcome.TraceRow.{TraceRow}
use Rattle.pisdf_meaning.proofs.Recursion.{given_here}
use Rattle.pisdf_meaning.proofs.planning.finished.Goals as goal

pub returns-clause-gives : goal.returns-clause-gives
returns-clause-gives c q traces have =
    let R : List (Vec TraceRow Global) → Type 0 = λ r. HaveRows q traces (lists_of r) in
    let gives = c.in_ok-given_by.ensures q traces (subst R (sym (ap (λ (v : Vec (Vec TraceRow Global) Global). v.items) c.in_ok-end.ensures.rows)) have) in
    gives ∙ given_here c.args.graphs.now.graphs c.items.result.now c.args.graph.now c.args.firing.now c.args.configured.now q traces c.args.plan.now.prepared.values c.items-values.result.now c.args.plan.now.schedule.counts c.items-counts.result.now c.args.plan.now.prepared.parts.level (lists_of c.args.state.lines.items) c.in_ok-end.end.outs c.in_ok-end.end.left c.items.ensures c.items-values.ensures c.items-counts.ensures c.in_ok-end.ensures.end
