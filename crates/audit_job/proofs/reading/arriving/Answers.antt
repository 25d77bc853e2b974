use Rattle.std.proofs.Common.{◌≡◌, ◌++◌, ◌<◌, ℤ, List, length, get_or, sym, ap, ◌∙◌, arith}
use Rattle.job_flow.specs.Frames as flow
use Rattle.pisdf_meaning.specs.declared.refusal.Refusal.{Refusal}
use Rattle.sdf_level.specs.Lists.{lists_of}
use Rattle.sdf_level.specs.declared.single_rate.Edge.{Edge}
use Rattle.audit_job.specs.Flowing.{results_of}
use Rattle.audit_job.specs.Marks.{answers}
use Rattle.audit_job.proofs.Arriving.{arriving_next, brought, filled}
use Rattle.audit_job.proofs.Results.{ok_more}
use Rattle.audit_job.proofs.reading.arriving.Goals as goal

abbrev no_edge : Edge
no_edge = record { tail = 0; tail_port = 0; head = 0; head_port = 0; size = 0 }

pub loop-edge-preserved : goal.loop-edge-preserved
loop-edge-preserved c =
    let v : flow.Values ℤ Refusal = results_of c.args.nodes.now c.args.keeps.now (answers c.args.marks.now) in
    let edge : Edge = get_or c.args.edges.now c.loop-edge.edge-index no_edge in
    let a = c.in_ok-arrive.ensures in
    let were = c.loop-edge.invariant.many in
    record {
      many = a.same_length ∙ were;
      each = λ port below.
          let inside : port < length (lists_of c.loop-edge.lines.items) = omega arith in
          a.each port inside
          ∙ ap (λ l. l ++ brought edge (flow.on_edge v edge) c.args.node port) (c.loop-edge.invariant.each port below)
          ∙ sym (arriving_next c.args.edges.now (flow.on_edge v) c.loop-edge.edge-index no_edge c.args.node port c.loop-edge-test.true);
    }

pub returns : goal.returns
returns c =
    let v : flow.Values ℤ Refusal = results_of c.args.nodes.now c.args.keeps.now (answers c.args.marks.now) in
    let all = filled c.args.edges.now (flow.on_edge v) c.loop-edge.edge-index c.args.node c.args.ports (lists_of c.loop-edge.lines.items) c.loop-edge-test.false c.loop-edge.invariant.many c.loop-edge.invariant.each in
    ok_more _ _ c.as_lists.result (λ lists e. e ∙ all) c.as_lists.ensures
