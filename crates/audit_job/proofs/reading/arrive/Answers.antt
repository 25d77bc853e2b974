use Rattle.std.proofs.Common.{◌≡◌, ◌++◌, ◌<◌, ℤ, [], length, get_or, sym, ap, ◌∙◌, arith}
use Rattle.std.specs.Prelude.{Vec}
use Rattle.std.specs.Global.{Global}
use Rattle.std.specs.Option.{option_map}
use Rattle.std.proofs.lemmas.List.{get_or-map, get_or_read}
use Rattle.job_flow.specs.Frames as flow
use Rattle.job_rules.specs.Items.{node_result}
use Rattle.nested_jobs.specs.Marks as mark
use Rattle.pisdf_meaning.specs.declared.refusal.Refusal.{Refusal}
use Rattle.sdf_level.specs.Lists.{lists_of}
use Rattle.audit_job.specs.Flowing.{results_of}
use Rattle.audit_job.specs.Marks.{answers, mark_of}
use Rattle.audit_job.specs.declared.answer.Mark.TheVariants as stands
use Rattle.audit_job.proofs.ArrivesHere.{arrives_here}
use Rattle.audit_job.proofs.Results.{on_ok}
use Rattle.audit_job.proofs.reading.arrive.Goals as goal

pub returns-then-port-len : goal.returns-then-port-len
returns-then-port-len c =
    let v : flow.Values ℤ Refusal = results_of c.args.nodes.now c.args.keeps.now (answers c.args.marks.now) in
    let lines = c.args.lines.now.items in
    let port = c.args.edge.now.head_port in
    let inside : port < length lines = omega arith in
    let line : c.index_mut.result.now.items ≡ get_or (lists_of lines) port [] =
    ap (λ (w : Vec ℤ Global). w.items) c.index_mut.ensures.value ∙ sym (get_or-map (λ (w : Vec ℤ Global). w.items) lines port c.index_mut.result.now [] inside) in
    let there = get_or_read c.args.marks.now c.args.edge.now.tail c.index-marks-tail.result c.requires.marks c.index-marks-tail.is stands.Free in
    let wrote : get_or (flow.given (option_map (node_result c.keeps_state-keeps.result) (mark.answer_of (mark_of c.index-marks-tail.result)))) c.args.edge.now.tail_port [] ≡ flow.on_edge v c.args.edge.now =
    (λ i. get_or (flow.given (option_map (node_result (c.keeps_state-keeps.ensures i)) (mark.answer_of (mark_of (there i))))) c.args.edge.now.tail_port []) in
    on_ok c.push_written.result
    (λ is. arrives_here v c.args.edge.now c.args.node lines c.push_written.new.line c.if-edge-node.true inside (is ∙ (λ i. line i ++ wrote i)))
    c.push_written.ensures
