use Rattle.std.proofs.Common.{◌+◌, get_or, [], drop, sym, ap, ◌∙◌}
use Rattle.std.proofs.lemmas.List.{drop-drop}
use Rattle.job_preparing.specs.Handing.{with_traces}
use Rattle.graph_firing.specs.Nodes.Parts.{flat}
use Rattle.graph_firing.proofs.OfNodes.GivenStates.{config_rows, level_rows, rows_here, trace_at}
use Rattle.graph_firing.proofs.nodes.tracing.append_traces.Goals as goal
use Rattle.graph_firing.proofs.nodes.tracing.append_traces.Goals.{then-is_configuration, else-is_configuration}

pub loop-actor-preserved : goal.loop-actor-preserved
loop-actor-preserved c =
    let i = c.loop-actor.actor-index in
    let actors = c.args.actors.now in
    let x = c.actor-item.result in
    let was = c.loop-actor.invariant.rows in
    let b = was.0 in
    let n = was.1 in
    let lists = c.from_vec-left.result.items in
    elim c.if-is_configuration.branch [
      | then-is_configuration w ↦ record {
        rows = (
          b,
          n + 1,
          rw w.own-is was.2,
          rw w.left-is (w.next_trace-more.ensures.rest ∙ ap (drop 1) was.3 ∙ drop-drop 1 n lists),
          λ counts traces configured long have. config_rows actors i x c.loop-actor-test.true c.actor-item.is (drop n (with_traces configured lists)) c.loop-actor.rows c.if-is_configuration.rows w.next_trace-more.result _ counts traces b
              (was.4 counts traces configured long have) (w.rows-is ∙ w.append.ensures)
              (sym c.is_configuration.ensures ∙ w.if-is_configuration.true)
              (w.next_trace-more.ensures.taken ∙ ap (λ l. get_or l 0 []) was.3 ∙ sym (trace_at configured lists n long))
              (drop (n + 1) (with_traces configured lists)) (sym (drop-drop 1 n (with_traces configured lists))),
        );
      }
      | else-is_configuration w ↦ record {
        rows = (
          b + 1,
          n,
          rw w.own-is (w.next_traces-traces.ensures.rest ∙ ap (drop 1) was.2 ∙ drop-drop 1 b c.from_vec-own.result.items),
          rw w.left-is was.3,
          λ counts traces configured long have. level_rows actors i x c.loop-actor-test.true c.actor-item.is (drop n (with_traces configured lists)) c.loop-actor.rows c.if-is_configuration.rows (flat w.next_traces-traces.result.items) _ counts traces b
              (was.4 counts traces configured long have) (w.rows-is ∙ w.append_all.ensures)
              (sym c.is_configuration.ensures ∙ w.if-is_configuration.false)
              (ap flat w.next_traces-traces.ensures.taken ∙ rows_here counts traces c.from_vec-own.result.items c.loop-actor.own.items b was.2 have),
        );
      }
    ]
