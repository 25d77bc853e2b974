use Rattle.std.proofs.Common.{◌+◌, ◌++◌, List, drop, Vec, Global, ap, sym, ◌∙◌, arith}
use Rattle.std.specs.declared.collections.VecDeque.{VecDeque}
use Rattle.std.proofs.lemmas.List.{drop-drop}
use Rattle.pisdf_meaning.specs.declared.outcome.TraceRow.{TraceRow}
use Rattle.pisdf_meaning.proofs.GivenParts.{configuration_rows, level_rows, rows_here}
use Rattle.pisdf_meaning.proofs.giving.push_child_rows.Goals as goal
use Rattle.pisdf_meaning.proofs.giving.push_child_rows.Goals.{then-is_configuration+in_ok-append_rows, else-is_configuration+in_ok-append}

pub loop-actor-preserved : goal.loop-actor-preserved
loop-actor-preserved c =
    let i = c.loop-actor.actor-index in
    let x = c.actor-item.result in
    let items = λ (v : Vec TraceRow Global). v.items in
    let queued = λ (v : VecDeque (Vec TraceRow Global) Global). v.items in
    let kept = c.loop-actor.invariant.rows in
    let all : List (Vec TraceRow Global) = c.from_vec-own.result.items in
    elim c.if-is_configuration.branch [
      | then-is_configuration+in_ok-append_rows w ↦ record {
        few = let n = w.number-is in let few = c.loop-actor.invariant.few in omega arith;
        rows = (
          kept.0,
          ap queued w.own-is ∙ kept.1,
          λ counts traces have.
              configuration_rows c.args.actors.now i x c.loop-actor-test.true c.actor-item.is c.args.configured.now c.loop-actor.number c.loop-actor.rows.items c.if-is_configuration.rows.items _ counts traces kept.0 (kept.2 counts traces have)
              (sym c.is_configuration.ensures ∙ w.if-is_configuration.true) (ap items w.rows-is ∙ w.in_ok-append_rows.ensures ∙ ap (λ (l : List TraceRow). c.loop-actor.rows.items ++ l) w.trace_left.ensures) c.if-is_configuration.number w.number-is,
        );
      }
      | else-is_configuration+in_ok-append w ↦ record {
        few = let n = w.number-is in let few = c.loop-actor.invariant.few in omega arith;
        rows = (
          kept.0 + 1,
          ap queued w.own-is ∙ w.next_rows-traces.ensures.rest ∙ ap (λ (l : List (Vec TraceRow Global)). drop 1 l) kept.1 ∙ drop-drop 1 kept.0 all,
          λ counts traces have.
              level_rows c.args.actors.now i x c.loop-actor-test.true c.actor-item.is c.args.configured.now c.loop-actor.number c.loop-actor.rows.items c.if-is_configuration.rows.items _ counts traces kept.0 (kept.2 counts traces have)
              (sym c.is_configuration.ensures ∙ w.if-is_configuration.false)
              (ap items w.rows-is ∙ w.in_ok-append.ensures.items ∙ ap (λ (l : List TraceRow). c.loop-actor.rows.items ++ l) (w.next_rows-traces.ensures.taken ∙ rows_here counts traces all c.loop-actor.own.items kept.0 kept.1 have)) c.if-is_configuration.number w.number-is,
        );
      }
    ]
