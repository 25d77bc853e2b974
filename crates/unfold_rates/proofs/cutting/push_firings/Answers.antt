use Rattle.std.proofs.Common.{◌+◌, ◌<◌, List, ◌++◌, ap, ◌∙◌, arith}
use Rattle.pisdf_meaning.specs.declared.outcome.TraceRow.{TraceRow}
use Rattle.pisdf_meaning.specs.Endings.{child_path}
use Rattle.unfold_rates.specs.Cut.{firings_rows, moved_rows}
use Rattle.unfold_rates.proofs.FiringRows.{firings_more, pushed_more, span_moved, span_passes}
use Rattle.unfold_rates.proofs.cutting.push_firings.Goals as goal

pub push_firing-requires : goal.push_firing-requires
push_firing-requires c =
    let picked = c.requires.picked.2 in
    let inside : c.args.first + c.loop-turn.turn < c.requires.picked.0 = let a = c.requires.picked.1 in let t = c.loop-turn-test.true in omega arith in
    span_passes c.args.rows.now c.args.top.now c.args.actor.now c.requires.picked.0 c.args.bounds.now picked (c.args.first + c.loop-turn.turn) inside

pub loop-turn-preserved : goal.loop-turn-preserved
loop-turn-preserved c =
    let picked = c.requires.picked.2 in
    let inside : c.args.first + c.loop-turn.turn < c.requires.picked.0 = let a = c.requires.picked.1 in let t = c.loop-turn-test.true in omega arith in
    let one = span_moved c.args.rows.now c.args.top.now c.args.actor.now c.requires.picked.0 c.args.bounds.now picked (c.args.first + c.loop-turn.turn) inside (child_path c.args.top.now c.args.actor.now c.loop-turn.turn) in
    pushed_more c.args.trace.now.items c.loop-turn.trace.items c.push_firing.new.trace.items (firings_rows c.args.top.now c.args.actor.now c.args.first (c.loop-turn.turn + 1) c.args.rows.now)
    (moved_rows (child_path c.args.top.now c.args.actor.now (c.args.first + c.loop-turn.turn)) (child_path c.args.top.now c.args.actor.now c.loop-turn.turn) c.args.rows.now)
    (firings_rows c.args.top.now c.args.actor.now c.args.first c.loop-turn.turn c.args.rows.now)
    (c.in_ok-push_firing.ensures ∙ ap (λ (l : List TraceRow). c.loop-turn.trace.items ++ l) one) c.loop-turn.invariant
    (firings_more c.args.top.now c.args.actor.now c.args.first c.loop-turn.turn c.args.rows.now)
