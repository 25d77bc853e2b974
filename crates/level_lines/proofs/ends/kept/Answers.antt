use Rattle.std.proofs.Common.{◌≡◌, ◌<◌, length, ap, ◌∙◌, arith}
use Rattle.sdf_level.specs.Lists.{lists_of}
use Rattle.sdf_level.specs.View.{LevelView}
use Rattle.level_lines.proofs.Leaves.{kept_step}
use Rattle.level_lines.proofs.ends.kept.Goals as goal

pub loop-sink-preserved : goal.loop-sink-preserved
loop-sink-preserved c =
    let sinks : c.items-sinks.result.now ≡ c.args.level.now.sinks = c.items-sinks.ensures ∙ ap (λ (v : LevelView). v.sinks) c.level.view_is in
    let links : c.items.result.now ≡ c.args.level.now.links = c.items.ensures ∙ ap (λ (v : LevelView). v.links) c.level.view_is in
    let inside : c.loop-sink.sink < length c.args.level.now.sinks = rw (← sinks) (let t = c.loop-sink-test.true in omega arith) in
    kept_step c.args.level.now.sinks c.items-sinks.result.now c.args.level.now.links c.items.result.now (lists_of c.args.lines.now) c.loop-sink.sink c.loop-sink.lists.items c.push.new.self.items
    c.written_to-line.result.now c.in_ok-last_of.field-0 sinks links inside c.loop-sink.invariant c.written_to-line.ensures c.in_ok-last_of.ensures c.in_ok-push.ensures.items
