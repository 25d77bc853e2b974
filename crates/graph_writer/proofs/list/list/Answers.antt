use Rattle.std.proofs.Common.{◌∙◌, ap, map, subst}
use Rattle.std.proofs.lemmas.List.{take_all}
use Rattle.std.proofs.lemmas.List.Elements.{All-more}
use Rattle.serde_json.specs.Data.{array}
use Rattle.serde_json.specs.View.{items_of, view}
use Rattle.serde_json.proofs.Views.{view-Array}
use Rattle.graph_writer.proofs.Listed.{shows_on}
use Rattle.graph_writer.proofs.list.list.Goals as goal

pub loop-part-preserved : goal.loop-part-preserved
loop-part-preserved g c = record {
  shown = rw c.in_ok-push.ensures.items
      (shows_on view (g.W.Writer.shown c.args.writer.now) (g.W.Writer.named c.args.writer.now) c.args.parts.now c.loop-part.part-index c.part-item.result c.in_ok-value.value c.loop-part.values.items
      c.loop-part-test.true c.part-item.is c.in_ok-value.ensures.shown c.loop-part.invariant.shown);
  kept = All-more g.W.Writer.IsKept c.args.parts.now c.loop-part.part-index c.part-item.result c.loop-part-test.true c.loop-part.invariant.kept (subst g.W.Writer.IsKept c.part-item.is c.in_ok-value.ensures.kept);
}

pub returns-clause-shown : goal.returns-clause-shown
returns-clause-shown g c =
    view-Array c.loop-part.values
    ∙ ap (λ ds. array (items_of ds)) (c.loop-part.invariant.shown
    ∙ ap (λ ps. map (g.W.Writer.shown c.args.writer.now) (map (g.W.Writer.named c.args.writer.now) ps)) (take_all c.loop-part.part-index c.args.parts.now c.loop-part-test.false))
