use Rattle.std.proofs.Common.{◌==◌, ℕ, ◌∷◌, [], ◌++◌, ap, ◌∙◌}
use Rattle.pisdf_model.specs.Hold.{capped_hold}
use Rattle.graph_format.specs.declared.file.FileGraph.{FileGraph}
use Rattle.graph_reader.specs.Counted.{own_count}
use Rattle.graph_reader.proofs.Numbered.{numbered_push, numbered_all}
use Rattle.graph_reader.proofs.file_counts.own_counts.Goals as goal

pub loop-number-preserved : goal.loop-number-preserved
loop-number-preserved c =
    let f : ℕ × FileGraph → ℕ = λ (n : ℕ × FileGraph). capped_hold (own_count c.args.file.now.version (n.0 == c.args.top) n.1) in
    rw c.in_ok-push.ensures.items
    (ap (λ n. c.loop-number.own.items ++ n ∷ []) c.own_count.ensures
    ∙ numbered_push f c.args.file.now.graphs c.loop-number.number c.graph-item.result c.loop-number.own.items (rw c.items-graph-items.ensures at c.loop-number-test.true) (rw c.items-graph-items.ensures at c.graph-item.is) c.loop-number.invariant)

pub returns : goal.returns
returns c =
    let f : ℕ × FileGraph → ℕ = λ (n : ℕ × FileGraph). capped_hold (own_count c.args.file.now.version (n.0 == c.args.top) n.1) in
    numbered_all f c.args.file.now.graphs c.loop-number.number c.loop-number.own.items (rw c.items-graph-items.ensures at c.loop-number-test.false) c.loop-number.invariant
