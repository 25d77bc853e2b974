use Rattle.std.proofs.Common.{◌≡◌, ◌<◌, ◌≤◌, List, length, get_or, ap, sym, ◌∙◌, arith}
use Rattle.pisdf_model.specs.declared.graph.Graph.{Graph}
use Rattle.unfold_rates.specs.Multiplied.{multiplied_at}
use Rattle.unfold_rates.proofs.Lookups.{taken_all, taken_more}
use Rattle.unfold_rates.proofs.multiplying.unfolded_graphs.Goals as goal

pub loop-place-preserved : goal.loop-place-preserved
loop-place-preserved c =
    let all : c.items-graph-items.result.now ≡ c.args.graphs.now.graphs = c.items-graph-items.ensures in
    let inside : c.loop-place.place < length c.args.graphs.now.graphs = rw (← all) c.loop-place-test.true in
    let item : get_or c.args.graphs.now.graphs c.loop-place.place c.graph-item.result ≡ c.graph-item.result = ap (λ (l : List Graph). get_or l c.loop-place.place c.graph-item.result) (sym all) ∙ sym c.graph-item.is in
    let more = taken_more c.args.times c.args.graphs.now.top c.loop-place.place c.graph-item.result c.args.graphs.now.graphs inside in
    let pushed = c.in_ok-push.ensures.items in
    let copied = c.in_ok-copy_of.ensures in
    let before = c.loop-place.invariant in
    cc

pub returns : goal.returns
returns c =
    let all : c.items-graph-items.result.now ≡ c.args.graphs.now.graphs = c.items-graph-items.ensures in
    let over : length c.args.graphs.now.graphs ≤ c.loop-place.place = rw (← all) (let f = c.loop-place-test.false in omega arith) in
    let whole : c.new.result ≡ multiplied_at c.args.times c.args.graphs.now.top c.args.graphs.now.graphs = c.new.ensures ∙ c.loop-place.invariant ∙ taken_all c.args.times c.args.graphs.now.top c.loop-place.place c.args.graphs.now.graphs over in
    ap (λ (l : List Graph). record c.args.graphs.now { graphs = l }) whole
