use Rattle.std.proofs.Common.{Err}
use Rattle.pisdf_meaning.proofs.AtActors.{element_of}
use Rattle.pisdf_meaning.proofs.Iterating.{can_run, top_ends, top_gives, top_nests, top_underway}
use Rattle.pisdf_meaning.proofs.Passing.{passed_on, refused-map}
use Rattle.pisdf_meaning.proofs.iteration.iterate_from.Goals as goal

pub fire_graph-requires-clause-can : goal.fire_graph-requires-clause-can
fire_graph-requires-clause-can g c = can_run _ c.args.graphs.now c.requires.valid c.requires.runnable

pub fire_graph-requires-clause-nested : goal.fire_graph-requires-clause-nested
fire_graph-requires-clause-nested g c = top_nests c.args.graphs.now c.args.ins.now c.args.delays.now.lists c.index-items-graphs.result c.in_ok-firing.firing (element_of c.items.result.now c.args.graphs.now.graphs c.args.graphs.now.top c.index-items-graphs.result c.items.ensures c.requires.valid.in_range.top c.index-items-graphs.is) c.in_ok-firing.ensures c.most_nested-levels.result c.most_nested-levels.ensures c.requires.runnable.nests

pub fire_graph-requires-clause-early : goal.fire_graph-requires-clause-early
fire_graph-requires-clause-early g c = (top_underway c.args.graphs.now c.args.ins.now c.args.delays.now.lists c.index-items-graphs.result c.in_ok-firing.firing (element_of c.items.result.now c.args.graphs.now.graphs c.args.graphs.now.top c.index-items-graphs.result c.items.ensures c.requires.valid.in_range.top c.index-items-graphs.is) c.in_ok-firing.ensures _ c.args.early.now c.requires.valid c.requires.runnable c.requires.known c.requires.sound).early_is

pub fire_graph-requires-clause-sound : goal.fire_graph-requires-clause-sound
fire_graph-requires-clause-sound g c = (top_underway c.args.graphs.now c.args.ins.now c.args.delays.now.lists c.index-items-graphs.result c.in_ok-firing.firing (element_of c.items.result.now c.args.graphs.now.graphs c.args.graphs.now.top c.index-items-graphs.result c.items.ensures c.requires.valid.in_range.top c.index-items-graphs.is) c.in_ok-firing.ensures _ c.args.early.now c.requires.valid c.requires.runnable c.requires.known c.requires.sound).sound

pub returns-in_err-given-clause-refused : goal.returns-in_err-given-clause-refused
returns-in_err-given-clause-refused g c =
    passed_on _ c.from_residual-in_err-given.result c.in_err-given.field-0.0 c.from_residual-in_err-given.ensures.1
    (refused-map _ _ (λ refusal means. top_ends c.args.graphs.now c.args.ins.now c.args.delays.now.lists c.index-items-graphs.result c.in_ok-firing.firing (element_of c.items.result.now c.args.graphs.now.graphs c.args.graphs.now.top c.index-items-graphs.result c.items.ensures c.requires.valid.in_range.top c.index-items-graphs.is) c.in_ok-firing.ensures c.most_nested-levels.result c.most_nested-levels.ensures (Err refusal) means) c.in_err-given.field-0.0 c.in_err-given.ensures.means)

pub returns-clause-gives : goal.returns-clause-gives
returns-clause-gives g c = top_gives c.args.graphs.now c.args.ins.now c.args.delays.now.lists c.index-items-graphs.result c.in_ok-firing.firing (element_of c.items.result.now c.args.graphs.now.graphs c.args.graphs.now.top c.index-items-graphs.result c.items.ensures c.requires.valid.in_range.top c.index-items-graphs.is) c.in_ok-firing.ensures c.most_nested-levels.result c.most_nested-levels.ensures c.in_ok-given.given c.in_ok-given.ensures.means
