use Rattle.std.proofs.Common.{length}
use Rattle.pisdf_model.specs.Nesting.{child_lists, nested_over}
use Rattle.pisdf_model.proofs.Holding.{inside_holds, read_holds, place_inside, as_many, first_deep}
use Rattle.pisdf_model.proofs.nesting.depth.Goals as goal

pub nested_over-requires : goal.nested_over-requires
nested_over-requires c =
    rw (read_holds c.args.graphs.now c.items.result.now c.in_ok-child_lists.child_lists.items c.deref.result.now c.items.ensures c.in_ok-child_lists.ensures c.deref.ensures.value)
    (inside_holds c.args.graphs.now c.requires)

pub at_graph-requires : goal.at_graph-requires
at_graph-requires c =
    let is = read_holds c.args.graphs.now c.items.result.now c.in_ok-child_lists.child_lists.items c.deref.result.now c.items.ensures c.in_ok-child_lists.ensures c.deref.ensures.value in
    place_inside (length c.deref-2.result.now) (length c.args.graphs.now.graphs) c.first_marked.result
    (as_many c.args.graphs.now 8 c.deref.result.now c.in_ok-marks.marks.items c.deref-2.result.now is c.in_ok-marks.ensures c.deref-2.ensures.value)
    c.first_marked.ensures.inside

pub returns : goal.returns
returns c =
    let is = read_holds c.args.graphs.now c.items.result.now c.in_ok-child_lists.child_lists.items c.deref.result.now c.items.ensures c.in_ok-child_lists.ensures c.deref.ensures.value in
    record {
      answer = c.at_graph.ensures (nested_over (child_lists c.args.graphs.now) 8)
          (first_deep c.args.graphs.now 8 c.deref.result.now c.in_ok-marks.marks.items c.deref-2.result.now is c.in_ok-marks.ensures c.deref-2.ensures.value c.first_marked.result c.first_marked.ensures.first);
    }
