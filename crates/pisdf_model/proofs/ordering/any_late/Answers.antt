use Rattle.std.proofs.Common.{◌∙◌}
use Rattle.pisdf_model.proofs.Late.{late_by_marks}
use Rattle.pisdf_model.proofs.ordering.any_late.Goals as goal

pub returns : goal.returns
returns c =
    let no_cycle = rw c.requires.refers at c.requires.no_cycle in
    let inside = rw c.requires.refers at c.requires.places in
    let exact = rw c.requires.refers at c.in_ok-marks.ensures.exact in
    c.any_chosen.ensures ∙ rw c.deref.ensures.value (late_by_marks c.args.graph.now no_cycle c.args.places.now c.in_ok-marks.marks.items inside exact)
