use Rattle.std.proofs.Common.{◌∙◌, ap, length, sym}
use Rattle.std.specs.Arc.{arc_value}
use Rattle.quiescent_driver.proofs.Groups.{as_many_inputs}
use Rattle.quiescent_driver.proofs.unfolded.begin_in_groups.Goals as goal

pub run_groups-requires-clause-fit : goal.run_groups-requires-clause-fit
run_groups-requires-clause-fit g c = λ lives within.
    ap length c.items.ensures ∙ (rw c.deref.ensures at c.in-Ok.ensures.fit) ∙ as_many_inputs (arc_value c.args.graphs.now) c.args.unfolded.now c.requires.stands ∙ sym c.requires.fit
