use Rattle.std.proofs.Common.{map, ◌∙◌, subst}
use Rattle.pisdf_model.specs.Names.{repeats}
use Rattle.graph_format.specs.Faults.{Tells}
use Rattle.graph_format.specs.declared.graph_fault.GraphFault.TheVariants.{Duplicate}
use Rattle.graph_reader.proofs.reader.no_duplicate.Goals as goal

pub returns-in-Ok : goal.returns-in-Ok
returns-in-Ok c = subst (λ names. Tells (map Duplicate (repeats names)) c.told.result) (c.as_slice.ensures.value ∙ c.in-Ok.ensures) (c.told.ensures (repeats c.as_slice.result.now) c.repeat.ensures)
