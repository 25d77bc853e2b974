use Rattle.std.proofs.Common.{◌∙◌, ap, length, sym}
use Rattle.pisdf_model.specs.declared.graph.Graph.{Graph}
use Rattle.pisdf_model.specs.declared.graph.Interface.{Interface}
use Rattle.quiescent_driver.proofs.Runs.{top_is, top_there}
use Rattle.quiescent_driver.proofs.unfolded.needs_of.Goals as goal

pub returns-in-Ok-clause-fit : goal.returns-in-Ok-clause-fit
returns-in-Ok-clause-fit c =
    let top = top_there c.args.graphs.now c.requires.valid.in_range.top in
    c.in-Ok.ensures.fit top.0 top.1 ∙ sym (ap (λ (t : Graph). length {A = Interface} t.inputs) (top_is c.args.graphs.now top.0 top.1))
