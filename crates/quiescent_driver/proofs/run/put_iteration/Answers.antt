use Rattle.std.proofs.Common.{ap, ◌∙◌}
use Rattle.pisdf_model.specs.declared.graph.Graph.{Graph}
use Rattle.quiescent_driver.specs.Texts.{iteration_text}
use Rattle.quiescent_driver.specs.Top.{top_of}
use Rattle.quiescent_driver.proofs.Runs.{grows_as, grows_partly_as}
use Rattle.quiescent_driver.proofs.run.put_iteration.Goals as goal

pub returns-in-Ok-put_text-clause-puts : goal.returns-in-Ok-put_text-clause-puts
returns-in-Ok-put_text-clause-puts g c =
    let text = c.as_slice.ensures.value ∙ c.in-Ok.ensures
    ∙ ap (λ outputs. iteration_text c.args.number outputs c.args.iteration.now) (c.items.ensures ∙ ap (λ (t : Graph). t.outputs) (c.top_of-top.ensures ∙ ap top_of c.deref.ensures)) in
    grows_as _ _ _ _ text c.in-Ok-put_text.ensures.puts.all

pub returns-clause-puts : goal.returns-clause-puts
returns-clause-puts g c =
    let text = c.as_slice.ensures.value ∙ c.in-Ok.ensures
    ∙ ap (λ outputs. iteration_text c.args.number outputs c.args.iteration.now) (c.items.ensures ∙ ap (λ (t : Graph). t.outputs) (c.top_of-top.ensures ∙ ap top_of c.deref.ensures)) in
    (c.in-Err.ensures.puts.failed, grows_partly_as _ _ _ _ text c.in-Err.ensures.puts.beginning)
