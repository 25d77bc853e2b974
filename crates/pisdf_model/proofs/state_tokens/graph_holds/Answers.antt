use Rattle.std.proofs.Common.{◌∙◌}
use Rattle.pisdf_model.proofs.Holds.{all_holds}
use Rattle.pisdf_model.proofs.state_tokens.graph_holds.Goals as goal

pub returns : goal.returns
returns c =
    all_holds c.args.graphs.now c.deref.result.now c.in_ok-holds.holds.items c.deref-2.result.now (c.deref.ensures.value ∙ c.in_ok-own.ensures) (c.deref-2.ensures.value ∙ c.in_ok-children.ensures) c.in_ok-holds.ensures
