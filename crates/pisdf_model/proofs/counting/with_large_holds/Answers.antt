use Rattle.std.proofs.Common.{◌∙◌}
use Rattle.pisdf_model.proofs.Holds.{with_large}
use Rattle.pisdf_model.proofs.counting.with_large_holds.Goals as goal

pub returns : goal.returns
returns c = with_large c.args.graphs.now c.deref.result.now c.in_ok-large.large.items (c.deref.ensures.value ∙ c.in_ok-own.ensures) c.in_ok-large.ensures
