use Rattle.std.proofs.Common.{sym}
use Rattle.pisdf_meaning.proofs.Fitting.{none_inherited}
use Rattle.unfold_rates.proofs.exactness.known_early.Goals as goal

pub early-requires-clause-inherited : goal.early-requires-clause-inherited
early-requires-clause-inherited c = sym (none_inherited c.args.graphs.now c.requires.in_range c.requires.well_formed)
