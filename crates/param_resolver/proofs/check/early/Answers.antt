use Rattle.std.proofs.Common.{sym, subst}
use Rattle.pisdf_model.specs.declared.graph.Graph.{Graph}
use Rattle.std.proofs.Common.{List}
use Rattle.param_resolver.specs.Resolvable.{AreResolvable, IsNestedWithin}
use Rattle.param_resolver.proofs.Sound.{nested, resolvable}
use Rattle.param_resolver.proofs.check.early.Goals as goal

pub early_within-requires-clause-resolvable : goal.early_within-requires-clause-resolvable
early_within-requires-clause-resolvable c = subst (λ (gs : List Graph). AreResolvable gs) (sym c.items.ensures) (resolvable c.args.graphs.now c.requires.valid.in_range c.requires.valid.well_formed)

pub early_within-requires-clause-nested : goal.early_within-requires-clause-nested
early_within-requires-clause-nested c = subst (λ (gs : List Graph). IsNestedWithin gs 8 c.args.graph) (sym c.items.ensures) (nested c.args.graphs.now c.requires.valid.in_range c.requires.valid.well_formed c.args.graph c.requires.there)
