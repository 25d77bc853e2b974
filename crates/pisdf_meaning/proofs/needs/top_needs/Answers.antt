use Rattle.std.proofs.Common.{refl, sym, ◌∙◌, []}
use Rattle.param_resolver.specs.EarlyCheck.{early_faults}
use Rattle.pisdf_meaning.proofs.FirstRefusals.{iteration_refused}
use Rattle.pisdf_meaning.proofs.Fitting.{none_inherited}
use Rattle.pisdf_meaning.proofs.needs.top_needs.Goals as goal

pub early-requires-clause-inherited : goal.early-requires-clause-inherited
early-requires-clause-inherited c = sym (none_inherited c.args.graphs.now c.requires.valid.in_range c.requires.valid.well_formed)

pub returns-in_ok-path-in-Err-clause-refused : goal.returns-in_ok-path-in-Err-clause-refused
returns-in_ok-path-in-Err-clause-refused c =
    let graphs = c.args.graphs.now in
    iteration_refused graphs c.items-all.result.now c.items-all.ensures c.index-all-graphs.result (c.index-all-graphs.is) c.in_ok-path-in-Err.path (c.in_ok-path-in-Err.ensures ∙ c.in_ok-copy_name-in-Err.ensures) (early_faults graphs.graphs graphs.top []) refl [] c.early_refused.result
    (c.early_refused.ensures (early_faults graphs.graphs graphs.top []) [] c.in-Err.ensures.first_fault)
