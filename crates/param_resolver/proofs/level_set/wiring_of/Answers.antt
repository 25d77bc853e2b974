use Rattle.std.proofs.Common.{◌≡◌, ◌∙◌, ℕ, List, ap, arith, length}
use Rattle.std.proofs.lemmas.List.{length-map}
use Rattle.param_resolver.specs.Numbering.{source_inputs}
use Rattle.param_resolver.proofs.Counted.{many_fed}
use Rattle.param_resolver.proofs.Leveling.{sources_fit}
use Rattle.param_resolver.proofs.level_set.wiring_of.Goals as goal

pub numbers_of-requires-clause-few_inputs : goal.numbers_of-requires-clause-few_inputs
numbers_of-requires-clause-few_inputs c =
    let many = many_fed c.args.graph.now c.deref-2.result.now (c.deref-2.ensures.value ∙ c.in_ok-fed.ensures) in
    let few = c.requires.few_inputs in
    omega arith

pub numbers_of-requires-clause-few_sources : goal.numbers_of-requires-clause-few_sources
numbers_of-requires-clause-few_sources c =
    let long : length c.in_ok-sources.sources.items ≡ length (source_inputs c.args.graph.now) = ap (λ (l : List ℕ). length l) c.in_ok-sources.ensures ∙ length-map (source_inputs c.args.graph.now) _ in
    sources_fit c.args.graphs.now c.args.graph.now c.len.result c.requires (omega (arith, c.in_ok-sources.sources.ok.0))
