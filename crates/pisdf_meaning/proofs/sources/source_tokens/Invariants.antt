use Rattle.std.proofs.Common.{◌≡◌, not, map}
use Rattle.std.specs.List.{filter, range_with_len}
use Rattle.param_resolver.specs.Numbering.{feeds_configuration}
use Rattle.pisdf_meaning.specs.States.{tokens_at}
use Rattle.pisdf_meaning.proofs.sources.source_tokens.Given as goal

-- the tokens of the inputs so far that feed no configuration actor
abbrev pub invariant-loop-interface : goal.invariant-loop-interface
invariant-loop-interface l = l.sources.items ≡ map (λ i. tokens_at l.firing.inputs i) (filter (λ i. not (feeds_configuration l.graph i)) (range_with_len 0 l.interface))
