use Rattle.std.proofs.Common.{◌≡◌, ℕ, Vec, Global, ℤ, List, not, ap, sym, ◌∙◌}
use Rattle.param_resolver.specs.Numbering.{feeds_configuration}
use Rattle.pisdf_meaning.specs.States.{tokens_at}
use Rattle.pisdf_meaning.proofs.SourceInputs.{with_source, without_source}
use Rattle.pisdf_meaning.proofs.sources.source_tokens.Goals as goal
use Rattle.pisdf_meaning.proofs.sources.source_tokens.Goals.{then-not-feeds_configuration+in_ok-copy_tokens+in_ok-push, else-not-feeds_configuration}

pub loop-interface-preserved : goal.loop-interface-preserved
loop-interface-preserved c =
    let g = c.args.graph.now in
    let inputs : List (List ℤ) = c.args.firing.now.inputs in
    let i = c.loop-interface.interface in
    elim c.if-not-feeds_configuration.branch [
      | then-not-feeds_configuration+in_ok-copy_tokens+in_ok-push w ↦
          with_source (λ (i : ℕ). tokens_at inputs i) (λ (i : ℕ). not (feeds_configuration g i)) i c.loop-interface.sources.items c.if-not-feeds_configuration.sources.items w.in_ok-copy_tokens.field-0
          (ap not (sym c.feeds_configuration.ensures ∙ w.if-not-feeds_configuration.true)) c.loop-interface.invariant
          (w.in_ok-copy_tokens.ensures ∙ w.tokens_at-tokens.ensures ∙ ap (λ (l : List (List ℤ)). tokens_at l i) w.items.ensures)
          (ap (λ (v : Vec (List ℤ) Global). v.items) w.sources-is ∙ w.in_ok-push.ensures.items)
      | else-not-feeds_configuration w ↦
          let same : c.if-not-feeds_configuration.sources.items ≡ c.loop-interface.sources.items = ap (λ (v : Vec (List ℤ) Global). v.items) w.sources-is in
          same ∙ without_source (λ (i : ℕ). tokens_at inputs i) (λ (i : ℕ). not (feeds_configuration g i)) i c.loop-interface.sources.items
          (ap not (sym c.feeds_configuration.ensures ∙ w.if-not-feeds_configuration.false)) c.loop-interface.invariant
    ]
