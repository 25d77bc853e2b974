use Rattle.std.proofs.Common.{true, false, sym, ◌∙◌}
use Rattle.std.proofs.lemmas.Bool.{false≢true}
use Rattle.one_job.proofs.Sides.{both_sides}
use Rattle.one_job.proofs.ready.ReadyNodes.is_empty.Goals as goal

pub returns-then-is_empty : goal.returns-then-is_empty
returns-then-is_empty c = (
  λ yes b n holds. both_sides c.args.self.now (c.is_empty.ensures.0 c.if-is_empty.true) (c.is_empty-then-is_empty.ensures.0 yes) b n holds,
  λ none. c.is_empty-then-is_empty.ensures.1 (none true),
)

pub returns-else-is_empty : goal.returns-else-is_empty
returns-else-is_empty c = (
  λ yes b n holds. absurd (false≢true (sym c.if-is_empty.false ∙ yes)),
  λ none. c.is_empty.ensures.1 (none false),
)
