-- What nodes read, by their kinds.
use Rattle.std.proofs.Common.{◌≡◌, ℕ, ℤ, List, [], ◌∷◌, Option, Some, None, refl, ap, ◌∙◌}
use Rattle.job_flow.specs.Frames.{Values, arriving_below, inputs, on, ports_in, reads}
use Rattle.job_flow.specs.Graphs.{JobGraph, node_at}
use Rattle.pisdf_meaning.specs.declared.refusal.Refusal.{Refusal}
use Rattle.sdf_level.specs.declared.node.Node.{Node}
use Rattle.sdf_level.specs.declared.node.Node.TheVariants as node
use Rattle.audit_job.specs.Flowing.{stored_in}

-- stored tokens, else what arrives
abbrev pub read_with : Option (List ℤ) → List (List ℤ) → List (List ℤ)
read_with None arriving = arriving
read_with (Some tokens) arriving = tokens ∷ []

module _ (job : JobGraph ℤ) (v : Values ℤ Refusal) (n : ℕ) where
  abbrev pub arrived : Node → List (List ℤ)
  arrived which = arriving_below job.edges (on v job.edges) n (ports_in job which n)

  reads_so : (which : Node) → reads job v which n ≡ read_with (stored_in job which) (arrived which)
  reads_so (node.Source s) = refl
  reads_so (node.Init l) = refl
  reads_so (node.Firing a k) = refl
  reads_so (node.End l) = refl
  reads_so (node.Sink t) = refl
  reads_so (node.Broadcast l) = refl
  reads_so (node.Fork l i) = refl
  reads_so (node.Join l j) = refl
  reads_so (node.Round l) = refl

  pub reads_stored : (which : Node) (tokens : List ℤ) → node_at job.nodes n ≡ which → stored_in job which ≡ Some tokens → inputs job v n ≡ tokens ∷ []
  reads_stored which tokens at is = ap (λ x. reads job v x n) at ∙ reads_so which ∙ ap (λ o. read_with o (arrived which)) is

  pub reads_arriving : (which : Node) → node_at job.nodes n ≡ which → stored_in job which ≡ None → inputs job v n ≡ arrived which
  reads_arriving which at is = ap (λ x. reads job v x n) at ∙ reads_so which ∙ ap (λ o. read_with o (arrived which)) is
