-- Where an item that a job offers stands.
use Rattle.std.proofs.Common.{◌≡◌, ℕ, ◌-◌, ◌<◌, ◌≤◌, length, Option, Some, None, refl, ap, subst, arith}
use Rattle.std.specs.Arc.{arc_value}
use Rattle.std.proofs.lemmas.Bool.{le-ltb, lt-ltb}
use Rattle.std.proofs.Common.{List}
use Rattle.pisdf_model.specs.declared.graph.Graph.{Graph}
use Rattle.sdf_level.specs.declared.node.Node.{Node}
use Rattle.audit_job.specs.Jobs.{IsJob, IsPrepared, prepared_of}
use Rattle.audit_job.specs.Marks.{answers}
use Rattle.audit_job.specs.Offering.{early_offer, node_offer, offer_by}
use Rattle.audit_job.specs.declared.job.Job.{Job}
use Rattle.audit_job.specs.declared.job.Nodes.{Nodes}
use Rattle.audit_job.proofs.ItemRules.{count_is}
use Rattle.audit_job.proofs.NodeFlow as flow

pub early_by : (o : Option Nodes) (base w i : ℕ) → i ≤ base → early_offer i ≡ offer_by o base w i
early_by None base w i early = refl
early_by (Some nodes) base w i early = rw (le-ltb base i early) refl

pub node_by : (nodes : Nodes) (base w i : ℕ) → base < i → node_offer nodes w (i - base - 1) i ≡ offer_by (Some nodes) base w i
node_by nodes base w i node = rw (lt-ltb base i node) refl

-- a node of a job has a home and a priority
module _ (graphs : List Graph) (workers : ℕ) (job : Job) (is : IsJob graphs workers job) (nodes : Nodes) (nodes_are : job.nodes ≡ Some nodes) (i : ℕ) (inside : i < length job.marks.items) (after : length job.places.items < i) where
  so : IsPrepared graphs workers job.firing (answers job.marks.items) (Some nodes)
  so = subst (λ (o : Option Nodes). IsPrepared graphs workers job.firing (answers job.marks.items) o) nodes_are is.prepared

  pub node_inside : i - length job.places.items - 1 < length (arc_value nodes.compiled).graph.nodes
  node_inside =
      let many = is.one_each in
      let places = is.places_are.one_each in
      let counted = count_is graphs job.firing (answers job.marks.items) (prepared_of nodes) so.0 in
      let same = ap (λ (l : List Node). length l) (flow.nodes_are graphs workers job.firing nodes so.1.made) in
      omega arith

  pub home_inside : i - length job.places.items - 1 < length (arc_value nodes.compiled).mapping.home
  home_inside = let one = so.1.made.ready.compiled.mapped.homes.one_each in let own = node_inside in omega arith

  pub priority_inside : i - length job.places.items - 1 < length (arc_value nodes.compiled).mapping.priority
  priority_inside = let one = so.1.made.ready.compiled.mapped.priority.one_each in let own = node_inside in omega arith
