-- The configuration actors of a job, as its items; and the graph that is fired.
use Rattle.std.proofs.Common.{◌≡◌, ℕ, zero, suc, ◌<◌, ◌≤◌, List, [], ◌∷◌, length, map, get_or, slice_get, Some, sym, ap, ◌∙◌, subst}
use Rattle.std.specs.Prelude.{slice_index}
use Rattle.std.proofs.lemmas.List.{get_or_read}
use Rattle.std.proofs.lemmas.Option.{get_or_from_slice_get, slice_get-get_or, slice_get_within}
use Rattle.job_preparing.specs.View.{task_of}
use Rattle.job_rules.specs.Items.{graph_of, no_graph, rule}
use Rattle.job_rules.specs.Meant.{IsFit}
use Rattle.job_rules.specs.Words.{Answer}
use Rattle.nested_jobs.specs.Rules.{Values}
use Rattle.pisdf_meaning.specs.Configuring.{Configuration, configurations}
use Rattle.pisdf_meaning.specs.Nested.{configuration_at}
use Rattle.pisdf_meaning.specs.Sound.{IsConfiguration, actor_at, no_actor}
use Rattle.pisdf_meaning.specs.declared.firing.Firing.{Firing}
use Rattle.pisdf_meaning.proofs.Fitting.{AreFew, few_parts}
use Rattle.pisdf_model.specs.declared.actor.Actor.{Actor}
use Rattle.pisdf_model.specs.Range.{InRange}
use Rattle.pisdf_model.specs.WellFormed.{WellFormed}
use Rattle.pisdf_model.specs.declared.graph.Graph.{Graph}
use Rattle.pisdf_model.specs.declared.graph.Graphs.{Graphs}
use Rattle.audit_job.specs.Jobs.{IsJob}
use Rattle.audit_job.specs.declared.job.Job.{Job}
use Rattle.audit_job.proofs.ItemRules.{rule_before}

-- ---- the graph

-- the graph that is fired, found among the graphs
pub graph_found : (graphs : List Graph) (firing : Firing) → IsFit graphs firing → (items : List Graph) (n : ℕ) (x : Graph) → items ≡ graphs → n ≡ firing.graph → x ≡ get_or items n x → x ≡ graph_of graphs firing
graph_found graphs firing fit items n x all at is =
    is ∙ ap (λ (l : List Graph). get_or l n x) all ∙ ap (λ m. get_or graphs m x) at
    ∙ get_or_from_slice_get graphs firing.graph fit.g x fit.here ∙ sym (get_or_from_slice_get graphs firing.graph fit.g no_graph fit.here)

pub graph_here : (graphs : List Graph) (firing : Firing) → IsFit graphs firing → slice_get graphs firing.graph ≡ Some (graph_of graphs firing)
graph_here graphs firing fit = fit.here ∙ ap Some (sym (get_or_from_slice_get graphs firing.graph fit.g no_graph fit.here))

pub graph_inside : (graphs : List Graph) (firing : Firing) → IsFit graphs firing → firing.graph < length graphs
graph_inside graphs firing fit = slice_get_within graphs firing.graph fit.g fit.here

-- it has few actors
pub few_actors : (graphs : Graphs) (firing : Firing) → InRange graphs → WellFormed graphs → IsFit graphs.graphs firing → length (graph_of graphs.graphs firing).actors ≤ 64
few_actors graphs firing range well fit =
    let g = graph_of graphs.graphs firing in
    let there = graph_here graphs.graphs firing fit in
    let parts : AreFew g = subst AreFew (get_or_from_slice_get graphs.graphs firing.graph g g there) (few_parts graphs range well firing.graph g (slice_get_within graphs.graphs firing.graph g there)) in
    parts.actors

-- ---- the actors

place_at : (cs : List Configuration) (i : ℕ) (c : Configuration) → slice_get cs i ≡ Some c → slice_index (map (λ (x : Configuration). x.place) cs) i ≡ c.place
place_at [] i c is = absurd (cc)
place_at (d ∷ cs) zero c is = let same : d ≡ c = cc in ap (λ (x : Configuration). x.place) same
place_at (d ∷ cs) (suc i) c is = place_at cs i c is

module _ (graphs : List Graph) (workers : ℕ) (job : Job) (is : IsJob graphs workers job) (i : ℕ) (below : i < length job.places.items) where
  abbrev g : Graph
  g = graph_of graphs job.firing

  abbrev pub place : ℕ
  place = slice_index job.places.items i

  found : slice_get job.places.items i ≡ Some place
  found = slice_get-get_or job.places.items i 0 below

  pub configuration_is : slice_get (configurations g) i ≡ Some (configuration_at g i place)
  configuration_is = (is.places_are.each i place found).0

  pub is_configuration : IsConfiguration g i place
  is_configuration = (is.places_are.each i place found).1

  pub place_is : slice_index (map (λ (c : Configuration). c.place) (configurations g)) i ≡ place
  place_is = place_at (configurations g) i (configuration_at g i place) configuration_is

  pub rule_is : (v : Values Answer) → rule graphs job.firing v i ≡ task_of graphs g job.firing (Some (configuration_at g i place))
  rule_is v = rule_before graphs job.firing v i (configuration_at g i place) configuration_is

  -- the same, where the graph is told by another name
  module _ (own : Graph) (same : own ≡ g) where
    pub own_configuration : IsConfiguration own i place
    own_configuration = subst (λ (x : Graph). IsConfiguration x i place) (sym same) is_configuration

    pub own_rule : (v : Values Answer) → rule graphs job.firing v i ≡ task_of graphs own job.firing (Some (configuration_at own i place))
    own_rule v = rule_is v ∙ ap (λ (x : Graph). task_of graphs x job.firing (Some (configuration_at x i place))) (sym same)

    -- the actor, as it is read
    module _ (items : List Actor) (items_are : items ≡ own.actors) where
      all_are : items ≡ g.actors
      all_are = items_are ∙ ap (λ (x : Graph). x.actors) same

      pub place_inside : place < length items
      place_inside = subst (λ (l : List Actor). place < length l) (sym all_are) is_configuration.inside

      pub actor_read : (x : Actor) → x ≡ get_or items place x → actor_at g place ≡ x
      actor_read x at = sym (get_or_read items place x place_inside at no_actor ∙ ap (λ (l : List Actor). get_or l place no_actor) all_are)
