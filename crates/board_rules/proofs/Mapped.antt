-- A job that is compiled has at most one list schedule.
use Rattle.std.proofs.Common.{◌≡◌, ℕ, ◌+◌, ◌<◌, List, [], length, map, slice_index, sym, ◌∙◌, subst, arith}
use Rattle.std.specs.List.{All, range_with_len}
use Rattle.std.proofs.lemmas.List.{ext_get_or}
use Rattle.std.proofs.lemmas.List.Elements.{All-map}
use Rattle.std.proofs.lemmas.List.FromFn.{get_or-map-range_with_len}
use Rattle.sdf_level.specs.View.{LevelView}
use Rattle.sdf_level.specs.Invariants.{IsLevel}
use Rattle.sdf_level.specs.Orders.{IsTurnOrder}
use Rattle.sdf_level.specs.declared.single_rate.Edge.{Edge}
use Rattle.sdf_level.specs.declared.turn.Turn.{Turn}
use Rattle.single_rate.specs.Expanded.{nodes, edges}
use Rattle.single_rate.specs.Tiers.{EndsAreThere, GraphsHaveTiers}
use Rattle.worker_mapping.specs.Costs.{AreCosts, pairs_of}
use Rattle.worker_mapping.specs.Graph.{AreThere, IsPriority, Rise, graph_of}
use Rattle.worker_mapping.specs.Schedule.{AreHomes}
use Rattle.worker_mapping.specs.declared.mapping.Mapping.{Mapping}
use Rattle.worker_mapping.proofs.Priorities.{IsPriority-unique}
use Rattle.worker_mapping.proofs.Unique.{AreHomes-unique}
use Rattle.job_compiler.specs.Compilation.{IsMapped}
use Rattle.board_rules.proofs.ListSchedule.{costs_made, homes, priorities}

costs_once : (count : ℕ) (es : List Edge) (one other : List ℕ) → AreCosts count es one → AreCosts count es other → one ≡ other
costs_once count es one other a b = ext_get_or 0 one other (a.one_each ∙ sym b.one_each)
    (λ n inside. let below : n < count = (let l = a.one_each in omega arith) in a.each n below ∙ sym (b.each n below))

module _ (there_so : EndsAreThere) (tiers_so : GraphsHaveTiers) (level : LevelView) (q : List ℕ) (turns : List Turn) (level_kept : IsLevel level) (order : IsTurnOrder level q turns) where
  abbrev count : ℕ
  count = length (nodes level q turns)

  abbrev es : List Edge
  es = edges level q turns

  abbrev pairs : List (ℕ × ℕ)
  pairs = pairs_of es

  abbrev ranks : List ℕ
  ranks = map (tiers_so level q turns level_kept order).tier (range_with_len 0 count)

  rank_is : (n : ℕ) → n < count → slice_index ranks n ≡ (tiers_so level q turns level_kept order).tier n
  rank_is n inside = get_or-map-range_with_len (tiers_so level q turns level_kept order).tier 0 count n n 0 inside (let e : 0 + n ≡ n = omega arith in e)

  pub there : AreThere count pairs
  there = All-map (λ (e : ℕ × ℕ). (e.0 < count) × (e.1 < count)) (λ (e : Edge). (e.tail, e.head)) es (there_so level q turns level_kept order)

  rising : All (λ (e : Edge). slice_index ranks e.tail < slice_index ranks e.head) es
  rising k d inside =
      let ends = there_so level q turns level_kept order k d inside in
      let rise = (tiers_so level q turns level_kept order).rising k d inside in
      let tail = rank_is _ ends.0 in
      let head = rank_is _ ends.1 in
      rw (tail, head) rise

  pub rise : Rise ranks pairs
  rise = All-map (λ (e : ℕ × ℕ). slice_index ranks e.0 < slice_index ranks e.1) (λ (e : Edge). (e.tail, e.head)) es rising

  pub mapping_once : (workers : ℕ) (one other : Mapping) → IsMapped record { nodes = nodes level q turns; edges = es; ranks = [] } workers one → IsMapped record { nodes = nodes level q turns; edges = es; ranks = [] } workers other → one ≡ other
  mapping_once workers one other a b =
      let costs : b.costs ≡ a.costs = costs_once count es b.costs a.costs b.are_costs a.are_costs in
      let as_priority : IsPriority (graph_of count pairs a.costs) other.priority = subst (λ (list : List ℕ). IsPriority (graph_of count pairs list) other.priority) costs b.priority in
      let priority : one.priority ≡ other.priority = IsPriority-unique (graph_of count pairs a.costs) ranks there rise one.priority other.priority a.priority as_priority in
      let as_homes : AreHomes (graph_of count pairs a.costs) workers one.priority other.home =
      subst (λ (list : List ℕ). AreHomes (graph_of count pairs a.costs) workers list other.home) (sym priority)
      (subst (λ (list : List ℕ). AreHomes (graph_of count pairs list) workers other.priority other.home) costs b.homes) in
      let home : one.home ≡ other.home = AreHomes-unique (graph_of count pairs a.costs) workers one.priority one.home other.home a.homes as_homes in
      λ i. record { home = home i; priority = priority i }

  -- and it has one
  pub mapping_made : (workers : ℕ) → 0 < workers → (mapping : Mapping) × IsMapped record { nodes = nodes level q turns; edges = es; ranks = [] } workers mapping
  mapping_made workers some =
      let costs = costs_made count es in
      let graph = graph_of count pairs costs.0 in
      let priority = priorities graph workers some ranks there rise in
      let home = homes graph workers some ranks there rise priority.0 in
      (record { home = home.0; priority = priority.0 }, record { costs = costs.0; are_costs = costs.1; priority = priority.1; homes = home.1 })
