-- A level has at most one compilation for some workers.
use Rattle.std.proofs.Common.{◌≡◌, ℕ, ◌<◌, ◌⊎◌, inl, ⊎_elim, List, length, arith, ap, sym, subst, ◌∙◌, Result, Ok, Err}
use Rattle.std.proofs.lemmas.List.{length-map}
use Rattle.sdf_level.specs.View.{LevelView}
use Rattle.sdf_level.specs.Repetition.{IsRepetition}
use Rattle.sdf_level.specs.Orders.{IsTurnOrder}
use Rattle.sdf_level.proofs.OnlyOne.{same_list, repetition_only, turn_order_only}
use Rattle.sdf_level.specs.declared.turn.Turn.{Turn}
use Rattle.sdf_level.specs.declared.node.Node.{Node}
use Rattle.sdf_level.specs.declared.single_rate.Edge.{Edge}
use Rattle.sdf_level.specs.declared.single_rate.SingleRate.{SingleRate}
use Rattle.single_rate.specs.Ranks.{IsRank, AreRanks}
use Rattle.memory_exclusion.specs.Paths.{Excludes}
use Rattle.placement_checker.proofs.OnePlacement.{tight_offsets, tight_height}
use Rattle.placement.specs.declared.placing.Placement.{Placement}
use Rattle.worker_mapping.specs.Costs.{pairs_of, AreCosts}
use Rattle.worker_mapping.specs.Graph.{graph_of, IsPriority}
use Rattle.worker_mapping.specs.Schedule.{AreHomes}
use Rattle.worker_mapping.specs.declared.mapping.Mapping.{Mapping}
use Rattle.worker_mapping.proofs.Priorities.{IsPriority-unique}
use Rattle.worker_mapping.proofs.Unique.{AreHomes-unique}
use Rattle.job_compiler.specs.Compilation.{Compilation, sizes_of, IsSound, IsExpanded, IsPlaced, IsMapped, IsCompiled}
use Rattle.level_schedule.specs.declared.scheduling.LevelSchedule.{LevelSchedule}
use Rattle.level_schedule.specs.declared.unscheduled.Unscheduled.{Unscheduled}
use Rattle.level_schedule.specs.declared.unscheduled.Unscheduled.TheVariants.{Memory}
use Rattle.level_schedule.specs.Schedules.{IsScheduled}
use Rattle.job_compiler.proofs.SoundEdges.{size_of, pair_ends, pairs_rise}

rank_only : (edges : List Edge) (n r s : ℕ) → IsRank edges n r → IsRank edges n s → r ≡ s
rank_only edges n r s a b =
    let up = a.most b.reached.over b.reached.path in
    let down = b.most a.reached.over a.reached.path in
    let one = a.reached.long in
    let other = b.reached.long in
    omega arith

ranks_only : (count : ℕ) (edges : List Edge) (one other : List ℕ) → AreRanks count edges one → AreRanks count edges other → one ≡ other
ranks_only count edges one other a b = same_list one other (a.one_each ∙ sym b.one_each)
    (λ n inside. let below : n < count = (let l = a.one_each in omega arith) in rank_only edges n _ _ (a.each n below) (b.each n below))

graph_only : (level : LevelView) (q : List ℕ) (order : List Turn) (one other : SingleRate) → IsExpanded level q order one → IsExpanded level q order other → one ≡ other
graph_only level q order one other a b =
    let nodes : one.nodes ≡ other.nodes = a.nodes_are ∙ sym b.nodes_are in
    let edges : one.edges ≡ other.edges = a.edges_are ∙ sym b.edges_are in
    let there : AreRanks (length one.nodes) one.edges other.ranks =
    subst (λ (list : List Node). AreRanks (length list) one.edges other.ranks) (sym nodes)
    (subst (λ (list : List Edge). AreRanks (length other.nodes) list other.ranks) (sym edges) b.ranks) in
    let ranks : one.ranks ≡ other.ranks = ranks_only (length one.nodes) one.edges one.ranks other.ranks a.ranks there in
    λ i. record { nodes = nodes i; edges = edges i; ranks = ranks i }

placement_only : (edges : List Edge) (one other : Placement) → IsPlaced edges one → IsPlaced edges other → one ≡ other
placement_only edges one other a b =
    let long = length-map edges size_of in
    let offsets : one.offsets ≡ other.offsets = tight_offsets (sizes_of edges) (Excludes (pairs_of edges)) one.offsets other.offsets one.height other.height (a.one_each ∙ sym long) (b.one_each ∙ sym long) a.tight b.tight in
    let height : one.height ≡ other.height = tight_height (sizes_of edges) (Excludes (pairs_of edges)) one.offsets other.offsets one.height other.height a.tight b.tight in
    λ i. record { offsets = offsets i; height = height i }

costs_only : (nodes : ℕ) (edges : List Edge) (one other : List ℕ) → AreCosts nodes edges one → AreCosts nodes edges other → one ≡ other
costs_only nodes edges one other a b = same_list one other (a.one_each ∙ sym b.one_each)
    (λ n inside. let below : n < nodes = (let l = a.one_each in omega arith) in a.each n below ∙ sym (b.each n below))

mapping_only : (graph : SingleRate) (workers : ℕ) (one other : Mapping) → IsSound graph → IsMapped graph workers one → IsMapped graph workers other → one ≡ other
mapping_only graph workers one other sound a b =
    let costs : b.costs ≡ a.costs = costs_only (length graph.nodes) graph.edges b.costs a.costs b.are_costs a.are_costs in
    let as_priority : IsPriority (graph_of (length graph.nodes) (pairs_of graph.edges) a.costs) other.priority =
    subst (λ (list : List ℕ). IsPriority (graph_of (length graph.nodes) (pairs_of graph.edges) list) other.priority) costs b.priority in
    let priority : one.priority ≡ other.priority =
    IsPriority-unique (graph_of (length graph.nodes) (pairs_of graph.edges) a.costs) graph.ranks (pair_ends graph sound) (pairs_rise graph sound) one.priority other.priority a.priority as_priority in
    let as_homes : AreHomes (graph_of (length graph.nodes) (pairs_of graph.edges) a.costs) workers one.priority other.home =
    subst (λ (list : List ℕ). AreHomes (graph_of (length graph.nodes) (pairs_of graph.edges) a.costs) workers list other.home) (sym priority)
    (subst (λ (list : List ℕ). AreHomes (graph_of (length graph.nodes) (pairs_of graph.edges) list) workers other.priority other.home) costs b.homes) in
    let home : one.home ≡ other.home =
    AreHomes-unique (graph_of (length graph.nodes) (pairs_of graph.edges) a.costs) workers one.priority one.home other.home a.homes as_homes in
    λ i. record { home = home i; priority = priority i }

-- its parts, one after the other, are those of the other
pub compilation_only : (one other : Compilation) → IsCompiled one → IsCompiled other → one.level ≡ other.level → one.workers ≡ other.workers → one ≡ other
compilation_only one other a b level workers =
    let as_repetition : IsRepetition one.level other.counts = subst (λ (l : LevelView). IsRepetition l other.counts) (sym level) b.repetition in
    let counts : one.counts ≡ other.counts = repetition_only one.level one.counts other.counts a.repetition as_repetition in
    let as_order : IsTurnOrder one.level one.counts other.order =
    subst (λ (q : List ℕ). IsTurnOrder one.level q other.order) (sym counts) (subst (λ (l : LevelView). IsTurnOrder l other.counts other.order) (sym level) b.order_is) in
    let order : one.order ≡ other.order = turn_order_only one.level one.counts one.order other.order a.order_is as_order in
    let as_expanded : IsExpanded one.level one.counts one.order other.graph =
    subst (λ (turns : List Turn). IsExpanded one.level one.counts turns other.graph) (sym order)
    (subst (λ (q : List ℕ). IsExpanded one.level q other.order other.graph) (sym counts)
    (subst (λ (l : LevelView). IsExpanded l other.counts other.order other.graph) (sym level) b.expanded)) in
    let graph : one.graph ≡ other.graph = graph_only one.level one.counts one.order one.graph other.graph a.expanded as_expanded in
    let as_placed : IsPlaced one.graph.edges other.placement = subst (λ (g : SingleRate). IsPlaced g.edges other.placement) (sym graph) b.placed in
    let placement : one.placement ≡ other.placement = placement_only one.graph.edges one.placement other.placement a.placed as_placed in
    let as_mapped : IsMapped one.graph one.workers other.mapping =
    subst (λ (w : ℕ). IsMapped one.graph w other.mapping) (sym workers) (subst (λ (g : SingleRate). IsMapped g other.workers other.mapping) (sym graph) b.mapped) in
    let mapping : one.mapping ≡ other.mapping = mapping_only one.graph one.workers one.mapping other.mapping a.expanded.sound a.mapped as_mapped in
    λ i. record { level = level i; workers = workers i; counts = counts i; order = order i; graph = graph i; placement = placement i; mapping = mapping i }

-- an answer that is a compilation is the only one
pub compilation_is : {F : Type 0} (level : LevelView) (workers : ℕ) (memory : F) (x : Compilation) (r : Result Compilation F) → r ≡ Ok x → IsCompiled x → x.level ≡ level → x.workers ≡ workers →
    (c : Compilation) → IsCompiled c → c.level ≡ level → c.workers ≡ workers → (r ≡ Ok c) ⊎ (r ≡ Err memory)
compilation_is level workers memory x r was a own own_workers c b as_level as_workers =
    inl (was ∙ ap (λ (d : Compilation). Ok d) (compilation_only x c a b (own ∙ sym as_level) (own_workers ∙ sym as_workers)))

-- where there is a compilation there is a schedule
pub compilation_passed : {X : Type 0} (level : LevelView) (r : Result LevelSchedule Unscheduled) → ((s : LevelSchedule) → IsScheduled level s → (r ≡ Ok s) ⊎ (r ≡ Err Memory)) →
    (e : Unscheduled) (result : Result X Unscheduled) → r ≡ Err e → result ≡ Err e →
    (c : Compilation) → IsCompiled c → c.level ≡ level → result ≡ Err Memory
compilation_passed level r told e result was passed c is own =
    let s : LevelSchedule = record { counts = c.counts; order = c.order } in
    let there : IsScheduled level s = subst (λ (l : LevelView). IsScheduled l s) own record { repetition = is.repetition; within = is.within; order = is.order_is } in
    ⊎_elim
    (λ (found : r ≡ Ok s). absurd (cc))
    (λ (none : r ≡ Err Memory). let same : e ≡ Memory = cc in passed ∙ ap (λ (u : Unscheduled). Err u) same)
    (told s there)
