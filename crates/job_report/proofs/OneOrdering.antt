-- A job meets what ordered workers ask, and has one order for each and one placement under them.
use Rattle.std.proofs.Common.{◌≡◌, ℕ, ◌+◌, ◌<◌, ◌≤◌, ◌^◌, ⊎_elim, List, [], ◌∷◌, ◌++◌, length, slice_index, ap, sym, subst, ◌∙◌, arith, Result, Ok, Err, IfOk, String, Global, string_bytes}
use Rattle.std.specs.List.{AllByRecursion}
use Rattle.std.specs.Prelude.{OnOk}
use Rattle.std.proofs.lemmas.Bool.{cases_eq, ne_eqb}
use Rattle.std.proofs.lemmas.List.{length-map}
use Rattle.std.proofs.lemmas.List.Elements.{recursion_from_All}
use Rattle.sdf_level.specs.declared.single_rate.Edge.{Edge}
use Rattle.memory_exclusion.specs.Paths.{Excludes}
use Rattle.placement.specs.declared.placing.Placement.{Placement}
use Rattle.placement_checker.specs.Placed.{Tight}
use Rattle.placement_checker.proofs.OnePlacement.{tight_offsets, tight_height}
use Rattle.single_rate.specs.Sizes.{space}
use Rattle.single_rate.proofs.FewNodes.{few-nodes}
use Rattle.worker_mapping.specs.Costs.{pairs_of}
use Rattle.worker_mapping.specs.Graph.{CostedGraph, graph_of}
use Rattle.worker_mapping.specs.Schedule.{EachEntry, IsChoice, times_placed}
use Rattle.worker_mapping.specs.declared.entry.Entry.{Entry}
use Rattle.order_memory.specs.Orders.{AreOrders, after_of, sizes_of}
use Rattle.order_memory.specs.Runs.{Event, FinishesAll, IsOrderedRun, LiveAreApart}
use Rattle.order_memory.specs.declared.tables.Ordered.{Ordered}
use Rattle.job_compiler.specs.Compilation.{Compilation, IsCompiled, IsMapped}
use Rattle.job_report.specs.Holding.{Holds, KeepsApart}
use Rattle.job_report.specs.Memory.{IsOrdering, memory_text}
use Rattle.job_report.specs.Told.{Tells}
use Rattle.job_report.specs.declared.names.JobNames.{JobNames}
use Rattle.job_report.specs.declared.text.JobText.TheVariants.{Memory}

-- ---- what ordered workers ask

-- a node that has one entry has that entry's worker for a home
homed : (graph : CostedGraph) (workers : ℕ) (priority home : List ℕ) (n : ℕ) (placed entries : List Entry) → EachEntry (IsChoice graph workers priority) placed entries
    → AllByRecursion (λ (e : Entry). slice_index home e.node ≡ e.worker) entries → times_placed entries n ≡ 1 → slice_index home n < workers
homed graph workers priority home n placed [] each are once = absurd (omega arith)
homed graph workers priority home n placed (e ∷ entries) each are once = ⊎_elim
    (λ (own : e.node ≡ n). let there = each.0.worker.there in let is : slice_index home n ≡ e.worker = rw (← own) are.0 in omega arith)
    (λ (away : e.node ≡ n → ⊥). homed graph workers priority home n (placed ++ e ∷ []) entries each.1 are.1 (rw (ne_eqb e.node n away) at once))
    (cases_eq e.node n)

pub homes_there : (job : Compilation) → IsMapped job.graph job.workers job.mapping → (n : ℕ) → n < length job.graph.nodes → slice_index job.mapping.home n < job.workers
homes_there job mapped n inside =
    homed (graph_of (length job.graph.nodes) (pairs_of job.graph.edges) mapped.costs) job.workers job.mapping.priority job.mapping.home n [] mapped.homes.entries mapped.homes.schedule.each
    (recursion_from_All (λ (e : Entry). slice_index job.mapping.home e.node ≡ e.worker) mapped.homes.entries mapped.homes.each) (mapped.homes.schedule.once n inside)

fewer : (edges : List Edge) → AllByRecursion (λ (e : Edge). 1 ≤ e.size) edges → length edges ≤ space edges
fewer [] filled = omega arith
fewer (e ∷ edges) filled = let rest = fewer edges filled.1 in let one = filled.0 in omega arith

-- the nodes and edges of a job together are few
pub few_parts : (job : Compilation) → IsCompiled job → length job.graph.edges + length job.graph.nodes < 2 ^ 32
few_parts job is =
    let sound = is.expanded.sound.small in
    let edges = fewer job.graph.edges (recursion_from_All (λ (e : Edge). 1 ≤ e.size) job.graph.edges sound.sizes) in
    let within = sound.tokens in
    let nodes = few-nodes job.level job.counts job.order is.level_kept is.order_is is.within in
    let are = ap length is.expanded.nodes_are in
    omega arith

-- ---- one ordering

placed_alike : (job : Compilation) (orders : List (List ℕ)) (one other : Placement) → length one.offsets ≡ length job.graph.edges → length other.offsets ≡ length job.graph.edges
    → Tight (sizes_of job.graph.edges) (Excludes (after_of (pairs_of job.graph.edges) orders)) one.offsets one.height
    → Tight (sizes_of job.graph.edges) (Excludes (after_of (pairs_of job.graph.edges) orders)) other.offsets other.height → one ≡ other
placed_alike job orders one other long as_long a b =
    let X = Excludes (after_of (pairs_of job.graph.edges) orders) in
    let sizes = length-map job.graph.edges (λ (e : Edge). e.size) in
    let offsets : one.offsets ≡ other.offsets = tight_offsets (sizes_of job.graph.edges) X one.offsets other.offsets one.height other.height (long ∙ sym sizes) (as_long ∙ sym sizes) a b in
    let height : one.height ≡ other.height = tight_height (sizes_of job.graph.edges) X one.offsets other.offsets one.height other.height a b in
    λ i. record { offsets = offsets i; height = height i }

pub ordering_only : (job : Compilation) (one other : Ordered) → IsOrdering job one → IsOrdering job other
    → ((orders : List (List ℕ)) → AreOrders (length job.graph.nodes) (pairs_of job.graph.edges) job.mapping.home job.workers orders → orders ≡ one.orders) → other ≡ one
ordering_only job one other a b only =
    let orders : other.orders ≡ one.orders = only other.orders b.orders in
    let as_tight : Tight (sizes_of job.graph.edges) (Excludes (after_of (pairs_of job.graph.edges) one.orders)) other.placement.offsets other.placement.height =
    subst (λ (list : List (List ℕ)). Tight (sizes_of job.graph.edges) (Excludes (after_of (pairs_of job.graph.edges) list)) other.placement.offsets other.placement.height) orders b.tight in
    let placement : other.placement ≡ one.placement = placed_alike job one.orders other.placement one.placement b.one_each a.one_each as_tight a.tight in
    λ i. record { orders = orders i; placement = placement i }

pub only_ordering : {E : Type 0} (job : Compilation) (r : Result Ordered E) → IfOk r (IsOrdering job)
    → IfOk r (λ o. (orders : List (List ℕ)) → AreOrders (length job.graph.nodes) (pairs_of job.graph.edges) job.mapping.home job.workers orders → orders ≡ o.orders)
    → IfOk r (λ o. (other : Ordered) → IsOrdering job other → other ≡ o)
only_ordering job (Ok o) h only = λ other is. ordering_only job o other h is only
only_ordering job (Err e) h only = tt

-- nor more than one text on it
pub memory_only : {E : Type 0} (names : JobNames) (job : Compilation) (ordered : Ordered) (r : Result (String Global) E) → ((other : Ordered) → IsOrdering job other → other ≡ ordered)
    → IfOk r (λ text. string_bytes text ≡ memory_text job ordered) → IfOk r (λ text. (other : List ℕ) → Tells Memory names job other → other ≡ string_bytes text)
memory_only names job ordered (Ok text) only h = λ other t. t.2 ∙ ap (memory_text job) (only t.0 t.1) ∙ sym h
memory_only names job ordered (Err e) only h = tt

-- ---- what ordered runs keep

pub apart_of : {E : Type 0} (job : Compilation) (r : Result Ordered E)
    → IfOk r (λ o. (run : List Event) → IsOrderedRun (pairs_of job.graph.edges) o.orders run → LiveAreApart (pairs_of job.graph.edges) (sizes_of job.graph.edges) o.placement.offsets run)
    → IfOk r (λ o. (run : List Event) × IsOrderedRun (pairs_of job.graph.edges) o.orders run × FinishesAll (length job.graph.nodes) run) → IfOk r (KeepsApart job)
apart_of job (Ok o) apart possible = record { apart = apart; possible = possible }
apart_of job (Err e) apart possible = tt

pub memory_holds : {E : Type 0} (job : Compilation) (ordered : Ordered) (r : Result (String Global) E) → ((other : Ordered) → IsOrdering job other → other ≡ ordered) → KeepsApart job ordered → OnOk r (Holds Memory job)
memory_holds job ordered (Ok text) only apart = λ other is. subst (KeepsApart job) (sym (only other is)) apart
memory_holds job ordered (Err e) only apart = tt
