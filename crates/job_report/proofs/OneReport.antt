-- A job has at most one report on its schedule.
use Rattle.std.proofs.Common.{◌≡◌, ℕ, ◌+◌, ◌-◌, ◌*◌, ◌<◌, ◌≤◌, inl, inr, ⊎_elim, List, [], ◌∷◌, length, sum, refl, ap, sym, subst, ◌∙◌, arith, Result, Ok, Err, IfOk, String, Global, string_bytes}
use Rattle.std.proofs.lemmas.Bool.{cases_eq, ne_eqb}
use Rattle.std.proofs.lemmas.List.{ext_get_or}
use Rattle.std.proofs.lemmas.List.Elements.{recursion_from_All}
use Rattle.std.specs.List.{AllByRecursion}
use Rattle.sdf_level.specs.declared.single_rate.Edge.{Edge}
use Rattle.sdf_level.proofs.OnlyOne.{same_list}
use Rattle.worker_mapping.specs.Costs.{AreCosts, pairs_of}
use Rattle.worker_mapping.specs.Graph.{CostedGraph, IsPriority, graph_of}
use Rattle.worker_mapping.specs.Schedule.{IsSchedule, times_placed}
use Rattle.worker_mapping.specs.declared.entry.Entry.{Entry}
use Rattle.worker_mapping.proofs.Priorities.{IsPriority-unique}
use Rattle.worker_mapping.proofs.Unique.{IsSchedule-unique}
use Rattle.schedule_bound.specs.Feasible.{IsFeasible}
use Rattle.schedule_bound.specs.Critical.{ComesFirst, IsCritical}
use Rattle.schedule_bound.specs.Listed.{AreSlots, IsListed, slot_in}
use Rattle.schedule_bound.specs.Slots.{length_of, no_slot, slot_of}
use Rattle.schedule_bound.specs.declared.slots.Slot.{Slot}
use Rattle.schedule_bound.specs.declared.tables.Report.{Report}
use Rattle.job_compiler.specs.Compilation.{Compilation, IsSound}
use Rattle.job_compiler.proofs.SoundEdges.{pair_ends, pairs_rise}
use Rattle.std.specs.Prelude.{OnOk}
use Rattle.job_report.specs.Holding.{Bounds, Holds}
use Rattle.job_report.specs.Schedule.{IsReportOn, costed, schedule_text}
use Rattle.job_report.specs.Told.{Tells}
use Rattle.job_report.specs.declared.names.JobNames.{JobNames}
use Rattle.job_report.specs.declared.text.JobText.TheVariants.{Schedule}

costs_only : (nodes : ℕ) (edges : List Edge) (one other : List ℕ) → AreCosts nodes edges one → AreCosts nodes edges other → one ≡ other
costs_only nodes edges one other a b = same_list one other (a.one_each ∙ sym b.one_each)
    (λ n inside. let below : n < nodes = (let l = a.one_each in omega arith) in a.each n below ∙ sym (b.each n below))

-- a node that has one entry has one slot
slot_only : (entries : List Entry) (one other : List Slot) (n : ℕ) → AllByRecursion (λ (e : Entry). slot_of one e.node ≡ slot_in e) entries → AllByRecursion (λ (e : Entry). slot_of other e.node ≡ slot_in e) entries
    → times_placed entries n ≡ 1 → slot_of one n ≡ slot_of other n
slot_only [] one other n x y once = absurd (omega arith)
slot_only (e ∷ entries) one other n x y once = ⊎_elim
    (λ (own : e.node ≡ n). rw (← own) (x.0 ∙ sym y.0))
    (λ (away : e.node ≡ n → ⊥). slot_only entries one other n x.1 y.1 (rw (ne_eqb e.node n away) at once))
    (cases_eq e.node n)

module _ (graph : CostedGraph) (workers : ℕ) where
  slots_only : (entries : List Entry) (priority : List ℕ) (one other : List Slot) → IsSchedule graph workers priority entries → AreSlots graph.nodes entries one → AreSlots graph.nodes entries other → one ≡ other
  slots_only entries priority one other is a b =
      ext_get_or no_slot one other (a.one_each ∙ sym b.one_each)
      (λ n inside. slot_only entries one other n
      (recursion_from_All (λ (e : Entry). slot_of one e.node ≡ slot_in e) entries a.each)
      (recursion_from_All (λ (e : Entry). slot_of other e.node ≡ slot_in e) entries b.each)
      (is.once n (let l = a.one_each in omega arith)))

  listed_only : (one other : List Slot) → ((p q : List ℕ) → IsPriority graph p → IsPriority graph q → p ≡ q) → IsListed graph workers one → IsListed graph workers other → one ≡ other
  listed_only one other same a b =
      let priority : b.priority ≡ a.priority = same b.priority a.priority b.is_priority a.is_priority in
      let as_schedule : IsSchedule graph workers a.priority b.entries = subst (λ (p : List ℕ). IsSchedule graph workers p b.entries) priority b.schedule in
      let entries : b.entries ≡ a.entries = IsSchedule-unique graph workers a.priority b.entries a.entries as_schedule a.schedule in
      slots_only a.entries a.priority one other a.schedule a.are_slots (subst (λ (es : List Entry). AreSlots graph.nodes es other) entries b.are_slots)

-- of two paths only one comes first
first_only : (one other : List ℕ) → ComesFirst one other → ComesFirst other one → one ≡ other
first_only [] [] a b = refl
first_only [] (y ∷ ys) a b = absurd b
first_only (x ∷ xs) [] a b = absurd a
first_only (x ∷ xs) (y ∷ ys) (inl h) (inl k) = absurd (omega arith)
first_only (x ∷ xs) (y ∷ ys) (inl h) (inr k) = absurd (let e = k.0 in omega arith)
first_only (x ∷ xs) (y ∷ ys) (inr h) (inl k) = absurd (let e = h.0 in omega arith)
first_only (x ∷ xs) (y ∷ ys) (inr h) (inr k) = let first = h.0 in let rest = first_only xs ys h.1 k.1 in cc

module _ (graph : CostedGraph) (one other : List ℕ) (cost as_cost : ℕ) (a : IsCritical graph one cost) (b : IsCritical graph other as_cost) where
  cost_only : cost ≡ as_cost
  cost_only =
      let up = a.greatest other b.is_path in
      let down = b.greatest one a.is_path in
      let reached = a.reached in
      let as_reached = b.reached in
      omega arith

  path_only : one ≡ other
  path_only = first_only one other (a.first other b.is_path (b.reached ∙ sym cost_only)) (b.first one a.is_path (a.reached ∙ cost_only))

pub report_only : (job : Compilation) (one other : Report) → IsSound job.graph → IsReportOn job one → IsReportOn job other → one ≡ other
report_only job one other sound a b =
    let costs : b.costs ≡ a.costs = costs_only (length job.graph.nodes) job.graph.edges b.costs a.costs b.are_costs a.are_costs in
    let as_listed : IsListed (costed job a.costs) job.workers other.entries = subst (λ (c : List ℕ). IsListed (costed job c) job.workers other.entries) costs b.listed in
    let as_critical : IsCritical (costed job a.costs) other.path other.critical = subst (λ (c : List ℕ). IsCritical (costed job c) other.path other.critical) costs b.critical in
    let entries : one.entries ≡ other.entries = listed_only (costed job a.costs) job.workers one.entries other.entries
    (IsPriority-unique (costed job a.costs) job.graph.ranks (pair_ends job.graph sound) (pairs_rise job.graph sound)) a.listed as_listed in
    let length_is : one.length ≡ other.length = a.length_is ∙ ap length_of entries ∙ sym b.length_is in
    let critical : one.critical ≡ other.critical = cost_only (costed job a.costs) one.path other.path one.critical other.critical a.critical as_critical in
    let path : one.path ≡ other.path = path_only (costed job a.costs) one.path other.path one.critical other.critical a.critical as_critical in
    let work : one.work ≡ other.work = a.work_is ∙ ap sum (sym costs) ∙ sym b.work_is in
    λ i. record { entries = entries i; length = length_is i; critical = critical i; path = path i; work = work i }

pub only_report : {E : Type 0} (job : Compilation) → IsSound job.graph → (r : Result Report E) → IfOk r (IsReportOn job) → IfOk r (λ report. (other : Report) → IsReportOn job other → other ≡ report)
only_report job sound (Ok report) h = λ other is. report_only job other report sound is h
only_report job sound (Err e) h = tt

-- nor more than one text on it
pub schedule_only : {E : Type 0} (names : JobNames) (job : Compilation) (report : Report) (r : Result (String Global) E) → ((other : Report) → IsReportOn job other → other ≡ report)
    → IfOk r (λ text. string_bytes text ≡ schedule_text report) → IfOk r (λ text. (other : List ℕ) → Tells Schedule names job other → other ≡ string_bytes text)
schedule_only names job report (Ok text) only h = λ other t. t.2 ∙ ap schedule_text (only t.0 t.1) ∙ sym h
schedule_only names job report (Err e) only h = tt

pub schedule_holds : {E : Type 0} (job : Compilation) (report : Report) (r : Result (String Global) E) → ((other : Report) → IsReportOn job other → other ≡ report) → Bounds job report → OnOk r (Holds Schedule job)
schedule_holds job report (Ok text) only bounds = λ other is. subst (Bounds job) (sym (only other is)) bounds
schedule_holds job report (Err e) only bounds = tt

-- ---- the bounds of every schedule

pub bounds_of : {E : Type 0} (job : Compilation) (nodes : ℕ) (pairs : List (ℕ × ℕ)) (costs : List ℕ) (workers : ℕ) (r : Result Report E) → nodes ≡ length job.graph.nodes → pairs ≡ pairs_of job.graph.edges → workers ≡ job.workers
    → AreCosts (length job.graph.nodes) job.graph.edges costs
    → IfOk r (λ r. IsFeasible (graph_of nodes pairs costs) workers r.entries)
    → IfOk r (λ r. (slots : List Slot) → IsFeasible (graph_of nodes pairs costs) workers slots → r.critical ≤ length_of slots)
    → IfOk r (λ r. (slots : List Slot) → IsFeasible (graph_of nodes pairs costs) workers slots → r.work ≤ workers * length_of slots)
    → IfOk r (λ r. workers * r.length ≤ r.work + (workers - 1) * r.critical) → IfOk r (Bounds job)
bounds_of job nodes pairs costs workers (Ok report) nodes_are pairs_are workers_are are feasible shorter faster longer =
    let graph : graph_of nodes pairs costs ≡ costed job costs = ap (λ n. graph_of n pairs costs) nodes_are ∙ ap (λ (p : List (ℕ × ℕ)). graph_of (length job.graph.nodes) p costs) pairs_are in
    let both : (P : ℕ → CostedGraph → Type 0) → P workers (graph_of nodes pairs costs) → P job.workers (costed job costs) = λ P h. subst (P job.workers) graph (subst (λ w. P w (graph_of nodes pairs costs)) workers_are h) in
    record {
      costs = costs;
      are_costs = are;
      feasible = both (λ w g. IsFeasible g w report.entries) feasible;
      no_shorter = both (λ w g. (slots : List Slot) → IsFeasible g w slots → report.critical ≤ length_of slots) shorter;
      no_faster = both (λ w g. (slots : List Slot) → IsFeasible g w slots → report.work ≤ w * length_of slots) faster;
      no_longer = subst (λ w. w * report.length ≤ report.work + (w - 1) * report.critical) workers_are longer;
    }
bounds_of job nodes pairs costs workers (Err e) nodes_are pairs_are workers_are are feasible shorter faster longer = tt
