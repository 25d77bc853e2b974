-- How long the list schedule can be.
use Rattle.std.proofs.Common.{◌≡◌, ℕ, ◌+◌, ◌-◌, ◌*◌, ◌<◌, ◌≤◌, inl, inr, ⊎_elim, List, [], ◌∷◌, ◌++◌, length, sum, arith, sym, ap, ◌∙◌}
use Rattle.std.specs.List.{Contains}
use Rattle.std.proofs.lemmas.List.{get_or_default}
use Rattle.worker_mapping.specs.Graph.{CostedGraph, AreThere}
use Rattle.worker_mapping.specs.Paths.{cost_along}
use Rattle.worker_mapping.specs.Schedule.{IsSchedule}
use Rattle.worker_mapping.specs.declared.entry.Entry.{Entry}
use Rattle.schedule_bound.specs.declared.slots.Slot.{Slot}
use Rattle.schedule_bound.specs.Slots.{slot_of, no_slot, length_of, IsRunning}
use Rattle.schedule_bound.specs.Listed.{entry_at, AreSlots}
use Rattle.schedule_bound.specs.Critical.{IsPathOf}
use Rattle.schedule_bound.proofs.Greatest.{greatest_where}
use Rattle.schedule_bound.proofs.Scheduled.{place_of, entry_there, slot_is, is_feasible}
use Rattle.schedule_bound.proofs.Covered.{RunsOn, chain_at}
use Rattle.schedule_bound.proofs.Bounds.{covered_bound}

module _ (graph : CostedGraph) (workers : ℕ) (priority : List ℕ) (entries : List Entry) (s : IsSchedule graph workers priority entries) (slots : List Slot) (are : AreSlots graph.nodes entries slots) (there : AreThere graph.nodes graph.edges) where
  runs : (j time : ℕ) → j < length entries → (entry_at entries j).start ≤ time → time < (entry_at entries j).end → IsRunning (slot_of slots (entry_at entries j).node) time
  runs j time lt begun late = rw (slot_is graph workers priority entries s slots are j lt) (record { begun = begun; not_over = late })

  worker_is : (j : ℕ) → j < length entries → (slot_of slots (entry_at entries j).node).worker ≡ (entry_at entries j).worker
  worker_is j lt = ap (λ (x : Slot). x.worker) (slot_is graph workers priority entries s slots are j lt)

  by_chain : (most i : ℕ) → i < length entries → (entry_at entries i).end ≡ length_of slots → 0 < workers → length graph.costs ≡ graph.nodes
      → ((other : List ℕ) → IsPathOf graph other → cost_along graph.costs other ≤ most) → workers * length_of slots ≤ sum graph.costs + (workers - 1) * most
  by_chain most i lt last some long greatest_cost =
      let chain = chain_at graph workers priority entries s i lt in
      let nodes = chain.front ++ (entry_at entries i).node ∷ [] in
      covered_bound graph workers slots (is_feasible graph workers priority entries s slots are there) nodes most some long chain.is_path.there (greatest_cost nodes chain.is_path)
      (λ time early. ⊎_elim
      (λ (all : (worker : ℕ) → worker < workers → RunsOn graph workers priority entries s worker time). inl (λ worker lt'.
      let at = all worker lt' in
      ((entry_at entries at.0).node, entry_there graph workers priority entries s at.0 at.1, worker_is at.0 at.1 ∙ at.2, runs at.0 time at.1 at.3 at.4)))
      (λ (one : (j : ℕ) × (j < length entries) × Contains nodes (entry_at entries j).node × ((entry_at entries j).start ≤ time) × (time < (entry_at entries j).end)). inr
      ((entry_at entries one.0).node, entry_there graph workers priority entries s one.0 one.1, one.2, runs one.0 time one.1 one.3 one.4))
      (chain.covers time (omega arith)))

  pub list_bound : (most : ℕ) → 0 < workers → length graph.costs ≡ graph.nodes → ((other : List ℕ) → IsPathOf graph other → cost_along graph.costs other ≤ most)
      → workers * length_of slots ≤ sum graph.costs + (workers - 1) * most
  list_bound most some long greatest_cost = ⊎_elim
      (λ (none : length_of slots ≡ 0). let nothing : workers * length_of slots ≡ 0 = ap (λ k. workers * k) none ∙ omega arith in omega arith)
      (λ (last : (x : Slot) × Contains slots x × (x.end ≡ length_of slots)).
      let n = last.1.0 in
      let below : n < length slots = last.1.1 in
      let at = place_of graph workers priority entries s n (let l = are.one_each in omega arith) in
      let own : slot_of slots n ≡ last.0 = get_or_default slots n no_slot last.0 below ∙ last.1.2 in
      let end : (entry_at entries at.0).end ≡ length_of slots = sym (ap (λ (x : Slot). x.end) (slot_is graph workers priority entries s slots are at.0 at.1)) ∙ (ap (λ k. (slot_of slots k).end) at.2 ∙ (ap (λ (x : Slot). x.end) own ∙ last.2)) in
      by_chain most at.0 at.1 end some long greatest_cost)
      (greatest_where (λ (x : Slot). x.end) slots)
