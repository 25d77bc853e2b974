-- The list schedule keeps what a schedule has to keep.
use Rattle.std.proofs.Common.{◌≡◌, ℕ, zero, suc, ◌+◌, ◌<◌, ◌≤◌, ⊎_elim, true, false, cond, eqb, List, [], ◌∷◌, map, take, length, get_or, slice_index, arith, refl, sym, ap, subst, ◌∙◌}
use Rattle.std.specs.List.{All, Contains, filter}
use Rattle.std.proofs.lemmas.List.{get_or_default}
use Rattle.std.proofs.lemmas.Bool.{cases_eq, cases_lt, eq-eqb, ne_eqb, true≢false}
use Rattle.worker_mapping.specs.Graph.{CostedGraph, AreThere, nodes_before}
use Rattle.worker_mapping.specs.Schedule.{is_placed, times_placed, IsSchedule}
use Rattle.worker_mapping.specs.declared.entry.Entry.{Entry}
use Rattle.schedule_bound.specs.declared.slots.Slot.{Slot}
use Rattle.schedule_bound.specs.Slots.{slot_of, IsRunning}
use Rattle.schedule_bound.specs.Listed.{entry_at, no_entry, slot_in, AreSlots, StandOnce}
use Rattle.schedule_bound.specs.Feasible.{IsFeasible}
use Rattle.schedule_bound.proofs.Placed.{choice_at, placed_before, placed_where, all_before, ready_after, end_before}

placed_from_once : (xs : List Entry) (n : ℕ) → times_placed xs n ≡ 1 → is_placed xs n ≡ true
placed_from_once [] n once = absurd (omega arith)
placed_from_once (e ∷ xs) n once = ⊎_elim
    (λ (own : e.node ≡ n). rw (eq-eqb e.node n own) refl)
    (λ (other : e.node ≡ n → ⊥). rw (ne_eqb e.node n other) (placed_from_once xs n (rw (ne_eqb e.node n other) at once)))
    (cases_eq e.node n)

before_first : (e : ℕ × ℕ) (edges : List (ℕ × ℕ)) (n m : ℕ) → e ≡ (m, n) → Contains (nodes_before (e ∷ edges) n) m
before_first e edges n m same = rw (eq-eqb e.1 n (ap (λ (x : ℕ × ℕ). x.1) same)) (0, omega arith, ap (λ (x : ℕ × ℕ). x.0) same)

before_later : (e : ℕ × ℕ) (edges : List (ℕ × ℕ)) (n m : ℕ) → Contains (nodes_before edges n) m → Contains (nodes_before (e ∷ edges) n) m
before_later e edges n m h = elim (eqb e.1 n) as (λ b. Contains (map (λ (x : ℕ × ℕ). x.0) (cond b (e ∷ filter (λ (x : ℕ × ℕ). eqb x.1 n) edges) (filter (λ (x : ℕ × ℕ). eqb x.1 n) edges))) m) [ true ↦ (suc h.0, (let k = h.1 in omega arith), h.2) | false ↦ h ]

-- the tail of an edge stands before its head
pub before_edge : (edges : List (ℕ × ℕ)) (k : ℕ) (d : ℕ × ℕ) → k < length edges → Contains (nodes_before edges (get_or edges k d).1) (get_or edges k d).0
before_edge [] k d lt = absurd (omega arith)
before_edge (e ∷ edges) zero d lt = before_first e edges e.1 e.0 refl
before_edge (e ∷ edges) (suc k) d lt = before_later e edges (get_or edges k d).1 (get_or edges k d).0 (before_edge edges k d (omega arith))

module _ (graph : CostedGraph) (workers : ℕ) (priority : List ℕ) (entries : List Entry) (s : IsSchedule graph workers priority entries) where
  pub place_of : (n : ℕ) → n < graph.nodes → (i : ℕ) × (i < length entries) × ((entry_at entries i).node ≡ n)
  place_of n lt = placed_where entries n (placed_from_once entries n (s.once n lt))

  pub entry_there : (i : ℕ) → i < length entries → (entry_at entries i).node < graph.nodes
  entry_there i lt = (choice_at graph workers priority entries s i lt).candidate.there

  pub entries_there : All (λ (e : Entry). e.node < graph.nodes) entries
  entries_there = λ k d lt. subst (λ (e : Entry). e.node < graph.nodes) (get_or_default entries k no_entry d lt) (entry_there k lt)

  pub stand_once : StandOnce entries
  stand_once = λ j k below lt same.
      let c = (choice_at graph workers priority entries s k lt).candidate in
      true≢false (sym (placed_before graph workers priority entries s k j below (omega arith)) ∙ (ap (is_placed (take k entries)) same ∙ c.unplaced))

  module _ (slots : List Slot) (are : AreSlots graph.nodes entries slots) where
    pub slot_is : (i : ℕ) → i < length entries → slot_of slots (entry_at entries i).node ≡ slot_in (entry_at entries i)
    slot_is i lt = are.each i no_entry lt

    slot_at : (n : ℕ) (at : (i : ℕ) × (i < length entries) × ((entry_at entries i).node ≡ n)) → slot_of slots n ≡ slot_in (entry_at entries at.0)
    slot_at n at = ap (slot_of slots) (sym at.2) ∙ slot_is at.0 at.1

    -- of two entries of one worker the earlier ends before the later begins
    one_by_one : (i j : ℕ) → i < j → j < length entries → (entry_at entries i).worker ≡ (entry_at entries j).worker → (entry_at entries i).end ≤ (entry_at entries j).start
    one_by_one i j below lt same =
        let c = choice_at graph workers priority entries s j lt in
        let w = (entry_at entries j).worker in
        let free = end_before graph workers priority entries s (λ (e : Entry). eqb e.worker w) j i below (omega arith) (eq-eqb (entry_at entries i).worker w same) in
        let begins = c.start in
        omega arith

    never_both : (m n time : ℕ) → m < graph.nodes → n < graph.nodes → (slot_of slots m).worker ≡ (slot_of slots n).worker → IsRunning (slot_of slots m) time → IsRunning (slot_of slots n) time → m ≡ n
    never_both m n time m_there n_there same first second =
        let a = place_of m m_there in
        let b = place_of n n_there in
        let first' = rw (slot_at m a) at first in
        let second' = rw (slot_at n b) at second in
        let same' : (entry_at entries a.0).worker ≡ (entry_at entries b.0).worker = sym (ap (λ (x : Slot). x.worker) (slot_at m a)) ∙ (same ∙ ap (λ (x : Slot). x.worker) (slot_at n b)) in
        ⊎_elim
        (λ (less : a.0 < b.0). let ends = one_by_one a.0 b.0 less b.1 same' in let x = first'.not_over in let y = second'.begun in absurd (omega arith))
        (λ (not_less : b.0 ≤ a.0). ⊎_elim
        (λ (more : b.0 < a.0). let ends = one_by_one b.0 a.0 more a.1 (sym same') in let x = second'.not_over in let y = first'.begun in absurd (omega arith))
        (λ (equal : a.0 ≤ b.0). let one : a.0 ≡ b.0 = omega arith in sym a.2 ∙ (ap (λ k. (entry_at entries k).node) one ∙ b.2))
        (cases_lt b.0 a.0))
        (cases_lt a.0 b.0)

    edge_kept : (m n : ℕ) → n < graph.nodes → Contains (nodes_before graph.edges n) m → (slot_of slots m).end ≤ (slot_of slots n).start
    edge_kept m n n_there before =
        let b = place_of n n_there in
        let a = all_before graph workers priority entries s b.0 n b.1 b.2 m before in
        let earlier : a.0 < b.0 = a.1 in
        let lt : b.0 < length entries = b.1 in
        let ends = ready_after graph workers priority entries s b.0 a.0 n earlier (omega arith) (subst (λ x. Contains (nodes_before graph.edges n) x) (sym a.2) before) in
        let c = choice_at graph workers priority entries s b.0 lt in
        let ready = rw (b.2) at c.ready in
        rw (slot_at m (a.0, omega arith, a.2), slot_at n b) (omega arith)

    pub is_feasible : AreThere graph.nodes graph.edges → IsFeasible graph workers slots
    is_feasible there = record {
      one_each = are.one_each;
      workers_there = λ n lt. let at = place_of n lt in let c = choice_at graph workers priority entries s at.0 at.1 in rw (slot_at n at) c.worker.there;
      lasting = λ n lt. let at = place_of n lt in let c = choice_at graph workers priority entries s at.0 at.1 in rw (slot_at n at) (c.end ∙ ap (λ k. (entry_at entries at.0).start + slice_index graph.costs k) at.2);
      in_order = λ k d lt. edge_kept (get_or graph.edges k d).0 (get_or graph.edges k d).1 (there k d lt).1 (before_edge graph.edges k d lt);
      alone = never_both;
    }
