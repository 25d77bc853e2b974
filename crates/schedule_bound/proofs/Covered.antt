-- A path of nodes one of which runs whenever a worker of the list schedule waits.
use Rattle.std.proofs.Common.{◌≡◌, ℕ, zero, suc, ◌<◌, ◌≤◌, ◌⊎◌, inl, inr, ⊎_elim, true, eqb, max, List, [], ◌∷◌, ◌++◌, take, length, get_or, IsTrue, arith, refl, sym, ap, subst, ◌∙◌}
use Rattle.std.specs.List.{All, Contains}
use Rattle.std.proofs.lemmas.List.{get_or_default}
use Rattle.std.proofs.lemmas.List.Elements.{All-contains_itself, recursion_from_All, Contains-append_left, Contains-append_right}
use Rattle.std.proofs.lemmas.Bool.{cases_lt, eqb-true}
use Rattle.worker_mapping.specs.Graph.{CostedGraph, nodes_before}
use Rattle.worker_mapping.specs.Schedule.{free_time, end_of, is_placed, ready_time, IsCandidate, IsSchedule}
use Rattle.worker_mapping.specs.declared.entry.Entry.{Entry}
use Rattle.worker_mapping.proofs.Lists.{each-append, each-contains, each-weaker}
use Rattle.worker_mapping.proofs.Edges.{each_before}
use Rattle.schedule_bound.specs.Critical.{IsPathOf}
use Rattle.schedule_bound.specs.Listed.{entry_at}
use Rattle.schedule_bound.proofs.Greatest.{greatest_where}
use Rattle.schedule_bound.proofs.Placed.{choice_at, placed_before, not_yet_placed, ready_rises, ready_after, all_before, end_before, ends_before, lasts, starts_rise}
use Rattle.schedule_bound.proofs.Walked.{path_push}

all_by_each : (P : ℕ → Type 0) (xs : List ℕ) → ((x : ℕ) → Contains xs x → P x) → All P xs
all_by_each P xs f = λ k d lt. f (get_or xs k d) (k, lt, get_or_default xs k (get_or xs k d) d lt)

-- between an edge and the nodes before its head
edge_before : (edges : List (ℕ × ℕ)) (n m : ℕ) → Contains (nodes_before edges n) m → Contains edges (m, n)
edge_before edges n m at =
    each-contains (λ b. Contains edges (b, n)) (nodes_before edges n) m
    (each_before (λ b. Contains edges (b, n)) edges n
    (each-weaker (Contains edges) (λ (e : ℕ × ℕ). e.1 ≡ n → Contains edges (e.0, n)) (λ e h same. subst (λ (x : ℕ). Contains edges (e.0, x)) same h) edges (recursion_from_All (Contains edges) edges (All-contains_itself edges))))
    at

module _ (graph : CostedGraph) (workers : ℕ) (priority : List ℕ) (entries : List Entry) (s : IsSchedule graph workers priority entries) where
  -- the worker runs a node at this time
  abbrev pub RunsOn : ℕ → ℕ → Type 0
  RunsOn worker time = (j : ℕ) × (j < length entries) × ((entry_at entries j).worker ≡ worker) × ((entry_at entries j).start ≤ time) × (time < (entry_at entries j).end)

  -- a node that could have begun earlier is a candidate for each entry that begins later
  waits : (i k time : ℕ) → i < length entries → k ≤ i → ready_time graph (take i entries) (entry_at entries i).node ≤ time → time < (entry_at entries k).start → IsCandidate graph (take k entries) (entry_at entries i).node
  waits i k time lt le ready later =
      let n = (entry_at entries i).node in
      let c = (choice_at graph workers priority entries s i lt).candidate in
      record {
        there = c.there;
        unplaced = not_yet_placed graph workers priority entries s k i n le (omega arith) c.unplaced;
        after_all = all_by_each (λ m. IsTrue (is_placed (take k entries) m)) (nodes_before graph.edges n) (λ m before.
            let at = all_before graph workers priority entries s i n lt refl m before in
            let there : at.0 < i = at.1 in
            let ends = ready_after graph workers priority entries s i at.0 n there (omega arith) (subst (λ x. Contains (nodes_before graph.edges n) x) (sym at.2) before) in
            let lasting = lasts graph workers priority entries s at.0 (omega arith) in
            let earlier : at.0 < k = ⊎_elim
            (λ (less : at.0 < k). less)
            (λ (more : k ≤ at.0). let rise = starts_rise graph workers priority entries s k at.0 more (omega arith) in absurd (omega arith))
            (cases_lt at.0 k) in
            subst (λ x. is_placed (take k entries) x ≡ true) at.2 (placed_before graph workers priority entries s k at.0 earlier (omega arith)));
      }

  -- a worker that is free later than a time at which a node could have begun runs a node then
  no_gap : (i k time worker : ℕ) → i < length entries → k ≤ i → ready_time graph (take i entries) (entry_at entries i).node ≤ time → time < free_time (take k entries) worker → RunsOn worker time
  no_gap i zero time worker lt le ready free = absurd (omega arith)
  no_gap i (suc k) time worker lt le ready free = ⊎_elim
      (λ (earlier : time < free_time (take k entries) worker). no_gap i k time worker lt (omega arith) ready earlier)
      (λ (free_then : free_time (take k entries) worker ≤ time). ⊎_elim
      (λ (none : free_time (take (suc k) entries) worker ≡ 0). absurd (omega arith))
      (λ (some : (j : ℕ) × (j < suc k) × (eqb (entry_at entries j).worker worker ≡ true) × ((entry_at entries j).end ≡ free_time (take (suc k) entries) worker)).
      runs_then i k time worker some.0 lt le ready free_then some.1 some.2 (let e = some.3 in omega arith))
      (ends_before graph workers priority entries s (λ (e : Entry). eqb e.worker worker) (suc k) (omega arith)))
      (cases_lt time (free_time (take k entries) worker))
    where
      runs_then : (i k time worker j : ℕ) → i < length entries → suc k ≤ i → ready_time graph (take i entries) (entry_at entries i).node ≤ time → free_time (take k entries) worker ≤ time
          → j < suc k → eqb (entry_at entries j).worker worker ≡ true → time < (entry_at entries j).end → RunsOn worker time
      runs_then i k time worker j lt le ready free_then below own late = ⊎_elim
          (λ (less : j < k). let ends = end_before graph workers priority entries s (λ (e : Entry). eqb e.worker worker) k j less (omega arith) own in absurd (omega arith))
          (λ (more : k ≤ j).
          let here : j ≡ k = omega arith in
          let own_k : (entry_at entries k).worker ≡ worker = ap (λ x. (entry_at entries x).worker) (sym here) ∙ eqb-true (entry_at entries j).worker worker own in
          let late_k : time < (entry_at entries k).end = subst (λ x. time < (entry_at entries x).end) here late in
          ⊎_elim
          (λ (later : time < (entry_at entries k).start).
          let c = choice_at graph workers priority entries s k (omega arith) in
          let begins = c.start ∙ ap (λ w. max (free_time (take k entries) w) c.least_ready) own_k in
          let least = c.is_least_ready.least (entry_at entries i).node (waits i k time lt (omega arith) ready later) in
          let rise = ready_rises graph workers priority entries s k i (entry_at entries i).node (omega arith) (omega arith) in
          absurd (omega arith))
          (λ (begun : (entry_at entries k).start ≤ time). (k, omega arith, own_k, begun, late_k))
          (cases_lt time (entry_at entries k).start))
          (cases_lt j k)

  -- while a node is ready and hasn't begun every worker runs a node
  busy : (i time : ℕ) → i < length entries → ready_time graph (take i entries) (entry_at entries i).node ≤ time → time < (entry_at entries i).start → (worker : ℕ) → worker < workers → RunsOn worker time
  busy i time lt ready later worker there =
      let c = choice_at graph workers priority entries s i lt in
      let least = c.is_least_ready.least (entry_at entries i).node c.candidate in
      let begins = c.start in
      let earliest = c.worker.earliest worker there in
      no_gap i i time worker lt (omega arith) ready (omega arith)

  -- whenever a worker waits until then, a node of the path runs
  abbrev pub Covers : List ℕ → ℕ → Type 0
  Covers path end = (time : ℕ) → time < end → ((worker : ℕ) → worker < workers → RunsOn worker time)
      ⊎ ((j : ℕ) × (j < length entries) × Contains path (entry_at entries j).node × ((entry_at entries j).start ≤ time) × (time < (entry_at entries j).end))

  pub record Chain (i : ℕ) : Type 0 where
    pub front : List ℕ
    pub is_path : IsPathOf graph (front ++ (entry_at entries i).node ∷ [])
    pub covers : Covers (front ++ (entry_at entries i).node ∷ []) (entry_at entries i).end

  -- a node that is ready at the end of a chain goes on with it
  chain_on : (i : ℕ) (front : List ℕ) → i < length entries → IsPathOf graph (front ++ (entry_at entries i).node ∷ []) → Covers front (ready_time graph (take i entries) (entry_at entries i).node) → Chain i
  chain_on i front lt is covered = record {
    front = front;
    is_path = is;
    covers = λ time before. ⊎_elim
        (λ (early : time < ready_time graph (take i entries) (entry_at entries i).node). ⊎_elim
        (λ (all : (worker : ℕ) → worker < workers → RunsOn worker time). inl all)
        (λ (one : (j : ℕ) × (j < length entries) × Contains front (entry_at entries j).node × ((entry_at entries j).start ≤ time) × (time < (entry_at entries j).end)).
        inr (one.0, one.1, Contains-append_left front ((entry_at entries i).node ∷ []) (entry_at entries one.0).node one.2, one.3, one.4))
        (covered time early))
        (λ (ready : ready_time graph (take i entries) (entry_at entries i).node ≤ time). ⊎_elim
        (λ (later : time < (entry_at entries i).start). inl (busy i time lt ready later))
        (λ (begun : (entry_at entries i).start ≤ time). inr (i, lt, Contains-append_right front ((entry_at entries i).node ∷ []) (entry_at entries i).node (0, omega arith, refl), begun, before))
        (cases_lt time (entry_at entries i).start))
        (cases_lt time (ready_time graph (take i entries) (entry_at entries i).node));
  }

  chain_alone : (i : ℕ) → i < length entries → ready_time graph (take i entries) (entry_at entries i).node ≡ 0 → Chain i
  chain_alone i lt none = chain_on i [] lt (record { there = ((choice_at graph workers priority entries s i lt).candidate.there, tt); joined = tt }) (λ time early. absurd (omega arith))

  chain_before : (i j : ℕ) → i < length entries → j < i → Contains (nodes_before graph.edges (entry_at entries i).node) (entry_at entries j).node
      → (entry_at entries j).end ≡ ready_time graph (take i entries) (entry_at entries i).node → Chain j → Chain i
  chain_before i j lt below before e chain =
      chain_on i (chain.front ++ (entry_at entries j).node ∷ []) lt
      (record {
        there = each-append (λ n. n < graph.nodes) (chain.front ++ (entry_at entries j).node ∷ []) ((entry_at entries i).node ∷ []) chain.is_path.there ((choice_at graph workers priority entries s i lt).candidate.there, tt);
        joined = path_push graph.edges chain.front (entry_at entries j).node (entry_at entries i).node chain.is_path.joined (edge_before graph.edges (entry_at entries i).node (entry_at entries j).node before);
      })
      (λ time early. chain.covers time (omega arith))

  chain_below : (bound i : ℕ) → i < bound → i < length entries → Chain i
  chain_below zero i below lt = absurd (omega arith)
  chain_below (suc bound) i below lt =
      let n = (entry_at entries i).node in
      ⊎_elim
      (λ (none : ready_time graph (take i entries) n ≡ 0). chain_alone i lt none)
      (λ (some : (m : ℕ) × Contains (nodes_before graph.edges n) m × (end_of (take i entries) m ≡ ready_time graph (take i entries) n)). ⊎_elim
      (λ (none : end_of (take i entries) some.0 ≡ 0). chain_alone i lt (let e = some.2 in omega arith))
      (λ (one : (j : ℕ) × (j < i) × (eqb (entry_at entries j).node some.0 ≡ true) × ((entry_at entries j).end ≡ end_of (take i entries) some.0)).
      let own = eqb-true (entry_at entries one.0).node some.0 one.2 in
      let earlier : one.0 < i = one.1 in
      chain_before i one.0 lt earlier (subst (λ m. Contains (nodes_before graph.edges n) m) (sym own) some.1) (one.3 ∙ some.2) (chain_below bound one.0 (omega arith) (omega arith)))
      (ends_before graph workers priority entries s (λ (e : Entry). eqb e.node some.0) i (omega arith)))
      (greatest_where (end_of (take i entries)) (nodes_before graph.edges n))

  pub chain_at : (i : ℕ) → i < length entries → Chain i
  chain_at i lt = chain_below (suc i) i (omega arith) lt
