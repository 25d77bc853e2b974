-- What bounds the length of a schedule.
use Rattle.std.proofs.Common.{◌≡◌, ℕ, zero, suc, ◌+◌, ◌-◌, ◌*◌, ◌<◌, ◌≤◌, ◌⊎◌, ⊎_elim, cond, eqb, List, [], ◌∷◌, take, length, get_or, slice_index, sum, arith, refl, sym, ap, ◌∙◌}
use Rattle.std.specs.List.{AllByRecursion, Contains}
use Rattle.std.proofs.Math.Nat.{mul-le-mul_left}
use Rattle.std.proofs.lemmas.List.{get_or_default, take_all}
use Rattle.std.proofs.lemmas.List.Elements.{recursion_from_All}
use Rattle.std.proofs.lemmas.List.Sums.{sum_by_more}
use Rattle.std.proofs.lemmas.Bool.{cases_eq, eq-eqb, ne_eqb}
use Rattle.worker_mapping.specs.Graph.{CostedGraph}
use Rattle.worker_mapping.specs.Paths.{IsPath, cost_along}
use Rattle.worker_mapping.proofs.Lists.{each-contains}
use Rattle.schedule_bound.specs.declared.slots.Slot.{Slot}
use Rattle.schedule_bound.specs.Slots.{slot_of, length_of, IsRunning}
use Rattle.schedule_bound.specs.Feasible.{IsFeasible}
use Rattle.schedule_bound.specs.Critical.{IsPathOf}
use Rattle.schedule_bound.proofs.Greatest.{greatest_at}
use Rattle.schedule_bound.proofs.Sums.{total, total-le, total-same, total-add, total-scale, total-always, total-swap, total-one, total-single, total-pick}
use Rattle.schedule_bound.proofs.Running.{run, run_during, runs_at, run_small, run_length}

-- the sum of a list by places
sum_below : (xs : List ℕ) (n : ℕ) → n ≤ length xs → sum (take n xs) ≡ total n (slice_index xs)
sum_below xs zero le = refl
sum_below xs (suc n) le =
    let more = sum_by_more (λ x. x) xs n 0 (omega arith) in
    let rest = sum_below xs n (omega arith) in
    let one : suc n ≡ n + 1 = omega arith in
    let next = ap (λ k. sum (take k xs)) one in
    omega arith

pub sum_is : (xs : List ℕ) (n : ℕ) → length xs ≡ n → sum xs ≡ total n (slice_index xs)
sum_is xs n long = ap sum (sym (take_all n xs (omega arith))) ∙ sum_below xs n (omega arith)

-- the sum of what each node of a list has
abbrev pub along : (ℕ → ℕ) → List ℕ → ℕ
along f [] = 0
along f (n ∷ path) = f n + along f path

along_at : (f : ℕ → ℕ) (path : List ℕ) (n : ℕ) → Contains path n → f n ≤ along f path
along_at f path n at = go path at.0 at.1 at.2 where
  go : (p : List ℕ) (k : ℕ) → k < length p → get_or p k n ≡ n → f n ≤ along f p
  go [] k lt is = absurd (omega arith)
  go (x ∷ p) zero lt is = let e : f x ≡ f n = ap f is in omega arith
  go (x ∷ p) (suc k) lt is = let rest = go p k (omega arith) is in omega arith

total_along : (n : ℕ) (f : ℕ → ℕ → ℕ) (path : List ℕ) → total n (λ t. along (λ k. f k t) path) ≡ along (λ k. total n (f k)) path
total_along n f [] = total-always n 0 ∙ omega arith
total_along n f (k ∷ path) = total-add n (f k) (λ t. along (λ j. f j t) path) ∙ ap (λ x. total n (f k) + x) (total_along n f path)

module _ (graph : CostedGraph) (workers : ℕ) (slots : List Slot) (feasible : IsFeasible graph workers slots) where
  pub within_length : (n : ℕ) → n < graph.nodes → (slot_of slots n).end ≤ length_of slots
  within_length n lt =
      let below : n < length slots = (let l = feasible.one_each in omega arith) in
      greatest_at (λ (s : Slot). s.end) slots (slot_of slots n) (n, below, get_or_default slots n (slot_of slots n) _ below)

  -- a path takes as long as it costs
  path_takes : (n : ℕ) (path : List ℕ) → AllByRecursion (λ m. m < graph.nodes) (n ∷ path) → IsPath graph.edges (n ∷ path) → (slot_of slots n).start + cost_along graph.costs (n ∷ path) ≤ length_of slots
  path_takes n [] there joined = let l = feasible.lasting n there.0 in let w = within_length n there.0 in omega arith
  path_takes n (m ∷ path) there joined =
      let l = feasible.lasting n there.0 in
      let rest = path_takes m path there.1 joined.1 in
      let order : (slot_of slots n).end ≤ (slot_of slots m).start = each-contains (λ (e : ℕ × ℕ). (slot_of slots e.0).end ≤ (slot_of slots e.1).start) graph.edges (n, m) (recursion_from_All (λ (e : ℕ × ℕ). (slot_of slots e.0).end ≤ (slot_of slots e.1).start) graph.edges feasible.in_order) joined.0 in
      omega arith

  pub path_bound : (path : List ℕ) → IsPathOf graph path → cost_along graph.costs path ≤ length_of slots
  path_bound [] is = omega arith
  path_bound (n ∷ path) is = let t = path_takes n path is.there is.joined in omega arith

  -- 1 at each time at which a node runs on a worker
  abbrev on : ℕ → ℕ → ℕ → ℕ
  on n worker time = cond (eqb (slot_of slots n).worker worker) (run (slot_of slots n) time) 0

  on_own : (n worker time : ℕ) → (slot_of slots n).worker ≡ worker → on n worker time ≡ run (slot_of slots n) time
  on_own n worker time own = rw (eq-eqb (slot_of slots n).worker worker own) refl

  on_other : (n worker time : ℕ) → ((slot_of slots n).worker ≡ worker → ⊥) → on n worker time ≡ 0
  on_other n worker time other = rw (ne_eqb (slot_of slots n).worker worker other) refl

  on_small : (n worker time : ℕ) → on n worker time ≤ 1
  on_small n worker time = ⊎_elim
      (λ (own : (slot_of slots n).worker ≡ worker). let e = on_own n worker time own in let k = run_small (slot_of slots n) time in omega arith)
      (λ (other : (slot_of slots n).worker ≡ worker → ⊥). let e = on_other n worker time other in omega arith)
      (cases_eq (slot_of slots n).worker worker)

  on_some : (n worker time : ℕ) → 0 < on n worker time → ((slot_of slots n).worker ≡ worker) × IsRunning (slot_of slots n) time
  on_some n worker time some = ⊎_elim
      (λ (own : (slot_of slots n).worker ≡ worker). (own, runs_at (slot_of slots n) time (let e = on_own n worker time own in omega arith)))
      (λ (other : (slot_of slots n).worker ≡ worker → ⊥). let e = on_other n worker time other in absurd (omega arith))
      (cases_eq (slot_of slots n).worker worker)

  -- how many nodes run at a time, worker by worker
  pub running : ℕ → ℕ
  running time = total graph.nodes (λ n. run (slot_of slots n) time)

  by_worker : (time : ℕ) → running time ≡ total workers (λ worker. total graph.nodes (λ n. on n worker time))
  unfolding running
  by_worker time =
      total-same graph.nodes (λ n. run (slot_of slots n) time) (λ n. total workers (λ worker. on n worker time)) (λ n lt. sym (total-pick workers (slot_of slots n).worker (run (slot_of slots n) time) (feasible.workers_there n lt)))
      ∙ total-swap graph.nodes workers (λ n worker. on n worker time)

  running_few : (time : ℕ) → running time ≤ workers
  running_few time =
      let each = total-le workers (λ worker. total graph.nodes (λ n. on n worker time)) (λ worker. 1) (λ worker lt. total-single graph.nodes (λ n. on n worker time) (λ n h. on_small n worker time)
      (λ m n m_there n_there a b. let x = on_some m worker time a in let y = on_some n worker time b in feasible.alone m n time m_there n_there (x.0 ∙ sym y.0) x.1 y.1)) in
      let e = by_worker time in
      let ones = total-always workers 1 in
      omega arith

  pub total_running : length graph.costs ≡ graph.nodes → sum graph.costs ≡ total (length_of slots) running
  unfolding running
  total_running long =
      sum_is graph.costs graph.nodes long
      ∙ (total-same graph.nodes (slice_index graph.costs) (λ n. total (length_of slots) (run (slot_of slots n))) (λ n lt. sym (run_length (slot_of slots n) (length_of slots) (slice_index graph.costs n) (within_length n lt) (feasible.lasting n lt)))
      ∙ total-swap graph.nodes (length_of slots) (λ n time. run (slot_of slots n) time))

  pub work_bound : length graph.costs ≡ graph.nodes → sum graph.costs ≤ workers * length_of slots
  work_bound long =
      let e = total_running long in
      let le = total-le (length_of slots) running (λ time. workers) (λ time lt. running_few time) in
      let all = total-always (length_of slots) workers in
      let turned : length_of slots * workers ≡ workers * length_of slots = omega arith in
      omega arith

  all_run : (time : ℕ) → ((worker : ℕ) → worker < workers → (n : ℕ) × (n < graph.nodes) × ((slot_of slots n).worker ≡ worker) × IsRunning (slot_of slots n) time) → workers ≤ running time
  all_run time all =
      let each = total-le workers (λ worker. 1) (λ worker. total graph.nodes (λ n. on n worker time)) (λ worker lt.
      let at = all worker lt in
      let one = total-one graph.nodes at.0 (λ n. on n worker time) at.1 in
      let own = on_own at.0 worker time at.2 in
      let runs = run_during (slot_of slots at.0) time at.3 in
      omega arith) in
      let e = by_worker time in
      let ones = total-always workers 1 in
      omega arith

  one_runs : (time n : ℕ) → n < graph.nodes → IsRunning (slot_of slots n) time → 1 ≤ running time
  unfolding running
  one_runs time n lt r =
      let one = total-one graph.nodes n (λ k. run (slot_of slots k) time) lt in
      let runs = run_during (slot_of slots n) time r in
      omega arith

  pub path_runs : (path : List ℕ) → AllByRecursion (λ n. n < graph.nodes) path → total (length_of slots) (λ time. along (λ n. run (slot_of slots n) time) path) ≡ cost_along graph.costs path
  path_runs path there = total_along (length_of slots) (λ n time. run (slot_of slots n) time) path ∙ lengths path there where
    lengths : (p : List ℕ) → AllByRecursion (λ n. n < graph.nodes) p → along (λ n. total (length_of slots) (run (slot_of slots n))) p ≡ cost_along graph.costs p
    lengths [] all = refl
    lengths (n ∷ p) all =
        let one = run_length (slot_of slots n) (length_of slots) (slice_index graph.costs n) (within_length n all.0) (feasible.lasting n all.0) in
        let rest = lengths p all.1 in
        omega arith

  -- a path of which a node runs whenever a worker waits bounds the length from above
  pub covered_bound : (path : List ℕ) (most : ℕ) → 0 < workers → length graph.costs ≡ graph.nodes → AllByRecursion (λ n. n < graph.nodes) path → cost_along graph.costs path ≤ most
      → ((time : ℕ) → time < length_of slots → ((worker : ℕ) → worker < workers → (n : ℕ) × (n < graph.nodes) × ((slot_of slots n).worker ≡ worker) × IsRunning (slot_of slots n) time)
      ⊎ ((n : ℕ) × (n < graph.nodes) × Contains path n × IsRunning (slot_of slots n) time))
      → workers * length_of slots ≤ sum graph.costs + (workers - 1) * most
  covered_bound path most some long there cost covered =
      let rest : ℕ = workers - 1 in
      let each = total-le (length_of slots) (λ time. workers) (λ time. running time + rest * along (λ n. run (slot_of slots n) time) path) (λ time lt. ⊎_elim
      (λ (all : (worker : ℕ) → worker < workers → (n : ℕ) × (n < graph.nodes) × ((slot_of slots n).worker ≡ worker) × IsRunning (slot_of slots n) time). let k = all_run time all in omega arith)
      (λ (one : (n : ℕ) × (n < graph.nodes) × Contains path n × IsRunning (slot_of slots n) time).
      let a = one_runs time one.0 one.1 one.3 in
      let b = along_at (λ n. run (slot_of slots n) time) path one.0 one.2 in
      let runs = run_during (slot_of slots one.0) time one.3 in
      let times = mul-le-mul_left rest (one_le (run (slot_of slots one.0) time) (along (λ n. run (slot_of slots n) time) path) runs b) in
      omega arith)
      (covered time lt)) in
      let all = total-always (length_of slots) workers in
      let parts = total-add (length_of slots) running (λ time. rest * along (λ n. run (slot_of slots n) time) path) in
      let scaled = total-scale (length_of slots) rest (λ time. along (λ n. run (slot_of slots n) time) path) in
      let whole = ap (λ x. rest * x) (path_runs path there) in
      let work = total_running long in
      let more = mul-le-mul_left rest cost in
      let turned : length_of slots * workers ≡ workers * length_of slots = omega arith in
      omega arith
    where
      one_le : (x y : ℕ) → x ≡ 1 → x ≤ y → 1 ≤ y
      one_le x y e h = omega arith
