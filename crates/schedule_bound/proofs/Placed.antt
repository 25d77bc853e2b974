-- What the entries of a list schedule say, place by place.
use Rattle.std.proofs.Common.{◌≡◌, ℕ, zero, suc, ◌<◌, ◌≤◌, ◌⊎◌, inl, inr, ⊎_elim, Bool, true, false, cond, eqb, ◌||◌, List, [], ◌∷◌, ◌++◌, map, take, length, IsTrue, arith, refl, sym, ap, subst, ◌∙◌, append_assoc, append-nil}
use Rattle.std.specs.List.{AllByRecursion, All, Contains, filter}
use Rattle.std.proofs.lemmas.List.{get_or-take, length-take-le}
use Rattle.std.proofs.lemmas.List.Elements.{All-from_recursion, recursion_from_All}
use Rattle.std.proofs.lemmas.Bool.{cases_eq, cases_lt, cases_Bool, eq-eqb, ne_eqb, true≢false}
use Rattle.worker_mapping.specs.Graph.{CostedGraph, nodes_before, greatest}
use Rattle.worker_mapping.specs.Schedule.{last_end, end_of, is_placed, ready_time, IsCandidate, IsChoice, EachEntry, IsSchedule}
use Rattle.worker_mapping.specs.declared.entry.Entry.{Entry}
use Rattle.worker_mapping.proofs.Lists.{each-contains}
use Rattle.schedule_bound.specs.Listed.{entry_at}
use Rattle.schedule_bound.proofs.Greatest.{greatest_at, greatest_where}

-- each entry with those before it
entry_from : (P : List Entry → Entry → Type 0) (before rest : List Entry) (i : ℕ) → EachEntry P before rest → i < length rest → P (before ++ take i rest) (entry_at rest i)
entry_from P before [] i each lt = absurd (omega arith)
entry_from P before (e ∷ rest) zero each lt = rw append-nil each.0
entry_from P before (e ∷ rest) (suc i) each lt = let k = entry_from P (before ++ e ∷ []) rest i each.1 (omega arith) in rw append_assoc at k

-- a node with an entry is placed, and the other way round
pub is_placed_at : (xs : List Entry) (j n : ℕ) → j < length xs → (entry_at xs j).node ≡ n → is_placed xs n ≡ true
is_placed_at [] j n lt is = absurd (omega arith)
is_placed_at (e ∷ xs) zero n lt is = rw (eq-eqb e.node n is) refl
is_placed_at (e ∷ xs) (suc j) n lt is = let rest = is_placed_at xs j n (omega arith) is in elim (eqb e.node n) as (λ b. ◌≡◌ {A = Bool} (b || is_placed xs n) true) [ true ↦ refl | false ↦ rest ]

pub placed_where : (xs : List Entry) (n : ℕ) → is_placed xs n ≡ true → (j : ℕ) × (j < length xs) × ((entry_at xs j).node ≡ n)
placed_where [] n placed = absurd (true≢false (sym placed))
placed_where (e ∷ xs) n placed = ⊎_elim
    (λ (own : e.node ≡ n). (0, omega arith, own))
    (λ (other : e.node ≡ n → ⊥). let rest = placed_where xs n (rw (ne_eqb e.node n other) at placed) in (suc rest.0, (let k = rest.1 in omega arith), rest.2))
    (cases_eq e.node n)

-- the greatest end of the entries that pass
pub end_at : (test : Entry → Bool) (xs : List Entry) (j : ℕ) → j < length xs → test (entry_at xs j) ≡ true → (entry_at xs j).end ≤ last_end test xs
end_at test [] j lt passes = absurd (omega arith)
end_at test (e ∷ xs) zero lt passes = rw passes (omega arith)
end_at test (e ∷ xs) (suc j) lt passes =
    let rest = end_at test xs j (omega arith) passes in
    elim (test e) as (λ b. (entry_at xs j).end ≤ greatest (map (λ (x : Entry). x.end) (cond b (e ∷ filter test xs) (filter test xs)))) [ true ↦ omega arith | false ↦ rest ]

pub end_where : (test : Entry → Bool) (xs : List Entry) → (last_end test xs ≡ 0) ⊎ ((j : ℕ) × (j < length xs) × (test (entry_at xs j) ≡ true) × ((entry_at xs j).end ≡ last_end test xs))
end_where test [] = inl refl
end_where test (e ∷ xs) = ⊎_elim
    (λ (passes : test e ≡ true). rw passes (⊎_elim
    (λ (less : e.end < last_end test xs). ⊎_elim
    (λ (none : last_end test xs ≡ 0). absurd (omega arith))
    (λ (some : (j : ℕ) × (j < length xs) × (test (entry_at xs j) ≡ true) × ((entry_at xs j).end ≡ last_end test xs)). inr (suc some.0, (let k = some.1 in omega arith), some.2, (let k = some.3 in omega arith)))
    (end_where test xs))
    (λ (more : last_end test xs ≤ e.end). inr (0, omega arith, passes, omega arith))
    (cases_lt e.end (last_end test xs))))
    (λ (fails : test e ≡ false). rw fails (⊎_elim
    (λ (none : last_end test xs ≡ 0). inl none)
    (λ (some : (j : ℕ) × (j < length xs) × (test (entry_at xs j) ≡ true) × ((entry_at xs j).end ≡ last_end test xs)). inr (suc some.0, (let k = some.1 in omega arith), some.2, some.3))
    (end_where test xs)))
    (cases_Bool (test e))

-- all of some nodes are placed, or one isn't
all_or_one : (placed : List Entry) (xs : List ℕ) → All (λ m. IsTrue (is_placed placed m)) xs ⊎ ((m : ℕ) × Contains xs m × (is_placed placed m ≡ false))
all_or_one placed xs = ⊎_elim (λ (all : AllByRecursion (λ m. IsTrue (is_placed placed m)) xs). inl (All-from_recursion (λ m. IsTrue (is_placed placed m)) xs all)) (λ (one : (m : ℕ) × Contains xs m × (is_placed placed m ≡ false)). inr one) (go xs)
  where
    go : (ys : List ℕ) → AllByRecursion (λ m. IsTrue (is_placed placed m)) ys ⊎ ((m : ℕ) × Contains ys m × (is_placed placed m ≡ false))
    go [] = inl tt
    go (y ∷ ys) = ⊎_elim
        (λ (holds : is_placed placed y ≡ true). ⊎_elim
        (λ (all : AllByRecursion (λ m. IsTrue (is_placed placed m)) ys). inl (holds, all))
        (λ (one : (m : ℕ) × Contains ys m × (is_placed placed m ≡ false)). inr (one.0, (suc one.1.0, (let k = one.1.1 in omega arith), one.1.2), one.2))
        (go ys))
        (λ (fails : is_placed placed y ≡ false). inr (y, (0, omega arith, refl), fails))
        (cases_Bool (is_placed placed y))

all_at : (P : ℕ → Type 0) (xs : List ℕ) (x : ℕ) → All P xs → Contains xs x → P x
all_at P xs x all at = each-contains P xs x (recursion_from_All P xs all) at

module _ (graph : CostedGraph) (workers : ℕ) (priority : List ℕ) (entries : List Entry) (s : IsSchedule graph workers priority entries) where
  pub choice_at : (i : ℕ) → i < length entries → IsChoice graph workers priority (take i entries) (entry_at entries i)
  choice_at i lt = entry_from (IsChoice graph workers priority) [] entries i s.each lt

  long : (i : ℕ) → i ≤ length entries → length (take i entries) ≡ i
  long i le = length-take-le i entries le

  -- the entry at a place of the entries before another
  same_entry : (i j : ℕ) → j < i → entry_at (take i entries) j ≡ entry_at entries j
  same_entry i j lt = get_or-take i entries j _ lt

  pub placed_before : (i j : ℕ) → j < i → i ≤ length entries → is_placed (take i entries) (entry_at entries j).node ≡ true
  placed_before i j lt le = is_placed_at (take i entries) j (entry_at entries j).node (let l = long i le in omega arith) (ap (λ (e : Entry). e.node) (same_entry i j lt))

  pub where_before : (i n : ℕ) → i ≤ length entries → is_placed (take i entries) n ≡ true → (j : ℕ) × (j < i) × ((entry_at entries j).node ≡ n)
  where_before i n le placed =
      let at = placed_where (take i entries) n placed in
      let lt : at.0 < i = (let l = long i le in let k = at.1 in omega arith) in
      (at.0, lt, sym (ap (λ (e : Entry). e.node) (same_entry i at.0 lt)) ∙ at.2)

  still_placed : (i k n : ℕ) → i ≤ k → k ≤ length entries → is_placed (take i entries) n ≡ true → is_placed (take k entries) n ≡ true
  still_placed i k n le fits placed =
      let at = where_before i n (omega arith) placed in
      subst (λ m. is_placed (take k entries) m ≡ true) at.2 (placed_before k at.0 (let h = at.1 in omega arith) fits)

  pub not_yet_placed : (i k n : ℕ) → i ≤ k → k ≤ length entries → is_placed (take k entries) n ≡ false → is_placed (take i entries) n ≡ false
  not_yet_placed i k n le fits unplaced = ⊎_elim
      (λ (placed : is_placed (take i entries) n ≡ true). absurd (true≢false (sym (still_placed i k n le fits placed) ∙ unplaced)))
      (λ (fails : is_placed (take i entries) n ≡ false). fails)
      (cases_Bool (is_placed (take i entries) n))

  pub end_before : (test : Entry → Bool) (i j : ℕ) → j < i → i ≤ length entries → test (entry_at entries j) ≡ true → (entry_at entries j).end ≤ last_end test (take i entries)
  end_before test i j lt le passes =
      let same = same_entry i j lt in
      let k = end_at test (take i entries) j (let l = long i le in omega arith) (ap test same ∙ passes) in
      rw same at k

  pub ends_before : (test : Entry → Bool) (i : ℕ) → i ≤ length entries → (last_end test (take i entries) ≡ 0) ⊎ ((j : ℕ) × (j < i) × (test (entry_at entries j) ≡ true) × ((entry_at entries j).end ≡ last_end test (take i entries)))
  ends_before test i le = ⊎_elim
      (λ (none : last_end test (take i entries) ≡ 0). inl none)
      (λ (some : (j : ℕ) × (j < length (take i entries)) × (test (entry_at (take i entries) j) ≡ true) × ((entry_at (take i entries) j).end ≡ last_end test (take i entries))).
      let lt : some.0 < i = (let l = long i le in let k = some.1 in omega arith) in
      let same = same_entry i some.0 lt in
      inr (some.0, lt, sym (ap test same) ∙ some.2, sym (ap (λ (e : Entry). e.end) same) ∙ some.3))
      (end_where test (take i entries))

  ends_rise : (test : Entry → Bool) (i k : ℕ) → i ≤ k → k ≤ length entries → last_end test (take i entries) ≤ last_end test (take k entries)
  ends_rise test i k le fits = ⊎_elim
      (λ (none : last_end test (take i entries) ≡ 0). omega arith)
      (λ (some : (j : ℕ) × (j < i) × (test (entry_at entries j) ≡ true) × ((entry_at entries j).end ≡ last_end test (take i entries))).
      let h = end_before test k some.0 (let l = some.1 in omega arith) fits some.2 in let e = some.3 in omega arith)
      (ends_before test i (omega arith))

  pub ready_rises : (i k n : ℕ) → i ≤ k → k ≤ length entries → ready_time graph (take i entries) n ≤ ready_time graph (take k entries) n
  ready_rises i k n le fits = ⊎_elim
      (λ (none : ready_time graph (take i entries) n ≡ 0). omega arith)
      (λ (some : (m : ℕ) × Contains (nodes_before graph.edges n) m × (end_of (take i entries) m ≡ ready_time graph (take i entries) n)).
      let more = ends_rise (λ (e : Entry). eqb e.node some.0) i k le fits in
      let at = greatest_at (end_of (take k entries)) (nodes_before graph.edges n) some.0 some.1 in
      let e = some.2 in omega arith)
      (greatest_where (end_of (take i entries)) (nodes_before graph.edges n))

  -- a node is ready when each node before it ends
  pub ready_after : (i j n : ℕ) → j < i → i ≤ length entries → Contains (nodes_before graph.edges n) (entry_at entries j).node → (entry_at entries j).end ≤ ready_time graph (take i entries) n
  ready_after i j n lt le before =
      let m = (entry_at entries j).node in
      let own = end_before (λ (e : Entry). eqb e.node m) i j lt le (eq-eqb m m refl) in
      let at = greatest_at (end_of (take i entries)) (nodes_before graph.edges n) m before in
      omega arith

  pub lasts : (i : ℕ) → i < length entries → (entry_at entries i).start ≤ (entry_at entries i).end
  lasts i lt = let e = (choice_at i lt).end in omega arith

  pub all_before : (i n : ℕ) → i < length entries → (entry_at entries i).node ≡ n → (m : ℕ) → Contains (nodes_before graph.edges n) m → (j : ℕ) × (j < i) × ((entry_at entries j).node ≡ m)
  all_before i n lt own m before =
      let c = (choice_at i lt).candidate in
      let placed : is_placed (take i entries) m ≡ true = all_at (λ m. IsTrue (is_placed (take i entries) m)) (nodes_before graph.edges (entry_at entries i).node) m c.after_all (subst (λ k. Contains (nodes_before graph.edges k) m) (sym own) before) in
      where_before i m (omega arith) placed

  -- a candidate of the entries up to a place, which was one before or follows the entry there
  was_candidate : (i n : ℕ) → suc i ≤ length entries → IsCandidate graph (take (suc i) entries) n → IsCandidate graph (take i entries) n ⊎ Contains (nodes_before graph.edges n) (entry_at entries i).node
  was_candidate i n le c = ⊎_elim
      (λ (all : All (λ m. IsTrue (is_placed (take i entries) m)) (nodes_before graph.edges n)). inl (record { there = c.there; unplaced = not_yet_placed i (suc i) n (omega arith) le c.unplaced; after_all = all }))
      (λ (one : (m : ℕ) × Contains (nodes_before graph.edges n) m × (is_placed (take i entries) m ≡ false)).
      let placed : is_placed (take (suc i) entries) one.0 ≡ true = all_at (λ m. IsTrue (is_placed (take (suc i) entries) m)) (nodes_before graph.edges n) one.0 c.after_all one.1 in
      let at = where_before (suc i) one.0 le placed in
      let here : at.0 ≡ i = ⊎_elim
      (λ (less : at.0 < i). absurd (true≢false (sym (placed_before i at.0 less (omega arith)) ∙ (ap (is_placed (take i entries)) at.2 ∙ one.2))))
      (λ (more : i ≤ at.0). let k = at.1 in omega arith)
      (cases_lt at.0 i) in
      inr (subst (λ m. Contains (nodes_before graph.edges n) m) (sym at.2 ∙ ap (λ k. (entry_at entries k).node) here) one.1))
      (all_or_one (take i entries) (nodes_before graph.edges n))

  starts_next : (i : ℕ) → suc i < length entries → (entry_at entries i).start ≤ (entry_at entries (suc i)).start
  starts_next i lt =
      let a = choice_at i (omega arith) in
      let b = choice_at (suc i) lt in
      let free = a.worker.earliest (entry_at entries (suc i)).worker b.worker.there in
      let later = ends_rise (λ (e : Entry). eqb e.worker (entry_at entries (suc i)).worker) i (suc i) (omega arith) (omega arith) in
      let q = b.is_least_ready.candidate in
      let reached = b.is_least_ready.reached in
      let ready : a.least_ready ≤ ready_time graph (take (suc i) entries) q = ⊎_elim
      (λ (was : IsCandidate graph (take i entries) q). let l = a.is_least_ready.least q was in let r = ready_rises i (suc i) q (omega arith) (omega arith) in omega arith)
      (λ (after : Contains (nodes_before graph.edges q) (entry_at entries i).node). let r = ready_after (suc i) i q (omega arith) (omega arith) after in let l = lasts i (omega arith) in let st = a.start in omega arith)
      (was_candidate i q (omega arith) b.is_least_ready.is_candidate) in
      let from = a.start in
      let to = b.start in
      omega arith

  pub starts_rise : (j i : ℕ) → j ≤ i → i < length entries → (entry_at entries j).start ≤ (entry_at entries i).start
  starts_rise j zero le lt = let same : j ≡ 0 = omega arith in rw same (omega arith)
  starts_rise j (suc i) le lt = ⊎_elim
      (λ (less : j < suc i). let rest = starts_rise j i (omega arith) (omega arith) in let next = starts_next i lt in omega arith)
      (λ (more : suc i ≤ j). let same : j ≡ suc i = omega arith in rw same (omega arith))
      (cases_lt j (suc i))
