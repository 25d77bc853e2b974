-- What stands before an event of an ordered run, and why live buffers exclude each other.
use Rattle.std.proofs.Common.{◌≡◌, ℕ, ◌<◌, ◌⊎◌, ⊎_elim, List, [], ◌∷◌, ◌++◌, length, arith, sym, subst, ap, ◌∙◌}
use Rattle.std.specs.List.{All, AllByRecursion, Contains, flat_map}
use Rattle.std.proofs.lemmas.Bool.{cases_order}
use Rattle.std.proofs.lemmas.List.{append_assoc, append-nil, get_or_append_left}
use Rattle.std.proofs.lemmas.List.Elements.{All-contains, recursion_from_All, Contains-append_left, Contains-append_cases, Contains-push_cases}
use Rattle.memory_exclusion.specs.Paths.{tail_of, head_of, Leads, Excludes}
use Rattle.placement_checker.specs.Placed.{Valid}
use Rattle.order_memory.specs.Orders.{neighbours, after_of}
use Rattle.order_memory.specs.Runs.{Event, claim, finish, MayClaim, IsDue, IsOrderedRun, IsLive, LiveAreApart}

-- what holds of the neighbours in each order holds of all of them
in_orders : (P : ℕ × ℕ → Type 0) (orders : List (List ℕ)) → AllByRecursion (λ order. All P (neighbours order)) orders → (e : ℕ × ℕ) → Contains (flat_map neighbours orders) e → P e
in_orders P [] all e at = absurd (let k = at.1 in omega arith)
in_orders P (order ∷ orders) all e at = ⊎_elim
    (λ (first : Contains (neighbours order) e). All-contains P (neighbours order) e all.0 first)
    (λ (later : Contains (flat_map neighbours orders) e). in_orders P orders all.1 e later)
    (Contains-append_cases (neighbours order) (flat_map neighbours orders) e at)

-- before a claim all that comes before the node is finished, and before a finish it is claimed
pub record InOrder (edges : List (ℕ × ℕ)) (orders : List (List ℕ)) (past : List Event) : Type 0 where
  pub finished : (e : ℕ × ℕ) → Contains (after_of edges orders) e → Contains past (claim e.1) → Contains past (finish e.0)
  pub claimed : (n : ℕ) → Contains past (finish n) → Contains past (claim n)

module _ (edges : List (ℕ × ℕ)) (orders : List (List ℕ)) where
  all_finished : (past : List Event) (n : ℕ) → MayClaim edges orders past n → (e : ℕ × ℕ) → Contains (after_of edges orders) e → e.1 ≡ n → Contains past (finish e.0)
  all_finished past n may e at = ⊎_elim
      (λ (edge : Contains edges e). All-contains (λ (e : ℕ × ℕ). e.1 ≡ n → Contains past (finish e.0)) edges e may.tails edge)
      (λ (pair : Contains (flat_map neighbours orders) e). in_orders (λ (e : ℕ × ℕ). e.1 ≡ n → Contains past (finish e.0)) orders (recursion_from_All (λ (order : List ℕ). All (λ e. e.1 ≡ n → Contains past (finish e.0)) (neighbours order)) orders may.before) e pair)
      (Contains-append_cases edges (flat_map neighbours orders) e at)

  more : (past : List Event) (event : Event) → IsDue edges orders past event → InOrder edges orders past → InOrder edges orders (past ++ event ∷ [])
  more past (claim n) may so_far = record {
    finished = λ e at now. Contains-append_left past (claim n ∷ []) (finish e.0) (⊎_elim
        (λ (old : Contains past (claim e.1)). so_far.finished e at old)
        (λ (new : claim n ≡ claim e.1). all_finished past n may e at (let same : n ≡ e.1 = cc in sym same))
        (Contains-push_cases past (claim n) (claim e.1) now));
    claimed = λ m now. Contains-append_left past (claim n ∷ []) (claim m) (⊎_elim
        (λ (old : Contains past (finish m)). so_far.claimed m old)
        (λ (new : claim n ≡ finish m). absurd (cc))
        (Contains-push_cases past (claim n) (finish m) now));
  }
  more past (finish n) may so_far = record {
    finished = λ e at now. Contains-append_left past (finish n ∷ []) (finish e.0) (⊎_elim
        (λ (old : Contains past (claim e.1)). so_far.finished e at old)
        (λ (new : finish n ≡ claim e.1). absurd (cc))
        (Contains-push_cases past (finish n) (claim e.1) now));
    claimed = λ m now. Contains-append_left past (finish n ∷ []) (claim m) (⊎_elim
        (λ (old : Contains past (finish m)). so_far.claimed m old)
        (λ (new : finish n ≡ finish m). let same : n ≡ m = cc in rw (← same) may.claimed)
        (Contains-push_cases past (finish n) (finish m) now));
  }

  module _ (run : List Event) (ordered : IsOrderedRun edges orders run) where
    from_here : (past later : List Event) → run ≡ past ++ later → InOrder edges orders past → InOrder edges orders run
    from_here past [] same so_far = subst (λ (r : List Event). InOrder edges orders r) (sym (same ∙ append-nil past)) so_far
    from_here past (event ∷ later) same so_far =
        from_here (past ++ event ∷ []) later (same ∙ sym (append_assoc past (event ∷ []) later)) (more past event (ordered past event later same) so_far)

    in_order : InOrder edges orders run
    in_order = from_here [] run (λ i. run) (record { finished = λ e at now. absurd (let k = now.1 in omega arith); claimed = λ n now. absurd (let k = now.1 in omega arith) })

    -- a path leads to a claimed node from finished ones alone
    finished_before : (first : ℕ × ℕ) (path : List (ℕ × ℕ)) → AllByRecursion (Contains (after_of edges orders)) (first ∷ path) → (v w : ℕ) → Leads v w (first ∷ path) → Contains run (claim w) → Contains run (finish v)
    finished_before first [] all v w leads claimed = rw (← leads.0) (in_order.finished first all.0 (rw leads.1 claimed))
    finished_before first (next ∷ path) all v w leads claimed = rw (← leads.0) (in_order.finished first all.0 (in_order.claimed first.1 (finished_before next path all.1 first.1 w leads.1 claimed)))

    no_path : (e f : ℕ) → e < length edges → f < length edges → IsLive edges run e → IsLive edges run f → (path : List (ℕ × ℕ)) → 0 < length path → All (Contains (after_of edges orders)) path → Leads (head_of (after_of edges orders) e) (tail_of (after_of edges orders) f) path → ⊥
    no_path e f e_in f_in one other [] some all leads = omega arith
    no_path e f e_in f_in one other (first ∷ path) some all leads =
        let head : head_of (after_of edges orders) e ≡ head_of edges e = ap (λ (p : ℕ × ℕ). p.1) (get_or_append_left edges (flat_map neighbours orders) (0, 0) e e_in) in
        let tail : tail_of (after_of edges orders) f ≡ tail_of edges f = ap (λ (p : ℕ × ℕ). p.0) (get_or_append_left edges (flat_map neighbours orders) (0, 0) f f_in) in
        let by = recursion_from_All (Contains (after_of edges orders)) (first ∷ path) all in
        let before = finished_before first path by (head_of (after_of edges orders) e) (tail_of (after_of edges orders) f) leads (rw tail other.claimed) in
        one.unread (rw (← head) before)

    exclude : (e f : ℕ) → e < length edges → f < length edges → IsLive edges run e → IsLive edges run f → Excludes (after_of edges orders) e f
    exclude e f e_in f_in one other = record {
      forth = λ path is. no_path e f e_in f_in one other path is.some is.of_graph is.leads;
      back = λ path is. no_path f e f_in e_in other one path is.some is.of_graph is.leads;
    }

    pub live_apart : (sizes offsets : List ℕ) (height : ℕ) → length sizes ≡ length edges → Valid sizes (Excludes (after_of edges orders)) offsets height → LiveAreApart edges sizes offsets run
    live_apart sizes offsets height long valid = λ e f e_in f_in differ one other overlap. ⊎_elim
        (λ (same : e ≡ f). differ same)
        (λ (apart : (e < f) ⊎ (f < e)). ⊎_elim
        (λ (up : e < f). valid.apart e f up (omega arith) (exclude e f e_in f_in one other) overlap)
        (λ (down : f < e). valid.apart f e down (omega arith) (exclude f e f_in e_in other one) (record { cell = overlap.cell; in_one = overlap.in_other; in_other = overlap.in_one }))
        apart)
        (cases_order e f)
