-- The run in which the nodes of a line are claimed and finished one by one keeps all orders.
use Rattle.std.proofs.Common.{◌≡◌, ℕ, zero, suc, ◌<◌, ◌≤◌, ◌⊎◌, inl, inr, ⊎_elim, List, [], ◌∷◌, ◌++◌, length, take, slice_index, add-one, arith, refl, sym, ap, subst, ◌∙◌}
use Rattle.std.specs.List.{All, Contains, flat_map}
use Rattle.std.proofs.lemmas.List.{append_assoc, length-append, take_all, take_more, same_from_push}
use Rattle.std.proofs.lemmas.List.Concat.{flat_map-append}
use Rattle.std.proofs.lemmas.List.Elements.{All-weaker, Contains-push, Contains-push_cases}
use Rattle.order_memory.specs.Line.{IsLine}
use Rattle.order_memory.specs.Orders.{AreOrdersOf, neighbours}
use Rattle.order_memory.specs.Runs.{Event, claim, finish, MayClaim, IsDue, IsOrderedRun, FinishesAll}
use Rattle.order_memory.proofs.OpenSets.{none_in, first_in, later_in, in_cases}
use Rattle.order_memory.proofs.Rising.{in_front_of}

abbrev both_of : ℕ → List Event
both_of n = claim n ∷ finish n ∷ []

abbrev one_by_one : List ℕ → List Event
one_by_one line = flat_map both_of line

claims_in : (line : List ℕ) (n : ℕ) → Contains (one_by_one line) (claim n) → Contains line n
claims_in [] n at = absurd (none_in (claim n) at)
claims_in (m ∷ line) n at = ⊎_elim
    (λ (own : claim m ≡ claim n). let same : m ≡ n = cc in rw same (first_in n line))
    (λ (rest : Contains (finish m ∷ one_by_one line) (claim n)). ⊎_elim
    (λ (other : finish m ≡ claim n). absurd (cc))
    (λ (later : Contains (one_by_one line) (claim n)). later_in m line n (claims_in line n later))
    (in_cases (finish m) (one_by_one line) (claim n) rest))
    (in_cases (claim m) (finish m ∷ one_by_one line) (claim n) at)

finishes_in : (line : List ℕ) (n : ℕ) → Contains (one_by_one line) (finish n) → Contains line n
finishes_in [] n at = absurd (none_in (finish n) at)
finishes_in (m ∷ line) n at = ⊎_elim
    (λ (other : claim m ≡ finish n). absurd (cc))
    (λ (rest : Contains (finish m ∷ one_by_one line) (finish n)). ⊎_elim
    (λ (own : finish m ≡ finish n). let same : m ≡ n = cc in rw same (first_in n line))
    (λ (later : Contains (one_by_one line) (finish n)). later_in m line n (finishes_in line n later))
    (in_cases (finish m) (one_by_one line) (finish n) rest))
    (in_cases (claim m) (finish m ∷ one_by_one line) (finish n) at)

finishes_each : (line : List ℕ) (n : ℕ) → Contains line n → Contains (one_by_one line) (finish n)
finishes_each [] n at = absurd (none_in n at)
finishes_each (m ∷ line) n at = ⊎_elim
    (λ (own : m ≡ n). rw (← own) (later_in (claim m) (finish m ∷ one_by_one line) (finish m) (first_in (finish m) (one_by_one line))))
    (λ (later : Contains line n). later_in (claim m) (finish m ∷ one_by_one line) (finish n) (later_in (finish m) (one_by_one line) (finish n) (finishes_each line n later)))
    (in_cases m line n at)

-- a list ends here, or has a last element
by_end : {X : Type 0} (xs : List X) → (xs ≡ []) ⊎ ((front : List X) × (last : X) × (xs ≡ front ++ last ∷ []))
by_end [] = inl refl
by_end {X} (x ∷ xs) = inr (⊎_elim
    (λ (none : xs ≡ []). ([], x, ap (λ (rest : List X). x ∷ rest) none))
    (λ (some : (front : List X) × (last : X) × (xs ≡ front ++ last ∷ [])). (x ∷ some.0, some.1, ap (λ (rest : List X). x ∷ rest) some.2))
    (by_end xs))

module _ (edges : List (ℕ × ℕ)) (orders : List (List ℕ)) where
  -- an event that is due, behind an ordered run
  one_more : (run : List Event) (event : Event) → IsOrderedRun edges orders run → IsDue edges orders run event → IsOrderedRun edges orders (run ++ event ∷ [])
  one_more run event ordered due = λ past here later same. ⊎_elim
      (λ (none : later ≡ []).
      let both = same_from_push run past event here (same ∙ ap (λ (rest : List Event). past ++ here ∷ rest) none) in
      let at_past : IsDue edges orders past event = subst (λ (r : List Event). IsDue edges orders r event) both.0 due in
      subst (λ (e : Event). IsDue edges orders past e) both.1 at_past)
      (λ (some : (front : List Event) × (last : Event) × (later ≡ front ++ last ∷ [])).
      let both = same_from_push run (past ++ here ∷ some.0) event some.1 (same ∙ ap (λ (rest : List Event). past ++ here ∷ rest) some.2 ∙ sym (append_assoc past (here ∷ some.0) (some.1 ∷ []))) in
      ordered past here some.0 both.0)
      (by_end later)

  module _ (nodes : ℕ) (line : List ℕ) (is_line : IsLine nodes edges line) (behind : (k : ℕ) → k < length line → All (λ order. All (λ e. e.1 ≡ slice_index line k → Contains (take k line) e.0) (neighbours order)) orders) where
    claimable : (k : ℕ) → k < length line → MayClaim edges orders (one_by_one (take k line)) (slice_index line k)
    claimable k inside =
        let n : ℕ = slice_index line k in
        let front : List ℕ = take k line in
        let is_open = (is_line.each k inside).is_open in
        record {
          once = λ at. is_open.new (claims_in front n at);
          tails = All-weaker (λ (e : ℕ × ℕ). e.1 ≡ n → Contains front e.0) (λ (e : ℕ × ℕ). e.1 ≡ n → Contains (one_by_one front) (finish e.0)) (λ e is same. finishes_each front e.0 (is same)) edges is_open.tails;
          before = All-weaker (λ (order : List ℕ). All (λ e. e.1 ≡ n → Contains front e.0) (neighbours order)) (λ (order : List ℕ). All (λ e. e.1 ≡ n → Contains (one_by_one front) (finish e.0)) (neighbours order))
              (λ order all. All-weaker (λ (e : ℕ × ℕ). e.1 ≡ n → Contains front e.0) (λ (e : ℕ × ℕ). e.1 ≡ n → Contains (one_by_one front) (finish e.0)) (λ e is same. finishes_each front e.0 (is same)) (neighbours order) all) orders (behind k inside);
        }

    up_to : (k : ℕ) → k ≤ length line → IsOrderedRun edges orders (one_by_one (take k line))
    up_to zero inside = λ past event later same. absurd (let long = ap length same in let whole = length-append past (event ∷ later) in omega arith)
    up_to (suc k) inside =
        let n : ℕ = slice_index line k in
        let front : List ℕ = take k line in
        let claimed = one_more (one_by_one front) (claim n) (up_to k (omega arith)) (claimable k (omega arith)) in
        let finished = one_more (one_by_one front ++ claim n ∷ []) (finish n) claimed (record {
          once = λ at. ⊎_elim
              (λ (old : Contains (one_by_one front) (finish n)). (is_line.each k (omega arith)).is_open.new (finishes_in front n old))
              (λ (own : claim n ≡ finish n). absurd (cc))
              (Contains-push_cases (one_by_one front) (claim n) (finish n) at);
          claimed = Contains-push (one_by_one front) (claim n);
        }) in
        let longer : take (suc k) line ≡ front ++ n ∷ [] = rw (add-one k) at (take_more line k 0 (omega arith)) in
        let joined : one_by_one (take (suc k) line) ≡ (one_by_one front ++ claim n ∷ []) ++ finish n ∷ [] = ap one_by_one longer ∙ flat_map-append both_of front (n ∷ []) ∙ sym (append_assoc (one_by_one front) (claim n ∷ []) (finish n ∷ [])) in
        rw joined finished

    all_through : (run : List Event) × IsOrderedRun edges orders run × FinishesAll nodes run
    all_through = (
      one_by_one line,
      subst (λ (xs : List ℕ). IsOrderedRun edges orders (one_by_one xs)) (take_all (length line) line (omega arith)) (up_to (length line) (omega arith)),
      (λ n below. finishes_each line n (is_line.all n below)),
    )

pub whole_run : (nodes : ℕ) (ranks : List ℕ) (edges : List (ℕ × ℕ)) (line : List ℕ) (is_line : IsLine nodes edges line) (places : (i : ℕ) → i < length line → slice_index ranks (slice_index line i) ≡ i) (home : List ℕ) (workers : ℕ) (orders : List (List ℕ)) → AreOrdersOf home workers line orders → (run : List Event) × IsOrderedRun edges orders run × FinishesAll nodes run
whole_run nodes ranks edges line is_line places home workers orders of_line = all_through edges orders nodes line is_line (λ k inside. in_front_of nodes ranks edges line is_line places home workers orders of_line k inside)
