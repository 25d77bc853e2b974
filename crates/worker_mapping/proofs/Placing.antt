-- What is kept of the entries while a schedule grows, one entry more.
use Rattle.std.proofs.Common.{◌≡◌, ℕ, zero, suc, ◌+◌, ◌*◌, ◌^◌, ◌<◌, ◌≤◌, ◌⊎◌, ◌↔◌, inl, inr, ⊎_elim, Bool, true, false, cond, eqb, ltb, not, List, [], ◌∷◌, ◌++◌, max, map, length, set, get_or, slice_index, IsTrue, arith, refl, ap, sym, subst, ◌∙◌}
use Rattle.std.specs.List.{AllByRecursion, filter, Contains, All}
use Rattle.std.proofs.lemmas.List.{length-set, length_push, get_or_default, get_or-set_same, get_or-set_other}
use Rattle.std.proofs.lemmas.List.Elements.{Contains-get_or, All-from_recursion, recursion_from_All}
use Rattle.std.proofs.lemmas.Bool.{cases_eq, cases_lt, cases_Bool, eq-eqb, ne_eqb, eqb-false, true≢false, not-true}
use Rattle.worker_mapping.specs.Graph.{CostedGraph, nodes_after, nodes_before, greatest, AreThere, Rise}
use Rattle.worker_mapping.specs.Schedule.{free_time, end_of, is_placed, times_placed, ready_time, IsCandidate, GoesFirst, IsChoice, EachEntry, IsSchedule}
use Rattle.worker_mapping.specs.Choice.{Candidate, IsNotAfter, candidate_of, IsNext}
use Rattle.sdf_level.specs.Lists.{occurrences}
use Rattle.worker_mapping.specs.Release.{Releases}
use Rattle.worker_mapping.specs.Growing.{waiting_for, unplaced_below, most_cost, Follows}
use Rattle.worker_mapping.specs.Neighbours.{AreCounted}
use Rattle.worker_mapping.specs.declared.entry.Entry.{Entry}
use Rattle.worker_mapping.proofs.Lists.{each-weaker, each-append, each-contains}
use Rattle.worker_mapping.proofs.Edges.{before_is_there}
use Rattle.worker_mapping.proofs.Releasing.{Contains-from_occurrences, occurrences-from_Contains, occurrences-skip}
use Rattle.worker_mapping.proofs.Entries.{last_end-le, ready_time-le, is_placed-own, is_placed-other, last_end-push, times_placed-push, unplaced_below-push, waiting_for-push, ready-push}

-- a node that waits for none is one whose nodes before it are all placed
none_waits : (placed : List Entry) (xs : List ℕ) → AllByRecursion (λ m. IsTrue (is_placed placed m)) xs → length (filter (λ m. not (is_placed placed m)) xs) ≡ 0
none_waits placed [] all = refl
none_waits placed (x ∷ xs) all = rw all.0 (none_waits placed xs all.1)

each_placed : (placed : List Entry) (xs : List ℕ) → length (filter (λ m. not (is_placed placed m)) xs) ≡ 0 → AllByRecursion (λ m. IsTrue (is_placed placed m)) xs
each_placed placed [] h = tt
each_placed placed (x ∷ xs) h = ⊎_elim
    (λ (holds : is_placed placed x ≡ true). (holds, each_placed placed xs (rw holds at h)))
    (λ (fails : is_placed placed x ≡ false). absurd (let k : suc (length (filter (λ m. not (is_placed placed m)) xs)) ≡ 0 = rw fails at h in omega arith))
    (cases_Bool (is_placed placed x))

pub waits-none : (placed : List Entry) (xs : List ℕ) → All (λ m. IsTrue (is_placed placed m)) xs → length (filter (λ m. not (is_placed placed m)) xs) ≡ 0
waits-none placed xs all = none_waits placed xs (recursion_from_All (λ m. IsTrue (is_placed placed m)) xs all)

all-placed : (placed : List Entry) (xs : List ℕ) → length (filter (λ m. not (is_placed placed m)) xs) ≡ 0 → All (λ m. IsTrue (is_placed placed m)) xs
all-placed placed xs h = All-from_recursion (λ m. IsTrue (is_placed placed m)) xs (each_placed placed xs h)

-- the elements that pass a test
pub Contains-filter : (p : ℕ → Bool) (xs : List ℕ) (n : ℕ) → Contains xs n → p n ≡ true → Contains (filter p xs) n
Contains-filter p xs n at holds = Contains-from_occurrences n (filter p xs) (go xs (occurrences-from_Contains n xs at)) where
  go : (ys : List ℕ) → 0 < occurrences n ys → 0 < occurrences n (filter p ys)
  go [] h = absurd (omega arith)
  go (y ∷ ys) h = ⊎_elim
      (λ (same : y ≡ n). rw (same, holds, eq-eqb n n refl) (omega arith))
      (λ (other : y ≡ n → ⊥). let k = go ys (let skip = occurrences-skip n y ys other in omega arith) in elim (p y) as (λ b. 0 < occurrences n (cond b (y ∷ filter p ys) (filter p ys))) [ true ↦ let skip = occurrences-skip n y (filter p ys) other in omega arith | false ↦ k ])
      (cases_eq y n)

pub Contains-filtered : (p : ℕ → Bool) (xs : List ℕ) (n : ℕ) → Contains (filter p xs) n → Contains xs n × (p n ≡ true)
Contains-filtered p xs n at = let k = go xs (occurrences-from_Contains n (filter p xs) at) in (Contains-from_occurrences n xs k.0, k.1) where
  go : (ys : List ℕ) → 0 < occurrences n (filter p ys) → (0 < occurrences n ys) × (p n ≡ true)
  go [] h = absurd (omega arith)
  go (y ∷ ys) h = ⊎_elim
      (λ (same : y ≡ n). (rw (eq-eqb y n same) (omega arith), ⊎_elim (λ (holds : p n ≡ true). holds) (λ (fails : p n ≡ false). let other : p y ≡ false = rw same fails in let k = go ys (rw other at h) in k.1) (cases_Bool (p n))))
      (λ (other : y ≡ n → ⊥). let k = go ys (passed (p y) other h) in ((let later = k.0 in let skip = occurrences-skip n y ys other in omega arith), k.1))
      (cases_eq y n) where
        passed : (b : Bool) → (y ≡ n → ⊥) → 0 < occurrences n (cond b (y ∷ filter p ys) (filter p ys)) → 0 < occurrences n (filter p ys)
        passed true other k = let skip = occurrences-skip n y (filter p ys) other in omega arith
        passed false other k = k

-- one of some numbers has the least value
abbrev HasLeast : (ℕ → ℕ) → List ℕ → Type 0
HasLeast f xs = (q : ℕ) × Contains xs q × ((m : ℕ) → Contains xs m → f q ≤ f m)

least_one : (f : ℕ → ℕ) (x : ℕ) → HasLeast f (x ∷ [])
least_one f x = (x, (0, omega arith, refl), (λ m at. only m at.0 at.1 at.2)) where
  only : (m k : ℕ) → k < length (x ∷ []) → get_or (x ∷ []) k m ≡ m → f x ≤ f m
  only m zero below at = rw at (omega arith)
  only m (suc k) below at = absurd (omega arith)

least_more : (f : ℕ → ℕ) (x : ℕ) (xs : List ℕ) → HasLeast f xs → HasLeast f (x ∷ xs)
least_more f x xs rest = ⊎_elim
    (λ (less : f x < f rest.0). (x, (0, omega arith, refl), (λ m at. first less m at.0 at.1 at.2)))
    (λ (more : f rest.0 ≤ f x). (rest.0, (suc rest.1.0, (let k = rest.1.1 in omega arith), rest.1.2), (λ m at. later more m at.0 at.1 at.2)))
    (cases_lt (f x) (f rest.0)) where
      first : f x < f rest.0 → (m k : ℕ) → k < length (x ∷ xs) → get_or (x ∷ xs) k m ≡ m → f x ≤ f m
      first less m zero below at = rw at (omega arith)
      first less m (suc k) below at = let h = rest.2 m (k, omega arith, at) in omega arith

      later : f rest.0 ≤ f x → (m k : ℕ) → k < length (x ∷ xs) → get_or (x ∷ xs) k m ≡ m → f rest.0 ≤ f m
      later more m zero below at = rw at at more
      later more m (suc k) below at = rest.2 m (k, omega arith, at)

least_in : (f : ℕ → ℕ) (x : ℕ) (xs : List ℕ) → HasLeast f (x ∷ xs)
least_in f x [] = least_one f x
least_in f x (y ∷ ys) = least_more f x (y ∷ ys) (least_in f y ys)

least_of : (f : ℕ → ℕ) (xs : List ℕ) (n : ℕ) → Contains xs n → HasLeast f xs
least_of f [] n at = let k = at.1 in absurd (omega arith)
least_of f (x ∷ xs) n at = least_in f x xs

-- nothing is placed at the start
pub Follows-none : (graph : CostedGraph) (workers : ℕ) (waiting ready candidates free : List ℕ) → AreCounted graph.nodes graph.edges waiting → length ready ≡ graph.nodes → ((n : ℕ) → slice_index ready n ≡ 0) → length free ≡ workers → ((n : ℕ) → slice_index free n ≡ 0)
    → ((n : ℕ) → Contains candidates n ↔ ((n < length waiting) × (slice_index waiting n ≡ 0))) → Follows graph workers [] waiting ready candidates free
Follows-none graph workers waiting ready candidates free counted ready_long ready_none free_long free_none places = record {
  waiting_long = counted.one_each;
  waiting_each = λ n below. counted.each n below ∙ sym (all_wait (nodes_before graph.edges n));
  ready_long = ready_long;
  ready_each = λ n below. ready_none n ∙ sym (none_ends (nodes_before graph.edges n));
  free_long = free_long;
  free_each = λ w below. free_none w;
  candidates_each = λ n. (
    (λ at. let k = (places n).0 at in let below : n < graph.nodes = (let a = k.0 in let l = counted.one_each in omega arith) in
        record { there = below; unplaced = refl; after_all = all-placed [] (nodes_before graph.edges n) (all_wait (nodes_before graph.edges n) ∙ sym (counted.each n below) ∙ k.1) }),
    (λ h. (places n).1 ((let a = h.there in let l = counted.one_each in omega arith), counted.each n h.there ∙ sym (all_wait (nodes_before graph.edges n)) ∙ waits-none [] (nodes_before graph.edges n) h.after_all)),
  );
  once = λ n. refl;
  closed = λ n h. absurd (true≢false (sym h));
  left = none_left graph.nodes;
  ends = tt;
} where
  all_wait : (xs : List ℕ) → length (filter (λ m. not (is_placed [] m)) xs) ≡ length xs
  all_wait [] = refl
  all_wait (x ∷ xs) = ap suc (all_wait xs)

  none_ends : (xs : List ℕ) → greatest (map (end_of []) xs) ≡ 0
  none_ends [] = refl
  none_ends (x ∷ xs) = let k = none_ends xs in omega arith

  none_left : (n : ℕ) → 0 + unplaced_below [] n ≡ n
  none_left zero = refl
  none_left (suc n) = let k = none_left n in omega arith

module _ (graph : CostedGraph) (workers : ℕ) (placed : List Entry) (waiting ready candidates free : List ℕ) (h : Follows graph workers placed waiting ready candidates free) where
  pub ready-le : (n : ℕ) → n < graph.nodes → slice_index ready n ≤ length placed * most_cost
  ready-le n below = rw (h.ready_each n below) (ready_time-le (length placed * most_cost) graph placed n h.ends)

  pub free-le : (w : ℕ) → w < workers → slice_index free w ≤ length placed * most_cost
  free-le w below = rw (h.free_each w below) (last_end-le (length placed * most_cost) (λ (e : Entry). eqb e.worker w) placed h.ends)

  -- every candidate is a node, and every time is far from overflow
  pub candidates_there : All (λ n. n < graph.nodes) candidates
  candidates_there k d below = ((h.candidates_each (get_or candidates k d)).0 (Contains-get_or candidates k d below)).there

  pub ready_small : graph.nodes < 2 ^ 32 → All (λ t. t + 2 ^ 32 < 2 ^ 64) ready
  ready_small few k d below =
      let at = get_or_default ready k d 0 below in
      let small = ready-le k (let l = h.ready_long in omega arith) in
      let l = h.left in
      omega arith

  pub free_small : graph.nodes < 2 ^ 32 → All (λ t. t + 2 ^ 32 < 2 ^ 64) free
  free_small few k d below =
      let at = get_or_default free k d 0 below in
      let small = free-le k (let l = h.free_long in omega arith) in
      let l = h.left in
      omega arith

  module _ (priority : List ℕ) (e : Entry) (next : IsNext graph.costs priority candidates ready free e) where
    node_at : Contains candidates e.node
    node_at = rw next.node next.is_first.among

    node_is : IsCandidate graph placed e.node
    node_is = (h.candidates_each e.node).0 node_at

    pub worker_there : e.worker < workers
    worker_there = let a = next.worker.there in let l = h.free_long in omega arith

    pub node_there : e.node < graph.nodes
    node_there = node_is.there

    pub node_unplaced : is_placed placed e.node ≡ false
    node_unplaced = node_is.unplaced

    pub starts : e.start ≡ max (slice_index ready e.node) (slice_index free e.worker)
    starts = next.start ∙ ap (λ (c : Candidate). c.start) next.is_first.is ∙ ap (λ (n : ℕ). max (slice_index ready n) (slice_index free e.worker)) (sym next.node)

    -- no candidate comes before it
    not_after : (n : ℕ) → Contains candidates n → IsNotAfter (candidate_of ready priority (slice_index free e.worker) e.node) (candidate_of ready priority (slice_index free e.worker) n)
    not_after n at =
        let same : next.chosen ≡ candidate_of ready priority (slice_index free e.worker) e.node = next.is_first.is ∙ ap (candidate_of ready priority (slice_index free e.worker)) (sym next.node) in
        subst (λ (c : Candidate). IsNotAfter c (candidate_of ready priority (slice_index free e.worker) n)) same (next.is_first.first n at)

    starts_first : (n : ℕ) → Contains candidates n → max (slice_index ready e.node) (slice_index free e.worker) ≤ max (slice_index ready n) (slice_index free e.worker)
    starts_first n at = ⊎_elim
        (λ (less : max (slice_index ready e.node) (slice_index free e.worker) < max (slice_index ready n) (slice_index free e.worker)). omega arith)
        (λ (same : (max (slice_index ready e.node) (slice_index free e.worker) ≡ max (slice_index ready n) (slice_index free e.worker)) × ((slice_index priority n < slice_index priority e.node) ⊎ ((slice_index priority n ≡ slice_index priority e.node) × (e.node ≤ n)))). let k = same.0 in omega arith)
        (not_after n at)

    -- the kept lists make the choice that the rule states
    pub IsChoice-from : IsChoice graph workers priority placed e
    IsChoice-from =
        let q = least_of (slice_index ready) candidates e.node node_at in
        let q_is : IsCandidate graph placed q.0 = (h.candidates_each q.0).0 q.1 in
        let free_is : slice_index free e.worker ≡ free_time placed e.worker = h.free_each e.worker worker_there in
        let ready_is : slice_index ready e.node ≡ ready_time graph placed e.node = h.ready_each e.node node_there in
        let start_is : e.start ≡ max (slice_index ready e.node) (slice_index free e.worker) = starts in
        record {
          worker = record {
            there = worker_there;
            earliest = λ v below. (let k = next.worker.least v (let l = h.free_long in omega arith) in rw (← free_is, ← h.free_each v below) k);
            least = λ v below. (let k = next.worker.first v below in let there : v < workers = (let w = worker_there in omega arith) in rw (← free_is, ← h.free_each v there) k);
          };
          least_ready = slice_index ready q.0;
          is_least_ready = record {
            candidate = q.0;
            is_candidate = q_is;
            reached = sym (h.ready_each q.0 q_is.there);
            least = λ n k. (let l = q.2 n ((h.candidates_each n).1 k) in rw (← h.ready_each n k.there) l);
          };
          start = (let a = starts_first q.0 q.1 in let b = q.2 e.node node_at in omega arith);
          candidate = node_is;
          ready = omega arith;
          first = λ n k in_time. first_of n ((h.candidates_each n).1 k) (let r = h.ready_each n k.there in omega arith);
          end = next.end;
        } where
          first_of : (n : ℕ) → Contains candidates n → slice_index ready n ≤ e.start → GoesFirst priority e.node n
          first_of n at in_time = ⊎_elim
              (λ (less : max (slice_index ready e.node) (slice_index free e.worker) < max (slice_index ready n) (slice_index free e.worker)). absurd (let s = starts in omega arith))
              (λ (same : (max (slice_index ready e.node) (slice_index free e.worker) ≡ max (slice_index ready n) (slice_index free e.worker)) × ((slice_index priority n < slice_index priority e.node) ⊎ ((slice_index priority n ≡ slice_index priority e.node) × (e.node ≤ n)))). same.1)
              (not_after n at)

    -- each node after it waits for it
    pub enough : AllByRecursion (λ n. n < graph.nodes) (nodes_after graph.edges e.node) → (n : ℕ) → occurrences n (nodes_after graph.edges e.node) ≤ slice_index waiting n
    enough heads_there n = ⊎_elim
        (λ (some : 0 < occurrences n (nodes_after graph.edges e.node)).
        let below : n < graph.nodes = each-contains (λ m. m < graph.nodes) (nodes_after graph.edges e.node) n heads_there (Contains-from_occurrences n (nodes_after graph.edges e.node) some) in
        let w = h.waiting_each n below in
        let k = waiting_for-push placed e node_unplaced graph.edges n in
        omega arith)
        (λ (none : occurrences n (nodes_after graph.edges e.node) ≤ 0). omega arith)
        (cases_lt 0 (occurrences n (nodes_after graph.edges e.node)))

    module _ (cheap : slice_index graph.costs e.node ≤ most_cost) (waiting' ready' candidates' : List ℕ) (r : Releases (nodes_after graph.edges e.node) e.end waiting ready (filter (λ n. not (eqb n e.node)) candidates) waiting' ready' candidates') where
      own_waits_none : waiting_for graph.edges placed e.node ≡ 0
      own_waits_none = waits-none placed (nodes_before graph.edges e.node) node_is.after_all

      waits_now : (n : ℕ) → n < graph.nodes → slice_index waiting' n ≡ waiting_for graph.edges (placed ++ e ∷ []) n
      waits_now n below = let a = r.waiting_each n in let b = h.waiting_each n below in let c = waiting_for-push placed e node_unplaced graph.edges n in omega arith

      end_small : e.end ≤ length placed * most_cost + most_cost
      end_small = let s = starts in let a = ready-le e.node node_there in let b = free-le e.worker worker_there in let c = next.end in omega arith

      not_own : (n : ℕ) → (e.node ≡ n → ⊥) → not (eqb n e.node) ≡ true
      not_own n other = rw (ne_eqb n e.node (λ s. other (sym s)))

      candidate_before : (n : ℕ) → IsCandidate graph (placed ++ e ∷ []) n → (e.node ≡ n → ⊥) → Contains candidates' n
      candidate_before n k other =
          let none : waiting_for graph.edges (placed ++ e ∷ []) n ≡ 0 = waits-none (placed ++ e ∷ []) (nodes_before graph.edges n) k.after_all in
          let less = waiting_for-push placed e node_unplaced graph.edges n in
          (r.candidates_each n).1 (⊎_elim
          (λ (waited : 0 < waiting_for graph.edges placed n). inr (Contains-from_occurrences n (nodes_after graph.edges e.node) (omega arith), waits_now n k.there ∙ none))
          (λ (free' : waiting_for graph.edges placed n ≤ 0). inl (Contains-filter (λ m. not (eqb m e.node)) candidates n
          ((h.candidates_each n).1 (record { there = k.there; unplaced = sym (is_placed-other placed e n other) ∙ k.unplaced; after_all = all-placed placed (nodes_before graph.edges n) (omega arith) }))
          (not_own n other)))
          (cases_lt 0 (waiting_for graph.edges placed n)))

      candidate_now : (n : ℕ) → n < graph.nodes → is_placed placed n ≡ false → (e.node ≡ n → ⊥) → waiting_for graph.edges (placed ++ e ∷ []) n ≡ 0 → IsCandidate graph (placed ++ e ∷ []) n
      candidate_now n below un other none = record { there = below; unplaced = is_placed-other placed e n other ∙ un; after_all = all-placed (placed ++ e ∷ []) (nodes_before graph.edges n) none }

      pub Follows-push : AllByRecursion (λ n. n < graph.nodes) (nodes_after graph.edges e.node) → Follows graph workers (placed ++ e ∷ []) waiting' ready' candidates' (set free e.worker e.end)
      Follows-push heads_there =
          let long = length_push placed e in
          record {
            waiting_long = r.waiting_long ∙ h.waiting_long;
            waiting_each = waits_now;
            ready_long = r.ready_long ∙ h.ready_long;
            ready_each = λ n below. r.ready_each n ∙ ap (λ (x : ℕ). max x (cond (ltb 0 (occurrences n (nodes_after graph.edges e.node))) e.end 0)) (h.ready_each n below) ∙ sym (ready-push placed e graph.edges n);
            free_long = length-set free e.worker e.end ∙ h.free_long;
            free_each = λ w below. ⊎_elim
                (λ (own : e.worker ≡ w).
                let inside : e.worker < length free = next.worker.there in
                let was = h.free_each e.worker worker_there in
                let s = starts in
                let f = next.end in
                rw (← own, get_or-set_same free e.worker e.end 0 inside, last_end-push placed e (λ (x : Entry). eqb x.worker e.worker), eq-eqb e.worker e.worker refl) (omega arith))
                (λ (other : e.worker ≡ w → ⊥).
                let was = h.free_each w below in
                rw (get_or-set_other free e.worker w e.end 0 (λ q. other (sym q)), last_end-push placed e (λ (x : Entry). eqb x.worker w), ne_eqb e.worker w other) (omega arith))
                (cases_eq e.worker w);
            candidates_each = λ n. (
              (λ at. ⊎_elim
                  (λ (kept : Contains (filter (λ m. not (eqb m e.node)) candidates) n).
                  let k = Contains-filtered (λ m. not (eqb m e.node)) candidates n kept in
                  let was = (h.candidates_each n).0 k.0 in
                  let none = waits-none placed (nodes_before graph.edges n) was.after_all in
                  let less = waiting_for-push placed e node_unplaced graph.edges n in
                  candidate_now n was.there was.unplaced (λ (s : e.node ≡ n). eqb-false n e.node (not-true (eqb n e.node) k.1) (sym s)) (omega arith))
                  (λ (freed : Contains (nodes_after graph.edges e.node) n × (slice_index waiting' n ≡ 0)).
                  let below : n < graph.nodes = each-contains (λ m. m < graph.nodes) (nodes_after graph.edges e.node) n heads_there freed.0 in
                  let some = occurrences-from_Contains n (nodes_after graph.edges e.node) freed.0 in
                  let less = waiting_for-push placed e node_unplaced graph.edges n in
                  let un : is_placed placed n ≡ false = ⊎_elim (λ (holds : is_placed placed n ≡ true). absurd (let z = h.closed n holds in omega arith)) (λ (fails : is_placed placed n ≡ false). fails) (cases_Bool (is_placed placed n)) in
                  candidate_now n below un (λ (s : e.node ≡ n). let z : waiting_for graph.edges placed n ≡ 0 = rw s at own_waits_none in omega arith) (sym (waits_now n below) ∙ freed.1))
                  ((r.candidates_each n).0 at)),
              (λ k. candidate_before n k (λ (s : e.node ≡ n). let holds : is_placed (placed ++ e ∷ []) n ≡ true = rw (← s) (is_placed-own placed e) in true≢false (sym holds ∙ k.unplaced))),
            );
            once = λ n. ⊎_elim
                (λ (own : e.node ≡ n).
                let was : times_placed placed e.node ≡ 0 = rw node_unplaced at (h.once e.node) in
                rw (← own, times_placed-push placed e e.node, is_placed-own placed e, eq-eqb e.node e.node refl) (omega arith))
                (λ (other : e.node ≡ n → ⊥).
                let was = h.once n in
                rw (times_placed-push placed e n, is_placed-other placed e n other, ne_eqb e.node n other) (omega arith))
                (cases_eq e.node n);
            closed = λ n holds. ⊎_elim
                (λ (own : e.node ≡ n).
                let none : waiting_for graph.edges placed n ≡ 0 = rw own at own_waits_none in
                let less = waiting_for-push placed e node_unplaced graph.edges n in
                omega arith)
                (λ (other : e.node ≡ n → ⊥).
                let none = h.closed n (sym (is_placed-other placed e n other) ∙ holds) in
                let less = waiting_for-push placed e node_unplaced graph.edges n in
                omega arith)
                (cases_eq e.node n);
            left = (let was = h.left in let one = unplaced_below-push placed e node_unplaced graph.nodes node_there in omega arith);
            ends = rw long (each-append (λ (x : Entry). x.end ≤ (length placed + 1) * most_cost) placed (e ∷ []) (each-weaker (λ (x : Entry). x.end ≤ length placed * most_cost) (λ (x : Entry). x.end ≤ (length placed + 1) * most_cost) (λ x k. omega arith) placed h.ends) ((let s = end_small in omega arith), tt));
          }

-- where no candidate is left, every node is placed
pub every_placed : (graph : CostedGraph) (ranks : List ℕ) (placed : List Entry) → AreThere graph.nodes graph.edges → Rise ranks graph.edges → ((n : ℕ) → IsCandidate graph placed n → ⊥) → (n : ℕ) → n < graph.nodes → is_placed placed n ≡ true
every_placed graph ranks placed there rise none n below = go (suc (slice_index ranks n)) n below (omega arith) where
  go : (most m : ℕ) → m < graph.nodes → slice_index ranks m < most → is_placed placed m ≡ true
  go zero m b h = absurd (omega arith)
  go (suc most) m b h = ⊎_elim
      (λ (holds : is_placed placed m ≡ true). holds)
      (λ (fails : is_placed placed m ≡ false). absurd (none m (record {
        there = b;
        unplaced = fails;
        after_all = All-from_recursion (λ a. IsTrue (is_placed placed a)) (nodes_before graph.edges m) (each-weaker (λ a. (a < graph.nodes) × (slice_index ranks a < slice_index ranks m)) (λ a. IsTrue (is_placed placed a)) (λ a k. go most a k.0 (let l = k.1 in omega arith)) (nodes_before graph.edges m) (before_is_there graph.nodes ranks graph.edges m there rise));
      })))
      (cases_Bool (is_placed placed m))

-- the whole schedule
pub IsSchedule-from : (graph : CostedGraph) (workers : ℕ) (priority ranks : List ℕ) (placed : List Entry) (waiting ready free : List ℕ) → AreThere graph.nodes graph.edges → Rise ranks graph.edges → Follows graph workers placed waiting ready [] free → EachEntry (IsChoice graph workers priority) [] placed → IsSchedule graph workers priority placed
IsSchedule-from graph workers priority ranks placed waiting ready free there rise h each = record {
  each = each;
  once = λ n below.
      let all : is_placed placed n ≡ true = every_placed graph ranks placed there rise (λ m k. let now = (h.candidates_each m).1 k in let none = now.1 in omega arith) n below in
      rw all at (h.once n);
}
