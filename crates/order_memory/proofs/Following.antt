-- The counts and the open nodes beside a line, one node more.
use Rattle.std.proofs.Common.{◌≡◌, ℕ, zero, suc, ◌+◌, ◌<◌, ◌≤◌, ◌⊎◌, ◌↔◌, inl, inr, ⊎_elim, List, [], ◌∷◌, ◌++◌, length, slice_index, get_or, arith, sym, ◌∙◌}
use Rattle.std.specs.List.{All, AllByRecursion, Contains}
use Rattle.std.proofs.lemmas.Bool.{cases_lt}
use Rattle.std.proofs.lemmas.List.{get_or_default}
use Rattle.std.proofs.lemmas.List.Elements.{All-from_recursion, recursion_from_All, All-weaker, All-contains, Contains-append_left, Contains-push, Contains-push_cases}
use Rattle.sdf_level.specs.Lists.{occurrences}
use Rattle.worker_mapping.specs.Graph.{AreThere, Rise, nodes_after}
use Rattle.worker_mapping.specs.Neighbours.{AreCounted}
use Rattle.worker_mapping.specs.Release.{ArePlacesOfZero}
use Rattle.worker_mapping.proofs.Edges.{each_after}
use Rattle.worker_mapping.proofs.Lists.{each-contains}
use Rattle.worker_mapping.proofs.Releasing.{Contains-from_occurrences, occurrences-from_Contains}
use Rattle.order_memory.specs.Line.{IsOpen, IsLeastOpen, IsLine}
use Rattle.order_memory.proofs.OpenSets.{none_in, first_in, later_in, in_cases}
use Rattle.order_memory.proofs.Waiting.{left_before, all_at_first, tails_in, none_left, one_less}
use Rattle.order_memory.proofs.Standing.{EachIsLeast, each_more, place_in_front}

-- the line so far, for each node how many edges lead to it from nodes that aren't in the line, and the open nodes
pub record Follows (nodes : ℕ) (edges : List (ℕ × ℕ)) (line waiting open_nodes : List ℕ) : Type 0 where
  pub each : EachIsLeast nodes edges line
  pub waiting_long : length waiting ≡ nodes
  pub waiting_each : (n : ℕ) → n < nodes → slice_index waiting n ≡ left_before edges line n
  pub open_each : (n : ℕ) → Contains open_nodes n ↔ IsOpen nodes edges line n

pub follows_first : (nodes : ℕ) (edges : List (ℕ × ℕ)) (waiting open_nodes : List ℕ) → AreCounted nodes edges waiting → ArePlacesOfZero waiting open_nodes → Follows nodes edges [] waiting open_nodes
follows_first nodes edges waiting open_nodes counted zeros = record {
  each = λ i inside. absurd (omega arith);
  waiting_long = counted.one_each;
  waiting_each = left;
  open_each = λ n. (
    (λ at.
        let is = (zeros n).0 at in
        let there : n < nodes = (let b = is.0 in let l = counted.one_each in omega arith) in
        record {
          there = there;
          new = none_in n;
          tails = All-from_recursion (λ (e : ℕ × ℕ). e.1 ≡ n → Contains [] e.0) edges (tails_in edges [] n (sym (left n there) ∙ is.1));
        }),
    (λ is. (zeros n).1 ((let t = is.there in let l = counted.one_each in omega arith), left n is.there ∙ none_left edges [] n (recursion_from_All (λ (e : ℕ × ℕ). e.1 ≡ n → Contains [] e.0) edges is.tails))),
  );
}
  where
    left : (n : ℕ) → n < nodes → slice_index waiting n ≡ left_before edges [] n
    left n below = counted.each n below ∙ sym (all_at_first edges n)

module _ (nodes : ℕ) (edges : List (ℕ × ℕ)) (there : AreThere nodes edges) (line waiting : List ℕ) (v : ℕ) (rest : List ℕ) (follows : Follows nodes edges line waiting (v ∷ rest)) (above : (m : ℕ) → Contains rest m → v < m) where
  v_open : IsOpen nodes edges line v
  v_open = (follows.open_each v).0 (first_in v rest)

  pub v_there : v < nodes
  v_there = v_open.there

  v_least : IsLeastOpen nodes edges line v
  v_least = record {
    is_open = v_open;
    least = λ m is. ⊎_elim
        (λ (same : v ≡ m). omega arith)
        (λ (later : Contains rest m). let less = above m later in omega arith)
        (in_cases v rest m ((follows.open_each m).1 is));
  }

  pub longer : EachIsLeast nodes edges (line ++ v ∷ [])
  longer = each_more nodes edges line follows.each v v_least

  new_count : occurrences v line ≡ 0
  new_count = ⊎_elim
      (λ (some : 0 < occurrences v line). absurd (v_open.new (Contains-from_occurrences v line some)))
      (λ (none : occurrences v line ≤ 0). omega arith)
      (cases_lt 0 (occurrences v line))

  -- the nodes behind it stand neither in the line nor where it stands itself
  heads_new : AllByRecursion (λ m. (m < nodes) × (Contains (line ++ v ∷ []) m → ⊥)) (nodes_after edges v)
  heads_new = each_after (λ m. (m < nodes) × (Contains (line ++ v ∷ []) m → ⊥)) edges v (recursion_from_All (λ (e : ℕ × ℕ). e.0 ≡ v → (e.1 < nodes) × (Contains (line ++ v ∷ []) e.1 → ⊥)) edges (λ k d below from. (
    (there k d below).1,
    (λ at. ⊎_elim
        (λ (old : Contains line (get_or edges k d).1).
        let open_then = (follows.each old.0 old.1).is_open in
        let place : get_or edges k d ≡ get_or edges k d = (λ i. get_or edges k d) in
        let earlier = open_then.tails k d below (sym old.2 ∙ get_or_default line old.0 (get_or edges k d).1 0 old.1) in
        let at_place = place_in_front line old.0 (get_or edges k d).0 (let b = old.1 in omega arith) earlier in
        v_open.new (rw (← from) (at_place.0, (let a = at_place.1 in let b = old.1 in omega arith), get_or_default line at_place.0 (get_or edges k d).0 0 (let a = at_place.1 in let b = old.1 in omega arith) ∙ at_place.2)))
        (λ (own : v ≡ (get_or edges k d).1). v_open.new (rw (← from) (v_open.tails k d below (sym own))))
        (Contains-push_cases line v (get_or edges k d).1 at)),
  )))

  pub heads_there : All (λ m. m < nodes) (nodes_after edges v)
  heads_there = All-weaker (λ m. (m < nodes) × (Contains (line ++ v ∷ []) m → ⊥)) (λ m. m < nodes) (λ m both. both.0) (nodes_after edges v) (All-from_recursion (λ m. (m < nodes) × (Contains (line ++ v ∷ []) m → ⊥)) (nodes_after edges v) heads_new)

  pub enough : (n : ℕ) → occurrences n (nodes_after edges v) ≤ slice_index waiting n
  enough n = ⊎_elim
      (λ (some : 0 < occurrences n (nodes_after edges v)).
      let below = All-contains (λ m. m < nodes) (nodes_after edges v) n heads_there (Contains-from_occurrences n (nodes_after edges v) some) in
      let was = follows.waiting_each n below in
      let less = one_less edges line v n new_count in
      omega arith)
      (λ (none : occurrences n (nodes_after edges v) ≤ 0). omega arith)
      (cases_lt 0 (occurrences n (nodes_after edges v)))

  module _ (waiting' open_nodes : List ℕ) (long : length waiting' ≡ length waiting) (released : (n : ℕ) → slice_index waiting' n + occurrences n (nodes_after edges v) ≡ slice_index waiting n) (entered : (n : ℕ) → Contains open_nodes n ↔ (Contains rest n ⊎ (Contains (nodes_after edges v) n × (slice_index waiting' n ≡ 0)))) where
    now_left : (n : ℕ) → n < nodes → slice_index waiting' n ≡ left_before edges (line ++ v ∷ []) n
    now_left n below =
        let was = follows.waiting_each n below in
        let less = one_less edges line v n new_count in
        let now = released n in
        omega arith

    still_open : (n : ℕ) → Contains rest n → IsOpen nodes edges (line ++ v ∷ []) n
    still_open n at =
        let was = (follows.open_each n).0 (later_in v rest n at) in
        record {
          there = was.there;
          new = λ now. ⊎_elim
              (λ (old : Contains line n). was.new old)
              (λ (own : v ≡ n). let less = above n at in absurd (omega arith))
              (Contains-push_cases line v n now);
          tails = All-weaker (λ (e : ℕ × ℕ). e.1 ≡ n → Contains line e.0) (λ (e : ℕ × ℕ). e.1 ≡ n → Contains (line ++ v ∷ []) e.0) (λ e is same. Contains-append_left line (v ∷ []) e.0 (is same)) edges was.tails;
        }

    freed : (n : ℕ) → Contains (nodes_after edges v) n → slice_index waiting' n ≡ 0 → IsOpen nodes edges (line ++ v ∷ []) n
    freed n at none =
        let both = each-contains (λ m. (m < nodes) × (Contains (line ++ v ∷ []) m → ⊥)) (nodes_after edges v) n heads_new at in
        record {
          there = both.0;
          new = both.1;
          tails = All-from_recursion (λ (e : ℕ × ℕ). e.1 ≡ n → Contains (line ++ v ∷ []) e.0) edges (tails_in edges (line ++ v ∷ []) n (sym (now_left n both.0) ∙ none));
        }

    was_open : (n : ℕ) → IsOpen nodes edges (line ++ v ∷ []) n → Contains rest n ⊎ (Contains (nodes_after edges v) n × (slice_index waiting' n ≡ 0))
    was_open n is =
        let none : left_before edges (line ++ v ∷ []) n ≡ 0 = none_left edges (line ++ v ∷ []) n (recursion_from_All (λ (e : ℕ × ℕ). e.1 ≡ n → Contains (line ++ v ∷ []) e.0) edges is.tails) in
        ⊎_elim
        (λ (some : 0 < occurrences n (nodes_after edges v)). inr (Contains-from_occurrences n (nodes_after edges v) some, now_left n is.there ∙ none))
        (λ (no : occurrences n (nodes_after edges v) ≤ 0).
        let less = one_less edges line v n new_count in
        let before : IsOpen nodes edges line n = record {
          there = is.there;
          new = λ old. is.new (Contains-append_left line (v ∷ []) n old);
          tails = All-from_recursion (λ (e : ℕ × ℕ). e.1 ≡ n → Contains line e.0) edges (tails_in edges line n (omega arith));
        } in
        ⊎_elim
        (λ (own : v ≡ n). absurd (is.new (rw (← own) (Contains-push line v))))
        (λ (later : Contains rest n). inl later)
        (in_cases v rest n ((follows.open_each n).1 before)))
        (cases_lt 0 (occurrences n (nodes_after edges v)))

    pub follows_more : Follows nodes edges (line ++ v ∷ []) waiting' open_nodes
    follows_more = record {
      each = longer;
      waiting_long = long ∙ follows.waiting_long;
      waiting_each = now_left;
      open_each = λ n. (
        (λ at. ⊎_elim
            (λ (kept : Contains rest n). still_open n kept)
            (λ (new : Contains (nodes_after edges v) n × (slice_index waiting' n ≡ 0)). freed n new.0 new.1)
            ((entered n).0 at)),
        (λ is. (entered n).1 (was_open n is)),
      );
    }

-- where no node is open, all stand in the line
pub line_whole : (nodes : ℕ) (edges : List (ℕ × ℕ)) (ranks line waiting : List ℕ) → AreThere nodes edges → Rise ranks edges → Follows nodes edges line waiting [] → IsLine nodes edges line
line_whole nodes edges ranks line waiting there rise follows = record { all = λ n below. by_rank (suc (slice_index ranks n)) n below (omega arith); each = follows.each }
  where
    by_rank : (k n : ℕ) → n < nodes → slice_index ranks n < k → Contains line n
    by_rank zero n below low = absurd (omega arith)
    by_rank (suc k) n below low = ⊎_elim
        (λ (some : 0 < occurrences n line). Contains-from_occurrences n line some)
        (λ (none : occurrences n line ≤ 0). absurd (none_in n ((follows.open_each n).1 record {
          there = below;
          new = λ at. let some = occurrences-from_Contains n line at in omega arith;
          tails = λ j d inside same. by_rank k (get_or edges j d).0 (there j d inside).0 (let rises = rise j d inside in let low' : slice_index ranks (get_or edges j d).1 < suc k = rw same low in omega arith);
        })))
        (cases_lt 0 (occurrences n line))
