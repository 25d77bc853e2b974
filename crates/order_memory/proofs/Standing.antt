-- Lines so far: every node in them stands once, and they have at most as many places as there are nodes.
use Rattle.std.proofs.Common.{◌≡◌, ℕ, ◌<◌, ◌≤◌, ⊎_elim, eqb, List, [], ◌∷◌, ◌++◌, length, take, slice_index, get_or, arith, sym, ◌∙◌}
use Rattle.std.specs.Prelude.{◌≢◌}
use Rattle.std.specs.List.{All, Contains}
use Rattle.std.specs.Cmp.{nat_eq_equiv}
use Rattle.std.proofs.lemmas.Bool.{cases_lt, ne_eqb, eqb-true}
use Rattle.std.proofs.lemmas.List.{get_or-take, get_or_default, length-take-le, length_push, take-append-le, take_at, get_or_append_left, get_or_push}
use Rattle.std.proofs.lemmas.Map.Keys.{IsDistinct-from_apart}
use Rattle.std.proofs.lemmas.Map.Steps.{length-le_from_distinct_below, le-length_from_below}
use Rattle.std.proofs.lemmas.Map.Views.{Contains-from_any, list_any-from_Contains}
use Rattle.order_memory.specs.Line.{IsLeastOpen, IsLine}

-- each place of a line so far
abbrev pub EachIsLeast : ℕ → List (ℕ × ℕ) → List ℕ → Type 0
EachIsLeast nodes edges line = (i : ℕ) → i < length line → IsLeastOpen nodes edges (take i line) (slice_index line i)

-- what stands at a place stands among the places up to a later one
pub in_front : (line : List ℕ) (j k : ℕ) → j < k → k ≤ length line → Contains (take k line) (slice_index line j)
in_front line j k before inside = (j, (let long = length-take-le k line inside in omega arith), get_or-take k line j (slice_index line j) before ∙ get_or_default line j (slice_index line j) 0 (omega arith))

-- and the other way round
pub place_in_front : (line : List ℕ) (k n : ℕ) → k ≤ length line → Contains (take k line) n → (j : ℕ) × (j < k) × (slice_index line j ≡ n)
place_in_front line k n inside at =
    let long = length-take-le k line inside in
    let below : at.0 < k = (let b = at.1 in omega arith) in
    (at.0, below, get_or_default line at.0 0 n (omega arith) ∙ sym (get_or-take k line at.0 n below) ∙ at.2)

module _ (nodes : ℕ) (edges : List (ℕ × ℕ)) (line : List ℕ) (each : EachIsLeast nodes edges line) where
  pub stand_once : (j k : ℕ) → j < k → k < length line → slice_index line j ≢ slice_index line k
  stand_once j k before inside same = (each k inside).is_open.new (rw (← same) (in_front line j k before (omega arith)))

  pub all_there : All (λ n. n < nodes) line
  all_there k d below = rw (get_or_default line k d 0 below) (each k below).is_open.there

  pub at_most : length line ≤ nodes
  at_most = length-le_from_distinct_below line nodes
      (IsDistinct-from_apart eqb line (λ i j d before inside. ne_eqb (get_or line i d) (get_or line j d) (λ same. stand_once i j before inside (get_or_default line i 0 d (omega arith) ∙ same ∙ get_or_default line j d 0 inside))))
      (λ n found. let at = Contains-from_any (λ x y. eqb-true x y) n line found in rw (← at.2) (all_there at.0 n at.1))

  -- a place more
  pub each_more : (v : ℕ) → IsLeastOpen nodes edges line v → EachIsLeast nodes edges (line ++ v ∷ [])
  each_more v least = λ i inside. ⊎_elim
      (λ (old : i < length line). rw (take-append-le i line (v ∷ []) (omega arith), get_or_append_left line (v ∷ []) 0 i old) (each i old))
      (λ (last : length line ≤ i).
      let here : length line ≡ i = (let long = length_push line v in omega arith) in
      rw (take_at line (v ∷ []) i here, get_or_push line v 0 i here) least)
      (cases_lt i (length line))

-- a whole line has as many places as there are nodes
pub whole_long : (nodes : ℕ) (edges : List (ℕ × ℕ)) (line : List ℕ) → IsLine nodes edges line → length line ≡ nodes
whole_long nodes edges line is =
    let most = at_most nodes edges line is.each in
    let least = le-length_from_below line nodes (λ n below. list_any-from_Contains nat_eq_equiv n line (is.all n below)) in
    omega arith
