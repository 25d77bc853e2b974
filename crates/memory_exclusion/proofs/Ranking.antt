-- The edges' numbers sorted by the ranks of the edges' tails stand in order.
use Rattle.std.proofs.Common.{◌≡◌, ℕ, ◌<◌, ◌≤◌, ⊎_elim, List, length, slice_index, get_or, All, IsPermutation, refl, ap, ◌∙◌, arith}
use Rattle.std.specs.List.Sorted.{IsNonDecreasingBy}
use Rattle.std.proofs.lemmas.Bool.{cases_lt}
use Rattle.std.proofs.lemmas.List.{get_or_default}
use Rattle.std.proofs.lemmas.List.Sorted.{All-permutation, Contains-permutation}
use Rattle.memory_exclusion.specs.Paths.{tail_of, head_of}
use Rattle.memory_exclusion.specs.Closure.{number_at, IsInOrder}

module _ (edges : List (ℕ × ℕ)) (ranks : List ℕ) (order sorted : List (ℕ × ℕ)) (long : length order ≡ length edges) (each : (e : ℕ) → e < length edges → get_or order e (0, 0) ≡ (slice_index ranks (tail_of edges e), e)) (moved : IsPermutation order sorted) where
  all_ranked : All (λ (r : ℕ × ℕ). (r.1 < length edges) × (r.0 ≡ slice_index ranks (tail_of edges r.1))) order
  all_ranked k d below =
      let at : get_or order k d ≡ (slice_index ranks (tail_of edges k), k) = get_or_default order k d (0, 0) below ∙ each k (omega arith) in
      rw at (omega arith, refl)

  ranked_at : All (λ (r : ℕ × ℕ). (r.1 < length edges) × (r.0 ≡ slice_index ranks (tail_of edges r.1))) sorted
  ranked_at = All-permutation (λ (r : ℕ × ℕ). (r.1 < length edges) × (r.0 ≡ slice_index ranks (tail_of edges r.1))) order sorted moved all_ranked

  pub in_order_of : All (λ (edge : ℕ × ℕ). slice_index ranks edge.0 < slice_index ranks edge.1) edges → IsNonDecreasingBy (λ (r : ℕ × ℕ). r.0) sorted → IsInOrder edges sorted
  in_order_of rising up = record {
    inside = λ k d below. (ranked_at k d below).0;
    every = λ e below.
        let inside : e < length order = omega arith in
        let there = Contains-permutation order sorted (slice_index ranks (tail_of edges e), e) moved
        (e, inside, get_or_default order e (slice_index ranks (tail_of edges e), e) (0, 0) inside ∙ each e below) in
        (there.0, there.1, ap (λ (r : ℕ × ℕ). r.1) (get_or_default sorted there.0 (0, 0) (slice_index ranks (tail_of edges e), e) there.1 ∙ there.2));
    behind = λ i j i_in j_in meet. ⊎_elim
        (λ (before : j < i). before)
        (λ (after : i ≤ j).
        let one = ranked_at i (0, 0) i_in in
        let other = ranked_at j (0, 0) j_in in
        let rises : slice_index ranks (tail_of edges (number_at sorted j)) < slice_index ranks (head_of edges (number_at sorted j)) = rising (number_at sorted j) (0, 0) other.0 in
        let low = rw meet at rises in
        let high = up i j (0, 0) after j_in in
        let one_is = one.1 in
        let other_is = other.1 in
        absurd (omega arith))
        (cases_lt j i);
  }
