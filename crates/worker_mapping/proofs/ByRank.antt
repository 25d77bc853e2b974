-- The nodes with their ranks, before and after a sort.
use Rattle.std.proofs.Common.{◌≡◌, ℕ, ◌<◌, List, length, get_or, slice_index, arith, refl, ◌∙◌}
use Rattle.std.specs.List.{All}
use Rattle.std.specs.List.Sorted.{IsNonDecreasingBy, IsPermutation}
use Rattle.std.proofs.lemmas.List.{get_or_default}
use Rattle.std.proofs.lemmas.List.Sorted.{All-permutation, Contains-permutation, length_permutation}
use Rattle.worker_mapping.specs.Ranked.{IsByRank}

module _ (ranks : List ℕ) (order sorted : List (ℕ × ℕ)) (long : length order ≡ length ranks) (each : (n : ℕ) → n < length ranks → get_or order n (0, 0) ≡ (slice_index ranks n, n)) where
  all_ranked : All (λ (e : ℕ × ℕ). (e.1 < length ranks) × (e.0 ≡ slice_index ranks e.1)) order
  all_ranked k d below =
      let at : get_or order k d ≡ (slice_index ranks k, k) = get_or_default order k d (0, 0) below ∙ each k (omega arith) in
      rw at (omega arith, refl)

  pub IsByRank-sorted : IsPermutation order sorted → IsNonDecreasingBy (λ (e : ℕ × ℕ). e.0) sorted → IsByRank ranks sorted
  IsByRank-sorted moved up = record {
    long = length_permutation order sorted moved ∙ long;
    every = λ n below. Contains-permutation order sorted (slice_index ranks n, n) moved
        (let inside : n < length order = omega arith in (n, inside, get_or_default order n (slice_index ranks n, n) (0, 0) inside ∙ each n below));
    each = All-permutation (λ (e : ℕ × ℕ). (e.1 < length ranks) × (e.0 ≡ slice_index ranks e.1)) order sorted moved all_ranked;
    rising = up;
  }
