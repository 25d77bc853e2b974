-- No two placements of one list of sizes are tight.
use Rattle.std.proofs.Common.{◌≡◌, ℕ, zero, suc, ◌+◌, ◌<◌, ◌≤◌, ◌⊎◌, inl, inr, ⊎_elim, List, length, sum, slice_index, arith, sym, subst, ◌∙◌}
use Rattle.std.proofs.lemmas.Bool.{cases_order}
use Rattle.std.proofs.lemmas.List.{ext_get_or}
use Rattle.std.proofs.lemmas.List.Sums.{get_or-le-sum_by}
use Rattle.placement_checker.specs.Placed.{end_of, Overlap, Relates, StandsEarlier, Fits, Tight}

module _ (sizes : List ℕ) (X : ℕ → ℕ → Type 0) where
  -- what fits beside earlier buffers fits where these have the same offsets
  fits_alike : (one other : List ℕ) (e offset : ℕ) → ((f : ℕ) → f < length sizes → StandsEarlier sizes f e → slice_index one f ≡ slice_index other f) → Fits sizes X one e offset → Fits sizes X other e offset
  fits_alike one other e offset alike fits = λ f inside earlier related overlap.
      fits f inside earlier related (subst (λ (o : ℕ). Overlap offset (slice_index sizes e) o (slice_index sizes f)) (sym (alike f inside earlier)) overlap)

  module _ (one other : List ℕ) (height high : ℕ) (a : Tight sizes X one height) (b : Tight sizes X other high) where
    offset_alike : (e : ℕ) → e < length sizes → ((f : ℕ) → f < length sizes → StandsEarlier sizes f e → slice_index one f ≡ slice_index other f) → slice_index one e ≡ slice_index other e
    offset_alike e inside alike = ⊎_elim
        (λ (same : slice_index one e ≡ slice_index other e). same)
        (λ (apart : (slice_index one e < slice_index other e) ⊎ (slice_index other e < slice_index one e)). absurd (⊎_elim
        (λ (lower : slice_index one e < slice_index other e). b.least e (slice_index one e) inside lower (fits_alike one other e (slice_index one e) alike (a.fits e inside)))
        (λ (higher : slice_index other e < slice_index one e). a.least e (slice_index other e) inside higher (fits_alike other one e (slice_index other e) (λ f within earlier. sym (alike f within earlier)) (b.fits e inside)))
        apart))
        (cases_order (slice_index one e) (slice_index other e))

    -- the sizes from here on
    Alike : ℕ → Type 0
    Alike k = (e : ℕ) → e < length sizes → sum sizes < slice_index sizes e + k → slice_index one e ≡ slice_index other e

    -- of the buffers of a size, by number
    alike_by_number : (k : ℕ) → Alike k → (n e : ℕ) → e < n → e < length sizes → sum sizes < slice_index sizes e + suc k → slice_index one e ≡ slice_index other e
    unfolding Alike
    alike_by_number k larger zero e below inside large = absurd (omega arith)
    alike_by_number k larger (suc n) e below inside large = offset_alike e inside (λ f within earlier. ⊎_elim
        (λ (more : slice_index sizes e < slice_index sizes f). larger f within (omega arith))
        (λ (same : (slice_index sizes f ≡ slice_index sizes e) × (f < e)). alike_by_number k larger n f (let h = same.1 in omega arith) within (let h = same.0 in omega arith))
        earlier)

    alike_by_size : (k : ℕ) → Alike k
    unfolding Alike
    alike_by_size zero = λ e inside large. absurd (let h = get_or-le-sum_by (λ (s : ℕ). s) sizes e 0 inside in omega arith)
    alike_by_size (suc k) = λ e inside large. alike_by_number k (alike_by_size k) (suc e) e (omega arith) inside large

    all_alike : (e : ℕ) → e < length sizes → slice_index one e ≡ slice_index other e
    unfolding Alike
    all_alike e inside = alike_by_size (suc (sum sizes)) e inside (omega arith)

    height_within : height ≤ high
    height_within = ⊎_elim
        (λ (none : height ≡ 0). omega arith)
        (λ (some : (e : ℕ) × (e < length sizes) × (end_of sizes one e ≡ height)).
        let same = all_alike some.0 some.1 in let above = b.above some.0 some.1 in let is = some.2 in omega arith)
        a.reached

  pub tight_offsets : (one other : List ℕ) (height high : ℕ) → length one ≡ length sizes → length other ≡ length sizes → Tight sizes X one height → Tight sizes X other high → one ≡ other
  tight_offsets one other height high long as_long a b = ext_get_or 0 one other (long ∙ sym as_long) (λ e inside. all_alike one other height high a b e (omega arith))

  pub tight_height : (one other : List ℕ) (height high : ℕ) → Tight sizes X one height → Tight sizes X other high → height ≡ high
  tight_height one other height high a b =
      let up = height_within one other height high a b in
      let down = height_within other one high height b a in
      omega arith
