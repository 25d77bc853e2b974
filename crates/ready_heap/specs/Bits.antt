-- Rows of bits, 64 bits to a word, the lowest first.
use Rattle.std.specs.Prelude.{◌≡◌, ◌≢◌, ℕ, ◌*◌, ◌/◌, ◌%◌, ◌<◌, ◌≤◌, ◌↔◌, Bool, IsTrue, List, length, slice_index, Option, Some, None}
use Rattle.std.specs.Int.{bit_at}

-- the first set bit of a word from one on
abbrev pub IsNextInWord : ℕ → ℕ → Option ℕ → Type 0
IsNextInWord word from None = (k : ℕ) → from ≤ k → k < 64 → bit_at word k ≡ 1 → ⊥
IsNextInWord word from (Some k) = (from ≤ k) × (k < 64) × (bit_at word k ≡ 1) × ((i : ℕ) → from ≤ i → i < k → bit_at word i ≡ 1 → ⊥)

abbrev pub IsSet : List ℕ → ℕ → Type 0
IsSet words k = bit_at (slice_index words (k / 64)) (k % 64) ≡ 1

-- the first set bit from one on
abbrev pub IsNext : List ℕ → ℕ → Option ℕ → Type 0
IsNext words from None = (k : ℕ) → from ≤ k → IsSet words k → ⊥
IsNext words from (Some k) = (from ≤ k) × IsSet words k × ((i : ℕ) → from ≤ i → i < k → IsSet words i → ⊥)

-- bit k is set or cleared, and the others are as before
pub record Puts (k : ℕ) (on : Bool) (old new : List ℕ) : Type 0 where
  pub long : length new ≡ length old
  pub here : IsSet new k ↔ IsTrue on
  pub others : (i : ℕ) → i ≢ k → (IsSet new i ↔ IsSet old i)

-- bit w of the summary tells whether word w has a bit that is set
pub record IsSummary (words summary : List ℕ) : Type 0 where
  pub wide : length words ≤ 64 * length summary
  pub some : (w : ℕ) → IsSet summary w → (k : ℕ) × (k / 64 ≡ w) × IsSet words k
  pub each : (k : ℕ) → IsSet words k → IsSet summary (k / 64)
