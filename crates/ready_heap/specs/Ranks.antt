-- Numbers in the order of their groups, and in each group of their keys.
use Rattle.std.specs.Prelude.{◌≡◌, ℕ, ◌+◌, ◌<◌, ◌≤◌, List, length, map, slice_index, slice_index_or}
use Rattle.ready_heap.specs.declared.ranking.Row.{Row}

-- ---- rows of numbers with their groups and keys

abbrev pub groups_in : List Row → List ℕ
groups_in rows = map (λ (row : Row). row.group) rows

abbrev pub keys_in : List Row → List ℕ
keys_in rows = map (λ (row : Row). row.key) rows

abbrev pub numbers_in : List Row → List ℕ
numbers_in rows = map (λ (row : Row). row.number) rows

-- the first so many numbers, in their order
pub record AreKeyed (groups keys : List ℕ) (count : ℕ) (rows : List Row) : Type 0 where
  pub long : length rows ≡ count
  pub group : (n : ℕ) (d : Row) → n < count → (slice_index_or rows n d).group ≡ slice_index groups n
  pub key : (n : ℕ) (d : Row) → n < count → (slice_index_or rows n d).key ≡ slice_index keys n
  pub number : (n : ℕ) (d : Row) → n < count → (slice_index_or rows n d).number ≡ n

-- of two neighbours of one group the first has no greater key
abbrev pub NeighboursRise : List Row → Type 0
NeighboursRise rows = (k : ℕ) (d : Row) → k + 1 < length rows → (slice_index_or rows k d).group ≡ (slice_index_or rows (k + 1) d).group → (slice_index_or rows k d).key ≤ (slice_index_or rows (k + 1) d).key

-- from this place on, and nowhere before it, stand the rows of the group and of greater ones
pub record IsStartIn (rows : List Row) (group start : ℕ) : Type 0 where
  pub within : start ≤ length rows
  pub before : (r : ℕ) (d : Row) → r < start → (slice_index_or rows r d).group < group
  pub after : (r : ℕ) (d : Row) → start ≤ r → r < length rows → group ≤ (slice_index_or rows r d).group

abbrev pub AreStartsIn : List Row → List ℕ → Type 0
AreStartsIn rows starts = (g : ℕ) → g < length starts → IsStartIn rows g (slice_index starts g)

-- ---- numbers alone

-- all numbers below a bound, each once
pub record IsListing (count : ℕ) (numbers : List ℕ) : Type 0 where
  pub long : length numbers ≡ count
  pub below : (r : ℕ) → r < length numbers → slice_index numbers r < count
  pub all : (n : ℕ) → n < count → (r : ℕ) × (r < length numbers) × (slice_index numbers r ≡ n)
  pub once : (r s : ℕ) → r < length numbers → s < length numbers → slice_index numbers r ≡ slice_index numbers s → r ≡ s

-- the place of each number
pub record AreRanks (numbers ranks : List ℕ) : Type 0 where
  pub long : length ranks ≡ length numbers
  pub below : (n : ℕ) → n < length ranks → slice_index ranks n < length numbers
  pub number_at : (n : ℕ) → n < length ranks → slice_index numbers (slice_index ranks n) ≡ n
  pub rank_of : (r : ℕ) → r < length numbers → slice_index ranks (slice_index numbers r) ≡ r

-- the group, or the key, of the number at place r
abbrev pub at_place : List ℕ → List ℕ → ℕ → ℕ
at_place row numbers r = slice_index row (slice_index numbers r)

-- the lesser groups first, and in a group the lesser keys
pub record IsRanking (groups keys numbers : List ℕ) : Type 0 where
  pub listing : IsListing (length groups) numbers
  pub groups_rise : (r s : ℕ) → r ≤ s → s < length numbers → at_place groups numbers r ≤ at_place groups numbers s
  pub keys_rise : (r s : ℕ) → r ≤ s → s < length numbers → at_place groups numbers r ≡ at_place groups numbers s → at_place keys numbers r ≤ at_place keys numbers s

-- from this place on, and nowhere before it, stand the numbers of the group and of greater ones
pub record IsStart (groups numbers : List ℕ) (group start : ℕ) : Type 0 where
  pub within : start ≤ length numbers
  pub before : (r : ℕ) → r < start → at_place groups numbers r < group
  pub after : (r : ℕ) → start ≤ r → r < length numbers → group ≤ at_place groups numbers r

-- where each group starts
abbrev pub AreStarts : List ℕ → List ℕ → List ℕ → Type 0
AreStarts groups numbers starts = (g : ℕ) → g < length starts → IsStart groups numbers g (slice_index starts g)
