-- Numbers of which each is of one group, and for each group the least of its numbers that are in.
use Rattle.std.specs.Prelude.{◌≡◌, ℕ, ◌+◌, ◌-◌, ◌*◌, ◌/◌, ◌%◌, ◌^◌, ◌<◌, ◌≤◌, ◌==◌, Bool, List, length, map, slice_index, Option, Some, None}
use Rattle.std.specs.Int.{bit_at}
use Rattle.ready_heap.specs.Heaps.{Holds}
use Rattle.ready_heap.specs.Bits.{IsSet, IsSummary}
use Rattle.ready_heap.specs.Ranks.{IsRanking, AreRanks, AreStarts}

-- the group and the key of each number, and how they are ordered by these: where the ranks of each group start, and at the end
-- how many numbers there are; the number of each rank; and the rank of each number
pub record RankingView : Type 0 where
  pub groups : List ℕ
  pub keys : List ℕ
  pub starts : List ℕ
  pub numbers : List ℕ
  pub ranks : List ℕ

abbrev pub group_count : RankingView → ℕ
group_count r = length r.starts - 1

-- the group and the key of each number, and whether it is in
pub record HeapsView : Type 0 where
  pub groups : List ℕ
  pub keys : List ℕ
  pub held : List Bool

-- a number of a group that is in
pub record IsIn (h : HeapsView) (group n : ℕ) : Type 0 where
  pub held : Holds h.held n
  pub group_is : slice_index h.groups n ≡ group

-- one that has no greater key than another of its group that is in; none where none is in
abbrev pub IsLeastOf : HeapsView → ℕ → Option ℕ → Type 0
IsLeastOf h group None = (n : ℕ) → IsIn h group n → ⊥
IsLeastOf h group (Some n) = IsIn h group n × ((m : ℕ) → IsIn h group m → slice_index h.keys n ≤ slice_index h.keys m)

-- ---- how they are kept

abbrev pub is_set : List ℕ → ℕ → Bool
is_set words rank = bit_at (slice_index words (rank / 64)) (rank % 64) == 1

-- those are in whose rank's bit is set
abbrev pub held_by : List ℕ → List ℕ → List Bool
held_by words ranks = map (λ rank. is_set words rank) ranks

-- each number has its rank, and each group its range of ranks
pub record KeepsRanks (groups keys starts numbers ranks : List ℕ) : Type 0 where
  pub keys_long : length keys ≡ length groups
  pub few : length groups < 2 ^ 32
  pub ranking : IsRanking groups keys numbers
  pub ranks_are : AreRanks numbers ranks
  pub starts_are : AreStarts groups numbers starts
  pub some : 1 ≤ length starts
  pub grouped : (n : ℕ) → n < length groups → slice_index groups n + 1 < length starts

abbrev pub IsRanked : RankingView → Type 0
IsRanked r = KeepsRanks r.groups r.keys r.starts r.numbers r.ranks

-- a bit for each rank, and none beyond them
pub record KeepsBits (numbers words summary : List ℕ) : Type 0 where
  pub wide : length numbers ≤ 64 * length words
  pub few : length words < 2 ^ 57
  pub short : length summary < 2 ^ 57
  pub within : (k : ℕ) → IsSet words k → k < length numbers
  pub is_summary : IsSummary words summary
