-- The order in which the nodes of each home go, and that in which all nodes go.
use Rattle.std.specs.Prelude.{◌≡◌, ℕ, ◌+◌, ◌*◌, ◌<◌, ◌≤◌, List, length, replicate, slice_index}
use Rattle.ready_heap.specs.Groups.{RankingView, group_count}
use Rattle.worker_mapping.specs.declared.mapping.Mapping.{Mapping}

-- node n's key is the lesser, the greater its priority, and then the lesser its number
pub record IsKey (priority n key : ℕ) : Type 0 where
  pub sum : key + priority * 4294967296 ≡ 18446744073709551615 * 4294967296 + n

pub record AreKeys (priority keys : List ℕ) : Type 0 where
  pub long : length keys ≡ length priority
  pub each : (n : ℕ) → n < length priority → IsKey (slice_index priority n) n (slice_index keys n)

-- each home is a group, in the order of the keys, and no group lies beyond the greatest home
pub record IsRankingOf (mapping : Mapping) (ranking : RankingView) : Type 0 where
  pub homes : ranking.groups ≡ mapping.home
  pub keys : AreKeys mapping.priority ranking.keys
  pub few : (home : ℕ) → home < group_count ranking → (n : ℕ) × (n < length mapping.home) × (home ≤ slice_index mapping.home n)

-- all nodes are one group, in the order of the keys
pub record IsRankingOfAll (mapping : Mapping) (ranking : RankingView) : Type 0 where
  pub one_group : ranking.groups ≡ replicate (length mapping.home) 0
  pub keys : AreKeys mapping.priority ranking.keys
  pub one : group_count ranking ≡ 1
