-- Nodes that may be claimed, in the order of each home and in that of all.
use Rattle.std.specs.Prelude.{◌≡◌, ℕ, ◌<◌, ◌≤◌, Bool, false, List, length, replicate, slice_index, slice_index_or, slice_set, Option, Some, None}
use Rattle.ready_heap.specs.Heaps.{Holds}
use Rattle.ready_heap.specs.Groups.{HeapsView, RankingView}

-- the second ranking has the same numbers with the same keys, as one group
pub record IsOfAll (ranking of_all : RankingView) : Type 0 where
  pub one_group : of_all.groups ≡ replicate (length ranking.groups) 0
  pub keys : of_all.keys ≡ ranking.keys

-- the second heaps have the same numbers with the same keys in one group, and the same of them are in
pub record AreAlike (heaps of_all : HeapsView) : Type 0 where
  pub one_group : (n : ℕ) → slice_index of_all.groups n ≡ 0
  pub keys : of_all.keys ≡ heaps.keys
  pub held : of_all.held ≡ heaps.held

-- each number is of group 0
abbrev pub AreOneGroup : List ℕ → Type 0
AreOneGroup groups = (n : ℕ) → slice_index groups n ≡ 0

-- the second heaps are alike, where there are any; where there are none, the first have one group
abbrev pub AreKeptAlike : HeapsView → Option HeapsView → Type 0
AreKeptAlike heaps None = AreOneGroup heaps.groups
AreKeptAlike heaps (Some of_all) = AreAlike heaps of_all

-- a number comes into heaps that may be there, or goes out
abbrev pub put_in : Option HeapsView → ℕ → Bool → Option HeapsView
put_in None n on = None
put_in (Some heaps) n on = Some record heaps { held = slice_set heaps.held n on }

-- it is one of theirs, and isn't in
abbrev pub CanPut : Option HeapsView → ℕ → Type 0
CanPut None n = Unit {0}
CanPut (Some heaps) n = (n < length heaps.held) × (slice_index_or heaps.held n false ≡ false)

-- it is in
abbrev pub CanTake : Option HeapsView → ℕ → Type 0
CanTake None n = Unit {0}
CanTake (Some heaps) n = Holds heaps.held n

-- one that is in and has no greater key than another that is; none where none is in
abbrev pub IsLeast : HeapsView → Option ℕ → Type 0
IsLeast h None = (n : ℕ) → Holds h.held n → ⊥
IsLeast h (Some n) = Holds h.held n × ((m : ℕ) → Holds h.held m → slice_index h.keys n ≤ slice_index h.keys m)
