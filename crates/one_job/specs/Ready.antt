-- What a job keeps to tell which nodes may be claimed.
use Rattle.std.specs.Prelude.{◌≡◌, ℕ, zero, suc, ◌+◌, ◌<◌, ◌≤◌, ◌⊎◌, ◌↔◌, ◌==◌, ◌&&◌, Bool, true, false, List, [], ◌∷◌, length, replicate, slice_index, slice_index_or, slice_set, Option, Some, None}
use Rattle.sdf_level.specs.declared.node.Node.{Node}
use Rattle.sdf_level.specs.declared.single_rate.Edge.{Edge}
use Rattle.ready_heap.specs.Heaps.{Holds}
use Rattle.ready_heap.specs.Groups.{HeapsView, RankingView}
use Rattle.worker_mapping.specs.declared.mapping.Mapping.{Mapping}
use Rattle.job_compiler.specs.Compilation.{Compilation}
use Rattle.job_compiler.specs.Ranked.{IsKey, AreKeys, IsRankingOf}
use Rattle.job_flow.specs.Graphs.{node_at}
use Rattle.one_job.specs.Marks.{Mark, Phase, IsFree, IsClaimed, IsFinished, IsFailed, phase}
use Rattle.one_job.specs.Places.{edge_at}
use Rattle.one_job.specs.View.{JobView, IsEnabled}
use Rattle.one_job.specs.Pick.{is_child, is_child_in}
use Rattle.one_job.specs.declared.ready.ReadyNodes.{ReadyNodes}

abbrev pub bit : Bool → ℕ
bit true = 1
bit false = 0

-- ---- the nodes that are in

-- the heaps of the nodes that are jobs of their own, or those of the others
abbrev pub side : ReadyNodes → Bool → HeapsView
side ready true = ready.children
side ready false = ready.others

-- a node comes in on one side, or goes out
abbrev pub put : ReadyNodes → Bool → ℕ → Bool → ReadyNodes
put ready true n on = record ready { children = record ready.children { held = slice_set ready.children.held n on } }
put ready false n on = record ready { others = record ready.others { held = slice_set ready.others.held n on } }

-- heaps of what is ranked so, of which none is in
abbrev pub none_in : RankingView → HeapsView
none_in ranking = record { groups = ranking.groups; keys = ranking.keys; held = replicate (length ranking.groups) false }

abbrev pub none_ready : RankingView → ReadyNodes
none_ready ranking = record { children = none_in ranking; others = none_in ranking }

-- whether a node is in, on the side that is told for it
abbrev pub is_in : (ℕ → Bool) → ReadyNodes → ℕ → Bool
is_in child ready n = slice_index_or (side ready (child n)).held n false

-- no node is in on the other side
abbrev pub AreSorted : (ℕ → Bool) → ReadyNodes → Type 0
AreSorted child ready = (b : Bool) (n : ℕ) → Holds (side ready b).held n → child n ≡ b

-- whether a node is a job of its own
abbrev pub is_child_at : List Node → List (Option ℕ) → ℕ → Bool
is_child_at nodes kinds n = is_child_in kinds (node_at nodes n)

-- as many nodes, of the same groups and keys
pub record AreRankedAs (old new : HeapsView) : Type 0 where
  pub groups : new.groups ≡ old.groups
  pub keys : new.keys ≡ old.keys
  pub wide : length new.held ≡ length old.held

-- so many nodes, each in the group of its home and with its own key
pub record AreRankedBy (mapping : Mapping) (count : ℕ) (heaps : HeapsView) : Type 0 where
  pub groups : heaps.groups ≡ mapping.home
  pub keys : AreKeys mapping.priority heaps.keys
  pub wide : length heaps.held ≡ count

-- what is in has a home, a priority and a key of its own
pub record IsRanked (mapping : Mapping) (heaps : HeapsView) (n : ℕ) : Type 0 where
  pub narrow : n < 4294967296
  pub group : slice_index heaps.groups n ≡ slice_index mapping.home n
  pub key : IsKey (slice_index mapping.priority n) n (slice_index heaps.keys n)

abbrev pub AreRanked : Mapping → HeapsView → Type 0
AreRanked mapping heaps = (n : ℕ) → Holds heaps.held n → IsRanked mapping heaps n

-- ---- counts

abbrev pub is_unfinished : Phase → Bool
is_unfinished IsFree = true
is_unfinished IsClaimed = true
is_unfinished IsFinished = false
is_unfinished IsFailed = true

-- its tail isn't finished without a fault
abbrev pub is_pending : List Edge → List Mark → ℕ → Bool
is_pending edges marks e = is_unfinished (phase marks (edge_at edges e).tail)

-- how many of the first so many edges are marked and lead to the node
abbrev pub marked_into : List Edge → (ℕ → Bool) → ℕ → ℕ → ℕ
marked_into edges is_marked n zero = 0
marked_into edges is_marked n (suc e) = bit (is_marked e && ((edge_at edges e).head == n)) + marked_into edges is_marked n e

-- how many edges into it a node waits for
abbrev pub waits_for : List Edge → List Mark → ℕ → ℕ
waits_for edges marks n = marked_into edges (is_pending edges marks) n (length edges)

abbrev pub is_claimed : Phase → Bool
is_claimed IsFree = false
is_claimed IsClaimed = true
is_claimed IsFinished = false
is_claimed IsFailed = false

-- how many of the first so many nodes are claimed
abbrev pub claims : List Mark → ℕ → ℕ
claims marks zero = 0
claims marks (suc n) = bit (is_claimed (phase marks n)) + claims marks n

-- the counts, and the nodes that are in: exactly those that may be claimed
pub record KeepsReady (j : JobView) (waiting : List ℕ) (claimed : ℕ) (ready : ReadyNodes) : Type 0 where
  pub ranked : (b : Bool) → AreRankedBy j.compilation.mapping (length j.compilation.graph.nodes) (side ready b)
  pub sorted : AreSorted (is_child j) ready
  pub long : length waiting ≡ length j.compilation.graph.nodes
  pub counted : (n : ℕ) → n < length j.compilation.graph.nodes → slice_index waiting n ≡ waits_for j.compilation.graph.edges j.marks n
  pub exact : (n : ℕ) → is_in (is_child j) ready n ≡ true ↔ IsEnabled j n
  pub claims_are : claimed ≡ claims j.marks (length j.marks)

-- ---- a node that is finished

-- whether the edge at a port leads to the node
abbrev pub heads_at : List Edge → Option ℕ → ℕ → ℕ
heads_at edges None n = 0
heads_at edges (Some e) n = bit ((edge_at edges e).head == n)

-- how many of the edges at these ports lead to the node
abbrev pub heads_in : List Edge → List (Option ℕ) → ℕ → ℕ
heads_in edges [] n = 0
heads_in edges (port ∷ ports) n = heads_at edges port n + heads_in edges ports n

-- the nodes at the heads of these edges wait for an edge less, and those that wait for none then are in
pub record Releases (child : ℕ → Bool) (edges : List Edge) (all rest : List (Option ℕ)) (old now : List ℕ) (before after : ReadyNodes) : Type 0 where
  pub long : length now ≡ length old
  pub ranked : (b : Bool) → AreRankedAs (side before b) (side after b)
  pub sorted : AreSorted child after
  pub counted : (n : ℕ) → slice_index now n + heads_in edges all n ≡ slice_index old n + heads_in edges rest n
  pub less : (n : ℕ) → heads_in edges rest n ≤ heads_in edges all n
  pub more : (n : ℕ) → is_in child before n ≡ true → is_in child after n ≡ true
  pub new : (n : ℕ) → heads_in edges rest n < heads_in edges all n → slice_index now n ≡ 0 → is_in child after n ≡ true
  pub only : (n : ℕ) → is_in child after n ≡ true → (is_in child before n ≡ true) ⊎ ((heads_in edges rest n < heads_in edges all n) × (slice_index now n ≡ 0))

-- each head waits for its edges, and isn't in
pub record CanRelease (child : ℕ → Bool) (edges : List Edge) (ports : List (Option ℕ)) (waiting : List ℕ) (ready : ReadyNodes) : Type 0 where
  pub edges_in : (k e : ℕ) → slice_index_or ports k None ≡ Some e → e < length edges
  pub heads : (k e : ℕ) → slice_index_or ports k None ≡ Some e → (edge_at edges e).head < length waiting
  pub wide : (b : Bool) → length (side ready b).held ≡ length waiting
  pub sorted : AreSorted child ready
  pub waits : (n : ℕ) → n < length waiting → heads_in edges ports n ≤ slice_index waiting n
  pub out : (n : ℕ) → 0 < heads_in edges ports n → is_in child ready n ≡ false

-- ---- at the start

-- of so many nodes those that wait for none are in
pub record AreStarted (child : ℕ → Bool) (waiting : List ℕ) (count : ℕ) (before ready : ReadyNodes) : Type 0 where
  pub ranked : (b : Bool) → AreRankedAs (side before b) (side ready b)
  pub sorted : AreSorted child ready
  pub in_now : (n : ℕ) → n < count → slice_index waiting n ≡ 0 → is_in child ready n ≡ true
  pub only : (n : ℕ) → is_in child ready n ≡ true → (n < count) × (slice_index waiting n ≡ 0)

-- of a compiled level those nodes are in that wait for none, in some ranking of its nodes
pub record AreFirstReady (c : Compilation) (kinds : List (Option ℕ)) (waiting : List ℕ) (ready : ReadyNodes) : Type 0 where
  pub ranking : RankingView
  pub ranked : IsRankingOf c.mapping ranking
  pub started : AreStarted (is_child_at c.graph.nodes kinds) waiting (length waiting) (none_ready ranking) ready
