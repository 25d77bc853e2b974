-- Where the Sinks, the Ends and the firings of a graph stand.
use Rattle.std.specs.Prelude.{◌≡◌, ℕ, ◌<◌, List, [], length, replicate, slice_index, slice_index_or, slice_set, Option, Some, None}
use Rattle.single_rate.specs.Expanded.{place_of}
use Rattle.sdf_level.specs.declared.node.Node.{Node}
use Rattle.sdf_level.specs.declared.node.Node.TheVariants as node
use Rattle.audit_job.specs.declared.outlets.Outlet.{Outlet}
use Rattle.audit_job.specs.declared.outlets.Outlet.TheVariants.{Sink, End}

-- the Sink, or the End, with this number
abbrev pub outlet_node : Outlet → ℕ → Node
outlet_node Sink i = node.Sink i
outlet_node End i = node.End i

-- the node with this number, if there is one, stands at this place; one past the end is passed over
abbrev pub noted : List ℕ → Option ℕ → ℕ → List ℕ
noted places None place = places
noted places (Some i) place = slice_set places i place

-- a list for each actor, as long as its count, that has nothing but this number
pub record AreFilled (counts : List ℕ) (number : ℕ) (lists : List (List ℕ)) : Type 0 where
  pub one_each : length lists ≡ length counts
  pub each : (a : ℕ) → a < length counts → slice_index_or lists a [] ≡ replicate (slice_index counts a) number

-- the firing, if the node is one, stands at this place
abbrev pub noted_firing : List (List ℕ) → Node → ℕ → List (List ℕ)
noted_firing lists (node.Firing a k) place = slice_set lists a (slice_set (slice_index_or lists a []) k place)
noted_firing lists (node.Source s) place = lists
noted_firing lists (node.Init l) place = lists
noted_firing lists (node.End l) place = lists
noted_firing lists (node.Sink t) place = lists
noted_firing lists (node.Broadcast l) place = lists
noted_firing lists (node.Fork l i) place = lists
noted_firing lists (node.Join l j) place = lists
noted_firing lists (node.Round l) place = lists

-- the list of an actor: where each of its firings stands
pub record ActorPlaces (nodes : List Node) (a count : ℕ) (places : List ℕ) : Type 0 where
  pub many : length places ≡ count
  pub each : (k : ℕ) → k < count → slice_index places k ≡ place_of nodes (node.Firing a k)

-- a list for each actor
pub record HavePlaces (nodes : List Node) (counts : List ℕ) (lists : List (List ℕ)) : Type 0 where
  pub one_each : length lists ≡ length counts
  pub each : (a : ℕ) → a < length counts → ActorPlaces nodes a (slice_index counts a) (slice_index_or lists a [])
