-- The edges of a sound graph, as pairs and as sizes.
use Rattle.std.proofs.Common.{◌≡◌, ℕ, ◌<◌, ◌≤◌, List, [], ◌∷◌, length, sum, slice_index, arith, refl}
use Rattle.std.specs.List.{All, sum_by}
use Rattle.std.proofs.lemmas.List.Elements.{All-map}
use Rattle.std.proofs.lemmas.List.Sums.{sum-map, sum_by-cons}
use Rattle.sdf_level.specs.declared.single_rate.Edge.{Edge}
use Rattle.sdf_level.specs.declared.single_rate.SingleRate.{SingleRate}
use Rattle.single_rate.specs.Sizes.{space}
use Rattle.worker_mapping.specs.Costs.{pairs_of}
use Rattle.job_compiler.specs.Compilation.{sizes_of, IsSound}

abbrev pub size_of : Edge → ℕ
size_of e = e.size

pub pair_ends : (graph : SingleRate) → IsSound graph → All (λ e. (e.0 < length graph.nodes) × (e.1 < length graph.nodes)) (pairs_of graph.edges)
pair_ends graph sound = All-map (λ (e : ℕ × ℕ). (e.0 < length graph.nodes) × (e.1 < length graph.nodes)) (λ (e : Edge). (e.tail, e.head)) graph.edges sound.ends

pub pairs_rise : (graph : SingleRate) → IsSound graph → All (λ e. slice_index graph.ranks e.0 < slice_index graph.ranks e.1) (pairs_of graph.edges)
pairs_rise graph sound = All-map (λ (e : ℕ × ℕ). slice_index graph.ranks e.0 < slice_index graph.ranks e.1) (λ (e : Edge). (e.tail, e.head)) graph.edges sound.rising

pub sizes_filled : (graph : SingleRate) → IsSound graph → All (λ size. 1 ≤ size) (sizes_of graph.edges)
sizes_filled graph sound = All-map (λ (s : ℕ). 1 ≤ s) size_of graph.edges sound.small.sizes

space_is_sum : (edges : List Edge) → space edges ≡ sum_by size_of edges
space_is_sum [] = refl
space_is_sum (e ∷ edges) = let rest = space_is_sum edges in let more = sum_by-cons size_of e edges in omega arith

pub sizes_within : (graph : SingleRate) → IsSound graph → sum_by size_of graph.edges ≤ 3145728
sizes_within graph sound = let same = space_is_sum graph.edges in let within = sound.small.tokens in omega arith

pub sum_within : (graph : SingleRate) → IsSound graph → sum (sizes_of graph.edges) ≤ 3145728
sum_within graph sound = let whole = sum-map size_of graph.edges in let within = sizes_within graph sound in omega arith
