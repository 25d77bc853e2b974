-- No two nodes read the same stored tokens.
use Rattle.std.proofs.Common.{◌≡◌, ◌≢◌, ◌<◌, ℕ, ℤ, List, [], length, set, refl, sym, ap, ◌∙◌}
use Rattle.std.proofs.lemmas.List.{get_or-set_other}
use Rattle.sdf_level.specs.declared.node.Node.{Node}
use Rattle.sdf_level.specs.declared.node.Node.TheVariants as node
use Rattle.single_rate.specs.Expanded.{place_of}
use Rattle.job_flow.specs.Graphs.{node_at}
use Rattle.one_job.specs.Opening.{stored_in, StandOnce}

-- what is taken for a Source, no other node reads
pub without_source : (sources stored : List (List ℤ)) (s : ℕ) (other : Node) → other ≢ node.Source s → stored_in (set sources s []) stored other ≡ stored_in sources stored other
without_source sources stored s (node.Source t) differs = get_or-set_other sources s t [] [] (λ same. differs (ap node.Source same))
without_source sources stored s (node.Init l) differs = refl
without_source sources stored s (node.Firing a k) differs = refl
without_source sources stored s (node.End l) differs = refl
without_source sources stored s (node.Sink t) differs = refl
without_source sources stored s (node.Broadcast l) differs = refl
without_source sources stored s (node.Fork l i) differs = refl
without_source sources stored s (node.Join l k) differs = refl
without_source sources stored s (node.Round l) differs = refl

-- and what is taken for an Init
pub without_link : (sources stored : List (List ℤ)) (i : ℕ) (other : Node) → other ≢ node.Init i → stored_in sources (set stored i []) other ≡ stored_in sources stored other
without_link sources stored i (node.Source t) differs = refl
without_link sources stored i (node.Init l) differs = get_or-set_other stored i l [] [] (λ same. differs (ap node.Init same))
without_link sources stored i (node.Firing a k) differs = refl
without_link sources stored i (node.End l) differs = refl
without_link sources stored i (node.Sink t) differs = refl
without_link sources stored i (node.Broadcast l) differs = refl
without_link sources stored i (node.Fork l j) differs = refl
without_link sources stored i (node.Join l k) differs = refl
without_link sources stored i (node.Round l) differs = refl

-- nodes that are found at their numbers stand once
pub stand_once : (nodes : List Node) → ((n : ℕ) → n < length nodes → place_of nodes (node_at nodes n) ≡ n) → StandOnce nodes
stand_once nodes found m n m_in n_in same = sym (found m m_in) ∙ (ap (place_of nodes) same ∙ found n n_in)
