-- How large a graph is.
use Rattle.std.specs.Prelude.{ℕ, ◌+◌, ◌*◌, ◌<◌, ◌≤◌, ◌^◌, List, [], ◌∷◌, length}
use Rattle.std.specs.List.{All}
use Rattle.sdf_level.specs.Limits.{tokens_limit}
use Rattle.sdf_level.specs.declared.node.Node.{Node}
use Rattle.sdf_level.specs.declared.single_rate.Edge.{Edge}

-- all the buffers together, in tokens
abbrev pub space : List Edge → ℕ
space [] = 0
space (edge ∷ edges) = edge.size + space edges

abbrev pub HasTokens : Edge → Type 0
HasTokens edge = 1 ≤ edge.size

-- no buffer is empty, and together they have at most three times the tokens that a job may have: each token passes at most
-- a Fork and a Join
pub record IsSmall (list : List Node) (edges : List Edge) : Type 0 where
  pub few_nodes : length list < 2 ^ 32
  pub few_edges : length edges < 2 ^ 32
  pub sizes : All HasTokens edges
  pub tokens : space edges ≤ 3 * tokens_limit
