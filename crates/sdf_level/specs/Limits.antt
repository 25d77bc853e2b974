-- What a level's counts of firings may come to: firings, then links, then tokens.
use Rattle.std.specs.Prelude.{ℕ, ◌+◌, ◌*◌, ◌≤◌, ◌<◌, List, [], ◌∷◌, slice_index, sum}
use Rattle.sdf_level.specs.View.{LevelView}
use Rattle.sdf_level.specs.declared.link.Link.{Link}
use Rattle.sdf_level.specs.declared.link.Tail.{Tail}
use Rattle.sdf_level.specs.declared.link.Head.{Head}
use Rattle.sdf_level.specs.declared.link.Tail.TheVariants as tail
use Rattle.sdf_level.specs.declared.link.Head.TheVariants as head

-- how often the tail writes: an actor in each firing, a source once
abbrev pub tail_count : List ℕ → Tail → ℕ
tail_count q (tail.Source s) = 1
tail_count q (tail.Port a p r) = slice_index q a

abbrev pub head_count : List ℕ → Head → ℕ
head_count q (head.Sink t) = 1
head_count q (head.Port b j c) = slice_index q b

-- what the actor at the link puts on it or takes from it in all its firings
abbrev pub moved : List ℕ → Tail → Head → ℕ
moved q (tail.Port a p r) h = slice_index q a * r
moved q (tail.Source s) (head.Port b j c) = slice_index q b * c
moved q (tail.Source s) (head.Sink t) = 0

abbrev pub links_of : List ℕ → List Link → ℕ
links_of q [] = 0
links_of q (link ∷ links) = (tail_count q link.tail + head_count q link.head + 2) + links_of q links

abbrev pub tokens_of : List ℕ → List Link → ℕ
tokens_of q [] = 0
tokens_of q (link ∷ links) = (moved q link.tail link.head + link.delay) + tokens_of q links

abbrev pub firing_count : List ℕ → ℕ
firing_count q = sum q

abbrev pub link_count : LevelView → List ℕ → ℕ
link_count level q = links_of q level.links

abbrev pub token_count : LevelView → List ℕ → ℕ
token_count level q = tokens_of q level.links

-- the most firings
abbrev pub firings_limit : ℕ
firings_limit = 2048

-- the greatest count of links
abbrev pub links_limit : ℕ
links_limit = 8192

-- the most tokens
abbrev pub tokens_limit : ℕ
tokens_limit = 1048576

-- all three are within their limits
pub record IsWithinLimits (level : LevelView) (q : List ℕ) : Type 0 where
  pub firings : firing_count q ≤ firings_limit
  pub links : link_count level q ≤ links_limit
  pub tokens : token_count level q ≤ tokens_limit

-- the firings are the first over their limit
abbrev pub HasTooManyFirings : List ℕ → Type 0
HasTooManyFirings q = firings_limit < firing_count q

-- the links are
pub record HasTooManyLinks (level : LevelView) (q : List ℕ) : Type 0 where
  pub firings : firing_count q ≤ firings_limit
  pub over : links_limit < link_count level q

-- the tokens are
pub record HasTooManyTokens (level : LevelView) (q : List ℕ) : Type 0 where
  pub firings : firing_count q ≤ firings_limit
  pub links : link_count level q ≤ links_limit
  pub over : tokens_limit < token_count level q
