-- The run of several iterations, cut into the first iteration and the others.
use Rattle.std.specs.Prelude.{◌≡◌, ℕ, zero, suc, ◌+◌, ◌*◌, List, [], ◌∷◌, ◌++◌, length, map, take, drop, slice_index, Ok}
use Rattle.sdf_level.specs.View.{LevelView}
use Rattle.sdf_level.specs.Run.{Fire, Runs}
use Rattle.sdf_level.specs.LevelRun.{Ended, IsLevelRun, left_of}
use Rattle.sdf_level.specs.declared.link.Link.{Link}
use Rattle.sdf_level.specs.declared.link.Tail.{Tail}
use Rattle.sdf_level.specs.declared.link.Head.{Head}
use Rattle.sdf_level.specs.declared.link.Tail.TheVariants as tail
use Rattle.sdf_level.specs.declared.link.Head.TheVariants as head
use Rattle.level_laws.specs.Unfolded.{multiplied, unfolded}

-- the sources hold the tokens of so many iterations
abbrev pub HaveTokens : {T : Type 0} → ℕ → LevelView → List (List T) → Type 0
HaveTokens times level sources = map length sources ≡ multiplied times level.sources

-- the tokens that one iteration takes from each source
abbrev pub first_tokens : {T : Type 0} → List ℕ → List (List T) → List (List T)
first_tokens [] sources = []
first_tokens (rate ∷ rates) [] = []
first_tokens (rate ∷ rates) (source ∷ sources) = take rate source ∷ first_tokens rates sources

-- the tokens that it leaves for the others
abbrev pub other_tokens : {T : Type 0} → List ℕ → List (List T) → List (List T)
other_tokens [] sources = sources
other_tokens (rate ∷ rates) [] = []
other_tokens (rate ∷ rates) (source ∷ sources) = drop rate source ∷ other_tokens rates sources

-- the firings after those of one iteration, with their numbers counted from it
abbrev pub later : {T F : Type 0} → List ℕ → Fire T F → Fire T F
later q fire b k = fire b (slice_index q b + k)

-- each list, with the other's list at its place after it
abbrev pub joined : {T : Type 0} → List (List T) → List (List T) → List (List T)
joined [] others = []
joined (list ∷ lists) [] = []
joined (list ∷ lists) (other ∷ others) = (list ++ other) ∷ joined lists others

-- what is done with on a link after all firings: between two actors what was read, at a source or sink all
abbrev pub used_on : {T : Type 0} → List ℕ → Tail → Head → List T → List T
used_on q (tail.Source s) h line = line
used_on q (tail.Port a p r) (head.Sink t) line = line
used_on q (tail.Port a p r) (head.Port b j c) line = take (slice_index q b * c) line

abbrev pub used_of : {T : Type 0} → List ℕ → List Link → List (List T) → List (List T)
used_of q [] lines = []
used_of q (link ∷ links) [] = []
used_of q (link ∷ links) (line ∷ lines) = used_on q link.tail link.head line ∷ used_of q links lines

-- One iteration comes to the lines `one`, and the rest, begun with what that left on the links, to `others`. The line of a
-- link is then what is done with of the first and all of the second.
pub record IsCut {T F : Type 0} (level : LevelView) (fire : Fire T F) (q : List ℕ) (sources starts : List (List T)) (list rest : List ℕ) (lines : List (List T)) : Type 0 where
  pub one : List (List T)
  pub others : List (List T)
  pub one_runs : Runs level fire (first_tokens level.sources sources) starts list (Ok one)
  pub others_run : Runs level (later q fire) (other_tokens level.sources sources) (left_of q level.links one) rest (Ok others)
  pub lines_are : lines ≡ joined (used_of q level.links one) others

-- what one iteration keeps at the sinks and then the others, and what these leave on the links
abbrev pub one_and_others : {T : Type 0} → Ended T → Ended T → Ended T
one_and_others one others = record { outs = joined one.outs others.outs; left = others.left }

-- The run of one thread through one iteration ends so, and that through so many others, begun with what it left; the end
-- is both together.
pub record IsCutRun {T F : Type 0} (level : LevelView) (fire : Fire T F) (q : List ℕ) (sources starts : List (List T)) (times : ℕ) (end : Ended T) : Type 0 where
  pub one : Ended T
  pub others : Ended T
  pub one_runs : IsLevelRun level q (first_tokens level.sources sources) starts fire (Ok one)
  pub others_run : IsLevelRun (unfolded times level) (multiplied times q) (other_tokens level.sources sources) one.left (later q fire) (Ok others)
  pub end_is : end ≡ one_and_others one others

-- no iteration keeps anything, and it leaves what it began with
abbrev pub nothing_kept : {T : Type 0} → LevelView → List (List T) → Ended T
nothing_kept level starts = record { outs = map (λ r. []) level.sinks; left = starts }

-- so many iterations, each begun with what the one before it left, end so
abbrev pub GoInTurn : {T F : Type 0} → LevelView → Fire T F → List ℕ → ℕ → List (List T) → List (List T) → Ended T → Type 0
GoInTurn level fire q zero sources starts end = end ≡ nothing_kept level starts
GoInTurn {T} {F} level fire q (suc n) sources starts end =
    (one : Ended T) × (others : Ended T) × IsLevelRun level q (first_tokens level.sources sources) starts fire (Ok one) ×
    GoInTurn level (later q fire) q n (other_tokens level.sources sources) one.left others × (end ≡ one_and_others one others)
