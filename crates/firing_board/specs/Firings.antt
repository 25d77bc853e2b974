-- The open firings of a board, where their cells lie, and who has them.
use Rattle.std.specs.Prelude.{◌≡◌, ℕ, suc, ◌+◌, true, List, [], ◌∷◌, Option, Some, None, slice_index_or}
use Rattle.job_compiler.specs.Compilation.{IsCompiled}
use Rattle.job_rules.specs.Items.{Prepared, edges_in, graph_of, node_base, nodes_in, prepared_in}
use Rattle.job_rules.specs.Words.{Answer}
use Rattle.kernel_gate.specs.Leased.{AreWhole}
use Rattle.kernel_gate.specs.Value.{Places}
use Rattle.nested_jobs.specs.Marks.{Marks, Open, values}
use Rattle.nested_jobs.specs.Rules.{Place, Values}
use Rattle.one_job.specs.Leased.{AreLeases, HasCell, JobCells, Port}
use Rattle.graph_firing.specs.Leases.{CellsStay}
use Rattle.pisdf_meaning.specs.declared.firing.Firing.{Firing}
use Rattle.board_rules.specs.Entries.{BoardState, Step}
use Rattle.board_rules.specs.Keys.{Key}
use Rattle.board_rules.specs.Legal.{state_after}
use Rattle.firing_board.specs.Table.View.{FiringView}
use Rattle.firing_board.specs.View.{BoardView, IsAt}
use Rattle.firing_board.specs.declared.claim.Claim.{Claim}
use Rattle.firing_board.specs.declared.claim.Claim.TheVariants as claim

-- the open firing with this key
abbrev pub firing_at : List (Option FiringView) → ℕ → Option FiringView
firing_at firings k = slice_index_or firings k None

-- how many firings are open
abbrev pub open_count : List (Option FiringView) → ℕ
open_count [] = 0
open_count (None ∷ firings) = open_count firings
open_count (Some firing ∷ firings) = suc (open_count firings)

-- the same firing, whose cells lie where they lay
pub record GoesOn (before after : FiringView) : Type 0 where
  pub place_is : after.place ≡ before.place
  pub cells_stay : CellsStay before.cells after.cells

-- each firing that was open, and is open still
abbrev pub FiringsGoOn : (old new : List (Option FiringView)) → Type 0
FiringsGoOn old new = (k : ℕ) (before after : FiringView) → firing_at old k ≡ Some before → firing_at new k ≡ Some after → GoesOn before after

-- the firings with keys are those that are open by these marks, each with one key
pub record AreOpen (firings : List (Option FiringView)) (m : Marks Firing Answer) : Type 0 where
  pub is_open : (k : ℕ) (firing : FiringView) → firing_at firings k ≡ Some firing → (job : Firing) × (m firing.place ≡ Open job)
  pub has_key : (place : Place) (job : Firing) → m place ≡ Open job → (k : ℕ) × (firing : FiringView) × (firing_at firings k ≡ Some firing) × (firing.place ≡ place)
  pub one_key : (k l : ℕ) (one other : FiringView) → firing_at firings k ≡ Some one → firing_at firings l ≡ Some other → one.place ≡ other.place → k ≡ l

-- ---- the leases of a frame

-- the cells are those of a compilation of this job, whose finished items gave these answers: they lie in one block of a pool,
-- which is as high as the placement
pub record AreCellsOf (key : Key) (job : Firing) (answers : Values Answer) (c : JobCells) : Type 0 where
  pub compiled : IsCompiled c.compilation
  pub nodes_are : (p : Prepared) → prepared_in (graph_of key.graphs.graphs job) answers ≡ Some p → c.compilation.graph.nodes ≡ nodes_in key.graphs.graphs (graph_of key.graphs.graphs job) job p
  pub edges_are : (p : Prepared) → prepared_in (graph_of key.graphs.graphs job) answers ≡ Some p → c.compilation.graph.edges ≡ edges_in key.graphs.graphs (graph_of key.graphs.graphs job) job p
  pub pooled : c.block.pooled ≡ true
  pub high : c.block.len ≡ c.compilation.placement.height

-- a worker runs a node of an open firing, and these are the leases of the node's buffers, in the block of that firing, at the
-- offsets of its placement
pub record LeasesNode (b : BoardView) (w : ℕ) (places : Places) : Type 0 where
  pub number : ℕ
  pub firing : FiringView
  pub here : firing_at b.firings number ≡ Some firing
  pub cells : JobCells
  pub cells_are : firing.cells ≡ Some cells
  pub taken : List Step
  pub at : IsAt b taken
  pub job : Firing
  pub is_open : (state_after b.key taken).marks firing.place ≡ Open job
  pub of_job : AreCellsOf b.key job (values (state_after b.key taken).marks firing.place) cells
  pub node : ℕ
  pub runs : (state_after b.key taken).running w ≡ Some ((node_base (graph_of b.key.graphs.graphs job) + node) ∷ firing.place)
  pub leases : AreLeases cells node places

-- The leases of a node's frame are those of its buffers. Those of a configuration actor are blocks of its own, which are no pool's.
abbrev pub LeasesFrame : BoardView → ℕ → Claim → Type 0
LeasesFrame b w (claim.Fire ticket frame) = LeasesNode b w frame.places
LeasesFrame b w (claim.Configure ticket frame) = AreWhole frame.places
LeasesFrame b w (claim.Copy ticket node frame) = LeasesNode b w frame.places
LeasesFrame b w (claim.Compile ticket task) = Unit {0}
LeasesFrame b w claim.Wait = Unit {0}
LeasesFrame b w claim.Finished = Unit {0}
LeasesFrame b w claim.Starved = Unit {0}

-- ---- owners of cells

-- a cell of the firing at this place, by its number in the firing's block, is lent to a worker at a port of the item that it runs
pub record OwnsCell (s : BoardState) (lent : List (Option Places)) (w : ℕ) (place : Place) (port : Port) (cell : ℕ) : Type 0 where
  pub item : ℕ
  pub runs : s.running w ≡ Some (item ∷ place)
  pub places : Places
  pub lent_so : slice_index_or lent w None ≡ Some places
  pub has : HasCell places port cell

-- no cell has two owners, nor one owner at two ports
abbrev pub OneOwnerOfAll : BoardState → List (Option Places) → Type 0
OneOwnerOfAll s lent = (w u : ℕ) (place : Place) (a b : Port) (cell : ℕ) → OwnsCell s lent w place a cell → OwnsCell s lent u place b cell → (w ≡ u) × (a ≡ b)
