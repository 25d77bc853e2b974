-- What the cells of an open firing hold, as the journal alone tells it: each step that finished nodes of the firing wrote their
-- outputs at the offsets of their edges.
use Rattle.std.specs.Prelude.{◌≡◌, ℕ, zero, suc, ◌+◌, ◌<◌, ℤ, pos, List, [], ◌∷◌, length, replicate, Option, Some, None, Result, Ok, Err}
use Rattle.std.specs.Option.{option_map}
use Rattle.sdf_level.specs.declared.node.Node.{Node}
use Rattle.sdf_level.specs.declared.single_rate.Edge.{Edge}
use Rattle.split_block.specs.Places.{window}
use Rattle.placement.specs.declared.placing.Placement.{Placement}
use Rattle.job_compiler.specs.Compilation.{Compilation}
use Rattle.job_flow.specs.Frames.{Values, on_edge}
use Rattle.job_flow.specs.Graphs.{node_at}
use Rattle.job_rules.specs.Items.{actor_of, graph_of, keeps_state, node_base, node_result}
use Rattle.job_rules.specs.Words.{Answer}
use Rattle.nested_jobs.specs.Journals.{after, start}
use Rattle.nested_jobs.specs.Marks.{Marks, values}
use Rattle.nested_jobs.specs.Rules.{Place}
use Rattle.one_job.specs.Images.{written}
use Rattle.one_job.specs.Live.{IsFull}
use Rattle.one_job.specs.Marks.{IsClaimed, phase}
use Rattle.one_job.specs.Places.{buffer_at, edge_at}
use Rattle.pisdf_meaning.specs.declared.firing.Firing.{Firing}
use Rattle.pisdf_meaning.specs.declared.refusal.Refusal.{Refusal}
use Rattle.board_rules.specs.Entries.{BoardState, Step}
use Rattle.board_rules.specs.Keys.{Key, rules, top_job}
use Rattle.board_rules.specs.Legal.{state_after}
use Rattle.board_rules.specs.Picks.{steps_to}
use Rattle.firing_board.specs.Table.LiveFirings.{IsOpenWith, nodes_at}

-- what each of these nodes of the firing at a place is finished with, if it is: its outputs, or its refusal
abbrev pub values_at : Key → Firing → List Node → Marks Firing Answer → Place → Values ℤ Refusal
values_at key job nodes m place n =
    option_map (node_result (keeps_state key.graphs.graphs (actor_of (graph_of key.graphs.graphs job) (node_at nodes n)))) (values m place (node_base (graph_of key.graphs.graphs job) + n))

-- ---- what steps write

-- a node that is finished now without a refusal, and wasn't before, wrote its outputs
abbrev pub wrote : List Edge → List ℕ → ℕ → (before now : Option (Result (List (List ℤ)) Refusal)) → List ℤ → List ℤ
wrote edges offsets n (Some earlier) now cells = cells
wrote edges offsets n None None cells = cells
wrote edges offsets n None (Some (Err refusal)) cells = cells
wrote edges offsets n None (Some (Ok outs)) cells = written edges offsets n outs (length edges) cells

-- and so did each of the first so many nodes
abbrev pub all_wrote : List Edge → List ℕ → (before now : Values ℤ Refusal) → ℕ → List ℤ → List ℤ
all_wrote edges offsets before now zero cells = cells
all_wrote edges offsets before now (suc n) cells = wrote edges offsets n (before n) (now n) (all_wrote edges offsets before now n cells)

-- the cells after further steps
abbrev pub image_from : Key → Place → Firing → List Node → List Edge → List ℕ → BoardState → List Step → List ℤ → List ℤ
image_from key place job nodes edges offsets s [] cells = cells
image_from key place job nodes edges offsets s (step ∷ rest) cells =
    image_from key place job nodes edges offsets (after (rules key) s step) rest
    (all_wrote edges offsets (values_at key job nodes s.marks place) (values_at key job nodes (after (rules key) s step).marks place) (length nodes) cells)

abbrev pub image : Key → Place → Firing → List Node → List Edge → Placement → List Step → List ℤ
image key place job nodes edges placement taken =
    image_from key place job nodes edges placement.offsets (start (top_job key)) taken (replicate placement.height (pos 0))

-- the cells of the firing at a place, whose graph was compiled to this, after these steps
abbrev pub image_of : Key → Place → Firing → Compilation → List Step → List ℤ
image_of key place job c taken = image key place job c.graph.nodes c.graph.edges c.placement taken

-- ---- laws

-- where the writer of a buffer has given its outputs, and its reader isn't finished, the cells at the buffer hold them
abbrev pub FullBuffersHoldTokens : Type 0
FullBuffersHoldTokens =
    (key : Key) (taken : List Step) (place : Place) (job : Firing) (c : Compilation) (e : ℕ) → IsOpenWith key taken place job c → e < length c.graph.edges
    → IsFull c.graph.edges (nodes_at key job c (state_after key taken).marks place) e
    → window (buffer_at c.graph.edges c.placement.offsets e).start (buffer_at c.graph.edges c.placement.offsets e).len (image_of key place job c taken)
    ≡ on_edge (values_at key job c.graph.nodes (state_after key taken).marks place) (edge_at c.graph.edges e)

-- each buffer that leads to a claimed node is such a one
abbrev pub ReadBuffersAreFull : Type 0
ReadBuffersAreFull =
    (key : Key) (taken : List Step) (place : Place) (job : Firing) (c : Compilation) (e : ℕ) → IsOpenWith key taken place job c → e < length c.graph.edges
    → phase (nodes_at key job c (state_after key taken).marks place) (edge_at c.graph.edges e).head ≡ IsClaimed
    → IsFull c.graph.edges (nodes_at key job c (state_after key taken).marks place) e

-- after these steps the firing with this path is open and compiled, and its cells hold this
pub record IsImage (key : Key) (taken : List Step) (path : List (ℕ × ℕ)) (cells : List ℤ) : Type 0 where
  pub place : Place
  pub path_is : steps_to key (state_after key taken).marks place ≡ path
  pub job : Firing
  pub compilation : Compilation
  pub is_open : IsOpenWith key taken place job compilation
  pub cells_are : cells ≡ image_of key place job compilation taken

-- what it is started with, the path and the steps tell what the cells hold
abbrev pub ImagesAreOne : Type 0
ImagesAreOne = (key : Key) (taken : List Step) (path : List (ℕ × ℕ)) (one other : List ℤ) → IsImage key taken path one → IsImage key taken path other → one ≡ other
