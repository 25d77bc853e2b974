-- The journal of a board: steps of its workers, each with the path of the job and the item.
use Rattle.std.specs.Prelude.{ℕ, ◌-◌, ◌==◌, nat_lt, List, [], ◌∷◌, map, slice_index, if◌then◌else◌}
use Rattle.pisdf_meaning.specs.Configuring.{Configuration, configurations}
use Rattle.pisdf_model.specs.declared.graph.Graph.{Graph}
use Rattle.pisdf_meaning.specs.declared.firing.Firing.{Firing}
use Rattle.nested_jobs.specs.Marks.{Mark, Free, Busy, Open, Done}
use Rattle.nested_jobs.specs.Journals as steps
use Rattle.nested_jobs.specs.Journals.{State, start, after}
use Rattle.nested_jobs.specs.Steps.{claimed}
use Rattle.job_rules.specs.Items.{compile_number, graph_of, node_base}
use Rattle.job_rules.specs.Words.{Answer}
use Rattle.board_rules.specs.Keys.{Key, rules}
use Rattle.board_rules.specs.declared.entry.Entry.{Entry}
use Rattle.board_rules.specs.declared.entry.Entry.TheVariants.{Claim, Finish}
use Rattle.board_rules.specs.declared.entry.ItemName.{ItemName}
use Rattle.board_rules.specs.declared.entry.ItemName.TheVariants.{Configure, Compile, Node}

-- a step of a worker: the claim of the item at a place, or the finish of the item that it runs, with its answer
abbrev pub Step : Type 0
Step = steps.Entry Answer

abbrev pub BoardState : Type 0
BoardState = State Firing Answer

-- an item of a job of this graph, by its number
abbrev pub item_of : Graph → ℕ → ItemName
item_of g i =
    if nat_lt i (compile_number g) then Configure (slice_index (map (λ (c : Configuration). c.place) (configurations g)) i)
    else (if i == compile_number g then Compile else Node (i - node_base g))

abbrev pub claim_in : Key → ℕ → ℕ → Mark Firing Answer → List Entry
claim_in key w i Free = []
claim_in key w i Busy = []
claim_in key w i (Open firing) = Claim w firing.path (item_of (graph_of key.graphs.graphs firing) i) ∷ []
claim_in key w i (Done answer) = []

-- the entry of a step, in the state before it
abbrev pub entry_of : Key → BoardState → Step → List Entry
entry_of key s (steps.Claim w []) = []
entry_of key s (steps.Claim w (i ∷ p)) = claim_in key w i (claimed (rules key) s.marks (i ∷ p) p)
entry_of key s (steps.Finish w answer) = Finish w ∷ []
