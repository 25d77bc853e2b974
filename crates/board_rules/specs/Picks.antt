-- Which of the enabled items a worker is handed: the first by six rules.
use Rattle.std.specs.Prelude.{◌≡◌, ◌≢◌, ℕ, suc, ◌-◌, ◌==◌, nat_lt, Bool, true, false, not, ◌&&◌, Option, Some, None, List, [], ◌∷◌, ◌++◌, map, length, reverse, take, slice_index, if◌then◌else◌}
use Rattle.job_compiler.specs.Compilation.{IsMapped}
use Rattle.pisdf_model.specs.declared.graph.Graph.{Graph}
use Rattle.pisdf_meaning.specs.Configuring.{Configuration, configurations}
use Rattle.pisdf_meaning.specs.declared.firing.Firing.{Firing}
use Rattle.worker_mapping.specs.declared.mapping.Mapping.{Mapping}
use Rattle.job_flow.specs.Graphs.{node_at}
use Rattle.nested_jobs.specs.Rules.{Place}
use Rattle.nested_jobs.specs.Marks.{Mark, Free, Busy, Open, Done, Marks, values}
use Rattle.nested_jobs.specs.Pick.{decide, is_more_urgent, outer}
use Rattle.nested_jobs.specs.Steps.{IsEnabled}
use Rattle.job_rules.specs.Items.{Prepared, compile_number, edges_in, graph_of, node_base, nodes_in, prepared_in, step_of_node}
use Rattle.job_rules.specs.Words.{Answer}
use Rattle.board_rules.specs.Keys.{Key, rules}

-- What the rules look at. Where the claim of an item opens jobs, they speak of the outermost of these, which is a child of
-- an open job, and of the item of that open job which calls it.
pub record Standing : Type 0 where
  -- the claim opens a job
  pub opens : Bool
  -- the depth of the open job
  pub depth : ℕ
  -- the item's home is another worker
  pub away : Bool
  -- the priority of a node; a configuration actor and the compilation have none, and go before every node
  pub urgency : Option ℕ
  -- the path of the open job: actors by their places, and their firings, from the top on
  pub path : List (ℕ × ℕ)
  -- the item's number in the open job: configuration actors, then the compilation, then the nodes
  pub number : ℕ
  -- where the claim opens jobs, the numbers of the items on the way in them, the outermost first
  pub within : List ℕ

-- ---- the six rules

abbrev pub is_lesser_path : List (ℕ × ℕ) → List (ℕ × ℕ) → Bool
is_lesser_path [] [] = false
is_lesser_path [] (y ∷ ys) = true
is_lesser_path (x ∷ xs) [] = false
is_lesser_path (x ∷ xs) (y ∷ ys) =
    decide (nat_lt x.0 y.0) (nat_lt y.0 x.0) (decide (nat_lt x.1 y.1) (nat_lt y.1 x.1) (is_lesser_path xs ys))

abbrev pub is_lesser_way : List ℕ → List ℕ → Bool
is_lesser_way [] [] = false
is_lesser_way [] (y ∷ ys) = true
is_lesser_way (x ∷ xs) [] = false
is_lesser_way (x ∷ xs) (y ∷ ys) = decide (nat_lt x y) (nat_lt y x) (is_lesser_way xs ys)

-- In this order, the first that tells them apart: (1) items of open jobs go before items that open a job; (2) those of greater
-- depth; (3) those at home; (4) the more urgent; (5) those of the lesser path; (6) the lesser number, and of a job that is opened
-- its first item, and so on in the job that this one opens.
abbrev pub goes_before : Standing → Standing → Bool
goes_before a b =
    decide (not a.opens && b.opens) (a.opens && not b.opens)
    (decide (nat_lt b.depth a.depth) (nat_lt a.depth b.depth)
    (decide (not a.away && b.away) (a.away && not b.away)
    (decide (is_more_urgent a.urgency b.urgency) (is_more_urgent b.urgency a.urgency)
    (decide (is_lesser_path a.path b.path) (is_lesser_path b.path a.path)
    (decide (nat_lt a.number b.number) (nat_lt b.number a.number)
    (is_lesser_way a.within b.within))))))

-- ---- where an item stands

abbrev pub is_open : Mark Firing Answer → Bool
is_open Free = false
is_open Busy = false
is_open (Open firing) = true
is_open (Done answer) = false

-- the item of the job at the outer place on the way to a place in or below it
abbrev pub item_towards : Place → Place → ℕ
item_towards q a = slice_index a (length a - suc (length q))

-- and the items of the jobs below that one, the outermost first
abbrev pub items_below : Place → Place → List ℕ
items_below q a = reverse (take (length a - suc (length q)) a)

abbrev pub step_of_item : Key → Graph → Firing → ℕ → Option Prepared → ℕ × ℕ
step_of_item key g firing i None = (slice_index (map (λ (c : Configuration). c.place) (configurations g)) i, 0)
step_of_item key g firing i (Some p) =
    if nat_lt i (compile_number g) then (slice_index (map (λ (c : Configuration). c.place) (configurations g)) i, 0)
    else step_of_node g (node_at (nodes_in key.graphs.graphs g firing p) (i - node_base g))

-- the actor and the firing that an item of a job is
abbrev pub step_in : Key → Marks Firing Answer → Place → ℕ → Mark Firing Answer → List (ℕ × ℕ)
step_in key m p i Free = []
step_in key m p i Busy = []
step_in key m p i (Open firing) = step_of_item key (graph_of key.graphs.graphs firing) firing i (prepared_in (graph_of key.graphs.graphs firing) (values m p)) ∷ []
step_in key m p i (Done answer) = []

-- the path of the job at a place
abbrev pub steps_to : Key → Marks Firing Answer → Place → List (ℕ × ℕ)
steps_to key m [] = []
steps_to key m (i ∷ p) = steps_to key m p ++ step_in key m p i (m p)

-- the list schedule of the nodes of a job that is compiled, on the key's workers
abbrev pub IsMappingOf : Key → Graph → Firing → Prepared → Mapping → Type 0
IsMappingOf key g firing p mapping = IsMapped record { nodes = nodes_in key.graphs.graphs g firing p; edges = edges_in key.graphs.graphs g firing p; ranks = [] } key.workers mapping

-- the home and the priority of a node are those of the list schedule; a configuration actor and the compilation are at home
-- everywhere
pub record NodeStands (key : Key) (g : Graph) (firing : Firing) (p : Prepared) (w n : ℕ) (standing : Standing) : Type 0 where
  pub mapping : Mapping
  pub mapped : IsMappingOf key g firing p mapping
  pub away_is : standing.away ≡ not (slice_index mapping.home n == w)
  pub urgency_is : standing.urgency ≡ Some (slice_index mapping.priority n)

-- item number i, where that is no node or is one
abbrev pub StandsAsNode : Key → Graph → Firing → Prepared → ℕ → ℕ → Standing → Bool → Type 0
StandsAsNode key g firing p w i standing true = (standing.away ≡ false) × (standing.urgency ≡ None)
StandsAsNode key g firing p w i standing false = NodeStands key g firing p w (i - node_base g) standing

abbrev pub ItemStands : Key → Graph → Firing → Option Prepared → ℕ → ℕ → Standing → Type 0
ItemStands key g firing None w i standing = (standing.away ≡ false) × (standing.urgency ≡ None)
ItemStands key g firing (Some p) w i standing =
    StandsAsNode key g firing p w i standing (nat_lt i (node_base g))

-- the item at place i ∷ p stands so for a worker
pub record StandsAs (key : Key) (m : Marks Firing Answer) (w i : ℕ) (p : Place) (standing : Standing) : Type 0 where
  pub firing : Firing
  pub is_open_job : m (outer m p) ≡ Open firing
  pub opens_is : standing.opens ≡ not (is_open (m p))
  pub depth_is : standing.depth ≡ length (outer m p)
  pub path_is : standing.path ≡ steps_to key m (outer m p)
  pub number_is : standing.number ≡ item_towards (outer m p) (i ∷ p)
  pub within_is : standing.within ≡ items_below (outer m p) (i ∷ p)
  pub at_home : ItemStands key (graph_of key.graphs.graphs firing) firing (prepared_in (graph_of key.graphs.graphs firing) (values m (outer m p))) w standing.number standing

-- of two enabled items the first goes before the second
pub record GoesBefore (key : Key) (m : Marks Firing Answer) (w i : ℕ) (p : Place) (j : ℕ) (q : Place) : Type 0 where
  pub one : Standing
  pub other : Standing
  pub one_stands : StandsAs key m w i p one
  pub other_stands : StandsAs key m w j q other
  pub before : goes_before one other ≡ true

-- the pick: the enabled item that goes before every other
pub record IsPick (key : Key) (m : Marks Firing Answer) (w i : ℕ) (p : Place) : Type 0 where
  pub enabled : IsEnabled (rules key) m (i ∷ p)
  pub first : (j : ℕ) (q : Place) → IsEnabled (rules key) m (j ∷ q) → j ∷ q ≢ i ∷ p → GoesBefore key m w i p j q

-- the open jobs that are compiled have list schedules
abbrev pub AreMapped : Key → Marks Firing Answer → Type 0
AreMapped key m =
    (q : Place) (firing : Firing) (p : Prepared) → m q ≡ Open firing → prepared_in (graph_of key.graphs.graphs firing) (values m q) ≡ Some p →
    (mapping : Mapping) × IsMappingOf key (graph_of key.graphs.graphs firing) firing p mapping
