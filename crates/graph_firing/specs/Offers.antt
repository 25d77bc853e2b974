-- Which of the items that a job offers goes first: one at home before one whose home is another worker, then the more urgent,
-- then the one of the lesser number.
use Rattle.std.specs.Prelude.{◌≡◌, ◌≢◌, ℕ, ◌-◌, ◌==◌, nat_lt, Bool, true, false, not, ◌&&◌, List, [], Option, Some, None, slice_index}
use Rattle.job_compiler.specs.Compilation.{IsMapped}
use Rattle.nested_jobs.specs.Pick.{decide, is_more_urgent}
use Rattle.job_rules.specs.Items.{Prepared, edges_in, node_base, nodes_in, prepared_in}
use Rattle.pisdf_model.specs.declared.graph.Graph.{Graph}
use Rattle.pisdf_meaning.specs.declared.firing.Firing.{Firing}
use Rattle.worker_mapping.specs.declared.mapping.Mapping.{Mapping}
use Rattle.graph_firing.specs.View.{OpenView, answered, graph_in}
use Rattle.graph_firing.specs.declared.offer.Offer.{Offer}

-- ---- where an item stands

-- the home and the priority of a node are those of the list schedule on so many workers
pub record NodeStands (graphs : List Graph) (workers : ℕ) (g : Graph) (firing : Firing) (p : Prepared) (w n : ℕ) (away : Bool) (urgency : Option ℕ) : Type 0 where
  pub mapping : Mapping
  pub mapped : IsMapped record { nodes = nodes_in graphs g firing p; edges = edges_in graphs g firing p; ranks = [] } workers mapping
  pub away_is : away ≡ not (slice_index mapping.home n == w)
  pub urgency_is : urgency ≡ Some (slice_index mapping.priority n)

-- a configuration actor and the compilation are at home everywhere, and more urgent than every node
abbrev pub StandsFirst : Bool → Option ℕ → Type 0
StandsFirst away urgency = (away ≡ false) × (urgency ≡ None)

-- item number i, where that is no node or is one
abbrev pub StandsAsNode : List Graph → ℕ → Graph → Firing → Prepared → ℕ → ℕ → Bool → Option ℕ → Bool → Type 0
StandsAsNode graphs workers g firing p w i away urgency true = StandsFirst away urgency
StandsAsNode graphs workers g firing p w i away urgency false = NodeStands graphs workers g firing p w (i - node_base g) away urgency

-- so item number i of a job stands for a worker, by what is known once it is compiled
abbrev pub ItemStands : List Graph → ℕ → Graph → Firing → Option Prepared → ℕ → ℕ → Bool → Option ℕ → Type 0
ItemStands graphs workers g firing None w i away urgency = StandsFirst away urgency
ItemStands graphs workers g firing (Some p) w i away urgency = StandsAsNode graphs workers g firing p w i away urgency (nat_lt i (node_base g))

abbrev pub Stands : OpenView → ℕ → ℕ → Bool → Option ℕ → Type 0
Stands v w i away urgency = ItemStands v.graphs.graphs v.workers (graph_in v) v.firing (prepared_in (graph_in v) (answered v)) w i away urgency

-- ---- the order

-- item i, which stands so, goes before item j, which stands so
abbrev pub goes_first : (away : Bool) (urgency : Option ℕ) (i : ℕ) (other_away : Bool) (other_urgency : Option ℕ) (j : ℕ) → Bool
goes_first away urgency i other_away other_urgency j =
    decide (not away && other_away) (away && not other_away)
    (decide (is_more_urgent urgency other_urgency) (is_more_urgent other_urgency urgency)
    (nat_lt i j))

-- ---- the first

abbrev pub number_of : Option Offer → Option ℕ
number_of None = None
number_of (Some offer) = Some offer.item

pub record GoesBefore (v : OpenView) (w : ℕ) (offer : Offer) (j : ℕ) : Type 0 where
  pub away : Bool
  pub urgency : Option ℕ
  pub stands : Stands v w j away urgency
  pub before : goes_first offer.away offer.urgency offer.item away urgency j ≡ true

-- it stands so, and is the first of the items of which this holds
pub record IsFirst (P : ℕ → Type 0) (v : OpenView) (w : ℕ) (offer : Offer) : Type 0 where
  pub offered : P offer.item
  pub stands : Stands v w offer.item offer.away offer.urgency
  pub first : (j : ℕ) → P j → j ≢ offer.item → GoesBefore v w offer j

-- the first, and none exactly where it holds of none
abbrev pub IsPick : (ℕ → Type 0) → OpenView → ℕ → Option Offer → Type 0
IsPick P v w None = (i : ℕ) → P i → ⊥
IsPick P v w (Some offer) = IsFirst P v w offer

-- the number of the first, and none exactly where it holds of none
pub record IsPickedNumber (P : ℕ → Type 0) (v : OpenView) (w : ℕ) (number : Option ℕ) : Type 0 where
  pub offer : Option Offer
  pub is_pick : IsPick P v w offer
  pub number_is : number ≡ number_of offer
