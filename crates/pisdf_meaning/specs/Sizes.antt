-- How long the lists are that firings of graphs give.
use Rattle.std.specs.Prelude.{◌≡◌, ℕ, true, false, ℤ, List, [], slice_get, Some, Ok}
use Rattle.kernel_gate.specs.Value.{lengths}
use Rattle.param_resolver.specs.EarlyCheck.{early_faults, early_of}
use Rattle.param_resolver.specs.LevelOf.{level_at, level_faults, links_of}
use Rattle.param_resolver.specs.Numbering.{acting, level_inputs}
use Rattle.pisdf_model.specs.Hold.{initial}
use Rattle.pisdf_model.specs.InterfaceWires.{is_misplaced}
use Rattle.pisdf_model.specs.Wires.{gives_tokens, takes_tokens}
use Rattle.pisdf_model.specs.declared.actor.Actor.{Actor}
use Rattle.pisdf_model.specs.declared.fifo.Fifo.{Fifo}
use Rattle.pisdf_model.specs.declared.graph.Graph.{Graph}
use Rattle.sdf_level.specs.Invariants.{IsLevel, how_many}
use Rattle.sdf_level.specs.Run.{is_into_actor}
use Rattle.pisdf_meaning.specs.Meaning.{Means}
use Rattle.pisdf_meaning.specs.declared.firing.Firing.{Firing}
use Rattle.pisdf_meaning.specs.declared.firing.Given.{Given}

-- ---- what is asked of graphs

-- the FIFO leads from where tokens come to where they go, and is placed as it may be
pub record IsWired (graphs : List Graph) (g : Graph) (f : Fifo) : Type 0 where
  pub gives : gives_tokens graphs g f.tail ≡ true
  pub takes : takes_tokens graphs g f.head ≡ true
  pub is_placed : is_misplaced g f ≡ false

-- what is made of the graph at a place is a level, where its early check and its rates have no fault, and each actor has
-- there its inputs, and one more for its state
pub record MakesLevels (graphs : List Graph) (place : ℕ) (g : Graph) : Type 0 where
  pub level : (inherited values : List ℤ) → early_faults graphs place inherited ≡ [] → level_faults graphs g values ≡ [] → IsLevel (level_at graphs g (early_of graphs place inherited) values)
  pub inputs : (values : List ℤ) (b : ℕ) (actor : Actor) → slice_get (acting g) b ≡ Some actor → how_many (is_into_actor b) (links_of graphs g values) ≡ level_inputs graphs actor

-- so it is of each graph
abbrev pub MakeLevels : List Graph → Type 0
MakeLevels graphs = (place : ℕ) (g : Graph) → slice_get graphs place ≡ Some g → MakesLevels graphs place g

-- ---- the law

-- each output is as long as its rate, and the state's lists are as long as those that the graph begins with
pub record HasSizes (graphs : List Graph) (firing : Firing) (given : Given) : Type 0 where
  pub outs : lengths given.outs ≡ (early_of graphs firing.graph firing.inherited).outputs
  pub state : lengths given.state ≡ lengths (initial graphs firing.graph)

-- a firing that begins with lists of these lengths leaves such
abbrev pub KeepsSizes : List Graph → Type 0
KeepsSizes graphs = (firing : Firing) (given : Given) →
    early_faults graphs firing.graph firing.inherited ≡ [] → lengths firing.state ≡ lengths (initial graphs firing.graph) → Means graphs firing (Ok given) → HasSizes graphs firing given
