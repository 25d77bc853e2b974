-- Laws of what flows over the edges of single-rate graphs, over any tokens, faults and firings.
use Rattle.std.specs.Prelude.{◌≡◌, ℕ, List, [], ◌∷◌, ◌++◌, map, length, slice_index, Ok, Err}
use Rattle.sdf_level.specs.View.{LevelView}
use Rattle.sdf_level.specs.Invariants.{IsLevel}
use Rattle.sdf_level.specs.Repetition.{IsRepetition}
use Rattle.sdf_level.specs.Firings.{firings, EachFiring, actors_of}
use Rattle.sdf_level.specs.Orders.{IsAdmissible, IsTurnOrder}
use Rattle.sdf_level.specs.Run.{Fire}
use Rattle.sdf_level.specs.LevelRun.{HaveDelays, IsLevelRun}
use Rattle.sdf_level.specs.Laws.{Firing, among, MadeRates}
use Rattle.sdf_level.specs.declared.turn.Turn.{Turn}
use Rattle.single_rate.specs.declared.wire.Wire.{Wire}
use Rattle.single_rate.specs.Flow.{Given, IsFlow}
use Rattle.single_rate.specs.Delivers.{at_firing, arrived, Delivers}
use Rattle.single_rate.specs.Expanded.{nodes, edges, by_nodes}

-- as many tokens of each source as its rate, of each delay as it has, and of each firing at each output port as its rate
pub record HasLengths {T : Type 0} (level : LevelView) (q : List ℕ) (given : Given T) : Type 0 where
  pub sources : map length given.sources ≡ level.sources
  pub delays : HaveDelays level.links given.delays
  pub made : MadeRates level (λ a. slice_index q a) given.made

-- there is a flow over these edges, and no other
pub record HasOneFlow {T : Type 0} (given : Given T) (wires : List Wire) : Type 0 where
  pub on : List (List T)
  pub flows : IsFlow given wires on
  pub only : (other : List (List T)) → IsFlow given wires other → other ≡ on

-- the edges of a level's graph, by their nodes
abbrev pub graph : LevelView → List ℕ → List Turn → List Wire
graph level q turns = by_nodes (nodes level q turns) (edges level q turns)

-- of a level with its repetition vector and its one-thread order, and of what is given in lengths that fit
pub record IsGiven {T : Type 0} (level : LevelView) (q : List ℕ) (turns : List Turn) (given : Given T) : Type 0 where
  pub level_kept : IsLevel level
  pub repetition : IsRepetition level q
  pub order : IsTurnOrder level q turns
  pub lengths : HasLengths level q given

-- there is exactly one flow over the edges of its graph
abbrev pub GraphsHaveOneFlow : Type 0 → Type 0
GraphsHaveOneFlow T =
    (level : LevelView) (q : List ℕ) (turns : List Turn) (given : Given T) →
    IsGiven level q turns given → HasOneFlow given (graph level q turns)

-- it delivers what the firings of any admissible list are fed, in the one-thread order or another
abbrev pub FlowsDeliver : Type 0 → Type 0
FlowsDeliver T =
    (level : LevelView) (q : List ℕ) (turns : List Turn) (given : Given T) (on : List (List T)) (list : List ℕ) →
    IsGiven level q turns given → IsFlow given (graph level q turns) on → IsAdmissible level q list →
    Delivers level q given (graph level q turns) on list

-- of what arrives at it, the firing can give this
abbrev pub AnswersTo : {T F : Type 0} → LevelView → Fire T F → Given T → List Wire → List (List T) → List ℕ → ℕ → Type 0
AnswersTo level fire given wires on before b = fire b (firings b before) (at_firing level wires on b (firings b before)) (Ok (given.made b (firings b before)))

-- where each firing gives what it sends of what arrives at it, the run of one thread ends with what arrives
abbrev pub RunsEndInFlows : Type 0 → Type 0 → Type 0 → Type 0
RunsEndInFlows T F R =
    (level : LevelView) (q : List ℕ) (turns : List Turn) (firing : R → Firing T F) (given : Given T) (on : List (List T)) →
    IsGiven level q turns given → IsFlow given (graph level q turns) on →
    EachFiring (AnswersTo level (among firing) given (graph level q turns) on) [] (actors_of turns) →
    IsLevelRun level q given.sources given.delays (among firing) (Ok (arrived level (graph level q turns) on))

-- where the firings before one do, and that one gives a fault of what arrives at it, the run of one thread ends with the
-- fault; whatever the firings after it are said to send
abbrev pub RunsEndInFaults : Type 0 → Type 0 → Type 0 → Type 0
RunsEndInFaults T F R =
    (level : LevelView) (q : List ℕ) (turns : List Turn) (firing : R → Firing T F) (given : Given T) (on : List (List T)) (before after : List ℕ) (b : ℕ) (fault : F) →
    IsGiven level q turns given → IsFlow given (graph level q turns) on → actors_of turns ≡ before ++ b ∷ after →
    EachFiring (AnswersTo level (among firing) given (graph level q turns) on) [] before →
    among firing b (firings b before) (at_firing level (graph level q turns) on b (firings b before)) (Err fault) →
    IsLevelRun level q given.sources given.delays (among firing) (Err fault)
