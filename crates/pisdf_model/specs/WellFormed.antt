-- Graphs that break no rule, and the first of those that graphs break.
use Rattle.std.specs.Prelude.{◌≡◌, ℕ, true, List, [], ◌++◌, map, Some, Result, Ok, Err}
use Rattle.pisdf_model.specs.Details.{first}
use Rattle.pisdf_model.specs.Names.{duplicate_faults}
use Rattle.pisdf_model.specs.Ports.{ports_faults}
use Rattle.pisdf_model.specs.Wires.{wire_faults}
use Rattle.pisdf_model.specs.InterfaceWires.{interface_wire_faults}
use Rattle.pisdf_model.specs.ParamOrder.{param_order_faults}
use Rattle.pisdf_model.specs.Nesting.{graph_cycle_faults, depth_faults}
use Rattle.pisdf_model.specs.Count.{count_faults, word_of}
use Rattle.pisdf_model.specs.declared.interface_wires.FifoPlace.{FifoPlace}
use Rattle.pisdf_model.specs.declared.graph.Graphs.{Graphs}
use Rattle.pisdf_model.specs.declared.rules.ModelFault.{ModelFault}
use Rattle.pisdf_model.specs.declared.rules.ModelFault.TheVariants.{Fault, Memory}

-- each name, with the number of its fault
abbrev pub with_number : ℕ → List (List ℕ) → List (ℕ × List ℕ)
with_number number names = map (λ name. (number, name)) names

-- the graphs of the FIFOs
abbrev pub graphs_at : List FifoPlace → List (List ℕ)
graphs_at places = map (λ (place : FifoPlace). place.graph) places

-- Every fault of graphs by its number, and within a number in its order. Those of kernels aren't looked for.
abbrev pub model_faults : Graphs → List (ℕ × List ℕ)
model_faults graphs =
    with_number 4 (duplicate_faults graphs)
    ++ (with_number 7 (ports_faults (λ body. true) graphs)
    ++ (with_number 8 (wire_faults graphs)
    ++ (with_number 9 (graphs_at (interface_wire_faults graphs))
    ++ (with_number 10 (param_order_faults graphs)
    ++ (with_number 11 (graph_cycle_faults graphs)
    ++ (with_number 12 (depth_faults graphs)
    ++ with_number 13 (map word_of (count_faults graphs))))))))

abbrev pub WellFormed : Graphs → Type 0
WellFormed graphs = model_faults graphs ≡ []

-- the fault stands first among these
abbrev pub Stands : List (ℕ × List ℕ) → ModelFault → Type 0
Stands faults (Fault number name) = first faults ≡ Some (number, name)
Stands faults Memory = Unit {0}

-- what is answered where these faults stand, unless memory runs out
abbrev pub AnswersFaults : {U : Type 0} → List (ℕ × List ℕ) → Result U ModelFault → Type 0
AnswersFaults faults (Ok done) = faults ≡ []
AnswersFaults faults (Err fault) = Stands faults fault
