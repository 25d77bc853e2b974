-- The first of faults that are told list by list.
use Rattle.std.proofs.Common.{◌≡◌, ℕ, true, List, [], ◌∷◌, ◌++◌, map, Result, sym, subst}
use Rattle.pisdf_model.specs.Count.{count_faults, word_of}
use Rattle.pisdf_model.specs.InterfaceWires.{interface_wire_faults}
use Rattle.pisdf_model.specs.Names.{duplicate_faults}
use Rattle.pisdf_model.specs.Nesting.{depth_faults, graph_cycle_faults}
use Rattle.pisdf_model.specs.ParamOrder.{param_order_faults}
use Rattle.pisdf_model.specs.Ports.{ports_faults}
use Rattle.pisdf_model.specs.WellFormed.{AnswersFaults, Stands, graphs_at, with_number}
use Rattle.pisdf_model.specs.Wires.{wire_faults}
use Rattle.pisdf_model.specs.declared.graph.Graphs.{Graphs}
use Rattle.pisdf_model.specs.declared.rules.ModelFault.{ModelFault}
use Rattle.pisdf_model.specs.declared.rules.ModelFault.TheVariants.{Fault, Memory}

-- ---- list by list

-- the faults of each number, and those of this number and above
abbrev pub faults_13 : Graphs → List (ℕ × List ℕ)
faults_13 g = with_number 13 (map word_of (count_faults g))

abbrev pub faults_12 : Graphs → List (ℕ × List ℕ)
faults_12 g = with_number 12 (depth_faults g)

abbrev pub from_12 : Graphs → List (ℕ × List ℕ)
from_12 g = faults_12 g ++ faults_13 g

abbrev pub faults_11 : Graphs → List (ℕ × List ℕ)
faults_11 g = with_number 11 (graph_cycle_faults g)

abbrev pub from_11 : Graphs → List (ℕ × List ℕ)
from_11 g = faults_11 g ++ from_12 g

abbrev pub faults_10 : Graphs → List (ℕ × List ℕ)
faults_10 g = with_number 10 (param_order_faults g)

abbrev pub from_10 : Graphs → List (ℕ × List ℕ)
from_10 g = faults_10 g ++ from_11 g

abbrev pub faults_9 : Graphs → List (ℕ × List ℕ)
faults_9 g = with_number 9 (graphs_at (interface_wire_faults g))

abbrev pub from_9 : Graphs → List (ℕ × List ℕ)
from_9 g = faults_9 g ++ from_10 g

abbrev pub faults_8 : Graphs → List (ℕ × List ℕ)
faults_8 g = with_number 8 (wire_faults g)

abbrev pub from_8 : Graphs → List (ℕ × List ℕ)
from_8 g = faults_8 g ++ from_9 g

abbrev pub faults_7 : Graphs → List (ℕ × List ℕ)
faults_7 g = with_number 7 (ports_faults (λ body. true) g)

abbrev pub from_7 : Graphs → List (ℕ × List ℕ)
from_7 g = faults_7 g ++ from_8 g

abbrev pub faults_4 : Graphs → List (ℕ × List ℕ)
faults_4 g = with_number 4 (duplicate_faults g)

-- a fault of the first list stands first of all
pub stops : (xs ys : List (ℕ × List ℕ)) (fault : ModelFault) → Stands xs fault → Stands (xs ++ ys) fault
stops [] ys (Fault number name) stands = cc
stops (x ∷ xs) ys (Fault number name) stands = stands
stops xs ys Memory stands = tt

-- where the first list is empty, the others decide
pub passes : (xs ys : List (ℕ × List ℕ)) (fault : ModelFault) → xs ≡ [] → Stands ys fault → Stands (xs ++ ys) fault
passes xs ys fault none stands = subst (λ zs. Stands (zs ++ ys) fault) (sym none) stands

pub answers_after : {U : Type 0} (xs ys : List (ℕ × List ℕ)) (answer : Result U ModelFault) → xs ≡ [] → AnswersFaults ys answer → AnswersFaults (xs ++ ys) answer
answers_after xs ys answer none answers = subst (λ zs. AnswersFaults (zs ++ ys) answer) (sym none) answers
