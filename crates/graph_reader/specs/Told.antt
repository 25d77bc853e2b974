-- The faults of a file that the parts of the reader tell.
use Rattle.std.specs.Prelude.{ℕ, List}
use Rattle.pisdf_model.specs.declared.detail_fault.DetailFault.{DetailFault}
use Rattle.pisdf_model.specs.declared.detail_fault.DetailFault.TheVariants.{Fault, Memory}
use Rattle.graph_format.specs.declared.graph_fault.GraphFault.{GraphFault}
use Rattle.graph_format.specs.declared.graph_fault.GraphFault.TheVariants as graph
use Rattle.graph_reader.specs.declared.checks.Check.{Check}
use Rattle.graph_reader.specs.declared.checks.Check.TheVariants.{Shape, Duplicate, Unknown, Ports, Wire, ParamOrder, GraphCycle, Depth}

abbrev pub fault_of : Check → List ℕ → GraphFault
fault_of Shape pointer = graph.Shape pointer
fault_of Duplicate name = graph.Duplicate name
fault_of Unknown name = graph.Unknown name
fault_of Ports name = graph.Ports name
fault_of Wire name = graph.Wire name
fault_of ParamOrder name = graph.ParamOrder name
fault_of GraphCycle name = graph.GraphCycle name
fault_of Depth name = graph.Depth name

abbrev pub told_by : Check → DetailFault (List ℕ) → GraphFault
told_by check (Fault name) = fault_of check name
told_by check Memory = graph.Memory
