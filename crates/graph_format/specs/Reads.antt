-- What the bytes of a graph file are read as.
use Rattle.std.specs.Prelude.{◌≡◌, ℕ, ◌&&◌, nat_le, ◌⊎◌, ℤ, pos, negsuc, List, [], ◌∷◌, if◌then◌else◌, Option, Some, None, Result, Ok, Err, IsUtf8}
use Rattle.serde_json.specs.Data.{Data}
use Rattle.serde_json.specs.Read.{read}
use Rattle.kernel_gate.specs.Signed.{SignatureView}
use Rattle.pisdf_model.specs.declared.graph.Graphs.{Graphs}
use Rattle.graph_format.specs.Faults.{file_faults, graphs_of}
use Rattle.pisdf_model.specs.Details.{first}
use Rattle.graph_format.specs.Objects.{file_at, stated_version}
use Rattle.graph_format.specs.WalkedValues.{walked_values, unformed}
use Rattle.graph_format.specs.declared.file.File.{File}
use Rattle.graph_format.specs.declared.graph_fault.GraphFault.{GraphFault}
use Rattle.graph_format.specs.declared.graph_fault.GraphFault.TheVariants.{Count, Depth, Duplicate, GraphCycle, InterfaceWire, Kernel, Memory, NotJson, ParamOrder, Ports, Shape, Unknown, Version, Wire}

-- the bytes are text that `serde_json` reads as this value
abbrev pub IsJson : List ℕ → Data → Type 0
IsJson bytes d = IsUtf8 bytes × (read bytes ≡ Some d)

-- a stated version that is none of the format's
abbrev pub other_version : Option ℤ → Option ℤ
other_version None = None
other_version (Some (pos n)) = if nat_le 1 n && nat_le n 3 then None else Some (pos n)
other_version (Some (negsuc n)) = Some (negsuc n)

-- The version whose form a value is asked for: the stated one. Where none is stated the value has the form of no version, and they all name the same place.
abbrev pub version_of : Option ℤ → ℕ
version_of None = 1
version_of (Some (pos n)) = n
version_of (Some (negsuc n)) = 1

abbrev pub unless_faulty : Graphs → List GraphFault → Result Graphs GraphFault
unless_faulty graphs [] = Ok graphs
unless_faulty graphs (fault ∷ faults) = Err fault

-- what a file is as graphs, or its first fault
abbrev pub graphs_or_fault : List SignatureView → Result File (List ℕ) → Result Graphs GraphFault
graphs_or_fault signatures (Ok file) = unless_faulty (graphs_of signatures file) (file_faults signatures file)
graphs_or_fault signatures (Err pointer) = Err (Shape pointer)

-- The shape of a file of another version isn't looked at.
abbrev pub of_version : Option ℤ → Result Graphs GraphFault → Result Graphs GraphFault
of_version (Some other) reading = Err (Version other)
of_version None reading = reading

-- what a JSON value is read as
abbrev pub reading : List SignatureView → Data → Result Graphs GraphFault
reading signatures d = of_version (other_version (stated_version d)) (graphs_or_fault signatures (file_at (version_of (stated_version d)) [] d))

-- the bytes are a JSON value that is read so
abbrev pub AreReadAs : List SignatureView → List ℕ → Result Graphs GraphFault → Type 0
AreReadAs signatures bytes answer = (d : Data) × IsJson bytes d × (reading signatures d ≡ answer)

-- What reading bytes answers: the graphs of the value that they are, or its first fault, or that they are none, unless memory runs out.
abbrev pub Reads : List SignatureView → List ℕ → Result Graphs GraphFault → Type 0
Reads signatures bytes (Ok graphs) = AreReadAs signatures bytes (Ok graphs)
Reads signatures bytes (Err fault) = (fault ≡ Memory) ⊎ (((fault ≡ NotJson) × ((d : Data) → IsJson bytes d → ⊥)) ⊎ AreReadAs signatures bytes (Err fault))

-- ---- misshapen values

-- the value at this pointer is the first one in the walk that has not its form
pub record IsMisshapen (bytes pointer : List ℕ) : Type 0 where
  pub value : Data
  pub json : IsJson bytes value
  pub first_one : first (unformed (walked_values (version_of (stated_version value)) value)) ≡ Some pointer

-- a fault of shape tells the pointer to such a value
abbrev pub TellsShape : List ℕ → GraphFault → Type 0
TellsShape bytes NotJson = Unit {0}
TellsShape bytes (Shape pointer) = IsMisshapen bytes pointer
TellsShape bytes (Version version) = Unit {0}
TellsShape bytes (Duplicate name) = Unit {0}
TellsShape bytes (Unknown name) = Unit {0}
TellsShape bytes (Kernel name) = Unit {0}
TellsShape bytes (Ports name) = Unit {0}
TellsShape bytes (Wire name) = Unit {0}
TellsShape bytes (InterfaceWire graph fifo) = Unit {0}
TellsShape bytes (ParamOrder name) = Unit {0}
TellsShape bytes (GraphCycle name) = Unit {0}
TellsShape bytes (Depth name) = Unit {0}
TellsShape bytes (Count word) = Unit {0}
TellsShape bytes Memory = Unit {0}
