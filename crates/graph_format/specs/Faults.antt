-- The faults 4 to 13 of a graph file, in the order of their numbers, and within a number in the order stated for it.
use Rattle.std.specs.Prelude.{◌≡◌, ℕ, ◌==◌, ◌&&◌, ◌⊎◌, nat_le, Bool, true, false, List, [], ◌++◌, length, map, Option, Some, None, slice_get, Result, Ok, Err}
use Rattle.kernel_gate.specs.Signed.{Counts, SignatureView}
use Rattle.pisdf_model.specs.Count.{count_faults, word_of}
use Rattle.pisdf_model.specs.Details.{first}
use Rattle.pisdf_model.specs.InterfaceWires.{interface_wire_faults}
use Rattle.pisdf_model.specs.Names.{repeats}
use Rattle.pisdf_model.specs.Nesting.{depth_faults, graph_cycle_faults}
use Rattle.pisdf_model.specs.ParamOrder.{param_order_faults}
use Rattle.pisdf_model.specs.Ports.{ports_faults}
use Rattle.pisdf_model.specs.Wires.{wire_faults}
use Rattle.pisdf_model.specs.declared.actor.Body.{Body}
use Rattle.pisdf_model.specs.declared.actor.Body.TheVariants as body
use Rattle.pisdf_model.specs.declared.counting.Counted.{Counted}
use Rattle.pisdf_model.specs.declared.graph.Graphs.{Graphs}
use Rattle.pisdf_model.specs.declared.interface_wires.FifoPlace.{FifoPlace}
use Rattle.graph_format.specs.FileNames.{names_of_file}
use Rattle.graph_format.specs.Kernels.{kernel_names, unfit_in_file}
use Rattle.graph_format.specs.Placed.{placed, tokens_of}
use Rattle.graph_format.specs.References.{unknown_in_file}
use Rattle.graph_format.specs.declared.file.File.{File}
use Rattle.graph_format.specs.declared.graph_fault.GraphFault.{GraphFault}
use Rattle.graph_format.specs.declared.graph_fault.GraphFault.TheVariants.{Count, Depth, Duplicate, GraphCycle, InterfaceWire, Kernel, Memory, ParamOrder, Ports, Unknown, Wire}

-- ---- kernels

-- as many arguments, inputs, outputs and sets as a signature says
abbrev pub fit_counts : Counts → ℕ → ℕ → ℕ → ℕ → Bool
fit_counts c args ins outs sets = (nat_le c.args_min args && nat_le args c.args_max) && (ins == c.ins) && (outs == c.outs) && (nat_le c.sets_min sets && nat_le sets c.sets_max)

abbrev pub fit_signature : Option SignatureView → ℕ → ℕ → ℕ → ℕ → Bool
fit_signature None args ins outs sets = false
fit_signature (Some signature) args ins outs sets = fit_counts signature.counts args ins outs sets

-- an actor fits its kernel: the signature at the kernel's place
abbrev pub fits_kernel : List SignatureView → Body → Bool
fits_kernel signatures (body.Kernel kernel args ins outs) = fit_signature (slice_get signatures kernel) (length args) (length ins) (length outs) 0
fits_kernel signatures (body.Config kernel args ins outs sets) = fit_signature (slice_get signatures kernel) (length args) (length ins) (length outs) (length sets)
fits_kernel signatures (body.Child graph args) = true
fits_kernel signatures (body.ConfigChild graph args sets) = true

-- ---- graphs

abbrev pub at_fifo : FifoPlace → GraphFault
at_fifo place = InterfaceWire place.graph place.fifo

abbrev pub too_many : Counted → GraphFault
too_many counted = Count (word_of counted)

-- the faults 7 to 12; `fits` says whether an actor fits its kernel
abbrev pub rule_faults : (Body → Bool) → Graphs → List GraphFault
rule_faults fits graphs =
    map Ports (ports_faults fits graphs)
    ++ (map Wire (wire_faults graphs)
    ++ (map at_fifo (interface_wire_faults graphs)
    ++ (map ParamOrder (param_order_faults graphs)
    ++ (map GraphCycle (graph_cycle_faults graphs)
    ++ map Depth (depth_faults graphs)))))

-- ---- files

-- the graphs of a file that has no unknown reference
abbrev pub graphs_of : List SignatureView → File → Graphs
graphs_of signatures file = placed tokens_of (kernel_names signatures) file

-- the faults 4 to 13
abbrev pub file_faults : List SignatureView → File → List GraphFault
file_faults signatures file =
    map Duplicate (repeats (names_of_file file))
    ++ (map Unknown (unknown_in_file file)
    ++ (map Kernel (unfit_in_file signatures file)
    ++ (rule_faults (fits_kernel signatures) (graphs_of signatures file)
    ++ map too_many (count_faults (graphs_of signatures file)))))

-- what is answered where these faults stand: the first of them, unless memory runs out
abbrev pub Tells : {U : Type 0} → List GraphFault → Result U GraphFault → Type 0
Tells faults (Ok done) = faults ≡ []
Tells faults (Err fault) = (fault ≡ Memory) ⊎ (first faults ≡ Some fault)
