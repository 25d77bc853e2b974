-- Files and graphs without a fault have none of each kind.
use Rattle.std.proofs.Common.{◌≡◌, Bool, true, List, [], ◌++◌, map}
use Rattle.kernel_gate.specs.Signed.{SignatureView}
use Rattle.pisdf_model.proofs.Lists.{left_none, right_none, unmapped}
use Rattle.pisdf_model.specs.Count.{count_faults, word_of}
use Rattle.pisdf_model.specs.InterfaceWires.{interface_wire_faults}
use Rattle.pisdf_model.specs.Names.{duplicate_faults, repeats}
use Rattle.pisdf_model.specs.Nesting.{depth_faults, graph_cycle_faults}
use Rattle.pisdf_model.specs.ParamOrder.{param_order_faults}
use Rattle.pisdf_model.specs.Ports.{ports_faults}
use Rattle.pisdf_model.specs.WellFormed.{WellFormed, graphs_at}
use Rattle.pisdf_model.specs.Wires.{wire_faults}
use Rattle.pisdf_model.specs.declared.actor.Body.{Body}
use Rattle.pisdf_model.specs.declared.graph.Graphs.{Graphs}
use Rattle.pisdf_model.specs.declared.interface_wires.FifoPlace.{FifoPlace}
use Rattle.graph_format.specs.Faults.{at_fifo, file_faults, fits_kernel, graphs_of, rule_faults, too_many}
use Rattle.graph_format.specs.FileNames.{names_of_file}
use Rattle.graph_format.specs.Kernels.{unfit_in_file}
use Rattle.graph_format.specs.References.{unknown_in_file}
use Rattle.graph_format.specs.declared.file.File.{File}
use Rattle.graph_format.specs.declared.graph_fault.GraphFault.TheVariants.{Depth, Duplicate, GraphCycle, Kernel, ParamOrder, Ports, Unknown, Wire}

-- ---- lists

pub neither : {A : Type 0} (xs ys : List A) → xs ++ ys ≡ [] → (xs ≡ []) × (ys ≡ [])
neither xs ys none = (left_none xs ys none, right_none xs ys none)

-- no fault of this kind, and none of the others
neither_kind : {A B : Type 0} (fault : A → B) (xs : List A) (others : List B) → map fault xs ++ others ≡ [] → (xs ≡ []) × (others ≡ [])
neither_kind fault xs others none = (unmapped fault xs (left_none (map fault xs) others none), right_none (map fault xs) others none)

-- ---- rules

pub record HasNoRuleFaults (fits : Body → Bool) (g : Graphs) : Type 0 where
  pub ports : ports_faults fits g ≡ []
  pub wires : wire_faults g ≡ []
  pub interface_wires : interface_wire_faults g ≡ []
  pub orders : param_order_faults g ≡ []
  pub cycles : graph_cycle_faults g ≡ []
  pub depths : depth_faults g ≡ []

pub no_rule_faults : (fits : Body → Bool) (g : Graphs) → rule_faults fits g ≡ [] → HasNoRuleFaults fits g
no_rule_faults fits g none =
    let ports = neither_kind Ports (ports_faults fits g) _ none in
    let wires = neither_kind Wire (wire_faults g) _ ports.1 in
    let interface_wires = neither_kind at_fifo (interface_wire_faults g) _ wires.1 in
    let orders = neither_kind ParamOrder (param_order_faults g) _ interface_wires.1 in
    let cycles = neither_kind GraphCycle (graph_cycle_faults g) _ orders.1 in
    record { ports = ports.0; wires = wires.0; interface_wires = interface_wires.0; orders = orders.0; cycles = cycles.0; depths = unmapped Depth (depth_faults g) cycles.1 }

-- ---- files

pub record HasNoFileFaults (signatures : List SignatureView) (file : File) : Type 0 where
  pub duplicates : repeats (names_of_file file) ≡ []
  pub unknown : unknown_in_file file ≡ []
  pub unfit : unfit_in_file signatures file ≡ []
  pub rules : rule_faults (fits_kernel signatures) (graphs_of signatures file) ≡ []
  pub counts : count_faults (graphs_of signatures file) ≡ []

pub no_file_faults : (signatures : List SignatureView) (file : File) → file_faults signatures file ≡ [] → HasNoFileFaults signatures file
no_file_faults signatures file none =
    let g = graphs_of signatures file in
    let duplicates = neither_kind Duplicate (repeats (names_of_file file)) _ none in
    let unknown = neither_kind Unknown (unknown_in_file file) _ duplicates.1 in
    let unfit = neither_kind Kernel (unfit_in_file signatures file) _ unknown.1 in
    let last = neither (rule_faults (fits_kernel signatures) g) (map too_many (count_faults g)) unfit.1 in
    record { duplicates = duplicates.0; unknown = unknown.0; unfit = unfit.0; rules = last.0; counts = unmapped too_many (count_faults g) last.1 }

-- ---- well-formed graphs

pub record HasNoModelFaults (g : Graphs) : Type 0 where
  pub duplicates : duplicate_faults g ≡ []
  pub rules : HasNoRuleFaults (λ body. true) g
  pub counts : count_faults g ≡ []

pub no_model_faults : (g : Graphs) → WellFormed g → HasNoModelFaults g
no_model_faults g none =
    let duplicates = neither_kind _ (duplicate_faults g) _ none in
    let ports = neither_kind _ (ports_faults (λ body. true) g) _ duplicates.1 in
    let wires = neither_kind _ (wire_faults g) _ ports.1 in
    let interface_wires = neither_kind _ (graphs_at (interface_wire_faults g)) _ wires.1 in
    let orders = neither_kind _ (param_order_faults g) _ interface_wires.1 in
    let cycles = neither_kind _ (graph_cycle_faults g) _ orders.1 in
    let depths = neither_kind _ (depth_faults g) _ cycles.1 in
    record {
      duplicates = duplicates.0;
      rules = record {
        ports = ports.0;
        wires = wires.0;
        interface_wires = unmapped (λ (place : FifoPlace). place.graph) (interface_wire_faults g) interface_wires.0;
        orders = orders.0;
        cycles = cycles.0;
        depths = depths.0;
      };
      counts = unmapped word_of (count_faults g) (unmapped _ (map word_of (count_faults g)) depths.1);
    }
