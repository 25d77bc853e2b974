-- The early check of a graph: what is known before its configuration actors fire, and where that fails.
use Rattle.std.specs.Prelude.{◌≡◌, ℕ, zero, suc, ◌==◌, ℤ, pos, List, [], ◌∷◌, ◌++◌, map, drop, slice_get, slice_index, slice_index_or, Option, Some, None, if◌then◌else◌}
use Rattle.std.specs.List.{flat_map}
use Rattle.param_expr.specs.Tree.{Tree}
use Rattle.pisdf_model.specs.Details.{of_each}
use Rattle.pisdf_model.specs.ParamOrder.{is_chosen_kind}
use Rattle.pisdf_model.specs.Parts.{inputs_of}
use Rattle.pisdf_model.specs.Wires.{is_port, port_text}
use Rattle.pisdf_model.specs.declared.actor.Actor.{Actor}
use Rattle.pisdf_model.specs.declared.actor.Body.{Body}
use Rattle.pisdf_model.specs.declared.actor.Body.TheVariants.{Kernel, Config, Child, ConfigChild}
use Rattle.pisdf_model.specs.declared.fifo.End.{End}
use Rattle.pisdf_model.specs.declared.fifo.End.TheVariants.{Interface, Port}
use Rattle.pisdf_model.specs.declared.fifo.Fifo.{Fifo}
use Rattle.pisdf_model.specs.declared.graph.Graph.{Graph}
use Rattle.pisdf_model.specs.declared.graph.Interface as interface
use Rattle.pisdf_model.specs.declared.param.Param.{Param}
use Rattle.param_resolver.specs.Assignment.{supplied_next, supplied_to, numbers, one_if, param_faults, values_of}
use Rattle.param_resolver.specs.EarlyView.{EarlyView, end, whole}
use Rattle.param_resolver.specs.Rates.{arg_faults, arg_values, interface_faults, interface_rates, port_faults, port_rates}
use Rattle.param_resolver.specs.Refusal.{Refusal, param, rate, child}
use Rattle.param_resolver.specs.declared.fault.Why.{Why}
use Rattle.param_resolver.specs.declared.fault.Why.TheVariants.{Value}

-- what an early check comes to: what is then known, and all faults in the order of the check
pub record Checked : Type 0 where
  pub early : EarlyView
  pub faults : List Refusal

-- of a graph that isn't there nothing is known
abbrev pub nothing : Checked
nothing = record { early = record { values = []; inputs = []; outputs = []; args = []; outs = []; children = end }; faults = [] }

-- ---- the values of the early parameters: those that come of the inherited ones alone

abbrev pub supplied_early : List Param → List ℤ → List (Option ℤ)
supplied_early params inherited = supplied_to params inherited []

abbrev pub early_values : List Param → List ℤ → List (Option ℤ)
early_values params inherited = values_of params (supplied_early params inherited)

-- as numbers
abbrev pub early_numbers : Graph → List ℤ → List ℤ
early_numbers g inherited = numbers (early_values g.params inherited)

abbrev pub as_refusal : ℕ × Why → Refusal
as_refusal fault = param fault.0 fault.1

-- ---- once the configuration actors fired

-- what parameters are supplied with then: an inherited one what is known of it, a chosen one its value
abbrev pub supplied_late : List Param → List (Option ℤ) → List ℤ → List (Option ℤ)
supplied_late [] known chosen = []
supplied_late (p ∷ params) known chosen =
    supplied_next p.kind (slice_index_or known 0 None) (slice_get chosen 0) ∷ supplied_late params (drop 1 known) (drop (one_if (is_chosen_kind p.kind)) chosen)

-- these values were known before, where the inherited parameters have these
pub record IsEarlyOf (params : List Param) (inherited : List ℤ) (values : List (Option ℤ)) : Type 0 where
  pub known : values ≡ early_values params inherited
  pub sound : param_faults params (supplied_early params inherited) ≡ []

-- ---- the configuration actors, under these values and with these checks of the graphs that they name

abbrev pub config_args : List ℤ → Body → List (List ℤ)
config_args values (Kernel kernel args ins outs) = []
config_args values (Config kernel args ins outs sets) = arg_values values args ∷ []
config_args values (Child k args) = []
config_args values (ConfigChild k args sets) = arg_values values args ∷ []

abbrev pub config_outs : (ℕ → List ℤ → Checked) → List ℤ → Body → List (List ℕ)
config_outs check values (Kernel kernel args ins outs) = []
config_outs check values (Config kernel args ins outs sets) = port_rates values outs ∷ []
config_outs check values (Child k args) = []
config_outs check values (ConfigChild k args sets) = (check k (arg_values values args)).early.outputs ∷ []

abbrev pub config_children : (ℕ → List ℤ → Checked) → List ℤ → Body → List (Option EarlyView)
config_children check values (Kernel kernel args ins outs) = []
config_children check values (Config kernel args ins outs sets) = None ∷ []
config_children check values (Child k args) = []
config_children check values (ConfigChild k args sets) = Some (check k (arg_values values args)).early ∷ []

-- ---- the inputs of a child that is a configuration actor

abbrev pub interface_number : End → ℕ
interface_number (Interface i) = i
interface_number (Port a p) = 0

-- the input interface that feeds a port of a configuration actor
abbrev pub feeding : List Fifo → ℕ → ℕ → ℕ
feeding [] a p = 0
feeding (f ∷ fifos) a p = if is_port a p f.head then interface_number f.tail else feeding fifos a p

-- a port takes as many tokens as the interface has
abbrev pub unfed : List ℕ → List ℕ → ℕ → ℕ → List Refusal
unfed actor port given taken = if given == taken then [] else rate (port_text actor port) (Value (pos taken)) ∷ []

-- the inputs of an actor's child whose rates aren't those of the interfaces that feed them
abbrev pub unfed_inputs : Graph → List ℕ → ℕ → List ℕ → List interface.Interface → List ℕ → List Refusal
unfed_inputs g rates a actor inputs taken =
    of_each (λ j (x : interface.Interface). unfed actor x.name (slice_index rates (feeding g.fifos a j)) (slice_index taken j)) inputs

-- ---- the whole check

-- the arguments of a hierarchical one, then its child's early check, then its inputs
abbrev pub child_config_faults : (ℕ → List ℤ → Checked) → List Graph → Graph → List ℤ → List ℕ → ℕ → List ℕ → ℕ → List Tree → List Refusal
child_config_faults check graphs g values rates a actor k args =
    arg_faults values actor args
    ++ (map (child a) (check k (arg_values values args)).faults
    ++ unfed_inputs g rates a actor (inputs_of (slice_get graphs k)) (check k (arg_values values args)).early.inputs)

-- the arguments of a kernel one, then its output rates
abbrev pub config_faults : (ℕ → List ℤ → Checked) → List Graph → Graph → List ℤ → List ℕ → ℕ → List ℕ → Body → List Refusal
config_faults check graphs g values rates a actor (Kernel kernel args ins outs) = []
config_faults check graphs g values rates a actor (Config kernel args ins outs sets) = arg_faults values actor args ++ port_faults values actor outs
config_faults check graphs g values rates a actor (Child k args) = []
config_faults check graphs g values rates a actor (ConfigChild k args sets) = child_config_faults check graphs g values rates a actor k args

-- the early parameters, then the rates of the inputs, then those of the outputs
abbrev pub rated_faults : Graph → List ℤ → List Refusal
rated_faults g inherited =
    map as_refusal (param_faults g.params (supplied_early g.params inherited))
    ++ (interface_faults (early_numbers g inherited) g.inputs ++ interface_faults (early_numbers g inherited) g.outputs)

-- then the configuration actors, where these are the checks of the graphs that they name
abbrev pub faults_under : (ℕ → List ℤ → Checked) → List Graph → Graph → List ℤ → List Refusal
faults_under check graphs g inherited =
    rated_faults g inherited
    ++ of_each (λ a (actor : Actor). config_faults check graphs g (early_numbers g inherited) (interface_rates (early_numbers g inherited) g.inputs) a actor.name actor.body) g.actors

abbrev pub early_under : (ℕ → List ℤ → Checked) → Graph → List ℤ → EarlyView
early_under check g inherited =
    whole (early_values g.params inherited)
    (interface_rates (early_numbers g inherited) g.inputs)
    (interface_rates (early_numbers g inherited) g.outputs)
    (flat_map (λ (actor : Actor). config_args (early_numbers g inherited) actor.body) g.actors)
    (flat_map (λ (actor : Actor). config_outs check (early_numbers g inherited) actor.body) g.actors)
    (flat_map (λ (actor : Actor). config_children check (early_numbers g inherited) actor.body) g.actors)

abbrev pub check_by : (ℕ → List ℤ → Checked) → List Graph → Option Graph → List ℤ → Checked
check_by check graphs None inherited = nothing
check_by check graphs (Some g) inherited = record { early = early_under check g inherited; faults = faults_under check graphs g inherited }

-- over n graphs nested in each other
unfoldable pub check_to : ℕ → List Graph → ℕ → List ℤ → Checked
check_to zero graphs place inherited = nothing
check_to (suc n) graphs place inherited = check_by (check_to n graphs) graphs (slice_get graphs place) inherited

-- over 8 graphs, which is the most that may be nested in each other
abbrev pub check_of : List Graph → ℕ → List ℤ → Checked
check_of graphs place inherited = check_to 8 graphs place inherited

-- what is known of the graph at a place, where these are the values of its inherited parameters
abbrev pub early_of : List Graph → ℕ → List ℤ → EarlyView
early_of graphs place inherited = (check_of graphs place inherited).early

-- the faults of its early check, in the order of the check
abbrev pub early_faults : List Graph → ℕ → List ℤ → List Refusal
early_faults graphs place inherited = (check_of graphs place inherited).faults
