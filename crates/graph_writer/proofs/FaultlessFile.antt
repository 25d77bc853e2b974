-- The file of graphs without a fault has none: its kernels are those of its actors, and its graphs break no rule.
use Rattle.std.proofs.Common.{◌≡◌, ℕ, List, [], map, Bool, true, refl, sym, ap, ◌∙◌}
use Rattle.std.specs.List.{All}
use Rattle.kernel_gate.specs.Signed.{SignatureView}
use Rattle.param_expr.specs.Print.{Differ}
use Rattle.pisdf_model.specs.Count.{count_faults}
use Rattle.pisdf_model.specs.Details.{unless}
use Rattle.pisdf_model.specs.Names.{repeats, names_of}
use Rattle.pisdf_model.specs.Ports.{body_fits, ports_faults}
use Rattle.pisdf_model.specs.WellFormed.{WellFormed}
use Rattle.pisdf_model.specs.declared.actor.Body.{Body}
use Rattle.pisdf_model.specs.declared.actor.Body.TheVariants as body
use Rattle.pisdf_model.specs.declared.graph.Graph.{Graph}
use Rattle.pisdf_model.specs.declared.graph.Graphs.{Graphs}
use Rattle.graph_format.specs.Faults.{file_faults, fits_kernel, graphs_of, rule_faults}
use Rattle.graph_format.specs.FileNames.{names_of_file}
use Rattle.graph_format.specs.Kernels.{is_of_config, is_of_kernel, kernel_names, unfit_in_body, unfit_in_file, unfit_in_graph}
use Rattle.graph_format.specs.Named.{named_actor, named_body, named_file, named_graph, names_of_params}
use Rattle.graph_format.specs.Placed.{placed, tokens_of}
use Rattle.graph_format.specs.References.{unknown_in_file}
use Rattle.graph_format.specs.declared.actor.FileActor.{FileActor}
use Rattle.graph_format.proofs.Laws.{names_kept}
use Rattle.graph_format.proofs.NoFaults.{no_model_faults}
use Rattle.graph_format.proofs.PortFaults.{graphs_pass}
use Rattle.graph_writer.proofs.KernelPlaces.{passes_named}
use Rattle.graph_writer.proofs.Resolving.{none_of_each}
use Rattle.graph_writer.specs.ReadAgain.{kind_fits, FitsSignature, ActorsFit, CanBeReadAgain}

-- ---- ports

fit_where : (fits : Body → Bool) (graphs : List Graph) (b : Body) (name : List ℕ) → fits b ≡ true → unless (body_fits (λ body. true) graphs b) name ≡ [] → unless (body_fits fits graphs b) name ≡ []
fit_where fits graphs (body.Kernel kernel args ins outs) name fit none = rw fit refl
fit_where fits graphs (body.Config kernel args ins outs sets) name fit none = rw fit refl
fit_where fits graphs (body.Child graph args) name fit none = none
fit_where fits graphs (body.ConfigChild graph args sets) name fit none = none

-- ---- the rules

pub rules_fit : (signatures : List SignatureView) (graphs : Graphs) → All (ActorsFit signatures) graphs.graphs → WellFormed graphs → rule_faults (fits_kernel signatures) graphs ≡ []
rules_fit signatures graphs fit none =
    let f = (no_model_faults graphs none).rules in
    let ports : ports_faults (fits_kernel signatures) graphs ≡ [] =
    graphs_pass (λ body. true) (fits_kernel signatures) (FitsSignature signatures) graphs.graphs (λ actor here. fit_where (fits_kernel signatures) graphs.graphs actor.body actor.name here.counts) graphs.top 0 graphs.graphs fit f.ports in
    rw (ports, f.wires, f.interface_wires, f.orders, f.cycles, f.depths) refl

-- ---- kernels

module _ (signatures : List SignatureView) (differ : Differ (kernel_names signatures)) where
  body_fits_again : (graphs : Graphs) (names : List (List ℕ)) (b : Body) → kind_fits signatures b ≡ true → unfit_in_body signatures (named_body (kernel_names signatures) graphs names b) ≡ []
  body_fits_again graphs names (body.Kernel kernel args ins outs) fit = rw (passes_named is_of_kernel refl signatures kernel differ fit) refl
  body_fits_again graphs names (body.Config kernel args ins outs sets) fit = rw (passes_named is_of_config refl signatures kernel differ fit) refl
  body_fits_again graphs names (body.Child graph args) fit = refl
  body_fits_again graphs names (body.ConfigChild graph args sets) fit = refl

  graph_fits_again : (graphs : Graphs) (g : Graph) → ActorsFit signatures g → unfit_in_graph signatures (named_graph (kernel_names signatures) graphs g) ≡ []
  unfolding named_graph
  graph_fits_again graphs g fit =
      let names = names_of_params g in
      none_of_each (named_actor (kernel_names signatures) graphs names) (λ (a : FileActor). unfit_in_body signatures a.body) (FitsSignature signatures) (λ actor here. body_fits_again graphs names actor.body here.kind) g.actors fit

pub kernels_fit : (signatures : List SignatureView) (graphs : Graphs) → Differ (kernel_names signatures) → All (ActorsFit signatures) graphs.graphs → unfit_in_file signatures (named_file (kernel_names signatures) graphs) ≡ []
unfolding named_file
kernels_fit signatures graphs differ fit =
    none_of_each (named_graph (kernel_names signatures) graphs) (unfit_in_graph signatures) (ActorsFit signatures) (graph_fits_again signatures differ graphs) graphs.graphs fit

-- ---- files

-- graphs that can be read again have a file without a fault, where it refers to what is there and means these graphs
pub no_faults : (signatures : List SignatureView) (graphs : Graphs) → CanBeReadAgain signatures graphs → unknown_in_file (named_file (kernel_names signatures) graphs) ≡ []
    → placed tokens_of (kernel_names signatures) (named_file (kernel_names signatures) graphs) ≡ graphs → file_faults signatures (named_file (kernel_names signatures) graphs) ≡ []
no_faults signatures graphs can references means =
    let file = named_file (kernel_names signatures) graphs in
    let has = no_model_faults graphs can.well_formed in
    let names : repeats (names_of_file file) ≡ [] = ap repeats (sym (names_kept tokens_of (kernel_names signatures) file) ∙ ap names_of means) ∙ has.duplicates in
    let rules : rule_faults (fits_kernel signatures) (graphs_of signatures file) ≡ [] = ap (rule_faults (fits_kernel signatures)) means ∙ rules_fit signatures graphs can.kernels can.well_formed in
    let counts : count_faults (graphs_of signatures file) ≡ [] = ap count_faults means ∙ has.counts in
    let kernels : unfit_in_file signatures file ≡ [] = kernels_fit signatures graphs can.names_differ can.kernels in
    rw (names, references, kernels, rules, counts) refl
