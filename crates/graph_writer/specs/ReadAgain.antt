-- Graphs whose canonical file is read as these graphs again.
use Rattle.std.specs.Prelude.{◌≡◌, ℕ, Bool, true, List, slice_get, All, Ok}
use Rattle.std.specs.List.{AllPass}
use Rattle.serde_json.specs.Data.{Data}
use Rattle.kernel_gate.specs.Signed.{SignatureView}
use Rattle.param_expr.specs.Eval.{in_i64}
use Rattle.param_expr.specs.Print.{Differ}
use Rattle.pisdf_model.specs.Range.{InRange}
use Rattle.pisdf_model.specs.WellFormed.{WellFormed}
use Rattle.pisdf_model.specs.declared.actor.Actor.{Actor}
use Rattle.pisdf_model.specs.declared.actor.Body.{Body}
use Rattle.pisdf_model.specs.declared.actor.Body.TheVariants.{Kernel, Config, Child, ConfigChild}
use Rattle.pisdf_model.specs.declared.fifo.Fifo.{Fifo}
use Rattle.pisdf_model.specs.declared.graph.Graph.{Graph}
use Rattle.pisdf_model.specs.declared.graph.Graphs.{Graphs}
use Rattle.graph_format.specs.Faults.{fits_kernel}
use Rattle.graph_format.specs.Kernels.{is_of_config, is_of_kernel, kernel_names}
use Rattle.graph_format.specs.Named.{named_file}
use Rattle.graph_format.specs.Reads.{Reads}
use Rattle.graph_format.specs.States.{States}

-- the signature at an actor's kernel is one of actors of its kind
abbrev pub kind_fits : List SignatureView → Body → Bool
kind_fits signatures (Kernel kernel args ins outs) = is_of_kernel (slice_get signatures kernel)
kind_fits signatures (Config kernel args ins outs sets) = is_of_config (slice_get signatures kernel)
kind_fits signatures (Child graph args) = true
kind_fits signatures (ConfigChild graph args sets) = true

-- the signature at an actor's kernel is of its kind, with its numbers of arguments, ports and sets
pub record FitsSignature (signatures : List SignatureView) (actor : Actor) : Type 0 where
  pub kind : kind_fits signatures actor.body ≡ true
  pub counts : fits_kernel signatures actor.body ≡ true

abbrev pub ActorsFit : List SignatureView → Graph → Type 0
ActorsFit signatures graph = All (FitsSignature signatures) graph.actors

-- each token of each delay is an i64
abbrev pub HasI64Tokens : Graph → Type 0
HasI64Tokens graph = All (λ (fifo : Fifo). AllPass in_i64 fifo.delay) graph.fifos

-- What can be written and read again: graphs without a fault, which a file can state, over signatures of which no two
-- have one name.
pub record CanBeReadAgain (signatures : List SignatureView) (graphs : Graphs) : Type 0 where
  pub value : Data
  pub stated : States value (named_file (kernel_names signatures) graphs)
  pub in_range : InRange graphs
  pub well_formed : WellFormed graphs
  pub kernels : All (ActorsFit signatures) graphs.graphs
  pub names_differ : Differ (kernel_names signatures)

-- Graphs that these bytes are read as, over signatures of which no two have one name.
pub record WasRead (signatures : List SignatureView) (bytes : List ℕ) (graphs : Graphs) : Type 0 where
  pub reads : Reads signatures bytes (Ok graphs)
  pub names_differ : Differ (kernel_names signatures)
