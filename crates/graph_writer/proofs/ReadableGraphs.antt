-- Graphs that were read from a file can be written, and read again.
use Rattle.std.proofs.Common.{◌≡◌, ℕ, ◌+◌, ◌==◌, Bool, true, List, [], map, All, refl, sym, ap, subst, ◌∙◌, get_or}
use Rattle.std.specs.Prelude.{slice_get, Ok}
use Rattle.std.specs.List.{AllByRecursion, enumerate_from}
use Rattle.std.proofs.lemmas.List.Elements.{All-map, All-weaker}
use Rattle.serde_json.specs.Data.{Data}
use Rattle.kernel_gate.specs.Signed.{SignatureView}
use Rattle.param_expr.specs.Print.{Differ}
use Rattle.pisdf_model.specs.Details.{from_number, of_each}
use Rattle.pisdf_model.specs.Ports.{actor_ports, all_sets, body_fits, graph_ports, param_ports, ports_faults}
use Rattle.pisdf_model.specs.Range.{InRange}
use Rattle.pisdf_model.specs.declared.actor.Actor.{Actor}
use Rattle.pisdf_model.specs.declared.actor.Body.{Body}
use Rattle.pisdf_model.specs.declared.actor.Body.TheVariants as body
use Rattle.pisdf_model.specs.declared.graph.Graph.{Graph}
use Rattle.pisdf_model.specs.declared.graph.Graphs.{Graphs}
use Rattle.graph_format.proofs.Laws.{well_formed}
use Rattle.graph_format.proofs.NoFaults.{neither, no_file_faults, no_rule_faults}
use Rattle.graph_format.specs.Faults.{file_faults, fits_kernel, graphs_of}
use Rattle.graph_format.specs.Kernels.{is_of_config, is_of_kernel, kernel_names, signature_named, unfit_in_body, unfit_in_file, unfit_in_graph}
use Rattle.graph_format.specs.Named.{named_file}
use Rattle.graph_format.specs.Placed.{first_place, placed_actor, placed_body}
use Rattle.graph_format.specs.KnownNames.{KnownNames}
use Rattle.graph_format.specs.States.{States}
use Rattle.graph_format.specs.declared.actor.FileActor.{FileActor}
use Rattle.graph_format.specs.declared.actor.FileBody.{FileBody}
use Rattle.graph_format.specs.declared.actor.FileBody.TheVariants.{Kernel, Config, Child, ConfigChild}
use Rattle.graph_format.specs.declared.file.File.{File}
use Rattle.graph_format.specs.declared.file.FileGraph.{FileGraph}
use Rattle.graph_writer.specs.ReadAgain.{CanBeReadAgain, HasI64Tokens, kind_fits, WasRead}
use Rattle.graph_writer.proofs.CanonicalDelays.{fifos_shown}
use Rattle.pisdf_model.proofs.Distinct.{none_at}
use Rattle.graph_writer.proofs.KernelPlaces.{passes_there}
use Rattle.graph_writer.proofs.KeptNames.{here, meant, each_none, each_numbered, unless_none}
use Rattle.graph_writer.proofs.NamedFile.{placed_then_named, restated}
use Rattle.graph_writer.proofs.RestatedFile.{HasValue, file_valued}
use Rattle.graph_writer.proofs.CanonicalValue.{AreShown}
use Rattle.graph_format.proofs.Reading.{found, reads_in_range}

-- ---- kinds of kernels

module _ (signatures : List SignatureView) where
  kind_kept : (s : KnownNames) → s.kernels ≡ kernel_names signatures → (b : FileBody) → unfit_in_body signatures b ≡ [] → kind_fits signatures (placed_body s b) ≡ true
  kind_kept s same (Kernel kernel args ins outs) fits =
      ap (λ names. is_of_kernel (slice_get signatures (first_place names kernel))) same
      ∙ (passes_there is_of_kernel refl signatures kernel (unless_none (is_of_kernel (signature_named signatures kernel)) kernel fits)).passes
  kind_kept s same (Config kernel args ins outs sets) fits =
      ap (λ names. is_of_config (slice_get signatures (first_place names kernel))) same
      ∙ (passes_there is_of_config refl signatures kernel (unless_none (is_of_config (signature_named signatures kernel)) kernel fits)).passes
  kind_kept s same (Child graph args) fits = refl
  kind_kept s same (ConfigChild graph args sets) fits = refl

  abbrev KindsFit : Graph → Type 0
  KindsFit g = All (λ (a : Actor). kind_fits signatures a.body ≡ true) g.actors

  kinds_kept : (file : File) → unfit_in_file signatures file ≡ [] → All KindsFit (graphs_of signatures file).graphs
  kinds_kept file fits =
      All-map KindsFit (meant (kernel_names signatures) file) (enumerate_from 0 file.graphs)
      (All-weaker (λ (p : ℕ × FileGraph). unfit_in_graph signatures p.1 ≡ []) (λ p. KindsFit (meant (kernel_names signatures) file p)) of_graph (enumerate_from 0 file.graphs)
      (each_numbered (λ g. unfit_in_graph signatures g ≡ []) 0 file.graphs (each_none (unfit_in_graph signatures) file.graphs fits)))
    where
      of_graph : (p : ℕ × FileGraph) → unfit_in_graph signatures p.1 ≡ [] → KindsFit (meant (kernel_names signatures) file p)
      of_graph p fits =
          let s = here (kernel_names signatures) file p.1 in
          All-map (λ (a : Actor). kind_fits signatures a.body ≡ true) (placed_actor s) p.1.actors
          (All-weaker (λ (a : FileActor). unfit_in_body signatures a.body ≡ []) (λ a. kind_fits signatures (placed_body s a.body) ≡ true) (λ a. kind_kept s refl a.body) p.1.actors
          (each_none (λ (a : FileActor). unfit_in_body signatures a.body) p.1.actors fits))

-- ---- numbers of arguments, ports and sets

each_number_none : {X D : Type 0} (f : ℕ → X → List D) (P : X → Type 0) → ((n : ℕ) (x : X) → f n x ≡ [] → P x) → (n : ℕ) (xs : List X) → from_number n f xs ≡ [] → All P xs
each_number_none f P shown n xs none = λ k d inside. shown (n + k) (get_or xs k d) (none_at f n xs k (n + k) d refl inside none)

module _ (signatures : List SignatureView) (graphs : Graphs) where
  abbrev CountsFit : Graph → Type 0
  CountsFit g = All (λ (a : Actor). fits_kernel signatures a.body ≡ true) g.actors

  body_fitted : (b : Body) → body_fits (fits_kernel signatures) graphs.graphs b ≡ true → fits_kernel signatures b ≡ true
  body_fitted (body.Kernel kernel args ins outs) h = h
  body_fitted (body.Config kernel args ins outs sets) h = h
  body_fitted (body.Child child args) h = refl
  body_fitted (body.ConfigChild child args sets) h = refl

  graph_fitted : (is_top : Bool) (g : Graph) → graph_ports (fits_kernel signatures) graphs.graphs is_top g ≡ [] → CountsFit g
  graph_fitted is_top g none =
      each_number_none (λ a actor. actor_ports (fits_kernel signatures) graphs.graphs actor) (λ (a : Actor). fits_kernel signatures a.body ≡ true)
      (λ n a one. body_fitted a.body (unless_none (body_fits (fits_kernel signatures) graphs.graphs a.body) a.name one)) 0 g.actors
      (neither (of_each (λ a actor. actor_ports (fits_kernel signatures) graphs.graphs actor) g.actors) (of_each (λ i p. param_ports is_top (all_sets g.actors) i p) g.params) none).0

  counts_fitted : ports_faults (fits_kernel signatures) graphs ≡ [] → All CountsFit graphs.graphs
  counts_fitted none = each_number_none (λ n g. graph_ports (fits_kernel signatures) graphs.graphs (n == graphs.top) g) CountsFit (λ n g one. graph_fitted (n == graphs.top) g one) 0 graphs.graphs none

-- ---- files

pub can_be_read_again : (signatures : List SignatureView) (d : Data) (file : File) → Differ (kernel_names signatures) → States d file → file_faults signatures file ≡ []
    → InRange (graphs_of signatures file) → All HasI64Tokens (graphs_of signatures file).graphs → CanBeReadAgain signatures (graphs_of signatures file)
can_be_read_again signatures d file differ states none range tokens =
    let graphs = graphs_of signatures file in
    let has = no_file_faults signatures file none in
    let same : named_file (kernel_names signatures) graphs ≡ restated file = placed_then_named signatures file has.unknown has.unfit in
    let fifos = subst (λ (f : File). AllByRecursion (AreShown f.version) f.graphs) same (fifos_shown (kernel_names signatures) graphs tokens range has.counts) in
    let valued : HasValue States (restated file) = file_valued d file fifos states in
    let kinds = kinds_kept signatures file has.unfit in
    let counts = counts_fitted signatures graphs (no_rule_faults (fits_kernel signatures) graphs has.rules).ports in
    record {
      value = valued.value;
      stated = subst (States valued.value) (sym same) valued.states;
      in_range = range;
      well_formed = well_formed signatures file none;
      kernels = λ n e inside a f there. record { kind = kinds n e inside a f there; counts = counts n e inside a f there };
      names_differ = differ;
    }

-- what was read from bytes can be written and read again
pub read_can_be_read_again : (signatures : List SignatureView) (bytes : List ℕ) (graphs : Graphs) → WasRead signatures bytes graphs → All HasI64Tokens graphs.graphs → CanBeReadAgain signatures graphs
read_can_be_read_again signatures bytes graphs was tokens =
    let f = found signatures bytes graphs was.reads in
    let range : InRange (graphs_of signatures f.file) = subst InRange f.is (reads_in_range signatures bytes (Ok graphs) was.reads) in
    let inside : All HasI64Tokens (graphs_of signatures f.file).graphs = subst (λ (g : Graphs). All HasI64Tokens g.graphs) f.is tokens in
    subst (CanBeReadAgain signatures) (sym f.is) (can_be_read_again signatures f.value f.file was.names_differ f.states f.none range inside)
