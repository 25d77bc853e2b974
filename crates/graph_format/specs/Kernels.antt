-- The kernels of a file that are none, or of the other kind.
use Rattle.std.specs.Prelude.{ℕ, Bool, false, not, List, [], ◌∷◌, map, find, Option, Some, None, if◌then◌else◌}
use Rattle.std.specs.List.{flat_map}
use Rattle.std.specs.Str.{bytes_eq}
use Rattle.kernel_gate.specs.Signed.{SignatureView}
use Rattle.graph_format.specs.declared.actor.FileActor.{FileActor}
use Rattle.graph_format.specs.declared.actor.FileBody.{FileBody}
use Rattle.graph_format.specs.declared.actor.FileBody.TheVariants.{Kernel, Config, Child, ConfigChild}
use Rattle.graph_format.specs.declared.file.File.{File}
use Rattle.graph_format.specs.declared.file.FileGraph.{FileGraph}

abbrev pub kernel_names : List SignatureView → List (List ℕ)
kernel_names signatures = map (λ (s : SignatureView). s.name) signatures

-- the first signature of that name
abbrev pub signature_named : List SignatureView → List ℕ → Option SignatureView
signature_named signatures w = find (λ (s : SignatureView). bytes_eq w s.name) signatures

-- whether there is a signature, and it is one of configuration actors
abbrev pub is_of_config : Option SignatureView → Bool
is_of_config None = false
is_of_config (Some s) = s.counts.config

-- whether there is a signature, and it is one of kernel actors
abbrev pub is_of_kernel : Option SignatureView → Bool
is_of_kernel None = false
is_of_kernel (Some s) = not s.counts.config

abbrev pub unfit_in_body : List SignatureView → FileBody → List (List ℕ)
unfit_in_body signatures (Kernel kernel args ins outs) = if is_of_kernel (signature_named signatures kernel) then [] else kernel ∷ []
unfit_in_body signatures (Config kernel args ins outs sets) = if is_of_config (signature_named signatures kernel) then [] else kernel ∷ []
unfit_in_body signatures (Child graph args) = []
unfit_in_body signatures (ConfigChild graph args sets) = []

abbrev pub unfit_in_graph : List SignatureView → FileGraph → List (List ℕ)
unfit_in_graph signatures g = flat_map (λ (a : FileActor). unfit_in_body signatures a.body) g.actors

-- All of them, graph by graph and actor by actor.
abbrev pub unfit_in_file : List SignatureView → File → List (List ℕ)
unfit_in_file signatures file = flat_map (unfit_in_graph signatures) file.graphs
