-- Each reference of the file of graphs is known there.
use Rattle.std.proofs.Common.{◌≡◌, ℕ, ◌<◌, ◌==◌, List, [], ◌∷◌, ◌++◌, map, All, length, get_or, refl, ap, ◌∙◌, arith}
use Rattle.std.specs.Prelude.{Bool, Option, is_none, cond}
use Rattle.std.specs.List.{flat_map}
use Rattle.std.proofs.lemmas.List.{length-map}
use Rattle.std.proofs.lemmas.List.Concat.{flat_map-append}
use Rattle.param_expr.specs.Bind.{names_of}
use Rattle.param_expr.specs.Eval.{RefersBelow}
use Rattle.param_expr.specs.Tree as tree
use Rattle.param_expr.specs.Tree.{Tree}
use Rattle.param_expr.specs.Print.{Differ, with_names}
use Rattle.pisdf_model.specs.Range.{InRange, IsKindInRange, IsParamInRange, IsPortInRange, IsInterfaceInRange, IsBodyInRange, IsActorInRange, IsFifoInRange, IsGraphInRange}
use Rattle.pisdf_model.specs.declared.actor.Body.{Body}
use Rattle.pisdf_model.specs.declared.actor.Body.TheVariants as body
use Rattle.pisdf_model.specs.declared.actor.Port.{Port}
use Rattle.pisdf_model.specs.declared.fifo.Fifo.{Fifo}
use Rattle.pisdf_model.specs.declared.graph.Graph.{Graph}
use Rattle.pisdf_model.specs.declared.graph.Graphs.{Graphs}
use Rattle.pisdf_model.specs.declared.graph.Interface.{Interface}
use Rattle.pisdf_model.specs.declared.param.Param.{Param}
use Rattle.pisdf_model.specs.declared.param.ParamKind.{ParamKind}
use Rattle.pisdf_model.specs.declared.param.ParamKind.TheVariants.{Inherited, Derived, Chosen}
use Rattle.graph_format.specs.Named as named
use Rattle.graph_format.specs.Named.{name_at_place, named_actor, named_body, named_end, named_fifo, named_file, named_graph, named_interface, named_kind, named_param, named_port, names_of_actors, names_of_interfaces, names_of_params, names_of_ports_at}
use Rattle.graph_format.specs.References.{missing, unknown_in_actor, unknown_in_body, unknown_in_expr, unknown_in_fifo, unknown_in_file, unknown_in_graph, unknown_in_kind, unknown_in_param, unknown_in_port}
use Rattle.graph_format.specs.KnownNames.{KnownNames, known_names}
use Rattle.graph_format.specs.declared.file.FileGraph.{FileGraph}
use Rattle.graph_writer.proofs.Distinct.{AllDiffer, PartsDiffer}
use Rattle.graph_writer.proofs.Resolving.{end_found, file_names, files, none_of_each, scope_again, scope_in}
use Rattle.param_expr.proofs.Printed.{place_again}

-- ---- places

known_at : (names : List (List ℕ)) (i : ℕ) → Differ names → i < length names → missing names (name_at_place names i) ≡ []
known_at names i differ inside = ap (λ (o : Option ℕ). cond (is_none o) (name_at_place names i ∷ []) []) (place_again names i differ inside)

-- ---- the parts of a graph

module _ (kernels : List (List ℕ)) (graphs : Graphs) (all : AllDiffer graphs) (g : Graph) (parts : PartsDiffer g) where
  abbrev count : ℕ
  count = length g.params

  abbrev names : List (List ℕ)
  names = names_of_params g

  abbrev here : KnownNames
  here = scope_in [] graphs g

  counted : length names ≡ count
  counted = length-map g.params (λ (p : Param). p.name)

  expr_known : (t : Tree) → RefersBelow count t → unknown_in_expr here (with_names names t) ≡ []
  expr_known (tree.number z) below = refl
  expr_known (tree.param i) below = ap (λ ws. ws ++ []) (known_at names i parts.params (omega (arith, counted)))
  expr_known (tree.binary op a b) below =
      flat_map-append (missing names) (names_of (with_names names a)) (names_of (with_names names b))
      ∙ ap (λ ws. ws ++ unknown_in_expr here (with_names names b)) (expr_known a below.0)
      ∙ expr_known b below.1

  exprs_known : (ts : List Tree) → All (λ t. RefersBelow count t) ts → flat_map (unknown_in_expr here) (map (with_names names) ts) ≡ []
  exprs_known ts below = none_of_each (with_names names) (unknown_in_expr here) (λ t. RefersBelow count t) expr_known ts below

  kind_known : (k : ParamKind) → IsKindInRange count k → unknown_in_kind here (named_kind names k) ≡ []
  kind_known Inherited below = refl
  kind_known (Derived expr) below = expr_known expr below
  kind_known Chosen below = refl

  ports_known : (ps : List Port) → All (λ p. IsPortInRange count p) ps → flat_map (unknown_in_port here) (map (named_port names) ps) ≡ []
  ports_known ps below = none_of_each (named_port names) (unknown_in_port here) (λ p. IsPortInRange count p) (λ p. expr_known p.rate) ps below

  interfaces_known : (xs : List Interface) → All (λ x. IsInterfaceInRange count x) xs → flat_map (unknown_in_port here) (map (named_interface names) xs) ≡ []
  interfaces_known xs below = none_of_each (named_interface names) (unknown_in_port here) (λ x. IsInterfaceInRange count x) (λ x. expr_known x.rate) xs below

  sets_known : (sets : List ℕ) → All (λ i. i < count) sets → flat_map (missing names) (map (name_at_place names) sets) ≡ []
  sets_known sets inside = none_of_each (name_at_place names) (missing names) (λ i. i < count) (λ i below. known_at names i parts.params (omega (arith, counted))) sets inside

  body_known : (b : Body) → IsBodyInRange graphs.version (length graphs.graphs) count b → unknown_in_body here (named_body kernels graphs names b) ≡ []
  body_known (body.Kernel kernel args ins outs) range = rw (exprs_known args range.0, ports_known ins range.1, ports_known outs range.2) refl
  body_known (body.Config kernel args ins outs sets) range = rw (exprs_known args range.0, ports_known outs range.1, sets_known sets range.2) refl
  body_known (body.Child child args) range =
      let inside : child < length (named.names_of_graphs graphs) = omega (arith, range.0, length-map graphs.graphs (λ (g : Graph). g.name)) in
      rw (known_at (named.names_of_graphs graphs) child all.names inside, exprs_known args range.1) refl
  body_known (body.ConfigChild child args sets) range =
      let inside : child < length (named.names_of_graphs graphs) = omega (arith, range.1, length-map graphs.graphs (λ (g : Graph). g.name)) in
      rw (known_at (named.names_of_graphs graphs) child all.names inside, exprs_known args range.2, sets_known sets range.3) refl

  fifo_known : (is_top : Bool) → All (λ a. IsActorInRange graphs.version (length graphs.graphs) count a) g.actors → (f : Fifo) → IsFifoInRange graphs.version graphs.graphs is_top g f → unknown_in_fifo here (named_fifo graphs g f) ≡ []
  fifo_known is_top range f h = rw ((end_found [] graphs g all parts count range f.tail h.tail).known, (end_found [] graphs g all parts count range f.head h.head).known) refl

  pub graph_known : (is_top : Bool) → IsGraphInRange graphs.version graphs.graphs is_top g → unknown_in_graph here (named_graph kernels graphs g) ≡ []
  unfolding named_graph
  graph_known is_top range =
      let params = none_of_each (named_param names) (unknown_in_param here) (λ p. IsParamInRange count p) (λ p. kind_known p.kind) g.params range.params in
      let actors = none_of_each (named_actor kernels graphs names) (unknown_in_actor here) (λ a. IsActorInRange graphs.version (length graphs.graphs) count a) (λ a. body_known a.body) g.actors range.actors in
      let fifos = none_of_each (named_fifo graphs g) (unknown_in_fifo here) (λ f. IsFifoInRange graphs.version graphs.graphs is_top g f) (fifo_known is_top range.actors) g.fifos range.fifos in
      rw (params, interfaces_known g.inputs range.inputs, interfaces_known g.outputs range.outputs, actors, fifos, sets_known g.exports range.exports) refl

-- ---- files

pub file_known : (kernels : List (List ℕ)) (graphs : Graphs) → AllDiffer graphs → InRange graphs → unknown_in_file (named_file kernels graphs) ≡ []
unfolding named_file
file_known kernels graphs all range =
    let inside : graphs.top < length (named.names_of_graphs graphs) = omega (arith, range.top, length-map graphs.graphs (λ (g : Graph). g.name)) in
    let top = ap (λ names. missing names (name_at_place (named.names_of_graphs graphs) graphs.top)) (file_names kernels graphs) ∙ known_at (named.names_of_graphs graphs) graphs.top all.names inside in
    let stated = named_graph kernels graphs in
    let unknown = λ (g : FileGraph). unknown_in_graph (known_names [] (files kernels graphs) g) g in
    rw (top, none_of_each stated unknown (λ (g : Graph). unknown (stated g) ≡ []) (λ g none. none) graphs.graphs one) refl
  where
    one : (i : ℕ) (d : Graph) → i < length graphs.graphs → unknown_in_graph (known_names [] (files kernels graphs) (named_graph kernels graphs (get_or graphs.graphs i d))) (named_graph kernels graphs (get_or graphs.graphs i d)) ≡ []
    one i d within =
        let g = get_or graphs.graphs i d in
        let in_range = range.each_graph i d within in
        ap (λ s. unknown_in_graph s (named_graph kernels graphs g)) (scope_again kernels graphs [] (length g.params) g all.names in_range.actors)
        ∙ graph_known kernels graphs all g (all.parts i d within) (i == graphs.top) in_range
