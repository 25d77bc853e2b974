-- The file of graphs, placed again, is these graphs.
use Rattle.std.proofs.Common.{◌≡◌, ℕ, zero, suc, ◌+◌, ◌<◌, ℤ, pos, negsuc, ◌==◌, Bool, true, false, List, [], ◌∷◌, map, All, length, get_or, if◌then◌else◌, refl, sym, ap, ◌∙◌, subst, arith}
use Rattle.std.specs.Prelude.{replicate}
use Rattle.std.specs.List.{enumerate_from, list_all}
use Rattle.std.specs.Ordering.{int_eq}
use Rattle.std.proofs.lemmas.Bool.{and_parts, true≢false}
use Rattle.std.proofs.lemmas.Bool.Decides.{nat_tests}
use Rattle.std.proofs.lemmas.List.{length-map}
use Rattle.kernel_gate.specs.Signed.{SignatureView}
use Rattle.param_expr.specs.Eval.{RefersBelow}
use Rattle.param_expr.specs.Tree.{Tree}
use Rattle.param_expr.specs.Bind.{placed_in}
use Rattle.param_expr.specs.Print.{Differ, with_names}
use Rattle.pisdf_model.specs.declared.fifo.Life.{Life}
use Rattle.pisdf_model.specs.declared.fifo.Life.TheVariants.{Firing}
use Rattle.pisdf_model.specs.Range.{first_life, life_of, IsKindInRange, IsParamInRange, IsPortInRange, IsInterfaceInRange, IsBodyInRange, IsActorInRange, IsFifoInRange, IsGraphInRange}
use Rattle.pisdf_model.specs.declared.actor.Actor.{Actor}
use Rattle.pisdf_model.specs.declared.actor.Body.{Body}
use Rattle.pisdf_model.specs.declared.actor.Body.TheVariants as body
use Rattle.pisdf_model.specs.declared.actor.Port.{Port}
use Rattle.pisdf_model.specs.declared.fifo.Fifo.{Fifo}
use Rattle.pisdf_model.specs.declared.graph.Graph.{Graph}
use Rattle.pisdf_model.specs.declared.graph.Graphs.{Graphs}
use Rattle.pisdf_model.specs.declared.graph.Interface.{Interface}
use Rattle.pisdf_model.specs.declared.param.Param.{Param}
use Rattle.pisdf_model.specs.declared.param.ParamKind.{ParamKind}
use Rattle.pisdf_model.specs.declared.param.ParamKind.TheVariants.{Inherited, Derived, Chosen}
use Rattle.graph_format.specs.Kernels.{is_of_config, is_of_kernel, kernel_names}
use Rattle.graph_format.specs.Named as named
use Rattle.graph_format.specs.Named.{name_at_place, named_actor, named_body, named_end, named_fifo, named_file, named_graph, named_interface, named_kind, named_param, named_port, names_of_actors, names_of_interfaces, names_of_params, names_of_ports_at, stated_delay, stated_life}
use Rattle.graph_format.specs.Placed.{first_place, placed, placed_actor, placed_body, placed_fifo, placed_graph, placed_interface, placed_kind, placed_param, placed_port, tokens_of, top_of}
use Rattle.graph_format.specs.KnownNames.{KnownNames, known_names}
use Rattle.graph_format.specs.declared.file.FileGraph.{FileGraph}
use Rattle.graph_writer.specs.ReadAgain.{ActorsFit, CanBeReadAgain, FitsSignature}
use Rattle.graph_writer.proofs.Distinct.{AllDiffer, PartsDiffer}
use Rattle.graph_writer.proofs.KernelPlaces.{is_place_of_kernel}
use Rattle.graph_writer.proofs.Resolving.{each_again, end_found, file_names, files, first_again, scope_again, scope_in}
use Rattle.param_expr.proofs.Printed.{placed_again}

-- ---- delays

zero_again : (t : ℤ) → int_eq t (pos 0) ≡ true → pos 0 ≡ t
zero_again (pos zero) is = refl
zero_again (pos (suc n)) is =
    let not_zero : int_eq (pos (suc n)) (pos 0) ≡ false = grind (arith, nat_tests) in
    absurd (true≢false (sym is ∙ not_zero))
zero_again (negsuc n) is = absurd cc

zeros_again : (tokens : List ℤ) → list_all (λ token. int_eq token (pos 0)) tokens ≡ true → replicate (length tokens) (pos 0) ≡ tokens
zeros_again [] all = refl
zeros_again (t ∷ ts) all =
    let both = and_parts (int_eq t (pos 0)) (list_all (λ token. int_eq token (pos 0)) ts) all in
    rw (zeros_again ts both.1) (ap (λ x. x ∷ ts) (zero_again t both.0))

delay_again : (tokens : List ℤ) → tokens_of (stated_delay tokens) ≡ tokens
delay_again tokens = go (list_all (λ token. int_eq token (pos 0)) tokens) refl
  where
    go : (b : Bool) → list_all (λ token. int_eq token (pos 0)) tokens ≡ b → tokens_of (stated_delay tokens) ≡ tokens
    go true is = rw is (zeros_again tokens is)
    go false is = rw is refl

-- ---- lives

-- the life that a file states is read as the one that it was
life_again : (version : ℕ) (is_top : Bool) (life : Life) (tokens : List ℤ) → life ≡ life_of version is_top life tokens → life_of version is_top (stated_life version life) tokens ≡ life
life_again version is_top life [] is = sym is
life_again version is_top life (t ∷ ts) is = go (version == 1) is
  where
    go : (first : Bool) → life ≡ (if first then first_life is_top else life) → (if first then first_life is_top else (if first then Firing else life)) ≡ life
    go true is = sym is
    go false is = refl

-- ---- the parts of a graph

module _ (signatures : List SignatureView) (graphs : Graphs) (all : AllDiffer graphs) (kernels : Differ (kernel_names signatures)) (g : Graph) (parts : PartsDiffer g) where
  abbrev count : ℕ
  count = length g.params

  abbrev names : List (List ℕ)
  names = names_of_params g

  abbrev here : KnownNames
  here = scope_in (kernel_names signatures) graphs g

  counted : length names ≡ count
  counted = length-map g.params (λ (p : Param). p.name)

  expr_again : (t : Tree) → RefersBelow count t → placed_in names (with_names names t) ≡ t
  expr_again t below = sym (placed_again names t parts.params (subst (λ n. RefersBelow n t) (sym counted) below))

  exprs_again : (ts : List Tree) → All (λ t. RefersBelow count t) ts → map (placed_in names) (map (with_names names) ts) ≡ ts
  exprs_again ts below = each_again (with_names names) (placed_in names) (λ t. RefersBelow count t) expr_again ts below

  kind_again : (k : ParamKind) → IsKindInRange count k → placed_kind here (named_kind names k) ≡ k
  kind_again Inherited below = refl
  kind_again (Derived expr) below = ap (λ e. Derived e) (expr_again expr below)
  kind_again Chosen below = refl

  param_again : (p : Param) → IsParamInRange count p → placed_param here (named_param names p) ≡ p
  param_again p below = ap (λ kind. record { name = p.name; kind = kind; low = p.low; high = p.high }) (kind_again p.kind below)

  interface_again : (x : Interface) → IsInterfaceInRange count x → placed_interface here (named_interface names x) ≡ x
  interface_again x below = ap (λ rate. record { name = x.name; rate = rate }) (expr_again x.rate below)

  port_again : (p : Port) → IsPortInRange count p → placed_port here (named_port names p) ≡ p
  port_again p below = ap (λ rate. record { name = p.name; rate = rate }) (expr_again p.rate below)

  ports_again : (ps : List Port) → All (λ p. IsPortInRange count p) ps → map (placed_port here) (map (named_port names) ps) ≡ ps
  ports_again ps below = each_again (named_port names) (placed_port here) (λ p. IsPortInRange count p) port_again ps below

  set_again : (i : ℕ) → i < count → first_place names (name_at_place names i) ≡ i
  set_again i inside = first_again names i parts.params (omega (arith, counted))

  sets_again : (sets : List ℕ) → All (λ i. i < count) sets → map (first_place names) (map (name_at_place names) sets) ≡ sets
  sets_again sets inside = each_again (name_at_place names) (first_place names) (λ i. i < count) set_again sets inside

  body_again : (b : Body) → IsBodyInRange graphs.version (length graphs.graphs) count b → (actor : Actor) → actor.body ≡ b → FitsSignature signatures actor → placed_body here (named_body (kernel_names signatures) graphs names b) ≡ b
  body_again (body.Kernel kernel args ins outs) range actor is fits =
      let inside = is_place_of_kernel is_of_kernel refl signatures kernel (rw is at fits.kind) in
      rw (first_again (kernel_names signatures) kernel kernels inside, exprs_again args range.0, ports_again ins range.1, ports_again outs range.2) refl
  body_again (body.Config kernel args ins outs sets) range actor is fits =
      let inside = is_place_of_kernel is_of_config refl signatures kernel (rw is at fits.kind) in
      rw (first_again (kernel_names signatures) kernel kernels inside, exprs_again args range.0, ports_again outs range.1, sets_again sets range.2) refl
  body_again (body.Child child args) range actor is fits =
      let inside : child < length (named.names_of_graphs graphs) = omega (arith, range.0, length-map graphs.graphs (λ (g : Graph). g.name)) in
      rw (first_again (named.names_of_graphs graphs) child all.names inside, exprs_again args range.1) refl
  body_again (body.ConfigChild child args sets) range actor is fits =
      let inside : child < length (named.names_of_graphs graphs) = omega (arith, range.1, length-map graphs.graphs (λ (g : Graph). g.name)) in
      rw (first_again (named.names_of_graphs graphs) child all.names inside, exprs_again args range.2, sets_again sets range.3) refl

  actor_again : (a : Actor) → IsActorInRange graphs.version (length graphs.graphs) count a × FitsSignature signatures a → placed_actor here (named_actor (kernel_names signatures) graphs names a) ≡ a
  actor_again a h = ap (λ b. record { name = a.name; body = b }) (body_again a.body h.0 a refl h.1)

  fifo_again : (is_top : Bool) → All (λ a. IsActorInRange graphs.version (length graphs.graphs) count a) g.actors → (f : Fifo) → IsFifoInRange graphs.version graphs.graphs is_top g f → placed_fifo graphs.version tokens_of is_top here (named_fifo graphs g f) ≡ f
  fifo_again is_top range f h =
      let tail = end_found (kernel_names signatures) graphs g all parts count range f.tail h.tail in
      let head = end_found (kernel_names signatures) graphs g all parts count range f.head h.head in
      rw (tail.placed, head.placed, delay_again f.delay)
      (ap (λ life. record { tail = f.tail; head = f.head; delay = f.delay; life = life }) (life_again graphs.version is_top f.life f.delay h.life))

  pub graph_again : (is_top : Bool) → IsGraphInRange graphs.version graphs.graphs is_top g → ActorsFit signatures g → placed_graph graphs.version tokens_of is_top here (named_graph (kernel_names signatures) graphs g) ≡ g
  unfolding named_graph
  graph_again is_top range fits =
      let params = each_again (named_param names) (placed_param here) (λ p. IsParamInRange count p) param_again g.params range.params in
      let inputs = each_again (named_interface names) (placed_interface here) (λ x. IsInterfaceInRange count x) interface_again g.inputs range.inputs in
      let outputs = each_again (named_interface names) (placed_interface here) (λ x. IsInterfaceInRange count x) interface_again g.outputs range.outputs in
      let actors = each_again (named_actor (kernel_names signatures) graphs names) (placed_actor here) (λ a. IsActorInRange graphs.version (length graphs.graphs) count a × FitsSignature signatures a) actor_again g.actors (λ k d inside. (range.actors k d inside, fits k d inside)) in
      let fifos = each_again (named_fifo graphs g) (placed_fifo graphs.version tokens_of is_top here) (λ f. IsFifoInRange graphs.version graphs.graphs is_top g f) (fifo_again is_top range.actors) g.fifos range.fifos in
      rw (params, inputs, outputs, actors, fifos, sets_again g.exports range.exports) refl

-- ---- graphs

numbered_again : {A B : Type 0} (m : A → B) (f : ℕ × B → A) (n : ℕ) (xs : List A) → ((i k : ℕ) (d : A) → n + i ≡ k → i < length xs → f (k, m (get_or xs i d)) ≡ get_or xs i d) → map f (enumerate_from n (map m xs)) ≡ xs
numbered_again m f n [] same = refl
numbered_again m f n (x ∷ xs) same =
    rw (same 0 n x (omega arith) (omega arith), numbered_again m f (n + 1) xs (λ i k d is inside. same (suc i) k d (omega arith) (omega arith))) refl

pub named_then_placed : (signatures : List SignatureView) (graphs : Graphs) → AllDiffer graphs → CanBeReadAgain signatures graphs → placed tokens_of (kernel_names signatures) (named_file (kernel_names signatures) graphs) ≡ graphs
unfolding named_file
named_then_placed signatures graphs all can =
    let file = named_file (kernel_names signatures) graphs in
    let inside : graphs.top < length (named.names_of_graphs graphs) = omega (arith, can.in_range.top, length-map graphs.graphs (λ (g : Graph). g.name)) in
    let top : top_of file ≡ graphs.top = ap (λ names. first_place names (name_at_place (named.names_of_graphs graphs) graphs.top)) (file_names (kernel_names signatures) graphs) ∙ first_again (named.names_of_graphs graphs) graphs.top all.names inside in
    let each = numbered_again (named_graph (kernel_names signatures) graphs) (λ (p : ℕ × FileGraph). placed_graph graphs.version tokens_of (p.0 == graphs.top) (known_names (kernel_names signatures) (files (kernel_names signatures) graphs) p.1) p.1) 0 graphs.graphs (λ i k d is within. one i k d is within) in
    rw top (ap (λ (list : List Graph). record { version = graphs.version; top = graphs.top; graphs = list }) each)
  where
    one : (i k : ℕ) (d : Graph) → 0 + i ≡ k → i < length graphs.graphs → placed_graph graphs.version tokens_of (k == graphs.top) (known_names (kernel_names signatures) (files (kernel_names signatures) graphs) (named_graph (kernel_names signatures) graphs (get_or graphs.graphs i d))) (named_graph (kernel_names signatures) graphs (get_or graphs.graphs i d)) ≡ get_or graphs.graphs i d
    one i k d is within =
        let same : i ≡ k = omega arith in
        let g = get_or graphs.graphs i d in
        let range : IsGraphInRange graphs.version graphs.graphs (k == graphs.top) g = subst (λ n. IsGraphInRange graphs.version graphs.graphs (n == graphs.top) g) same (can.in_range.each_graph i d within) in
        ap (λ s. placed_graph graphs.version tokens_of (k == graphs.top) s (named_graph (kernel_names signatures) graphs g)) (scope_again (kernel_names signatures) graphs (kernel_names signatures) (length g.params) g all.names range.actors)
        ∙ graph_again signatures graphs all can.names_differ g (all.parts i d within) (k == graphs.top) range (can.kernels i d within)
