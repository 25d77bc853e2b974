-- Where numbers refer to parts that are there, they do so in the unfolded graphs; and kernels that fit, fit there.
use Rattle.std.proofs.Common.{ℕ, ◌<◌, ◌==◌, Bool, List, length, get_or, map, slice_get, Option, Some, None, sym, ◌∙◌, subst, arith, inl, inr}
use Rattle.std.specs.List.{All}
use Rattle.std.proofs.lemmas.List.{get_or-map, length-map}
use Rattle.kernel_gate.specs.Signed.{Counts}
use Rattle.param_expr.specs.Words.{IsName}
use Rattle.pisdf_meaning.specs.Sound.{KernelFits, KernelsFit}
use Rattle.pisdf_model.specs.Range.{HasPort, InRange, IsActorInRange, IsEndInRange, IsGraphInRange, IsInterfaceInRange}
use Rattle.pisdf_model.specs.Valid.{AreNamed, AreValid}
use Rattle.pisdf_model.specs.declared.actor.Actor.{Actor}
use Rattle.pisdf_model.specs.declared.fifo.End.{End}
use Rattle.pisdf_model.specs.declared.fifo.End.TheVariants as end
use Rattle.pisdf_model.specs.declared.graph.Graph.{Graph}
use Rattle.pisdf_model.specs.declared.graph.Graphs.{Graphs}
use Rattle.pisdf_model.specs.declared.graph.Interface.{Interface}
use Rattle.pisdf_model.specs.declared.names.ScopedName.{ScopedName}
use Rattle.unfold_rates.specs.Multiplied.{multiplied_at, multiplied_graph, multiplied_interface, unfolded_graphs}
use Rattle.unfold_rates.proofs.Lookups.{either_at, length-multiplied}
use Rattle.unfold_rates.proofs.SameFaults.{faults_same, names_same, port_count_same}

module _ (times : ℕ) (graphs : Graphs) where
  abbrev gs : List Graph
  gs = graphs.graphs

  abbrev hs : List Graph
  hs = multiplied_at times graphs.top graphs.graphs

  port_moves : (o : Option Actor) (p : ℕ) → HasPort gs p o → HasPort hs p o
  port_moves None p h = h
  port_moves (Some actor) p h = let P : ℕ → Type 0 = λ n. p < n in subst P (sym (port_count_same times graphs actor.body)) h

  end_moves : (g : Graph) (e : End) → IsEndInRange gs g e → IsEndInRange hs g e
  end_moves g (end.Interface i) h = h
  end_moves g (end.Port a p) h = port_moves (slice_get g.actors a) p h

  graph_moves : (version : ℕ) (is_top : Bool) (g : Graph) → IsGraphInRange version gs is_top g → IsGraphInRange version hs is_top g
  graph_moves version is_top g h =
      let P : ℕ → Type 0 = λ n. All (λ (a : Actor). IsActorInRange version n (length g.params) a) g.actors in
      record {
        params = h.params;
        inputs = h.inputs;
        outputs = h.outputs;
        actors = subst P (sym (length-multiplied times graphs.top gs)) h.actors;
        fifos = λ k d inside. let f = h.fifos k d inside in record { tail = end_moves g (get_or g.fifos k d).tail f.tail; head = end_moves g (get_or g.fifos k d).head f.head; life = f.life };
        exports = h.exports;
        exporting = h.exporting;
      }

  interfaces_multiply : (params : ℕ) (xs : List Interface) → All (λ (x : Interface). IsInterfaceInRange params x) xs → All (λ (x : Interface). IsInterfaceInRange params x) (map (multiplied_interface times) xs)
  interfaces_multiply params xs h k d inside =
      let within : k < length xs = subst (λ (n : ℕ). k < n) (length-map xs (multiplied_interface times)) inside in
      let P : Interface → Type 0 = λ x. IsInterfaceInRange params x in
      subst P (sym (get_or-map (multiplied_interface times) xs k d d within)) (h k d within, tt)

  end_multiplies : (g : Graph) (e : End) → IsEndInRange hs g e → IsEndInRange hs (multiplied_graph times g) e
  end_multiplies g (end.Interface i) h =
      let ins = length-map g.inputs (multiplied_interface times) in
      let outs = length-map g.outputs (multiplied_interface times) in
      omega arith
  end_multiplies g (end.Port a p) h = h

  graph_multiplies : (version : ℕ) (is_top : Bool) (g : Graph) → IsGraphInRange version hs is_top g → IsGraphInRange version hs is_top (multiplied_graph times g)
  graph_multiplies version is_top g h = record {
    params = h.params;
    inputs = interfaces_multiply (length g.params) g.inputs h.inputs;
    outputs = interfaces_multiply (length g.params) g.outputs h.outputs;
    actors = h.actors;
    fifos = λ k d inside. let f = h.fifos k d inside in record { tail = end_multiplies g (get_or g.fifos k d).tail f.tail; head = end_multiplies g (get_or g.fifos k d).head f.head; life = f.life };
    exports = h.exports;
    exporting = h.exporting;
  }

  pub range_stays : InRange graphs → InRange (unfolded_graphs graphs times)
  range_stays h =
      let long = length-multiplied times graphs.top gs in
      record {
        first_version = h.first_version;
        last_version = h.last_version;
        top = subst (λ (n : ℕ). graphs.top < n) (sym long) h.top;
        each_graph = λ n d inside.
            let within : n < length gs = subst (λ (m : ℕ). n < m) long inside in
            let here = graph_moves graphs.version (n == graphs.top) (get_or gs n d) (h.each_graph n d within) in
            let P : Graph → Type 0 = λ g. IsGraphInRange graphs.version hs (n == graphs.top) g in
            elim (either_at times graphs.top n d gs within) [
              | inl both ↦ subst P (sym both.1) (graph_multiplies graphs.version (n == graphs.top) (get_or gs n d) here)
              | inr same ↦ subst P (sym same) here
            ];
      }

  pub names_stay_named : AreNamed graphs → AreNamed (unfolded_graphs graphs times)
  names_stay_named h = let P : List ScopedName → Type 0 = λ names. All (λ (name : ScopedName). IsName name.name) names in subst P (sym (names_same times graphs)) h

  pub valid_stays : AreValid graphs → AreValid (unfolded_graphs graphs times)
  valid_stays h = record { in_range = range_stays h.in_range; well_formed = faults_same times graphs ∙ h.well_formed; named = names_stay_named h.named }

  pub kernels_stay : (signatures : List Counts) → KernelsFit signatures gs → KernelsFit signatures hs
  kernels_stay signatures h n d inside =
      let within : n < length gs = subst (λ (m : ℕ). n < m) (length-multiplied times graphs.top gs) inside in
      let P : Graph → Type 0 = λ g. All (λ (a : Actor). KernelFits signatures a.body) g.actors in
      elim (either_at times graphs.top n d gs within) [
        | inl both ↦ subst P (sym both.1) (h n d within)
        | inr same ↦ subst P (sym same) (h n d within)
      ]
