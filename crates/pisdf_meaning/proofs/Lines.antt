-- States in one line.
use Rattle.std.proofs.Common.{◌≡◌, ◌≢◌, ℕ, ◌-◌, nat_lt, get_or, true, false, ℤ, List, [], ◌++◌, length, map, refl, ap, sym, ◌∙◌, append_assoc}
use Rattle.std.proofs.lemmas.Bool.{ltb-true, ltb-false}
use Rattle.std.proofs.lemmas.List.Concat.{flat_map-append}
use Rattle.std.proofs.lemmas.Option.{slice_get_past, slice_get_read}
use Rattle.pisdf_model.specs.Hold.{actor_state, in_line, initial_to, kept_in}
use Rattle.pisdf_model.specs.declared.actor.Actor.{Actor}
use Rattle.pisdf_model.specs.declared.fifo.Fifo.{Fifo}
use Rattle.pisdf_model.specs.declared.graph.Graph.{Graph}
use Rattle.pisdf_meaning.proofs.Beginning.{begins_absent, begins_empty, begins_so}

abbrev pub of_fifos : List Fifo → List ℤ
of_fifos fifos = in_line (map kept_in fifos)

abbrev pub of_actors : List Graph → ℕ → List Actor → List ℤ
of_actors graphs levels actors = in_line (map (λ (a : Actor). actor_state (initial_to graphs levels) a.body) actors)

module _ (graphs : List Graph) (levels place : ℕ) where
  -- no graphs are nested in each other, or the graph isn't there
  pub line_empty : levels ≡ 0 → in_line (initial_to graphs levels place) ≡ []
  line_empty e = ap in_line (begins_empty graphs levels place e)

  pub lists_absent : false ≡ nat_lt place (length graphs) → initial_to graphs levels place ≡ []
  lists_absent e = begins_absent graphs levels place (slice_get_past graphs place (ltb-false place (length graphs) (sym e)))

  pub line_absent : false ≡ nat_lt place (length graphs) → in_line (initial_to graphs levels place) ≡ []
  line_absent e = ap in_line (lists_absent e)

  module _ (g : Graph) (some : levels ≢ 0) (inside : true ≡ nat_lt place (length graphs)) (is : g ≡ get_or graphs place g) (fifos : List Fifo) (fifos_are : fifos ≡ g.fifos) (actors : List Actor) (actors_are : actors ≡ g.actors) where
    pub lists_so : initial_to graphs levels place ≡ map kept_in fifos ++ map (λ (a : Actor). actor_state (initial_to graphs (levels - 1)) a.body) actors
    lists_so = rw (fifos_are, actors_are) (sym (begins_so graphs levels place g some (slice_get_read graphs (length graphs) place g refl (ltb-true place (length graphs) (sym inside)) is)))

    pub line_so : in_line (initial_to graphs levels place) ≡ of_fifos fifos ++ of_actors graphs (levels - 1) actors
    line_so = ap in_line lists_so ∙ flat_map-append (λ (tokens : List ℤ). tokens) (map kept_in fifos) (map (λ (a : Actor). actor_state (initial_to graphs (levels - 1)) a.body) actors)

    pub line_put : (old mid new : List ℤ) → mid ≡ old ++ of_fifos fifos → new ≡ mid ++ of_actors graphs (levels - 1) actors → new ≡ old ++ in_line (initial_to graphs levels place)
    line_put old mid new e f =
        f ∙ ap (λ (l : List ℤ). l ++ of_actors graphs (levels - 1) actors) e ∙ append_assoc old (of_fifos fifos) (of_actors graphs (levels - 1) actors) ∙ ap (λ (l : List ℤ). old ++ l) (sym line_so)
