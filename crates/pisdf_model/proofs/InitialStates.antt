-- The state with which a firing of a graph starts: its lists, one for each FIFO and then one for each actor. That of a
-- hierarchical actor is the state, in one line, with which the graph that it names starts.
use Rattle.std.proofs.Common.{◌≡◌, ℕ, zero, suc, ◌+◌, ◌<◌, ◌≤◌, ℤ, nat_lt, List, [], ◌∷◌, ◌++◌, length, map, Some, refl, sym, ap, ◌∙◌, arith, get_or}
use Rattle.std.specs.Prelude.{slice_get, sum_by}
use Rattle.std.specs.List.{AllByRecursion, flat_map}
use Rattle.std.proofs.lemmas.Bool.{ltb-false}
use Rattle.std.proofs.lemmas.List.{get_or-append-add, get_or-map, get_or_append_left, length-append, length-map}
use Rattle.pisdf_model.specs.Arrows.{to_of}
use Rattle.pisdf_model.specs.Hold.{actor_state, graph_state, hold, in_line, initial, initial_to, kept_in}
use Rattle.pisdf_model.specs.Nesting.{child_lists, children, children_of, depth_faults, graph_name, greatest, nested_over, nesting_limit, nesting_to}
use Rattle.pisdf_model.specs.WellFormed.{WellFormed}
use Rattle.pisdf_model.specs.declared.actor.Actor.{Actor}
use Rattle.pisdf_model.specs.declared.actor.Body.{Body}
use Rattle.pisdf_model.specs.declared.actor.Body.TheVariants.{Kernel, Config, Child, ConfigChild}
use Rattle.pisdf_model.specs.declared.fifo.Fifo.{Fifo}
use Rattle.pisdf_model.specs.declared.graph.Graph.{Graph}
use Rattle.pisdf_model.specs.declared.graph.Graphs.{Graphs}
use Rattle.pisdf_model.proofs.Holds.{actor_length}
use Rattle.pisdf_model.proofs.Lists.{left_none, nowhere_kept, right_none, unmapped}
use Rattle.pisdf_model.proofs.Numbers.{faults_4, faults_7, faults_8, faults_9, faults_10, faults_11, faults_12, faults_13, from_7, from_8, from_9, from_10, from_11, from_12}

-- ---- the lists of a state

module _ (states : ℕ → List (List ℤ)) (g : Graph) where
  abbrev of_actor : Actor → List ℤ
  of_actor a = actor_state states a.body

  lists_of_state : length (graph_state states (Some g)) ≡ length g.fifos + length g.actors
  lists_of_state =
      length-append (map kept_in g.fifos) (map of_actor g.actors)
      ∙ ap (λ n. n + length (map of_actor g.actors)) (length-map g.fifos kept_in)
      ∙ ap (λ n. length g.fifos + n) (length-map g.actors of_actor)

  fifo_of_state : (k : ℕ) (d : Fifo) → k < length g.fifos → get_or (graph_state states (Some g)) k [] ≡ kept_in (get_or g.fifos k d)
  fifo_of_state k d inside =
      get_or_append_left (map kept_in g.fifos) (map of_actor g.actors) [] k (rw (length-map {A = Fifo}) inside)
      ∙ get_or-map kept_in g.fifos k d [] inside

  actor_of_state : (a : ℕ) (d : Actor) → a < length g.actors → get_or (graph_state states (Some g)) (length g.fifos + a) [] ≡ actor_state states (get_or g.actors a d).body
  actor_of_state a d inside =
      ap (λ n. get_or (graph_state states (Some g)) (n + a) []) (sym (length-map g.fifos kept_in))
      ∙ get_or-append-add (map kept_in g.fifos) (map of_actor g.actors) a []
      ∙ get_or-map of_actor g.actors a d [] inside

-- ---- states over as many graphs as are nested in each other

module _ (s t : ℕ → List (List ℤ)) where
  abbrev Same : ℕ → Type 0
  Same k = s k ≡ t k

  one_actor : (body : Body) (rest : List ℕ) → AllByRecursion Same (children_of body ++ rest) → (actor_state s body ≡ actor_state t body) × AllByRecursion Same rest
  one_actor (Kernel kernel args ins outs) rest all = (refl, all)
  one_actor (Config kernel args ins outs sets) rest all = (refl, all)
  one_actor (Child graph args) rest all = (ap in_line all.0, all.1)
  one_actor (ConfigChild graph args sets) rest all = (ap in_line all.0, all.1)

  each_actor : (actors : List Actor) → AllByRecursion Same (flat_map (λ (a : Actor). children_of a.body) actors) → map (λ (a : Actor). actor_state s a.body) actors ≡ map (λ (a : Actor). actor_state t a.body) actors
  each_actor [] all = refl
  each_actor (a ∷ actors) all =
      let here = one_actor a.body (flat_map (λ (a : Actor). children_of a.body) actors) all in
      ap (λ x. x ∷ map (λ (a : Actor). actor_state s a.body) actors) here.0 ∙ ap (λ xs. actor_state t a.body ∷ xs) (each_actor actors here.1)

  -- the states of a graph's children make its own
  by_children : (graphs : List Graph) (place : ℕ) → AllByRecursion Same (to_of (map children graphs) place) → graph_state s (slice_get graphs place) ≡ graph_state t (slice_get graphs place)
  by_children [] place all = refl
  by_children (g ∷ graphs) zero all = ap (λ xs. map kept_in g.fifos ++ xs) (each_actor g.actors all)
  by_children (g ∷ graphs) (suc place) all = by_children graphs place all

each_within : (f : ℕ → ℕ) (n : ℕ) (P : ℕ → Type 0) → ((k : ℕ) → f k ≤ n → P k) → (xs : List ℕ) → greatest (map f xs) ≤ n → AllByRecursion P xs
each_within f n P holds [] within = tt
each_within f n P holds (x ∷ xs) within = (holds x (omega arith), each_within f n P holds xs (omega arith))

-- a graph whose nesting is at most n starts with the same state over n graphs and over one more
settled : (graphs : List Graph) (n place : ℕ) → nesting_to (map children graphs) (suc n) place ≤ n → initial_to graphs (suc n) place ≡ initial_to graphs n place
unfolding initial_to nesting_to
settled graphs zero place within = absurd (omega arith)
settled graphs (suc n) place within =
    by_children (initial_to graphs (suc n)) (initial_to graphs n) graphs place
    (each_within (nesting_to (map children graphs) (suc n)) n (λ k. initial_to graphs (suc n) k ≡ initial_to graphs n k) (λ k few. settled graphs n k few) (to_of (map children graphs) place) (omega arith))

-- graphs that break no rule are not nested too deep
pub flat_where_well_formed : (graphs : Graphs) → WellFormed graphs → depth_faults graphs ≡ []
flat_where_well_formed graphs well =
    let after_4 = right_none (faults_4 graphs) (from_7 graphs) well in
    let after_7 = right_none (faults_7 graphs) (from_8 graphs) after_4 in
    let after_8 = right_none (faults_8 graphs) (from_9 graphs) after_7 in
    let after_9 = right_none (faults_9 graphs) (from_10 graphs) after_8 in
    let after_10 = right_none (faults_10 graphs) (from_11 graphs) after_9 in
    let after_11 = right_none (faults_11 graphs) (from_12 graphs) after_10 in
    unmapped (λ name. (12, name)) (depth_faults graphs) (left_none (faults_12 graphs) (faults_13 graphs) after_11)

-- the laws

module _ (graphs : Graphs) (flat : depth_faults graphs ≡ []) (place : ℕ) (g : Graph) (is : slice_get graphs.graphs place ≡ Some g) (inside : place < length graphs.graphs) where
  shallow : nesting_to (child_lists graphs) (suc nesting_limit) place ≤ nesting_limit
  shallow =
      let none = unmapped (graph_name graphs) (nested_over (child_lists graphs) nesting_limit) flat in
      let here = nowhere_kept (λ v. nat_lt nesting_limit (nesting_to (child_lists graphs) (nesting_limit + 1) v)) (length (child_lists graphs)) place none (rw (length-map {A = Graph}) inside) in
      ltb-false nesting_limit (nesting_to (child_lists graphs) (suc nesting_limit) place) here

  pub initial_state : initial graphs.graphs place ≡ graph_state (initial graphs.graphs) (Some g)
  unfolding initial_to
  initial_state = sym (settled graphs.graphs nesting_limit place shallow) ∙ ap (graph_state (initial graphs.graphs)) is

  -- how many lists the state has
  pub initial_lists : length (initial graphs.graphs place) ≡ length g.fifos + length g.actors
  initial_lists = ap length initial_state ∙ lists_of_state (initial graphs.graphs) g

  -- those of FIFOs
  pub initial_fifo : (k : ℕ) (d : Fifo) → k < length g.fifos → get_or (initial graphs.graphs place) k [] ≡ kept_in (get_or g.fifos k d)
  initial_fifo k d below = ap (λ state. get_or state k []) initial_state ∙ fifo_of_state (initial graphs.graphs) g k d below

  -- those of actors
  pub initial_actor : (a : ℕ) (d : Actor) → a < length g.actors → get_or (initial graphs.graphs place) (length g.fifos + a) [] ≡ actor_state (initial graphs.graphs) (get_or g.actors a d).body
  initial_actor a d below = ap (λ state. get_or state (length g.fifos + a) []) initial_state ∙ actor_of_state (initial graphs.graphs) g a d below

-- how many tokens an actor's list has: the hold of the graph that it names
pub initial_size : (graphs : List Graph) (body : Body) → length (actor_state (initial graphs) body) ≡ sum_by (hold graphs) (children_of body)
initial_size graphs body = actor_length (initial graphs) body
