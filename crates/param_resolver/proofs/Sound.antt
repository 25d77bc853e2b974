-- Well-formed graphs, whose numbers refer to parts, have all that is asked of graphs here.
use Rattle.std.proofs.Common.{◌≡◌, ℕ, zero, suc, ◌+◌, ◌<◌, ◌≤◌, ⊎_elim, Bool, true, false, List, [], ◌∷◌, length, map, All, refl, arith, get_or, ltb, leb}
use Rattle.std.proofs.lemmas.Bool.Decides.{nat_tests}
use Rattle.std.specs.List.{flat_map}
use Rattle.std.proofs.lemmas.Bool.{cases_lt, leb-true}
use Rattle.std.proofs.lemmas.List.{length-map}
use Rattle.std.proofs.lemmas.List.Elements.{All-cons, All-nil}
use Rattle.pisdf_model.specs.Count.{count_faults, counts_of, excess_of, graph_counts, word_of}
use Rattle.pisdf_model.specs.Details.{from_number, of_each, unless}
use Rattle.pisdf_model.specs.Hold.{has_large_hold}
use Rattle.pisdf_model.specs.InterfaceWires.{interface_wire_faults}
use Rattle.pisdf_model.specs.Names.{duplicate_faults}
use Rattle.pisdf_model.specs.Nesting.{depth_faults, graph_cycle_faults, graph_name, child_lists, nested_over, nesting_to}
use Rattle.pisdf_model.specs.ParamOrder.{misplaced, order_faults, param_name, param_order_faults}
use Rattle.pisdf_model.specs.Ports.{ports_faults}
use Rattle.pisdf_model.specs.Range.{InRange, IsBodyInRange}
use Rattle.pisdf_model.specs.WellFormed.{WellFormed, graphs_at, with_number}
use Rattle.pisdf_model.specs.Wires.{wire_faults}
use Rattle.pisdf_model.specs.declared.actor.Body.{Body}
use Rattle.pisdf_model.specs.declared.actor.Body.TheVariants.{Kernel, Config, Child, ConfigChild}
use Rattle.pisdf_model.specs.declared.graph.Graph.{Graph}
use Rattle.pisdf_model.specs.declared.graph.Graphs.{Graphs}
use Rattle.pisdf_model.specs.declared.interface_wires.FifoPlace.{FifoPlace}
use Rattle.pisdf_model.proofs.Lists.{left_none, nowhere_kept, right_none, unmapped}
use Rattle.pisdf_model.proofs.Referring.{each_refers_to_params}
use Rattle.param_resolver.specs.Resolvable.{AreResolvable, IsBodyResolvable, IsNestedWithin, IsResolvable}

-- ---- lists of faults without any

pub flat_none : {X D : Type 0} (f : X → List D) (xs : List X) → flat_map f xs ≡ [] → All (λ x. f x ≡ []) xs
flat_none f [] none = All-nil (λ x. f x ≡ [])
flat_none f (x ∷ xs) none = All-cons (λ y. f y ≡ []) x xs (left_none (f x) (flat_map f xs) none) (flat_none f xs (right_none (f x) (flat_map f xs) none))

pub each_none : {X D : Type 0} (n : ℕ) (f : ℕ → X → List D) (xs : List X) → from_number n f xs ≡ [] → (k : ℕ) (d : X) → k < length xs → f (n + k) (get_or xs k d) ≡ []
each_none n f [] none k d inside = absurd (omega arith)
each_none n f (x ∷ xs) none zero d inside = let e : n + 0 ≡ n = omega arith in rw e (left_none (f n x) (from_number (n + 1) f xs) none)
each_none n f (x ∷ xs) none (suc k) d inside =
    let e : n + suc k ≡ n + 1 + k = omega arith in
    rw e (each_none (n + 1) f xs (right_none (f n x) (from_number (n + 1) f xs) none) k d (omega arith))

pub unless_none : {D : Type 0} (b : Bool) (d : D) → unless b d ≡ [] → b ≡ true
unless_none true d none = refl
unless_none false d none = cc

-- the lists, one by one
pub record HasNoFaults (graphs : Graphs) : Type 0 where
  pub ports : ports_faults (λ body. true) graphs ≡ []
  pub wires : wire_faults graphs ≡ []
  pub interface_wires : interface_wire_faults graphs ≡ []
  pub orders : param_order_faults graphs ≡ []
  pub depths : depth_faults graphs ≡ []
  pub counts : count_faults graphs ≡ []

pub no_faults : (graphs : Graphs) → WellFormed graphs → HasNoFaults graphs
no_faults graphs well =
    let from_7 = right_none (with_number 4 (duplicate_faults graphs)) _ well in
    let from_8 = right_none (with_number 7 (ports_faults (λ body. true) graphs)) _ from_7 in
    let from_9 = right_none (with_number 8 (wire_faults graphs)) _ from_8 in
    let from_10 = right_none (with_number 9 (graphs_at (interface_wire_faults graphs))) _ from_9 in
    let from_11 = right_none (with_number 10 (param_order_faults graphs)) _ from_10 in
    let from_12 = right_none (with_number 11 (graph_cycle_faults graphs)) _ from_11 in
    let from_13 = right_none (with_number 12 (depth_faults graphs)) _ from_12 in
    record {
      ports = unmapped (λ name. (7, name)) (ports_faults (λ body. true) graphs) (left_none (with_number 7 (ports_faults (λ body. true) graphs)) _ from_7);
      wires = unmapped (λ name. (8, name)) (wire_faults graphs) (left_none (with_number 8 (wire_faults graphs)) _ from_8);
      interface_wires = unmapped (λ (place : FifoPlace). place.graph) (interface_wire_faults graphs) (unmapped (λ name. (9, name)) (graphs_at (interface_wire_faults graphs)) (left_none (with_number 9 (graphs_at (interface_wire_faults graphs))) _ from_9));
      orders = unmapped (λ name. (10, name)) (param_order_faults graphs) (left_none (with_number 10 (param_order_faults graphs)) _ from_10);
      depths = unmapped (λ name. (12, name)) (depth_faults graphs) (left_none (with_number 12 (depth_faults graphs)) _ from_12);
      counts = unmapped word_of (count_faults graphs) (unmapped (λ name. (13, name)) (map word_of (count_faults graphs)) from_13);
    }

-- ---- one graph

body_resolvable : (version graphs params : ℕ) (body : Body) → IsBodyInRange version graphs params body → IsBodyResolvable graphs params body
body_resolvable version graphs params (Kernel kernel args ins outs) range = range
body_resolvable version graphs params (Config kernel args ins outs sets) range = (range.0, range.1)
body_resolvable version graphs params (Child k args) range = range
body_resolvable version graphs params (ConfigChild k args sets) range = (range.1, range.2)

excess_none : (is_large : Bool) (g : Graph) → excess_of (counts_of is_large g) ≡ [] → (length g.params ≤ 64) × (length g.actors ≤ 64)
excess_none is_large g none =
    let from_inputs = right_none (unless (leb (length g.params) 64) _) _ none in
    let from_outputs = right_none (unless (leb (length g.inputs) 32) _) _ from_inputs in
    let from_actors = right_none (unless (leb (length g.outputs) 32) _) _ from_outputs in
    (leb-true (length g.params) 64 (unless_none _ _ (left_none (unless (leb (length g.params) 64) _) _ none)), leb-true (length g.actors) 64 (unless_none _ _ (left_none (unless (leb (length g.actors) 64) _) _ from_actors)))

module _ (graphs : Graphs) (range : InRange graphs) (well : WellFormed graphs) where
  few : (k : ℕ) (d : Graph) → k < length graphs.graphs → (length (get_or graphs.graphs k d).params ≤ 64) × (length (get_or graphs.graphs k d).actors ≤ 64)
  few k d inside =
      let each = right_none (unless (leb (length graphs.graphs) 32) _) (of_each (graph_counts graphs.graphs) graphs.graphs) (no_faults graphs well).counts in
      let at_k : 0 + k ≡ k = omega arith in
      excess_none (has_large_hold graphs.graphs (0 + k)) (get_or graphs.graphs k d) (each_none 0 (graph_counts graphs.graphs) graphs.graphs each k d inside)

  graph_resolvable : (k : ℕ) (d : Graph) → k < length graphs.graphs → IsResolvable (length graphs.graphs) (get_or graphs.graphs k d)
  graph_resolvable k d inside =
      let g = get_or graphs.graphs k d in
      let parts = range.each_graph k d inside in
      let refers = each_refers_to_params graphs range k d inside in
      let faults = flat_none order_faults graphs.graphs (no_faults graphs well).orders k d inside in
      let cycle_free = left_none _ _ (unmapped (param_name g) (misplaced g) faults) in
      let small = few k d inside in
      record {
        ordered = record { inside = refers.derived; no_cycle = cycle_free };
        inputs = parts.inputs;
        outputs = parts.outputs;
        actors = λ i a there. body_resolvable graphs.version (length graphs.graphs) (length g.params) (get_or g.actors i a).body (parts.actors i a there);
        few_params = let m = small.0 in omega arith;
        few_actors = let m = small.1 in omega arith;
      }

  pub resolvable : AreResolvable graphs.graphs
  resolvable k d inside = graph_resolvable k d inside

  pub nested : (place : ℕ) → place < length graphs.graphs → IsNestedWithin graphs.graphs 8 place
  nested place inside =
      let none = unmapped (graph_name graphs) (nested_over (child_lists graphs) 8) (no_faults graphs well).depths in
      let there : place < length (child_lists graphs) = rw (length-map {A = Graph}) inside in
      let low = nowhere_kept (λ p. ltb 8 (nesting_to (child_lists graphs) (8 + 1) p)) (length (child_lists graphs)) place none there in
      ⊎_elim
      (λ (over : 8 < nesting_to (child_lists graphs) (8 + 1) place). absurd (not_both (ltb 8 (nesting_to (child_lists graphs) (8 + 1) place)) low (ltb-from over)))
      (λ (within : nesting_to (child_lists graphs) (8 + 1) place ≤ 8). within)
      (cases_lt 8 (nesting_to (child_lists graphs) (8 + 1) place))
    where
      not_both : (b : Bool) → b ≡ false → b ≡ true → ⊥
      not_both b is_false is_true = cc

      ltb-from : 8 < nesting_to (child_lists graphs) (8 + 1) place → ltb 8 (nesting_to (child_lists graphs) (8 + 1) place) ≡ true
      ltb-from over = grind (arith, nat_tests)
