-- The graphs of a well-formed file: how many parts they have, and whether their actors fit their kernels and children.
use Rattle.std.proofs.Common.{◌≡◌, ℕ, ◌+◌, ◌<◌, ◌≤◌, ◌^◌, Bool, true, false, List, [], ◌∷◌, length, count_by, All, refl, ap, ◌∙◌, subst, arith, get_or, leb, eqb, slice_get}
use Rattle.std.proofs.lemmas.Bool.{and_parts, leb-true, eqb-true, eq-eqb, false≢true}
use Rattle.std.proofs.lemmas.List.Elements.{All-head, All-tail}
use Rattle.std.proofs.lemmas.Option.{slice_get-get_or}
use Rattle.kernel_gate.specs.Signed.{Counts}
use Rattle.pisdf_model.specs.Count.{counts_of, excess_of, graph_counts}
use Rattle.pisdf_model.specs.Details.{of_each, unless}
use Rattle.pisdf_model.specs.Hold.{has_large_hold}
use Rattle.pisdf_model.specs.Ports.{actor_ports, all_sets, body_fits, graph_ports, inherited_count, is_inherited, is_set_as_due, param_ports, sets_of}
use Rattle.pisdf_model.specs.Range.{InRange, IsBodyInRange}
use Rattle.pisdf_model.specs.WellFormed.{WellFormed}
use Rattle.pisdf_model.specs.declared.actor.Actor.{Actor}
use Rattle.pisdf_model.specs.declared.actor.Body.{Body}
use Rattle.pisdf_model.specs.declared.actor.Body.TheVariants.{Kernel, Config, Child, ConfigChild}
use Rattle.pisdf_model.specs.declared.graph.Graph.{Graph}
use Rattle.pisdf_model.specs.declared.graph.Graphs.{Graphs}
use Rattle.pisdf_model.specs.declared.param.Param.{Param}
use Rattle.pisdf_model.specs.declared.param.ParamKind.{ParamKind}
use Rattle.pisdf_model.specs.declared.param.ParamKind.TheVariants.{Inherited, Derived, Chosen}
use Rattle.pisdf_model.proofs.Lists.{left_none, right_none}
use Rattle.param_resolver.proofs.Sound.{each_none, no_faults, unless_none}
use Rattle.pisdf_meaning.specs.Sound.{BodyFits, GraphFits, KernelFits, KernelsFit}
use Rattle.pisdf_meaning.proofs.SetOnce.{count_part, few_once}

-- ---- how many parts

pub record AreFew (g : Graph) : Type 0 where
  pub params : length g.params ≤ 64
  pub inputs : length g.inputs ≤ 32
  pub actors : length g.actors ≤ 64
  pub fifos : length g.fifos ≤ 128

few_of : (is_large : Bool) (g : Graph) → excess_of (counts_of is_large g) ≡ [] → AreFew g
few_of is_large g none =
    let from_inputs = right_none (unless (leb (length g.params) 64) _) _ none in
    let from_outputs = right_none (unless (leb (length g.inputs) 32) _) _ from_inputs in
    let from_actors = right_none (unless (leb (length g.outputs) 32) _) _ from_outputs in
    let from_fifos = right_none (unless (leb (length g.actors) 64) _) _ from_actors in
    record {
      params = leb-true (length g.params) 64 (unless_none _ _ (left_none (unless (leb (length g.params) 64) _) _ none));
      inputs = leb-true (length g.inputs) 32 (unless_none _ _ (left_none (unless (leb (length g.inputs) 32) _) _ from_inputs));
      actors = leb-true (length g.actors) 64 (unless_none _ _ (left_none (unless (leb (length g.actors) 64) _) _ from_actors));
      fifos = leb-true (length g.fifos) 128 (unless_none _ _ (left_none (unless (leb (length g.fifos) 128) _) _ from_fifos));
    }

-- ---- parameters that are set as their kinds say

set_once : (is_top : Bool) (kind : ParamKind) (times : ℕ) → is_set_as_due is_top kind times ≡ true → times ≤ 1
set_once true Inherited times due = absurd (false≢true due)
set_once false Inherited times due = let none = eqb-true times 0 due in omega arith
set_once true (Derived expr) times due = let none = eqb-true times 0 due in omega arith
set_once false (Derived expr) times due = let none = eqb-true times 0 due in omega arith
set_once true Chosen times due = let one = eqb-true times 1 due in omega arith
set_once false Chosen times due = let one = eqb-true times 1 due in omega arith

not_inherited : (kind : ParamKind) (times : ℕ) → is_set_as_due true kind times ≡ true → is_inherited kind ≡ false
not_inherited Inherited times due = absurd (false≢true due)
not_inherited (Derived expr) times due = refl
not_inherited Chosen times due = refl

none_counted : (params : List Param) → All (λ (p : Param). is_inherited p.kind ≡ false) params → count_by (λ (p : Param). is_inherited p.kind) params ≡ 0
none_counted [] none = refl
none_counted (p ∷ params) none =
    let here = All-head (λ (q : Param). is_inherited q.kind ≡ false) p params none in
    rw here (none_counted params (All-tail (λ (q : Param). is_inherited q.kind ≡ false) p params none))

-- ---- actors

body_fits_so : (signatures : List Counts) (graphs : List Graph) (body : Body) → KernelFits signatures body → body_fits (λ b. true) graphs body ≡ true → length (sets_of body) < 2 ^ 32 → BodyFits signatures graphs body
body_fits_so signatures graphs (Kernel kernel args ins outs) kernel_fits fits few = kernel_fits
body_fits_so signatures graphs (Config kernel args ins outs sets) kernel_fits fits few = (kernel_fits, few)
body_fits_so signatures graphs (Child place args) kernel_fits fits few = eqb-true (length args) (inherited_count (slice_get graphs place)) fits
body_fits_so signatures graphs (ConfigChild place args sets) kernel_fits fits few = eqb-true (length args) (inherited_count (slice_get graphs place)) (and_parts _ _ fits).0

sets_inside : (version graphs params : ℕ) (body : Body) → IsBodyInRange version graphs params body → All (λ i. i < params) (sets_of body)
sets_inside version graphs params (Kernel kernel args ins outs) range = λ k d h. absurd (omega arith)
sets_inside version graphs params (Config kernel args ins outs sets) range = range.2
sets_inside version graphs params (Child place args) range = λ k d h. absurd (omega arith)
sets_inside version graphs params (ConfigChild place args sets) range = range.3

module _ (graphs : Graphs) (range : InRange graphs) (well : WellFormed graphs) where
  pub few_parts : (k : ℕ) (d : Graph) → k < length graphs.graphs → AreFew (get_or graphs.graphs k d)
  few_parts k d inside =
      let each = right_none (unless (leb (length graphs.graphs) 32) _) (of_each (graph_counts graphs.graphs) graphs.graphs) (no_faults graphs well).counts in
      few_of (has_large_hold graphs.graphs (0 + k)) (get_or graphs.graphs k d) (each_none 0 (graph_counts graphs.graphs) graphs.graphs each k d inside)

  no_ports : (k : ℕ) (d : Graph) → k < length graphs.graphs → graph_ports (λ b. true) graphs.graphs (eqb k graphs.top) (get_or graphs.graphs k d) ≡ []
  no_ports k d inside =
      let at_k : 0 + k ≡ k = omega arith in
      let P : ℕ → Type 0 = λ n. graph_ports (λ b. true) graphs.graphs (eqb n graphs.top) (get_or graphs.graphs k d) ≡ [] in
      subst P at_k (each_none 0 (λ n (g : Graph). graph_ports (λ b. true) graphs.graphs (eqb n graphs.top) g) graphs.graphs (no_faults graphs well).ports k d inside)

  module _ (k : ℕ) (d : Graph) (inside : k < length graphs.graphs) where
    abbrev g : Graph
    g = get_or graphs.graphs k d

    pub actor_fits : (a : ℕ) (e : Actor) → a < length g.actors → body_fits (λ b. true) graphs.graphs (get_or g.actors a e).body ≡ true
    actor_fits a e there =
        let actors = left_none (of_each (λ n (actor : Actor). actor_ports (λ b. true) graphs.graphs actor) g.actors) _ (no_ports k d inside) in
        unless_none _ _ (each_none 0 (λ n (actor : Actor). actor_ports (λ b. true) graphs.graphs actor) g.actors actors a e there)

    due : (i : ℕ) (e : Param) → i < length g.params → is_set_as_due (eqb k graphs.top) (get_or g.params i e).kind (count_by (λ s. eqb s i) (all_sets g.actors)) ≡ true
    due i e there =
        let params = right_none (of_each (λ n (actor : Actor). actor_ports (λ b. true) graphs.graphs actor) g.actors) _ (no_ports k d inside) in
        let at_i : 0 + i ≡ i = omega arith in
        let P : ℕ → Type 0 = λ n. param_ports (eqb k graphs.top) (all_sets g.actors) n (get_or g.params i e) ≡ [] in
        unless_none _ _ (subst P at_i (each_none 0 (param_ports (eqb k graphs.top) (all_sets g.actors)) g.params params i e there))

    some_param : (i : ℕ) → i < length g.params → Param
    some_param i there = first g.params (omega arith)
      where
        first : (params : List Param) → 0 < length params → Param
        first [] some = absurd (omega arith)
        first (p ∷ params) some = p

    pub few_sets : (a : ℕ) (e : Actor) → a < length g.actors → length (sets_of (get_or g.actors a e).body) < 2 ^ 32
    few_sets a e there =
        let body = (get_or g.actors a e).body in
        let once : (i : ℕ) → i < length g.params → count_by (λ s. eqb s i) (sets_of body) ≤ 1 = λ i h.
        let all = set_once (eqb k graphs.top) (get_or g.params i (some_param i h)).kind (count_by (λ s. eqb s i) (all_sets g.actors)) (due i (some_param i h) h) in
        let part = count_part (λ s. eqb s i) (λ (actor : Actor). sets_of actor.body) 0 g.actors a e there in
        omega arith in
        let few = few_once (length g.params) (sets_of body) (sets_inside graphs.version (length graphs.graphs) (length g.params) body ((range.each_graph k d inside).actors a e there)) once in
        let limit = (few_parts k d inside).params in
        omega arith

    pub graph_fits : (signatures : List Counts) → KernelsFit signatures graphs.graphs → GraphFits signatures graphs.graphs g
    graph_fits signatures kernels =
        let few = few_parts k d inside in
        record {
          fit = λ a e there. body_fits_so signatures graphs.graphs (get_or g.actors a e).body (kernels k d inside a e there) (actor_fits a e there) (few_sets a e there);
          few_actors = let m = few.actors in omega arith;
          few_params = let m = few.params in omega arith;
          few_fifos = let m = few.fifos in omega arith;
          few_inputs = let m = few.inputs in omega arith;
        }

  -- the top graph has no inherited parameter
  pub none_inherited : inherited_count (slice_get graphs.graphs graphs.top) ≡ 0
  none_inherited =
      let d = some_graph graphs.graphs range.top in
      let is_top : eqb graphs.top graphs.top ≡ true = eq-eqb graphs.top graphs.top refl in
      let P : Bool → Type 0 = λ b. (i : ℕ) (e : Param) → i < length (get_or graphs.graphs graphs.top d).params → is_set_as_due b (get_or (get_or graphs.graphs graphs.top d).params i e).kind (count_by (λ s. eqb s i) (all_sets (get_or graphs.graphs graphs.top d).actors)) ≡ true in
      let all = subst P is_top (due graphs.top d range.top) in
      ap inherited_count (slice_get-get_or graphs.graphs graphs.top d range.top)
      ∙ none_counted (get_or graphs.graphs graphs.top d).params (λ i e there. not_inherited (get_or (get_or graphs.graphs graphs.top d).params i e).kind _ (all i e there))
    where
      some_graph : (gs : List Graph) → graphs.top < length gs → Graph
      some_graph [] inside = absurd (omega arith)
      some_graph (g ∷ gs) inside = g
