-- The rows of an iteration of unfolded graphs stand in the order of its firings.
use Rattle.std.proofs.Common.{◌≡◌, ℕ, zero, suc, ◌+◌, ◌<◌, ◌≤◌, ℤ, List, [], ◌∷◌, ◌++◌, length, map, get_or, sum, slice_get, slice_index, Option, Some, Ok, refl, ap, sym, ◌∙◌, subst}
use Rattle.std.specs.List.{All, AllByRecursion, filter}
use Rattle.std.specs.Arc.{arc_value}
use Rattle.std.proofs.lemmas.List.{length-map}
use Rattle.std.proofs.lemmas.List.Elements.{All-cons, All-head, All-nil, All-tail}
use Rattle.std.proofs.lemmas.Option.{get_or_from_slice_get, slice_get_within}
use Rattle.firing_laws.specs.Alike.{ActorsMove, HoldsBelow, IsLevelAlike, with_interfaces}
use Rattle.firing_laws.specs.Moving.{DifferAt, IsBelow}
use Rattle.level_laws.specs.Laws.{CountsAreMultiplied}
use Rattle.level_laws.specs.Unfolded.{multiplied, unfolded}
use Rattle.param_expr.specs.Print.{Differ}
use Rattle.param_expr.specs.Words.{IsName}
use Rattle.param_resolver.specs.LevelOf.{level_args}
use Rattle.param_resolver.specs.Numbering.{acting, fires}
use Rattle.pisdf_meaning.specs.Endings.{child_path}
use Rattle.pisdf_meaning.specs.Meaning.{MeansWithin}
use Rattle.pisdf_meaning.specs.Run.{IterationGives, top_firing}
use Rattle.pisdf_meaning.specs.Running.{Fires, FiresActor, child_rows}
use Rattle.pisdf_meaning.specs.Sound.{ChildWithin}
use Rattle.pisdf_meaning.specs.States.{tokens_at}
use Rattle.pisdf_meaning.specs.declared.outcome.Iteration.{Iteration}
use Rattle.pisdf_model.specs.Details.{from_number, of_each}
use Rattle.pisdf_model.specs.Names.{actor_walk, graph_walk, scoped}
use Rattle.pisdf_model.specs.Parts.{interface_names}
use Rattle.pisdf_model.specs.Valid.{AreValid}
use Rattle.pisdf_model.specs.declared.actor.Actor.{Actor}
use Rattle.pisdf_model.specs.declared.graph.Graph.{Graph}
use Rattle.pisdf_model.specs.declared.graph.Graphs.{Graphs}
use Rattle.pisdf_model.specs.declared.graph.Interface.{Interface}
use Rattle.pisdf_model.specs.declared.names.Scope.TheVariants as scope
use Rattle.pisdf_model.specs.declared.names.ScopedName.{ScopedName}
use Rattle.sdf_level.proofs.OnlyOne.{repetition_only}
use Rattle.sdf_level.specs.Repetition.{IsRepetition}
use Rattle.sdf_level.specs.View.{LevelView}
use Rattle.unfold_rates.specs.Cut.{IsUnfolded}
use Rattle.unfold_rates.specs.Exact.{IsExact, own_values, top_level}
use Rattle.unfold_rates.specs.Multiplied.{multiplied_at, multiplied_graph, multiplied_interface, unfolded_graphs}
use Rattle.unfold_rates.specs.Spans.{AreInOrder}
use Rattle.unfold_rates.specs.declared.unfolded.Unfolded.{Unfolded}
use Rattle.sdf_level.specs.Limits.{firings_limit}
use Rattle.unfold_rates.proofs.Distinct.{names_differ}
use Rattle.unfold_rates.proofs.Fired.{firing_done}
use Rattle.unfold_rates.proofs.Fitted.{EarlyUnfolds, fit_as_before, opened, opened', top_is', valid'}
use Rattle.unfold_rates.proofs.MultipliedRates.{needs_multiply, outputs_multiply}
use Rattle.unfold_rates.proofs.TopRuns.{TopRan, top_ran}
use Rattle.unfold_rates.proofs.UnfoldedLevel.{level_unfolds}
use Rattle.unfold_rates.proofs.Unset.{NoneConfigures, first_configures_nothing, others_configure_nothing}
use Rattle.unfold_rates.proofs.MovedRows.{moved_within}
use Rattle.unfold_rates.proofs.Within.{AllWithin}

-- ---- names of actors

all_left : {X : Type 0} (P : X → Type 0) (xs ys : List X) → All P (xs ++ ys) → All P xs
all_left P [] ys all = All-nil P
all_left P (x ∷ xs) ys all = All-cons P x xs (All-head P x (xs ++ ys) all) (all_left P xs ys (All-tail P x (xs ++ ys) all))

all_right : {X : Type 0} (P : X → Type 0) (xs ys : List X) → All P (xs ++ ys) → All P ys
all_right P [] ys all = all
all_right P (x ∷ xs) ys all = all_right P xs ys (All-tail P x (xs ++ ys) all)

abbrev Named : ScopedName → Type 0
Named name = IsName name.name

walks_named : (n a : ℕ) (actors : List Actor) → All Named (from_number a (λ a (actor : Actor). actor_walk n a actor) actors) → All (λ (x : Actor). IsName x.name) actors
walks_named n a [] all = All-nil (λ (x : Actor). IsName x.name)
walks_named n a (actor ∷ actors) all =
    All-cons (λ (x : Actor). IsName x.name) actor actors
    (All-head Named _ _ (all_left Named (actor_walk n a actor) (from_number (a + 1) (λ a (actor : Actor). actor_walk n a actor) actors) all))
    (walks_named n (a + 1) actors (all_right Named (actor_walk n a actor) (from_number (a + 1) (λ a (actor : Actor). actor_walk n a actor) actors) all))

graph_named : (n : ℕ) (g : Graph) → All Named (graph_walk n g) → All (λ (x : Actor). IsName x.name) g.actors
graph_named n g all =
    let s = scope.Parts n in
    let params = scoped s (map (λ p. p.name) g.params) in
    let inputs = scoped s (interface_names g.inputs) in
    let outputs = scoped s (interface_names g.outputs) in
    let actors = of_each (λ a (actor : Actor). actor_walk n a actor) g.actors in
    walks_named n 0 g.actors (all_right Named outputs actors (all_right Named inputs (outputs ++ actors) (all_right Named params (inputs ++ (outputs ++ actors)) (All-tail Named _ (params ++ (inputs ++ (outputs ++ actors))) all))))

graphs_named : (n : ℕ) (graphs : List Graph) (place : ℕ) (g : Graph) → All Named (from_number n (λ n (g : Graph). graph_walk n g) graphs) → slice_get graphs place ≡ Some g → All (λ (x : Actor). IsName x.name) g.actors
graphs_named n [] place g all here = absurd (cc)
graphs_named n (x ∷ graphs) zero g all here =
    let same : x ≡ g = cc in
    let P : Graph → Type 0 = λ y. All (λ (a : Actor). IsName a.name) y.actors in
    subst P same (graph_named n x (all_left Named (graph_walk n x) (from_number (n + 1) (λ n (g : Graph). graph_walk n g) graphs) all))
graphs_named n (x ∷ graphs) (suc place) g all here = graphs_named (n + 1) graphs place g (all_right Named (graph_walk n x) (from_number (n + 1) (λ n (g : Graph). graph_walk n g) graphs) all) here

-- ---- actors that all act

pub all_act : (actors : List Actor) → NoneConfigures actors → filter fires actors ≡ actors
all_act [] all = refl
all_act (actor ∷ actors) all = rw (first_configures_nothing actor actors all) (ap (λ (l : List Actor). actor ∷ l) (all_act actors (others_configure_nothing actor actors all)))

pub held_at : (P : Actor → Type 0) (actors : List Actor) → AllByRecursion P actors → (n : ℕ) (x : Actor) → slice_get actors n ≡ Some x → P x
held_at P [] all n x is = absurd (cc)
held_at P (actor ∷ actors) all zero x is = let same : actor ≡ x = cc in subst P same all.0
held_at P (actor ∷ actors) all (suc n) x is = held_at P actors all.1 n x is

pub others_stay : (times top : ℕ) (gs : List Graph) → DifferAt top gs (multiplied_at times top gs)
others_stay times top [] place apart = refl
others_stay times zero (g ∷ gs) zero apart = absurd (apart refl)
others_stay times zero (g ∷ gs) (suc place) apart = refl
others_stay times (suc top) (g ∷ gs) zero apart = refl
others_stay times (suc top) (g ∷ gs) (suc place) apart = others_stay times top gs place (λ e. apart (ap suc e))

-- ---- the laws that are used

abbrev pub AreBelow : Type 0
AreBelow = (graphs : Graphs) (top : ℕ) (g : Graph) → AreValid graphs → slice_get graphs.graphs top ≡ Some g → HoldsBelow graphs.graphs top g

abbrev pub AreAlike : Type 0
AreAlike = (top : ℕ) (one other : List Graph) (g : Graph) (inputs outputs : List Interface) → DifferAt top one other → HoldsBelow one top g → length inputs ≡ length g.inputs → IsLevelAlike one other g (with_interfaces inputs outputs g)

abbrev pub TheyMove : Type 0
TheyMove = (n : ℕ) (top : ℕ) (one other : List Graph) → DifferAt top one other → ActorsMove n top one other

module _ (unfolds : EarlyUnfolds) (counted : CountsAreMultiplied) (below : AreBelow) (alike : AreAlike) (move : TheyMove) (graphs : Graphs) (times : ℕ) (some : 1 ≤ times) (few : times ≤ 64) (valid : AreValid graphs) (exact : IsExact graphs times) where
  abbrev others : Graphs
  others = unfolded_graphs graphs times

  abbrev g : Graph
  g = exact.top

  abbrev h : Graph
  h = multiplied_graph times exact.top

  abbrev level : LevelView
  level = top_level graphs exact.top

  others_valid : AreValid others
  others_valid = valid' unfolds graphs times few valid exact

  pub h_is : slice_get others.graphs graphs.top ≡ Some h
  h_is = top_is' unfolds graphs times few valid exact

  -- the level of the unfolded top graph is the unfolded level
  pub is_alike : IsLevelAlike graphs.graphs others.graphs g h
  is_alike =
      alike graphs.top graphs.graphs others.graphs g (map (multiplied_interface times) g.inputs) (map (multiplied_interface times) g.outputs) (others_stay times graphs.top graphs.graphs)
      (below graphs graphs.top g valid exact.top_is) (length-map g.inputs (multiplied_interface times))

  pub level_is : top_level others h ≡ unfolded times level
  level_is =
      level_unfolds times graphs.graphs others.graphs graphs.top g exact.configures_nothing (opened unfolds graphs times few valid exact) (opened' unfolds graphs times few valid exact)
      (needs_multiply times few graphs.graphs others.graphs graphs.top g (opened unfolds graphs times few valid exact) (opened' unfolds graphs times few valid exact) exact.configures_nothing exact.early exact.inputs exact.outputs)
      (outputs_multiply times few graphs.graphs others.graphs graphs.top g (opened unfolds graphs times few valid exact) (opened' unfolds graphs times few valid exact) exact.configures_nothing exact.early exact.inputs exact.outputs)
      (is_alike.links (own_values g))

  module _ (ins state : List (List ℤ)) (iteration : Iteration) (left : List (List ℤ)) (gives : IterationGives others ins state iteration left) where
    pub run_of : TopRan others h ins state iteration left
    run_of = top_ran unfolds others others_valid h h_is exact.configures_nothing (fit_as_before unfolds graphs times few valid exact).sound ins state iteration left gives

    pub counts_so : run_of.schedule.counts ≡ multiplied times exact.schedule.counts
    counts_so =
        let P : LevelView → Type 0 = λ l. IsRepetition l run_of.schedule.counts in
        repetition_only (unfolded times level) run_of.schedule.counts (multiplied times exact.schedule.counts) (subst P level_is run_of.scheduled.repetition) (counted times level exact.schedule.counts some exact.is_exact.exact)

    pub held : HoldsBelow others.graphs graphs.top h
    held = below others graphs.top h others_valid h_is

    each_within : (b k : ℕ) (actor : Actor) → slice_get g.actors b ≡ Some actor → k < slice_index run_of.schedule.counts b → AllWithin (child_path g.name actor.name k) (run_of.traces b k)
    each_within b k actor is inside =
        let firing = top_firing h graphs.top ins state in
        let done = firing_done (top_level others h) run_of.schedule.counts (Fires others.graphs (MeansWithin 7 others.graphs) h firing (own_values h) run_of.traces) _ _ run_of.ended run_of.level_run b k inside in
        let acts : slice_get (acting h) b ≡ Some actor = ap (λ (l : List Actor). slice_get l b) (all_act g.actors exact.configures_nothing) ∙ is in
        let P : Option Actor → Type 0 = λ o. FiresActor others.graphs (MeansWithin 7 others.graphs) firing (own_values h) (tokens_at (level_args h (own_values h)) b) o k (run_of.traces b k) done.0 (Ok done.1) in
        let moved = move 7 graphs.top others.graphs others.graphs (λ place apart. refl) firing firing (own_values h) (tokens_at (level_args h (own_values h)) b) actor k k (run_of.traces b k) done.0 done.1
        (held_at (λ (a : Actor). ChildWithin (IsBelow others.graphs graphs.top) a.body) g.actors held b actor is) (subst P acts done.2) in
        moved_within (child_path g.name actor.name k) (child_path g.name actor.name k) (run_of.traces b k) moved.0 moved.2

    pub in_order : AreInOrder h (multiplied times exact.schedule.counts) iteration.trace
    in_order =
        let d = exact.top in
        let inside = slice_get_within graphs.graphs graphs.top g exact.top_is in
        let own : get_or graphs.graphs graphs.top d ≡ g = get_or_from_slice_get graphs.graphs graphs.top g d exact.top_is in
        let D : Graph → Type 0 = λ x. Differ (map (λ (a : Actor). a.name) x.actors) in
        let C : List ℕ → Type 0 = λ counts. iteration.trace ≡ child_rows counts run_of.traces 0 g.actors [] in
        record {
          configures_nothing = exact.configures_nothing;
          named = graphs_named 0 graphs.graphs graphs.top g valid.named exact.top_is;
          differ = subst D own (names_differ graphs valid.well_formed graphs.top d inside);
          traces = run_of.traces;
          rows_are = subst C counts_so run_of.trace_is;
          within = λ b k actor is inside. each_within b k actor is (let P : List ℕ → Type 0 = λ counts. k < slice_index counts b in subst P (sym counts_so) inside);
        }

    pub traces_are : in_order.traces ≡ run_of.traces
    unfolding in_order
    traces_are = refl

-- ---- of what was unfolded

module _ (unfolds : EarlyUnfolds) (counted : CountsAreMultiplied) (below : AreBelow) (alike : AreAlike) (move : TheyMove) (graphs : Graphs) (u : Unfolded) (valid : AreValid graphs) (is : IsUnfolded graphs u.times u) where
  abbrev top : Graph
  top = multiplied_graph u.times is.exact.top

  pub top_there : slice_get (arc_value u.graphs).graphs (arc_value u.graphs).top ≡ Some top
  top_there = let P : Graphs → Type 0 = λ x. slice_get x.graphs x.top ≡ Some top in subst P (sym is.graphs_are) (h_is unfolds counted below alike move graphs u.times is.some is.few valid is.exact)

  pub counts_long : length u.counts ≡ length top.actors
  counts_long =
      ap (λ (l : List ℕ). length l) is.counts_are ∙ is.exact.is_exact.exact.repetition.multiplied.one_each ∙ ap (λ (l : List Actor). length l) (all_act is.exact.top.actors is.exact.configures_nothing)

  pub counts_few : sum (multiplied u.times u.counts) ≤ firings_limit
  counts_few = let P : List ℕ → Type 0 = λ l. sum (multiplied u.times l) ≤ firings_limit in subst P (sym is.counts_are) is.exact.is_exact.within.firings

  pub rows_in_order : (ins state : List (List ℤ)) (iteration : Iteration) (left : List (List ℤ)) → IterationGives (arc_value u.graphs) ins state iteration left → AreInOrder top (multiplied u.times u.counts) iteration.trace
  rows_in_order ins state iteration left gives =
      let P : Graphs → Type 0 = λ x. IterationGives x ins state iteration left in
      let Q : List ℕ → Type 0 = λ l. AreInOrder top (multiplied u.times l) iteration.trace in
      subst Q (sym is.counts_are) (in_order unfolds counted below alike move graphs u.times is.some is.few valid is.exact ins state iteration left (subst P is.graphs_are gives))

  -- the graph at the place of the top one has what is asked of it
  pub record MayBeCut (x : Graph) (iteration : Iteration) : Type 0 where
    pub there : slice_get (arc_value u.graphs).graphs (arc_value u.graphs).top ≡ Some x
    pub long : length u.counts ≡ length x.actors
    pub few : sum (multiplied u.times u.counts) ≤ firings_limit
    pub order : AreInOrder x (multiplied u.times u.counts) iteration.trace

  pub may_be_cut : (ins state : List (List ℤ)) (iteration : Iteration) (left : List (List ℤ)) → IterationGives (arc_value u.graphs) ins state iteration left → (x : Graph) → slice_get (arc_value u.graphs).graphs (arc_value u.graphs).top ≡ Some x → MayBeCut x iteration
  may_be_cut ins state iteration left gives x there =
      let same : top ≡ x = let e = sym top_there ∙ there in cc in
      let P : Graph → Type 0 = λ y. MayBeCut y iteration in
      subst P same record { there = top_there; long = counts_long; few = counts_few; order = rows_in_order ins state iteration left gives }

  pub top_inside : (arc_value u.graphs).top < length (arc_value u.graphs).graphs
  top_inside = slice_get_within (arc_value u.graphs).graphs (arc_value u.graphs).top top top_there
