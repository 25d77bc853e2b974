-- Steps of the recursion over graphs nested in each other.
use Rattle.std.proofs.Common.{◌≡◌, ℕ, zero, suc, ◌+◌, ◌-◌, ◌<◌, ◌≤◌, ℤ, Bool, true, false, if◌then◌else◌, ⊎_elim, slice_index, List, [], ◌∷◌, ◌++◌, length, map, get_or, slice_get, Some, Result, Ok, Err, IfOk, IfErr, ◌⊎◌, inl, inr, refl, ap, sym, ◌∙◌, subst, arith}
use Rattle.std.specs.List.{All, flat_map}
use Rattle.std.proofs.lemmas.Bool.{cases_lt, eq-eqb}
use Rattle.std.proofs.lemmas.List.{get_or-map, get_or_past, length-append, length-map}
use Rattle.kernel_gate.specs.Signed.{Counts}
use Rattle.level_schedule.specs.Schedules.{IsScheduled}
use Rattle.level_schedule.specs.declared.scheduling.LevelSchedule.{LevelSchedule}
use Rattle.param_resolver.specs.LevelOf.{fifo_links, level_at, link_of, links_of, sources_of, state_link, state_links}
use Rattle.param_resolver.specs.Numbering.{has_state, is_kept, source_inputs}
use Rattle.param_resolver.specs.EarlyView.{EarlyView}
use Rattle.pisdf_model.specs.Details.{from_number, of_each}
use Rattle.pisdf_model.specs.InterfaceWires.{is_configuration}
use Rattle.pisdf_model.specs.declared.actor.Actor.{Actor}
use Rattle.pisdf_model.specs.declared.fifo.Fifo.{Fifo}
use Rattle.pisdf_model.specs.declared.graph.Graph.{Graph}
use Rattle.pisdf_model.specs.declared.graph.Graphs.{Graphs}
use Rattle.sdf_level.specs.View.{LevelView}
use Rattle.sdf_level.specs.Firings.{actors_of, firings}
use Rattle.sdf_level.specs.Invariants.{how_many}
use Rattle.sdf_level.specs.LevelRun.{end_of}
use Rattle.sdf_level.specs.Run.{input, inputs, inputs_below, is_into_actor}
use Rattle.sdf_level.specs.declared.link.Link.{Link}
use Rattle.sdf_level.specs.declared.turn.Turn.{Turn}
use Rattle.pisdf_meaning.specs.Configuring.{Configures, Leaves, configurations, early_in}
use Rattle.pisdf_meaning.specs.Endings.{Answers, End, Ends, IfRefused}
use Rattle.pisdf_meaning.specs.Meaning.{FiresGraph, MeansWithin}
use Rattle.pisdf_meaning.specs.Nested.{HaveLeft, Holds, IsUnderway, actor_fires, configuration_at, outs_count, rates_count}
use Rattle.pisdf_meaning.specs.PartsOf.{ArePartsOf}
use Rattle.pisdf_meaning.specs.Planned.{IsPlanned, LevelRefused, PlanRefused}
use Rattle.pisdf_meaning.specs.Preparing.{Schedules, level_in, rated, resolved}
use Rattle.pisdf_meaning.specs.Prepared.{IsPrepared}
use Rattle.pisdf_meaning.specs.Running.{HaveRows, RunsLevel, Traces, actor_starts, fifo_starts, given_by, link_starts, source_tokens, traces_below}
use Rattle.pisdf_meaning.specs.Turns.{HasRun, MeetsRefusal}
use Rattle.pisdf_meaning.specs.Sound.{GraphFits, IsConfiguration, actor_at}
use Rattle.pisdf_meaning.specs.States.{actor_list, begins_with, tokens_at}
use Rattle.pisdf_meaning.specs.declared.firing.Configured.{Configured}
use Rattle.pisdf_meaning.specs.declared.firing.Firing.{Firing}
use Rattle.pisdf_meaning.specs.declared.firing.Given.{Given}
use Rattle.pisdf_meaning.specs.declared.outcome.TraceRow.{TraceRow}
use Rattle.param_resolver.specs.declared.level_set.LevelSet.{LevelSet}
use Rattle.pisdf_meaning.specs.declared.parts.Prepared.{Prepared}
use Rattle.pisdf_meaning.specs.declared.planning.Planned.{Planned}
use Rattle.pisdf_meaning.specs.declared.refusal.PlainFault.{PlainFault}
use Rattle.pisdf_meaning.specs.declared.refusal.PlainFault.TheVariants.{Refused, Memory}
use Rattle.pisdf_meaning.specs.declared.refusal.Refusal.{Refusal}
use Rattle.pisdf_meaning.proofs.AtActors.{holds_of}
use Rattle.pisdf_meaning.proofs.FileOrder.{length-kept_at}
use Rattle.pisdf_meaning.proofs.OneByOne.{is_configuration_here, left_next, left_refused}
use Rattle.pisdf_meaning.proofs.StepByStep.{fired_so, level_given, level_refused, refused_rating, refused_resolving, refused_scheduling}

-- ---- from a graph to those that it holds

pub means_here : (n : ℕ) (graphs : List Graph) (g : Graph) (firing : Firing) (end : End) → 0 < n → slice_get graphs firing.graph ≡ Some g → FiresGraph graphs (MeansWithin (n - 1) graphs) g firing end → MeansWithin n graphs firing end
means_here zero graphs g firing end some here fires = absurd (omega arith)
means_here (suc n) graphs g firing end some here fires =
    let less : suc n - 1 ≡ n = omega arith in
    let P : ℕ → Type 0 = λ m. FiresGraph graphs (MeansWithin m graphs) g firing end in
    (g, here, subst P less fires)

pub holds_here : (signatures : List Counts) (n : ℕ) (graphs : Graphs) (g : Graph) (firing : Firing) (early : EarlyView) → IsUnderway signatures n graphs g firing early → Holds signatures n graphs g
holds_here signatures n graphs g firing early underway = record {
  can = underway.can;
  here = holds_of (λ (x : Graph). GraphFits signatures graphs.graphs x) graphs.graphs firing.graph g underway.here underway.can.fit.fit;
  nests = underway.nests;
}

-- ---- the firings of a schedule

one_of : (list : List ℕ) (i : ℕ) → i < length list → 0 < firings (get_or list i 0) list
one_of [] i h = absurd (omega arith)
one_of (b ∷ list) zero h = rw (eq-eqb b b refl) (omega arith)
one_of (b ∷ list) (suc i) h = let more = one_of list i (omega arith) in omega arith

pub turns_inside : (level : LevelView) (s : LevelSchedule) → IsScheduled level s → All (λ (t : Turn). t.actor < level.actors) s.order
turns_inside level s is i d h =
    let own : get_or (actors_of s.order) i 0 ≡ (get_or s.order i d).actor = get_or-map (λ (t : Turn). t.actor) s.order i d 0 h in
    let long = length-map s.order (λ (t : Turn). t.actor) in
    let some = one_of (actors_of s.order) i (omega arith) in
    let count = is.order.order.admissible.counts (get_or s.order i d).actor in
    let counted : 0 < get_or s.counts (get_or s.order i d).actor 0 = let e = ap (λ a. firings a (actors_of s.order)) own in omega arith in
    ⊎_elim
    (λ (inside : (get_or s.order i d).actor < level.actors). inside)
    (λ (past : level.actors ≤ (get_or s.order i d).actor).
    let none = get_or_past s.counts (get_or s.order i d).actor 0 (let e = is.repetition.multiplied.one_each in omega arith) in
    absurd (omega arith))
    (cases_lt (get_or s.order i d).actor level.actors)

-- ---- the links of a level, and with what they begin

more_of : {A B : Type 0} (b : Bool) (x : A) (y : B) (xs : List A) (ys : List B) → length xs ≡ length ys → length ((if b then x ∷ [] else []) ++ xs) ≡ length ((if b then y ∷ [] else []) ++ ys)
more_of true x y xs ys same = ap suc same
more_of false x y xs ys same = same

fifos_long : (graphs : List Graph) (g : Graph) (values : List ℤ) (state : List (List ℤ)) (n m : ℕ) (fifos : List Fifo) → length (fifo_starts g state n fifos) ≡ length (from_number m (λ i f. fifo_links graphs g values f) fifos)
fifos_long graphs g values state n m [] = refl
fifos_long graphs g values state n m (f ∷ fifos) = more_of (is_kept g f) (begins_with f.life f.delay (tokens_at state n)) (link_of graphs g values f) _ _ (fifos_long graphs g values state (n + 1) (m + 1) fifos)

actors_long : (graphs : List Graph) (g : Graph) (state : List (List ℤ)) (n m : ℕ) (actors : List Actor) → length (actor_starts graphs g state n actors) ≡ length (from_number m (λ a actor. state_links graphs g a actor) actors)
actors_long graphs g state n m [] = refl
actors_long graphs g state n m (x ∷ actors) = more_of (has_state graphs x) (actor_list g state n) (state_link graphs g m x.body) _ _ (actors_long graphs g state (n + 1) (m + 1) actors)

pub starts_long : (graphs : List Graph) (g : Graph) (firing : Firing) (values : List ℤ) → length (link_starts graphs g firing) ≡ length (links_of graphs g values)
starts_long graphs g firing values =
    let fifos = fifos_long graphs g values firing.state 0 0 g.fifos in
    let actors = actors_long graphs g firing.state 0 0 g.actors in
    let l = length-append (fifo_starts g firing.state 0 g.fifos) (actor_starts graphs g firing.state 0 g.actors) in
    let r = length-append (of_each (λ i f. fifo_links graphs g values f) g.fifos) (of_each (λ a actor. state_links graphs g a actor) g.actors) in
    omega arith

-- there are tokens for each source
pub sources_long : (g : Graph) (firing : Firing) (configured : List Configured) (early : EarlyView) → outs_count configured ≡ rates_count early.outs → length (source_tokens g firing configured) ≡ length (sources_of g early)
sources_long g firing configured early same =
    let l = length-append (map (λ i. tokens_at firing.inputs i) (source_inputs g)) (flat_map (λ (one : Configured). one.outs) configured) in
    let r = length-append (map (λ i. slice_index early.inputs i) (source_inputs g)) (flat_map (λ (rates : List ℕ). rates) early.outs) in
    let m = length-map (source_inputs g) (λ i. tokens_at firing.inputs i) in
    let n = length-map (source_inputs g) (λ i. slice_index early.inputs i) in
    omega arith

-- a firing reads a list at each port
length-inputs_below : (sources : List (List ℤ)) (b k n : ℕ) (links : List Link) (lines : List (List ℤ)) → length (inputs_below sources b k n links lines) ≡ n
length-inputs_below sources b k zero links lines = refl
length-inputs_below sources b k (suc n) links lines =
    let again = length-inputs_below sources b k n links lines in
    let more = length-append (inputs_below sources b k n links lines) (input sources b k n links lines ∷ []) in
    omega arith

pub length-inputs : (sources : List (List ℤ)) (b k : ℕ) (links : List Link) (lines : List (List ℤ)) → length (inputs sources b k links lines) ≡ how_many (is_into_actor b) links
length-inputs sources b k links lines = length-inputs_below sources b k (how_many (is_into_actor b) links) links lines

-- ---- what a firing gives

pub given_here : (graphs items : List Graph) (g : Graph) (firing : Firing) (configured : List Configured) (q : List ℕ) (traces : Traces) (values known : List ℤ) (counts counted : List ℕ) (level : LevelView) (lines outs left : List (List ℤ)) →
    items ≡ graphs → known ≡ values → counted ≡ counts → record { outs = outs; left = left } ≡ end_of level counted lines →
    given_by items g firing configured known q traces record { outs = outs; left = left } ≡ given_by graphs g firing configured values q traces (end_of level counts lines)
given_here graphs items g firing configured q traces values known counts counted level lines outs left items_are known_is counted_are ends_so =
    let end : record { outs = outs; left = left } ≡ end_of level counts lines = ends_so ∙ ap (λ (n : List ℕ). end_of level n lines) counted_are in
    ap (λ (l : List Graph). given_by l g firing configured known q traces record { outs = outs; left = left }) items_are
    ∙ ap (λ (v : List ℤ). given_by graphs g firing configured v q traces record { outs = outs; left = left }) known_is ∙ ap (given_by graphs g firing configured values q traces) end

-- ---- the plan of a level

pub parts_here : (graphs items : List Graph) (g : Graph) (firing : Firing) (early : EarlyView) (values known : List ℤ) (parts : LevelSet) → items ≡ graphs → early ≡ early_in graphs firing → known ≡ values →
    ArePartsOf graphs g early known parts → ArePartsOf items g (early_in items firing) values parts
parts_here graphs items g firing early values known parts items_are early_is known_is are =
    let P : List Graph → Type 0 = λ l. ArePartsOf l g (early_in l firing) values parts in
    let Q : EarlyView → Type 0 = λ e. ArePartsOf graphs g e values parts in
    let R : List ℤ → Type 0 = λ v. ArePartsOf graphs g early v parts in
    subst P (sym items_are) (subst Q early_is (subst R known_is are))

module _ (graphs : List Graph) (g : Graph) (firing : Firing) (early : EarlyView) (early_is : early ≡ early_in graphs firing) (configured : List Configured)
    (values known : List ℤ) (known_is : known ≡ values) (values_are : Ok values ≡ resolved graphs g firing configured) where
  pub plan_unrated : (refusal : Refusal) → rated graphs g firing known ≡ Err refusal → PlanRefused graphs g firing configured refusal
  plan_unrated refusal is =
      let P : List ℤ → Type 0 = λ v. rated graphs g firing v ≡ Err refusal in
      inr (values, values_are, inl (subst P known_is is))

  module _ (parts : LevelSet) (are : ArePartsOf graphs g early known parts) (rated_so : rated graphs g firing known ≡ Ok known) where
    rated_values : rated graphs g firing values ≡ Ok values
    rated_values = let P : List ℤ → Type 0 = λ v. rated graphs g firing v ≡ Ok v in subst P known_is rated_so

    level_so : parts.level ≡ level_in graphs g firing values
    level_so = are.level ∙ ap (λ (e : EarlyView). level_at graphs g e known) early_is ∙ ap (level_in graphs g firing) known_is

    pub plan_unscheduled : (refusal : Refusal) → Schedules g firing parts.level (Err refusal) → PlanRefused graphs g firing configured refusal
    plan_unscheduled refusal is =
        let P : LevelView → Type 0 = λ l. Schedules g firing l (Err refusal) in
        inr (values, values_are, inr (rated_values, subst P level_so is))

    pub plan_made : (items : List Graph) (s : LevelSchedule) (p : Prepared) → items ≡ graphs → IsScheduled parts.level s → IsPrepared items g firing p → p.parts ≡ parts → p.values ≡ values → p.sources ≡ source_tokens g firing configured →
        IsPlanned graphs g firing configured record { prepared = p; schedule = s }
    plan_made items s p items_are is prepared parts_are same sources =
        let P : List ℤ → Type 0 = λ v. Ok v ≡ resolved graphs g firing configured in
        let Q : List ℤ → Type 0 = λ v. rated graphs g firing v ≡ Ok v in
        let R : List Graph → Type 0 = λ l. IsPrepared l g firing p in
        let S : LevelSet → Type 0 = λ q. IsScheduled q.level s in
        record {
          values = subst P (sym same) values_are;
          rates = subst Q (sym same) rated_values;
          prepared = subst R items_are prepared;
          sources = sources;
          schedule = subst S (sym parts_are) is;
        }

-- ---- the run of a level

module _ (graphs : List Graph) (ends : Ends) (g : Graph) (firing : Firing) (configured : List Configured) (p : Prepared) (prepared : IsPrepared graphs g firing p) (sources_are : p.sources ≡ source_tokens g firing configured)
    (s : LevelSchedule) (is : IsScheduled p.parts.level s) where
  run_refused : (refusal : Refusal) → MeetsRefusal p.parts.level (actor_fires graphs ends g firing p.values) p.sources (link_starts graphs g firing) (actors_of s.order) refusal → RunsLevel graphs ends g firing configured p.values s.counts (Err refusal)
  run_refused refusal meets =
      let P : List (List ℤ) → Type 0 = λ l. MeetsRefusal p.parts.level (actor_fires graphs ends g firing p.values) l (link_starts graphs g firing) (actors_of s.order) refusal in
      level_refused graphs ends g firing configured p.values p.parts.level prepared.parts.level s is refusal (subst P sources_are meets)

  module _ (lines : List (List ℤ)) (rows : List (List TraceRow)) (given : Given) (run : HasRun p.parts.level (actor_fires graphs ends g firing p.values) p.sources (link_starts graphs g firing) (actors_of s.order) lines rows)
      (gives : (traces : Traces) → HaveRows s.counts traces rows → given ≡ given_by graphs g firing configured p.values s.counts traces (end_of p.parts.level s.counts lines)) where
    run_gives : RunsLevel graphs ends g firing configured p.values s.counts (Ok given)
    run_gives =
        let P : List (List ℤ) → Type 0 = λ l. HasRun p.parts.level (actor_fires graphs ends g firing p.values) l (link_starts graphs g firing) (actors_of s.order) lines rows in
        level_given graphs ends g firing configured p.values p.parts.level prepared.parts.level s is lines rows given (subst P sources_are run) gives

    given_outs : length given.outs ≡ length p.parts.level.sinks
    given_outs =
        let have : HaveRows s.counts run.traces rows = λ b. run.rows_are b ∙ ap (traces_below (run.traces b)) (is.order.order.admissible.counts b) in
        ap (λ (x : Given). length x.outs) (gives run.traces have) ∙ length-kept_at 0 p.parts.level.sinks p.parts.level.links lines

-- ---- the firing of a graph

module _ (graphs : List Graph) (ends : Ends) (g : Graph) (firing : Firing) (configured slice : List Configured) (slice_is : slice ≡ configured) (all : Configures graphs ends g firing (Ok configured)) where
  all_so : Configures graphs ends g firing (Ok slice)
  all_so = let P : List Configured → Type 0 = λ l. Configures graphs ends g firing (Ok l) in subst P (sym slice_is) all

  level_stops : (refusal : Refusal) (values : List ℤ) → Ok values ≡ resolved graphs g firing slice → LevelRefused graphs g firing values refusal → FiresGraph graphs ends g firing (Err refusal)
  level_stops refusal values are (inl is) = refused_rating graphs ends g firing slice all_so values are refusal is
  level_stops refusal values are (inr both) = refused_scheduling graphs ends g firing slice all_so values are both.0 refusal both.1

  pub plan_stops : (refusal : Refusal) → PlanRefused graphs g firing slice refusal → FiresGraph graphs ends g firing (Err refusal)
  plan_stops refusal (inl is) = refused_resolving graphs ends g firing slice all_so refusal is
  plan_stops refusal (inr known) = level_stops refusal known.0 known.1 known.2

  module _ (p : Planned) (plan : IsPlanned graphs g firing slice p) where
    ran : (end : End) → RunsLevel graphs ends g firing slice p.prepared.values p.schedule.counts end → FiresGraph graphs ends g firing end
    ran end runs =
        let P : LevelView → Type 0 = λ l. IsScheduled l p.schedule in
        fired_so graphs ends g firing slice all_so p.prepared.values plan.values plan.rates p.schedule end (subst P plan.prepared.parts.level plan.schedule) runs

    pub run_stops : (order : List Turn) → order ≡ p.schedule.order → (refusal : Refusal) →
        MeetsRefusal p.prepared.parts.level (actor_fires graphs ends g firing p.prepared.values) p.prepared.sources (link_starts graphs g firing) (actors_of order) refusal → FiresGraph graphs ends g firing (Err refusal)
    run_stops order order_is refusal meets =
        let P : List Turn → Type 0 = λ l. MeetsRefusal p.prepared.parts.level (actor_fires graphs ends g firing p.prepared.values) p.prepared.sources (link_starts graphs g firing) (actors_of l) refusal in
        ran (Err refusal) (run_refused graphs ends g firing slice p.prepared plan.prepared plan.sources p.schedule plan.schedule refusal (subst P order_is meets))

    module _ (order : List Turn) (order_is : order ≡ p.schedule.order) (lines : List (List ℤ)) (rows : List (List TraceRow))
        (run : HasRun p.prepared.parts.level (actor_fires graphs ends g firing p.prepared.values) p.prepared.sources (link_starts graphs g firing) (actors_of order) lines rows) where
      run_so : HasRun p.prepared.parts.level (actor_fires graphs ends g firing p.prepared.values) p.prepared.sources (link_starts graphs g firing) (actors_of p.schedule.order) lines rows
      run_so = let P : List Turn → Type 0 = λ l. HasRun p.prepared.parts.level (actor_fires graphs ends g firing p.prepared.values) p.prepared.sources (link_starts graphs g firing) (actors_of l) lines rows in subst P order_is run

      abbrev pub Gives : Result Given PlainFault → Type 0
      Gives result = (q : List ℕ) (traces : Traces) → HaveRows q traces rows → IfOk result (λ given. given ≡ given_by graphs g firing slice p.prepared.values q traces (end_of p.prepared.parts.level p.schedule.counts lines))

      pub run_ends : (result : Result Given PlainFault) → Gives result → IfErr result (IfRefused (λ refusal. ⊥)) → Answers (FiresGraph graphs ends g firing) result
      run_ends (Ok given) gives never = ran (Ok given) (run_gives graphs ends g firing slice p.prepared plan.prepared plan.sources p.schedule plan.schedule lines rows given run_so (gives p.schedule.counts))
      run_ends (Err (Refused refusal)) gives never = absurd never
      run_ends (Err Memory) gives never = tt

      pub run_fills : (count : ℕ) → length p.prepared.parts.level.sinks ≡ count → (result : Result Given PlainFault) → Gives result → IfOk result (λ given. length given.outs ≡ count)
      run_fills count is (Ok given) gives = given_outs graphs ends g firing slice p.prepared plan.prepared plan.sources p.schedule plan.schedule lines rows given run_so (gives p.schedule.counts) ∙ is
      run_fills count is (Err fault) gives = tt

-- ---- configuration actors

module _ (graphs : List Graph) (ends : Ends) (g : Graph) (firing : Firing) (early : EarlyView) (place : ℕ) (before : List Configured) (inside : place < length g.actors) (left : HaveLeft graphs ends g firing early place before)
    (x : Actor) (x_is : x ≡ actor_at g place) (is : is_configuration x.body ≡ true) (number : ℕ) (number_is : number ≡ length before) where
  is_here : is_configuration (actor_at g place).body ≡ true
  is_here = let P : Actor → Type 0 = λ y. is_configuration y.body ≡ true in subst P x_is is

  leaves_here : (one : Result Configured Refusal) → Leaves graphs ends g firing (configuration_at g number place) x.body one → Leaves graphs ends g firing (configuration_at g (length before) place) (actor_at g place).body one
  leaves_here one leaves =
      let P : ℕ → Type 0 = λ m. Leaves graphs ends g firing (configuration_at g m place) (actor_at g place).body one in
      let Q : Actor → Type 0 = λ y. Leaves graphs ends g firing (configuration_at g number place) y.body one in
      subst P number_is (subst Q x_is leaves)

  pub number_here : IsConfiguration g number place
  number_here = let P : ℕ → Type 0 = λ m. IsConfiguration g m place in subst P (sym number_is) (is_configuration_here graphs ends g firing early place before inside left is_here)

  pub refused_here : (refusal : Refusal) → Leaves graphs ends g firing (configuration_at g number place) x.body (Err refusal) → Configures graphs ends g firing (Err refusal)
  refused_here refusal leaves = left_refused graphs ends g firing early place before inside left is_here refusal (leaves_here (Err refusal) leaves)

  pub left_here : (one : Configured) (now : List Configured) → length early.outs ≡ length (configurations g) → Leaves graphs ends g firing (configuration_at g number place) x.body (Ok one) →
      length one.outs ≡ length (get_or early.outs number []) → now ≡ before ++ one ∷ [] → HaveLeft graphs ends g firing early (place + 1) now
  left_here one now known leaves outs now_is =
      let P : List Configured → Type 0 = λ l. HaveLeft graphs ends g firing early (place + 1) l in
      subst P (sym now_is) (left_next graphs ends g firing early place before inside left is_here one known (leaves_here (Ok one) leaves) (outs ∙ ap (λ m. length (get_or early.outs m [])) number_is))

pub known_each : (signatures : List Counts) (n : ℕ) (graphs : Graphs) (g : Graph) (firing : Firing) (early : EarlyView) → IsUnderway signatures n graphs g firing early → length early.outs ≡ length (configurations g)
known_each signatures n graphs g firing early underway =
    ap (λ (e : EarlyView). length e.outs) underway.early_is ∙ (underway.can.fit.know firing.graph g firing.inherited underway.here underway.sound).one_each
