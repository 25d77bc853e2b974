-- Configuration actors that all gave something.
use Rattle.std.proofs.Common.{◌≡◌, ℕ, zero, suc, ◌+◌, ◌<◌, ◌≤◌, Bool, true, false, ℤ, List, [], ◌∷◌, ◌++◌, length, map, get_or, slice_get, slice_index, Option, Some, None, refl, sym, ap, ◌∙◌, subst, arith}
use Rattle.std.specs.Prelude.{◌&&◌, IsSome, unwrap_or}
use Rattle.std.specs.List.{flat_map, list_all}
use Rattle.std.proofs.lemmas.List.{map-append}
use Rattle.std.proofs.lemmas.Option.{get_or_from_slice_get, slice_get_within}
use Rattle.kernel_gate.specs.Value.{FrameView, lengths}
use Rattle.nested_jobs.specs.Marks as mark
use Rattle.nested_jobs.specs.Rules.{Task, Values}
use Rattle.param_resolver.specs.EarlyView.{EarlyView}
use Rattle.param_resolver.specs.LevelOf.{sources_of}
use Rattle.param_resolver.specs.Numbering.{source_inputs}
use Rattle.pisdf_model.specs.Hold.{actor_state, initial}
use Rattle.pisdf_model.specs.InterfaceWires.{is_configuration}
use Rattle.pisdf_model.specs.declared.actor.Body.{Body}
use Rattle.pisdf_model.specs.declared.actor.Body.TheVariants.{Kernel, Config, Child, ConfigChild}
use Rattle.pisdf_model.specs.declared.graph.Graph.{Graph}
use Rattle.pisdf_model.specs.declared.graph.Graphs.{Graphs}
use Rattle.pisdf_meaning.specs.Configuring.{Configuration, config_rates, configurations, early_in}
use Rattle.pisdf_meaning.specs.Nested.{configuration_at}
use Rattle.pisdf_meaning.specs.Running.{source_tokens}
use Rattle.pisdf_meaning.specs.Sound.{actor_at}
use Rattle.pisdf_meaning.specs.States.{tokens_at}
use Rattle.pisdf_meaning.specs.declared.firing.Configured.{Configured}
use Rattle.pisdf_meaning.specs.declared.firing.Firing.{Firing}
use Rattle.pisdf_meaning.specs.declared.outcome.TraceRow.{TraceRow}
use Rattle.pisdf_meaning.proofs.Fitting.{AreFew, few_parts}
use Rattle.pisdf_meaning.proofs.Knowing.{Unfolds, all_know}
use Rattle.pisdf_meaning.proofs.StateSizes.{size_at}
use Rattle.job_rules.specs.Items.{compile_number, config_task, first_refusal, graph_of, left_in}
use Rattle.job_rules.specs.Words as words
use Rattle.job_rules.specs.Words.{Answer}
use Rattle.job_preparing.specs.Handing.{LeftSuits, answers, with_traces, without_trace}
use Rattle.job_preparing.specs.Stages.{has_given, is_done, lent_of, mark_of, refusal_in}
use Rattle.job_preparing.specs.Standing.{Keeps, StandsRight, nothing, task_hold}
use Rattle.job_preparing.specs.View.{ConfiguringView, IsReady, IsSettled, left_by, task, task_of}
use Rattle.job_preparing.specs.declared.stage.Stage.{Stage}
use Rattle.job_preparing.specs.declared.stage.Stage.TheVariants.{Fires, Calls, Busy, Open, Gave, Refused}
use Rattle.job_preparing.proofs.Asked.{here}
use Rattle.job_preparing.proofs.Leaving.{Answered, KeptOf, all_done, all_gave, all_left, done_all, refusal_is, slim_is, some_of}
use Rattle.job_preparing.proofs.Offered.{as_many}
use Rattle.job_preparing.proofs.Places.{count_le}
use Rattle.job_preparing.proofs.Reading.{image_at, there}

-- ---- lists

abbrev outs_of : Configured → List (List ℤ)
outs_of one = one.outs

pub same_outs : (left : List Configured) → flat_map outs_of (map without_trace left) ≡ flat_map outs_of left
same_outs [] = refl
same_outs (one ∷ left) = ap (λ l. one.outs ++ l) (same_outs left)

outs_long : (left : List Configured) (rates : List (List ℕ)) → length left ≡ length rates → ((c : ℕ) → c < length left → lengths (get_or left c nothing).outs ≡ get_or rates c []) → lengths (flat_map outs_of left) ≡ flat_map (λ (r : List ℕ). r) rates
outs_long [] [] many each = refl
outs_long [] (r ∷ rates) many each = absurd (omega arith)
outs_long (one ∷ left) [] many each = absurd (omega arith)
outs_long (one ∷ left) (r ∷ rates) many each =
    map-append (λ (l : List ℤ). length l) one.outs (flat_map outs_of left)
    ∙ ap (λ l. l ++ lengths (flat_map outs_of left)) (each 0 (omega arith))
    ∙ ap (λ l. r ++ l) (outs_long left rates (omega arith) (λ c inside. each (suc c) (omega arith)))

abbrev state_length : Configured → ℕ
state_length one = length one.state

same_states : (left : List Configured) → map state_length (map without_trace left) ≡ map state_length left
same_states [] = refl
same_states (one ∷ left) = ap (λ l. length one.state ∷ l) (same_states left)

-- the state of the graph that a configuration actor names
abbrev own_length : List Graph → Configuration → ℕ
own_length graphs c = length (actor_state (initial graphs) c.body)

states_long : (graphs : List Graph) (left : List Configured) (cs : List Configuration) → length left ≡ length cs → ((j : ℕ) (c : Configuration) → slice_get cs j ≡ Some c → length (get_or left j nothing).state ≡ own_length graphs c) → map state_length left ≡ map (own_length graphs) cs
states_long graphs [] [] many each = refl
states_long graphs [] (c ∷ cs) many each = absurd (omega arith)
states_long graphs (one ∷ left) [] many each = absurd (omega arith)
states_long graphs (one ∷ left) (c ∷ cs) many each =
    ap (λ n. n ∷ map state_length left) (each 0 c refl) ∙ ap (λ l. own_length graphs c ∷ l) (states_long graphs left cs (omega arith) (λ j x is. each (suc j) x is))

inputs_long : (inputs : List (List ℤ)) (rates : List ℕ) (places : List ℕ) → lengths inputs ≡ rates → lengths (map (λ i. tokens_at inputs i) places) ≡ map (λ i. slice_index rates i) places
inputs_long inputs rates [] same = refl
inputs_long inputs rates (i ∷ places) same =
    ap (λ n. n ∷ lengths (map (λ j. tokens_at inputs j) places)) (size_at inputs i ∙ ap (λ l. slice_index l i) same) ∙ ap (λ l. slice_index rates i ∷ l) (inputs_long inputs rates places same)

kept_of : (graphs : List Graph) (t : Option (Task Firing words.Work)) (rates : List ℕ) (s : Stage) (frame : Option FrameView) (one : Configured) (trace : List TraceRow) → StandsRight graphs t rates s frame one trace → KeptOf rates s one trace
kept_of graphs t rates (Fires spare) frame one trace stands = tt
kept_of graphs t rates Calls frame one trace stands = tt
kept_of graphs t rates (Busy told spare) frame one trace stands = tt
kept_of graphs t rates (Open told line) frame one trace stands = tt
kept_of graphs t rates (Gave told) frame one trace stands = stands.left
kept_of graphs t rates (Refused refusal) frame one trace stands = tt

-- the state of what was given
held_of : (graphs : List Graph) (t : Option (Task Firing words.Work)) (rates : List ℕ) (s : Stage) (frame : Option FrameView) (one : Configured) (trace : List TraceRow) → StandsRight graphs t rates s frame one trace → has_given s ≡ true → length one.state ≡ task_hold graphs t
held_of graphs t rates (Fires spare) frame one trace stands gave = absurd (cc)
held_of graphs t rates Calls frame one trace stands gave = absurd (cc)
held_of graphs t rates (Busy told spare) frame one trace stands gave = absurd (cc)
held_of graphs t rates (Open told line) frame one trace stands gave = absurd (cc)
held_of graphs t rates (Gave told) frame one trace stands gave = stands.state
held_of graphs t rates (Refused refusal) frame one trace stands gave = absurd (cc)

task_size : (graphs : List Graph) (g : Graph) (firing : Firing) (c : Configuration) (body : Body) → is_configuration body ≡ true → task_hold graphs (config_task graphs g firing c body) ≡ length (actor_state (initial graphs) body)
task_size graphs g firing c (Kernel kernel args ins outs) is = absurd (cc)
task_size graphs g firing c (Config kernel args ins outs sets) is = refl
task_size graphs g firing c (Child place args) is = absurd (cc)
task_size graphs g firing c (ConfigChild place args sets) is = refl

-- what is known where something was given
pub record IsBare (rates : List ℕ) (one : Configured) : Type 0 where
  pub trace : one.trace ≡ []
  pub outs : lengths one.outs ≡ rates

bare_of : (rates : List ℕ) (s : Stage) (one : Configured) (trace : List TraceRow) → KeptOf rates s one trace → has_given s ≡ true → IsBare rates one
bare_of rates (Fires spare) one trace kept gave = absurd (cc)
bare_of rates Calls one trace kept gave = absurd (cc)
bare_of rates (Busy told spare) one trace kept gave = absurd (cc)
bare_of rates (Open told line) one trace kept gave = absurd (cc)
bare_of rates (Gave told) one trace kept gave = record {
  trace = ap (λ (c : Configured). c.trace) kept.one_is;
  outs = ap (λ (c : Configured). lengths c.outs) kept.one_is ∙ kept.rates_are;
}
bare_of rates (Refused refusal) one trace kept gave = absurd (cc)

each_passes : (test : Stage → Bool) (stages : List Stage) → list_all test stages ≡ true → (j : ℕ) (s : Stage) → slice_get stages j ≡ Some s → test s ≡ true
each_passes test [] all j s is = absurd (cc)
each_passes test (x ∷ stages) all zero s is = let same : x ≡ s = cc in ap test (sym same) ∙ first (test x) (list_all test stages) all
  where
    first : (a b : Bool) → (a && b) ≡ true → a ≡ true
    first true b e = refl
    first false b e = absurd (cc)
each_passes test (x ∷ stages) all (suc j) s is = each_passes test stages (second (test x) (list_all test stages) all) j s is
  where
    second : (a b : Bool) → (a && b) ≡ true → b ≡ true
    second true b e = e
    second false b e = absurd (cc)

module _ (graphs : Graphs) (firing : Firing) (early : EarlyView) (places : List ℕ) (stages : List Stage) (frames : List (Option FrameView)) (left : List Configured) (traces : List (List TraceRow)) (kept : Keeps graphs firing early places stages frames left traces) where
  abbrev view : ConfiguringView
  view = record { graphs = graphs; firing = firing; marks = map mark_of stages; lent = map lent_of stages }

  abbrev g : Graph
  g = graph_of graphs.graphs firing

  abbrev v : Values Answer
  v = answers (map mark_of stages)

  many : length stages ≡ length (configurations g)
  many = as_many graphs firing early places stages frames left traces kept

  -- they are few enough to be numbered
  pub few : length stages ≤ 64
  few =
      let there_is = here graphs.graphs firing kept.fit in
      let own = get_or_from_slice_get graphs.graphs firing.graph g g there_is in
      let parts : AreFew g = subst AreFew own (few_parts graphs kept.valid.in_range kept.valid.well_formed firing.graph g (slice_get_within graphs.graphs firing.graph g there_is)) in
      let actors = parts.actors in
      let count = count_le 0 0 g.actors in
      let m = many in
      omega arith

  told : Answered v 0 stages
  told j s is = ap v (let e : 0 + j ≡ j = omega arith in e) ∙ ap mark.answer_of (image_at mark_of stages j s mark.Free is)

  keeps_each : (j : ℕ) (s : Stage) → slice_get stages j ≡ Some s → KeptOf (config_rates graphs.graphs firing (0 + j)) s (get_or left j nothing) (get_or traces j [])
  keeps_each j s is =
      let P : ℕ → Type 0 = λ k. KeptOf (config_rates graphs.graphs firing k) s (get_or left j nothing) (get_or traces j []) in
      subst P (let e : j ≡ 0 + j = omega arith in e) (kept_of graphs.graphs (task view j) (config_rates graphs.graphs firing j) s (get_or frames j None) (get_or left j nothing) (get_or traces j []) (kept.right j s is))

  left_if : list_all has_given stages ≡ true → left_in g v ≡ Some (with_traces left traces)
  left_if gave =
      all_left (config_rates graphs.graphs firing) v 0 (configurations g) stages left traces many
      (let a = kept.one_stage in let b = kept.one_left in let c = many in omega arith) (let a = kept.one_stage in let b = kept.one_trace in let c = many in omega arith) told keeps_each gave

  -- ---- whether they are ready or settled

  pub ready_if : list_all has_given stages ≡ true → IsReady view
  ready_if gave = some_of (left_in g v) (with_traces left traces) (left_if gave)

  pub gave_if : IsReady view → list_all has_given stages ≡ true
  gave_if ready = all_gave v 0 (configurations g) stages many told ready

  pub settled_if : list_all is_done stages ≡ true → IsSettled view
  settled_if done = record {
    each = λ c inside.
        let at = there stages c (let e = many in omega arith) in
        subst IsSome (sym (ap mark.answer_of (image_at mark_of stages c at.0 mark.Free at.1))) (all_done stages done c at.0 at.1);
  }

  pub done_if : IsSettled view → list_all is_done stages ≡ true
  done_if settled = done_all stages (λ j s is.
      subst IsSome (ap mark.answer_of (image_at mark_of stages j s mark.Free is)) (settled.each j (let i = slice_get_within stages j s is in let e = many in omega arith)))

  -- ---- the first refusal

  pub refusal_first : refusal_in stages ≡ first_refusal v 0 (compile_number g)
  refusal_first = sym (refusal_is v 0 (compile_number g) stages many told)

  -- ---- what all left

  module _ (ready : IsReady view) where
    gave : list_all has_given stages ≡ true
    gave = gave_if ready

    pub left_is : left_by view ≡ with_traces left traces
    left_is = ap (λ o. unwrap_or o []) (left_if gave)

    bare : (j : ℕ) → j < length left → IsBare (config_rates graphs.graphs firing j) (get_or left j nothing)
    bare j inside =
        let at = there stages j (let a = kept.one_stage in let b = kept.one_left in omega arith) in
        let e : 0 + j ≡ j = omega arith in
        let P : ℕ → Type 0 = λ k. KeptOf (config_rates graphs.graphs firing k) at.0 (get_or left j nothing) (get_or traces j []) in
        bare_of (config_rates graphs.graphs firing j) at.0 (get_or left j nothing) (get_or traces j []) (subst P e (keeps_each j at.0 at.1)) (each_passes has_given stages gave j at.0 at.1)

    pub slim : left ≡ map without_trace (left_by view)
    slim = sym (ap (map without_trace) left_is ∙ slim_is left traces (λ j inside. (bare j inside).trace))

    pub sources_same : source_tokens g firing left ≡ source_tokens g firing (left_by view)
    sources_same =
        ap (source_tokens g firing) slim
        ∙ ap (λ l. map (λ i. tokens_at firing.inputs i) (source_inputs g) ++ l) (same_outs (left_by view))

    left_long : Unfolds graphs.graphs → lengths (flat_map outs_of left) ≡ flat_map (λ (r : List ℕ). r) (early_in graphs.graphs firing).outs
    left_long unfolds =
        let knows = all_know graphs.graphs unfolds firing.graph g firing.inherited (here graphs.graphs firing kept.fit) kept.fit.sound in
        let count = knows.one_each in
        outs_long left (early_in graphs.graphs firing).outs (let a = kept.one_stage in let b = kept.one_left in let c = many in omega arith) (λ c inside. (bare c inside).outs)

    pub rates_long : Unfolds graphs.graphs → lengths (source_tokens g firing left) ≡ sources_of g (early_in graphs.graphs firing)
    rates_long unfolds =
        map-append (λ (l : List ℤ). length l) (map (λ i. tokens_at firing.inputs i) (source_inputs g)) (flat_map outs_of left)
        ∙ ap (λ l. l ++ lengths (flat_map outs_of left)) (inputs_long firing.inputs (early_in graphs.graphs firing).inputs (source_inputs g) kept.fit.inputs)
        ∙ ap (λ l. map (λ i. slice_index (early_in graphs.graphs firing).inputs i) (source_inputs g) ++ l)
        (left_long unfolds)

    state_held : (j : ℕ) (c : Configuration) → slice_get (configurations g) j ≡ Some c → length (get_or left j nothing).state ≡ own_length graphs.graphs c
    state_held j c is =
        let inside = slice_get_within (configurations g) j c is in
        let at = there stages j (let m = many in omega arith) in
        let place = there places j (let a = kept.one_stage in let m = many in omega arith) in
        let own = kept.places_are.each j place.0 place.1 in
        let same : configuration_at g j place.0 ≡ c = (let e : Some (configuration_at g j place.0) ≡ Some c = sym own.0 ∙ is in cc) in
        held_of graphs.graphs (task view j) (config_rates graphs.graphs firing j) at.0 (get_or frames j None) (get_or left j nothing) (get_or traces j []) (kept.right j at.0 at.1) (each_passes has_given stages gave j at.0 at.1)
        ∙ ap (λ (o : Option Configuration). task_hold graphs.graphs (task_of graphs.graphs g firing o)) own.0
        ∙ task_size graphs.graphs g firing (configuration_at g j place.0) (actor_at g place.0).body own.1.is
        ∙ ap (own_length graphs.graphs) same

    pub left_suits : Unfolds graphs.graphs → LeftSuits graphs.graphs g firing (left_by view)
    left_suits unfolds = record {
      outs = ap lengths (sym (same_outs (left_by view)) ∙ ap (flat_map outs_of) (sym slim)) ∙ left_long unfolds;
      states = sym (same_states (left_by view)) ∙ ap (map state_length) (sym slim)
          ∙ states_long graphs.graphs left (configurations g) (let a = kept.one_stage in let b = kept.one_left in let m = many in omega arith) state_held;
    }
