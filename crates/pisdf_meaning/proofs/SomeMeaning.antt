-- A firing of a graph has an end.
use Rattle.std.proofs.Common.{◌≡◌, not, ⊎_elim, ◌⊎◌, inl, inr, ℕ, zero, suc, ◌+◌, ◌<◌, ◌≤◌, true, false, if◌then◌else◌, ℤ, List, [], ◌∷◌, ◌++◌, length, set, take, drop, drop-cons, drop_of_length-le, slice_get, slice_index_or, All, Option, Some, Result, Ok, Err, refl, ap, sym, ◌∙◌, subst, append_assoc, arith}
use Rattle.std.specs.List.{AllByRecursion}
use Rattle.std.proofs.lemmas.Bool.{cases_Bool, cases_lt}
use Rattle.std.proofs.lemmas.List.{append-nil, get_or_past, length-set, take_more}
use Rattle.std.proofs.lemmas.Option.{slice_get-get_or}
use Rattle.kernel_gate.specs.Table.{the_value}
use Rattle.kernel_gate.specs.Value.{Answer, Gives, Faults}
use Rattle.level_schedule.specs.Laws.{HasAnswer, IsAnswerOf}
use Rattle.level_schedule.specs.Schedules.{IsScheduled}
use Rattle.level_schedule.specs.declared.scheduling.LevelSchedule.{LevelSchedule}
use Rattle.level_schedule.specs.declared.unscheduled.Unscheduled.{Unscheduled}
use Rattle.param_resolver.specs.EarlyCheck.{early_faults}
use Rattle.param_resolver.specs.LevelOf.{acting_faults, level_args, level_faults, out_rates}
use Rattle.param_resolver.specs.Numbering.{acting, has_state}
use Rattle.param_resolver.specs.Rates.{arg_values}
use Rattle.param_resolver.specs.Refusal as part
use Rattle.pisdf_model.specs.Hold.{in_line}
use Rattle.pisdf_model.specs.InterfaceWires.{is_configuration}
use Rattle.pisdf_model.specs.Parts.{input_count}
use Rattle.pisdf_model.specs.declared.actor.Actor.{Actor}
use Rattle.pisdf_model.specs.declared.actor.Body.{Body}
use Rattle.pisdf_model.specs.declared.actor.Body.TheVariants.{Kernel, Config, Child, ConfigChild}
use Rattle.pisdf_model.specs.declared.graph.Graph.{Graph}
use Rattle.sdf_level.specs.View.{LevelView}
use Rattle.sdf_level.specs.Firings.{actors_of, firings}
use Rattle.sdf_level.specs.Invariants.{IsLevel}
use Rattle.sdf_level.specs.LevelRun.{end_of}
use Rattle.sdf_level.specs.Run.{inputs, put}
use Rattle.sdf_level.proofs.FiringLists.{firings-own}
use Rattle.pisdf_meaning.specs.Causes.{schedule_cause, unless_refused}
use Rattle.pisdf_meaning.specs.Configuring.{Configuration, Configures, LeaveAll, Leaves, child_leaves, config_answer, config_firing, configurations, configurations_from, early_in, kernel_leaves, with_first}
use Rattle.pisdf_meaning.specs.Endings.{End, Ends, Then}
use Rattle.pisdf_meaning.specs.Meaning.{FiresGraph, MeansWithin}
use Rattle.pisdf_meaning.specs.Nested.{actor_fires, configuration_at}
use Rattle.pisdf_meaning.specs.Preparing.{Schedules, level_in, rated, resolved}
use Rattle.pisdf_meaning.specs.Running.{FiresBody, FiresActor, RunsLevel, child_firing, given_by, kernel_fires, link_starts, source_tokens}
use Rattle.pisdf_meaning.specs.Sizes.{MakeLevels}
use Rattle.pisdf_meaning.specs.Sound.{AllKnow, ChildWithin, IsConfiguration, Knows, KnowsBody, NestsWithin, actor_at, no_actor}
use Rattle.pisdf_meaning.specs.States.{tokens_at}
use Rattle.pisdf_meaning.specs.Turns.{HasCome, HasRun, MeetsRefusal, TracedFire, TurnFires}
use Rattle.pisdf_meaning.specs.declared.firing.Configured.{Configured}
use Rattle.pisdf_meaning.specs.declared.firing.Firing.{Firing}
use Rattle.pisdf_meaning.specs.declared.outcome.TraceRow.{TraceRow}
use Rattle.pisdf_meaning.specs.declared.refusal.Refusal.{Refusal}
use Rattle.pisdf_meaning.proofs.AtActors.{holds_of}
use Rattle.pisdf_meaning.proofs.KeptSizes.{args_at, body_args, child_sound, none_each}
use Rattle.pisdf_meaning.proofs.LinkSizes.{placed}
use Rattle.pisdf_meaning.proofs.OneByOne.{count_with, count_without, with_first_one, without_first_one}
use Rattle.pisdf_meaning.proofs.StepByStep.{level_refused}
use Rattle.pisdf_meaning.proofs.TurnByTurn.{come_end, come_on, come_refused, come_start}

abbrev pub SomeEnd : Ends → Firing → Type 0
SomeEnd ends firing = (end : End) × ends firing end

-- a step that is refused ends the firing, and what follows another ends it
then_some : {S T : Type 0} (next : S → Result T Refusal → Type 0) (r : Result S Refusal) → ((s : S) → r ≡ Ok s → (end : Result T Refusal) × next s end) → (end : Result T Refusal) × Then next r end
then_some next (Ok s) goes = goes s refl
then_some next (Err refusal) goes = (Err refusal, refl)

pub unrefused : {T : Type 0} (graphs : List Graph) (g : Graph) (path : List ℕ) (faults : List part.Refusal) (given one : T) → unless_refused graphs g path faults given ≡ Ok one → (faults ≡ []) × (given ≡ one)
unrefused graphs g path [] given one e = (refl, cc)
unrefused graphs g path (fault ∷ faults) given one e = absurd (cc)

-- ---- the firings of a list

-- of each that the list holds
inside_each : (P : ℕ → Type 0) (list : List ℕ) → ((a : ℕ) → 0 < firings a list → P a) → AllByRecursion P list
inside_each P [] each = tt
inside_each P (b ∷ list) each = (each b (let own = firings-own b list in omega arith), inside_each P list (λ a some. each a (omega arith)))

no_rows : (n : ℕ) → (rows : List (List TraceRow)) × (length rows ≡ n) × ((b : ℕ) → slice_index_or rows b [] ≡ [])
no_rows zero = ([], refl, λ b. refl)
no_rows (suc n) = let rest = no_rows n in ([] ∷ rest.0, ap suc rest.1, at rest.0 rest.2)
  where
    at : (rows : List (List TraceRow)) → ((b : ℕ) → slice_index_or rows b [] ≡ []) → (b : ℕ) → slice_index_or ([] ∷ rows) b [] ≡ []
    at rows none zero = refl
    at rows none (suc b) = none b

-- a firing of an actor gives something, or is refused
abbrev FiresSome : TracedFire → ℕ → ℕ → List (List ℤ) → Type 0
FiresSome fires b k read =
    ((outs : List (List ℤ)) × (trace : List TraceRow) × fires b k trace read (Ok outs)) ⊎ ((refusal : Refusal) × ((trace : List TraceRow) → fires b k trace read (Err refusal)))

module _ (level : LevelView) (fires : TracedFire) (sources starts : List (List ℤ)) (all : List ℕ) (each : (b k : ℕ) (read : List (List ℤ)) → b < level.actors → FiresSome fires b k read) where
  abbrev Comes : Type 0
  Comes = ((lines : List (List ℤ)) × (rows : List (List TraceRow)) × HasRun level fires sources starts all lines rows) ⊎ ((refusal : Refusal) × MeetsRefusal level fires sources starts all refusal)

  comes_on : (rest before : List ℕ) (lines : List (List ℤ)) (rows : List (List TraceRow)) → before ++ rest ≡ all → AllByRecursion (λ b. b < level.actors) rest → length rows ≡ level.actors → HasCome level fires sources starts all before rest lines rows → Comes
  comes_on [] before lines rows whole inside many come = inl (lines, rows, come_end level fires sources starts all before lines rows (sym (append-nil before) ∙ whole) come)
  comes_on (b ∷ rest) before lines rows whole inside many come = ⊎_elim
      (λ (fired : (outs : List (List ℤ)) × (trace : List TraceRow) × fires b (firings b before) trace (inputs sources b (firings b before) level.links lines) (Ok outs)).
      let now : List (List ℤ) = put b fired.0 level.links lines in
      let rows_now : List (List TraceRow) = set rows b (slice_index_or rows b [] ++ fired.1) in
      let turn : TurnFires fires sources level.links b (firings b before) lines now rows rows_now = record { outs = fired.0; trace = fired.1; fires_so = fired.2; lines_are = refl; rows_are = refl } in
      comes_on rest (before ++ b ∷ []) now rows_now (append_assoc before (b ∷ []) rest ∙ whole) inside.1 (length-set rows b (slice_index_or rows b [] ++ fired.1) ∙ many)
      (come_on level fires sources starts all before rest b lines now rows rows_now come (let h = inside.0 in omega arith) turn))
      (λ (refused : (refusal : Refusal) × ((trace : List TraceRow) → fires b (firings b before) trace (inputs sources b (firings b before) level.links lines) (Err refusal))).
      inr (refused.0, come_refused level fires sources starts all before rest b lines lines rows rows come refused.0 refused.1))
      (each b (firings b before) (inputs sources b (firings b before) level.links lines) inside.0)

  comes : AllByRecursion (λ b. b < level.actors) all → Comes
  comes inside = let rows = no_rows level.actors in comes_on all [] starts rows.0 refl inside rows.1 (come_start level fires sources starts all rows.0 rows.2)

-- ---- one graph, where firings of the graphs that it holds have an end

module _ (graphs : List Graph) (n : ℕ) (ends : Ends) (some : (firing : Firing) → NestsWithin n graphs firing.graph → early_faults graphs firing.graph firing.inherited ≡ [] → SomeEnd ends firing)
    (g : Graph) (firing : Firing) (nests : All (λ (a : Actor). ChildWithin (NestsWithin n graphs) a.body) g.actors) (knows : Knows graphs g (early_in graphs firing)) where
  -- ---- configuration actors

  abbrev LeavesSome : Configuration → Type 0
  LeavesSome c = (left : Result Configured Refusal) × Leaves graphs ends g firing c c.body left

  body_leaves : (c : Configuration) (body : Body) → is_configuration body ≡ true → KnowsBody graphs (early_in graphs firing) c.number body → ChildWithin (NestsWithin n graphs) body → (left : Result Configured Refusal) × Leaves graphs ends g firing c body left
  body_leaves c (Kernel kernel args ins outs) is known within = absurd (cc)
  body_leaves c (Config kernel args ins outs sets) is known within = (kernel_leaves firing.path c.name (config_answer graphs g firing c kernel (length ins) (length sets)), refl)
  body_leaves c (Child place args) is known within = absurd (cc)
  body_leaves c (ConfigChild place args sets) is known within = let end = some (config_firing graphs g firing c place) within known.3 in (child_leaves end.0, (end.0, end.1, refl))

  one_leaves : (number a : ℕ) → IsConfiguration g number a → LeavesSome (configuration_at g number a)
  one_leaves number a is =
      body_leaves (configuration_at g number a) (actor_at g a).body is.is (knows.each number a is)
      (holds_of (λ (x : Actor). ChildWithin (NestsWithin n graphs) x.body) g.actors a (actor_at g a) (slice_get-get_or g.actors a no_actor is.inside) nests)

  -- those from a place on, which stands so many before the end
  leave_from : (k place number : ℕ) → place + k ≡ length g.actors → number ≡ length (configurations_from 0 0 (take place g.actors)) → AllByRecursion LeavesSome (configurations_from number place (drop place g.actors))
  leave_from zero place number long number_is =
      let none : drop place g.actors ≡ [] = drop_of_length-le g.actors (let e : length g.actors ≤ place = omega arith in e) in
      let P : List Actor → Type 0 = λ l. AllByRecursion LeavesSome (configurations_from number place l) in
      subst P (sym none) tt
  leave_from (suc k) place number long number_is =
      let inside : place < length g.actors = omega arith in
      let next : suc place ≡ place + 1 = omega arith in
      let here : drop place g.actors ≡ actor_at g place ∷ drop (place + 1) g.actors = drop-cons g.actors place no_actor inside ∙ ap (λ m. actor_at g place ∷ drop m g.actors) next in
      let more : configurations_from 0 0 (take (place + 1) g.actors) ≡ configurations_from 0 0 (take place g.actors ++ actor_at g place ∷ []) = ap (configurations_from 0 0) (take_more g.actors place no_actor inside) in
      let P : List Configuration → Type 0 = λ l. AllByRecursion LeavesSome l in
      ⊎_elim
      (λ (is : is_configuration (actor_at g place).body ≡ true).
      let first = ap (configurations_from number place) here ∙ with_first_one number place (actor_at g place) (drop (place + 1) g.actors) is in
      let count = ap (λ (l : List Configuration). length l) more ∙ count_with 0 0 (take place g.actors) (actor_at g place) is in
      subst P (sym first) (one_leaves number place record { inside = inside; is = is; number_is = number_is }, leave_from k (place + 1) (number + 1) (omega arith) (omega arith)))
      (λ (isnt : is_configuration (actor_at g place).body ≡ false).
      let first = ap (configurations_from number place) here ∙ without_first_one number place (actor_at g place) (drop (place + 1) g.actors) isnt in
      let count = ap (λ (l : List Configuration). length l) more ∙ count_without 0 0 (take place g.actors) (actor_at g place) isnt in
      subst P (sym first) (leave_from k (place + 1) number (omega arith) (omega arith)))
      (cases_Bool (is_configuration (actor_at g place).body))

  all_leave : (cs : List Configuration) → AllByRecursion LeavesSome cs → (all : Result (List Configured) Refusal) × LeaveAll graphs ends g firing cs all
  all_leave [] each = (Ok [], refl)
  all_leave (c ∷ cs) each =
      let next : Configured → Result (List Configured) Refusal → Type 0 = λ one all. (others : Result (List Configured) Refusal) × LeaveAll graphs ends g firing cs others × (all ≡ with_first one others) in
      let others = all_leave cs each.1 in
      let end = then_some next each.0.0 (λ one is. (with_first one others.0, (others.0, others.1, refl))) in
      (end.0, (each.0.0, each.0.1, end.1))

  configures : (all : Result (List Configured) Refusal) × Configures graphs ends g firing all
  configures = all_leave (configurations g) (leave_from (length g.actors) 0 0 (omega arith) refl)

  -- ---- the actors of the level

  module _ (values : List ℤ) (none : level_faults graphs g values ≡ []) where
    kernel_some : (name : List ℕ) (k : ℕ) (given : Answer) → ((outs : List (List ℤ)) × (Ok outs ≡ kernel_fires firing.path name k given)) ⊎ ((refusal : Refusal) × (Err refusal ≡ kernel_fires firing.path name k given))
    kernel_some name k (Gives outs sets) = inl (outs, refl)
    kernel_some name k (Faults code) = inr (_, refl)

    -- what one firing of an actor can come to
    abbrev BodyFires : List ℤ → Actor → Body → ℕ → List (List ℤ) → Type 0
    BodyFires args x body k read =
        ((outs : List (List ℤ)) × (trace : List TraceRow) × FiresBody graphs ends firing values args x body k trace read (Ok outs)) ⊎
        ((refusal : Refusal) × ((trace : List TraceRow) → FiresBody graphs ends firing values args x body k trace read (Err refusal)))

    child_some : (args : List ℤ) (x : Actor) (place : ℕ) (exprs : List _) (k : ℕ) (read : List (List ℤ)) (end : End) → ends (child_firing graphs firing x.name k args (has_state graphs x) place (input_count graphs x.body) read) end → BodyFires args x (Child place exprs) k read
    child_some args x place exprs k read (Ok given) means = inl (given.outs ++ (if has_state graphs x then in_line given.state ∷ [] else []), given.trace, (Ok given, means, refl, refl))
    child_some args x place exprs k read (Err refusal) means = inr (refusal, λ trace. (Err refusal, means, tt, refl))

    body_fires : (args : List ℤ) (x : Actor) (body : Body) (k : ℕ) (read : List (List ℤ)) → is_configuration body ≡ false → ChildWithin (NestsWithin n graphs) body →
        ((place : ℕ) (exprs : List _) → body ≡ Child place exprs → early_faults graphs place args ≡ []) → BodyFires args x body k read
    body_fires args x (Kernel kernel exprs ins outs) k read acts within sound = ⊎_elim
        (λ (gives : (outs : List (List ℤ)) × (Ok outs ≡ kernel_fires firing.path x.name k (the_value kernel args read (out_rates graphs values x.body) 0))). inl (gives.0, [], (refl, gives.1)))
        (λ (faults : (refusal : Refusal) × (Err refusal ≡ kernel_fires firing.path x.name k (the_value kernel args read (out_rates graphs values x.body) 0))). inr (faults.0, λ trace. (tt, faults.1)))
        (kernel_some x.name k (the_value kernel args read (out_rates graphs values x.body) 0))
    body_fires args x (Config kernel exprs ins outs sets) k read acts within sound = absurd (cc)
    body_fires args x (Child place exprs) k read acts within sound =
        let end = some (child_firing graphs firing x.name k args (has_state graphs x) place (input_count graphs x.body) read) within (sound place exprs refl) in
        child_some args x place exprs k read end.0 end.1
    body_fires args x (ConfigChild place exprs sets) k read acts within sound = absurd (cc)

    -- each fires in its turn
    actor_fires_some : (b k : ℕ) (read : List (List ℤ)) → b < length (acting g) → FiresSome (actor_fires graphs ends g firing values) b k read
    actor_fires_some b k read inside =
        let x = slice_index_or (acting g) b no_actor in
        let at : slice_get (acting g) b ≡ Some x = slice_get-get_or (acting g) b no_actor inside in
        let place = placed g.actors b x at in
        let args_are : tokens_at (level_args g values) b ≡ body_args values x.body = args_at values g.actors b x at in
        let faults = none_each (λ a (y : Actor). acting_faults graphs values a y.name y.body) 0 g.actors none place.place x place.is in
        let fired = body_fires (tokens_at (level_args g values) b) x x.body k read (acts x.body place.acts)
        (holds_of (λ (y : Actor). ChildWithin (NestsWithin n graphs) y.body) g.actors place.place x place.is nests)
        (λ child exprs is.
        let same : tokens_at (level_args g values) b ≡ arg_values values exprs = args_are ∙ ap (body_args values) is in
        let P : List ℤ → Type 0 = λ l. early_faults graphs child l ≡ [] in
        subst P (sym same) (child_sound graphs values (0 + place.place) x.name x.body child exprs is faults)) in
        let P : Option Actor → Type 0 = λ o.
        ((outs : List (List ℤ)) × (trace : List TraceRow) × FiresActor graphs ends firing values (tokens_at (level_args g values) b) o k trace read (Ok outs)) ⊎
        ((refusal : Refusal) × ((trace : List TraceRow) → FiresActor graphs ends firing values (tokens_at (level_args g values) b) o k trace read (Err refusal))) in
        subst P (sym at) fired
      where
        acts : (body : Body) → not (is_configuration body) ≡ true → is_configuration body ≡ false
        acts (Kernel kernel exprs ins outs) is = refl
        acts (Config kernel exprs ins outs sets) is = absurd (cc)
        acts (Child child exprs) is = refl
        acts (ConfigChild child exprs sets) is = absurd (cc)

    -- ---- the run of the level

    module _ (configured : List Configured) (s : LevelSchedule) (is : IsScheduled (level_in graphs g firing values) s) where
      abbrev level : LevelView
      level = level_in graphs g firing values

      counted : (a : ℕ) → 0 < firings a (actors_of s.order) → a < level.actors
      counted a some_firing = ⊎_elim
          (λ (h : a < level.actors). h)
          (λ (past : level.actors ≤ a).
          let count = is.order.order.admissible.counts a in
          let long = is.repetition.multiplied.one_each in
          let nothing = get_or_past s.counts a 0 (omega arith) in
          absurd (omega arith))
          (cases_lt a level.actors)

      run_end : (end : End) × RunsLevel graphs ends g firing configured values s.counts end
      run_end = ⊎_elim
          (λ (ran : (lines : List (List ℤ)) × (rows : List (List TraceRow)) × HasRun level (actor_fires graphs ends g firing values) (source_tokens g firing configured) (link_starts graphs g firing) (actors_of s.order) lines rows). (
            Ok (given_by graphs g firing configured values s.counts ran.2.traces (end_of level s.counts ran.0)),
            record {
              traces = ran.2.traces;
              run = Ok (end_of level s.counts ran.0);
              level_run = record { list = actors_of s.order; order = is.order.order; ends = record { lines = Ok ran.0; runs = ran.2.runs; is_end = refl } };
              gives = refl;
            },
          ))
          (λ (refused : (refusal : Refusal) × MeetsRefusal level (actor_fires graphs ends g firing values) (source_tokens g firing configured) (link_starts graphs g firing) (actors_of s.order) refusal).
          (Err refused.0, level_refused graphs ends g firing configured values level refl s is refused.0 refused.1))
          (comes level (actor_fires graphs ends g firing values) (source_tokens g firing configured) (link_starts graphs g firing) (actors_of s.order) actor_fires_some (inside_each (λ b. b < level.actors) (actors_of s.order) counted))

  -- ---- the whole firing

  module _ (answered : (level : LevelView) → IsLevel level → HasAnswer level) (makes : (values : List ℤ) → level_faults graphs g values ≡ [] → IsLevel (level_in graphs g firing values)) where
    scheduled : (view : LevelView) (answer : Result LevelSchedule Unscheduled) → IsAnswerOf view answer → (schedule : Result LevelSchedule Refusal) × Schedules g firing view schedule
    scheduled view (Ok s) is = (Ok s, is)
    scheduled view (Err fault) is = (Err record { path = firing.path; cause = schedule_cause (acting g) fault }, (fault, is, refl))

    abbrev AfterRates : List Configured → List ℤ → End → Type 0
    AfterRates configured values end =
        (schedule : Result LevelSchedule Refusal) × Schedules g firing (level_in graphs g firing values) schedule × Then (λ s end. RunsLevel graphs ends g firing configured values s.counts end) schedule end

    abbrev AfterValues : List Configured → List ℤ → End → Type 0
    AfterValues configured values end = Then (AfterRates configured) (rated graphs g firing values) end

    after_rates : (configured : List Configured) (values : List ℤ) → level_faults graphs g values ≡ [] → (end : End) × AfterRates configured values end
    after_rates configured values none =
        let answer = answered (level_in graphs g firing values) (makes values none) in
        let schedule = scheduled (level_in graphs g firing values) answer.0 answer.1 in
        let end = then_some (λ (s : LevelSchedule) (end : End). RunsLevel graphs ends g firing configured values s.counts end) schedule.0 (λ s is.
        let P : Result LevelSchedule Refusal → Type 0 = λ r. Schedules g firing (level_in graphs g firing values) r in
        run_end values none configured s (subst P is schedule.1)) in
        (end.0, (schedule.0, schedule.1, end.1))

    after_values : (configured : List Configured) (values : List ℤ) → (end : End) × AfterValues configured values end
    after_values configured values = then_some (AfterRates configured) (rated graphs g firing values) (λ same is.
        let free = unrefused graphs g firing.path (level_faults graphs g values) values same is in
        let P : List ℤ → Type 0 = λ v. level_faults graphs g v ≡ [] in
        after_rates configured same (subst P free.1 free.0))

    graph_end : (end : End) × FiresGraph graphs ends g firing end
    graph_end =
        let all = configures in
        let end = then_some (λ configured (end : End). Then (AfterValues configured) (resolved graphs g firing configured) end) all.0 (λ configured is.
        then_some (AfterValues configured) (resolved graphs g firing configured) (λ values values_are. after_values configured values)) in
        (end.0, (all.0, all.1, end.1))

-- ---- all graphs

pub within_some : (graphs : List Graph) → AllKnow graphs → MakeLevels graphs → ((level : LevelView) → IsLevel level → HasAnswer level) → (n : ℕ) (firing : Firing) →
    NestsWithin n graphs firing.graph → early_faults graphs firing.graph firing.inherited ≡ [] → SomeEnd (MeansWithin n graphs) firing
within_some graphs know makes answered zero firing nests sound = absurd nests
within_some graphs know makes answered (suc n) firing nests sound =
    let end = graph_end graphs n (MeansWithin n graphs) (within_some graphs know makes answered n) nests.0 firing nests.2 (know firing.graph nests.0 firing.inherited nests.1 sound) answered
    (λ values none. (makes firing.graph nests.0 nests.1).level firing.inherited values sound none) in
    (end.0, (nests.0, nests.1, end.1))
