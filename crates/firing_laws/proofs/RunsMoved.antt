-- The run of a level that is moved to another path and among the other graphs.
use Rattle.std.proofs.Common.{◌≡◌, ℕ, ◌+◌, Bool, if◌then◌else◌, ℤ, List, [], ◌∷◌, ◌++◌, length, map, drop, slice_get, slice_index, Option, Some, None, Result, Ok, Err, refl, ap, ◌∙◌, sym, subst, arith}
use Rattle.std.specs.List.{filter, flat_map}
use Rattle.param_resolver.specs.EarlyView.{EarlyView}
use Rattle.param_resolver.specs.LevelOf.{level_args, level_at}
use Rattle.param_resolver.specs.Numbering.{acting, fires, has_state, is_kept, source_inputs}
use Rattle.pisdf_model.specs.InterfaceWires.{is_configuration}
use Rattle.pisdf_model.specs.declared.actor.Actor.{Actor}
use Rattle.pisdf_model.specs.declared.graph.Graph.{Graph}
use Rattle.sdf_level.specs.View.{LevelView}
use Rattle.sdf_level.specs.declared.link.Link.{Link}
use Rattle.sdf_level.specs.Firings.{EachFiring, firings}
use Rattle.sdf_level.specs.LevelRun.{Ended, IsEnd, IsLevelRun, end_of}
use Rattle.sdf_level.specs.Orders.{IsOrder}
use Rattle.sdf_level.specs.Run.{GoesOn, Runs, RunsFrom, inputs, put}
use Rattle.sdf_level.proofs.FiringLists.{firing_at}
use Rattle.pisdf_meaning.specs.Configuring.{early_in}
use Rattle.pisdf_meaning.specs.Endings.{End, Ends, Then}
use Rattle.pisdf_meaning.specs.Preparing.{level_in}
use Rattle.pisdf_meaning.specs.Running.{Fires, FiresActor, RunsLevel, Traces, actor_starts, actor_states, child_rows, chosen_rows, fifo_starts, fifo_states, given_by, link_starts, source_tokens, state_after, state_of_first, trace_of_first, traces_below}
use Rattle.pisdf_meaning.specs.Sound.{ChildWithin}
use Rattle.pisdf_meaning.specs.States.{actor_list, tokens_at}
use Rattle.pisdf_meaning.specs.declared.firing.Configured.{Configured}
use Rattle.pisdf_meaning.specs.declared.firing.Firing.{Firing}
use Rattle.pisdf_meaning.specs.declared.firing.Given.{Given}
use Rattle.pisdf_meaning.specs.declared.outcome.TraceRow.{TraceRow}
use Rattle.pisdf_meaning.specs.declared.refusal.Refusal.{Refusal}
use Rattle.firing_laws.specs.Moving.{AreMoved, DifferAt, IsBelow, IsMoved, at_path, moved_row}
use Rattle.firing_laws.proofs.Elements.{holds_at, holds_chosen}
use Rattle.firing_laws.proofs.Belows.{NameWithin}
use Rattle.firing_laws.proofs.Checks.{has_state_same}
use Rattle.firing_laws.proofs.LevelsAlike.{links_same}
use Rattle.firing_laws.proofs.Moved.{below_moved, choices_moved, moved_above, moved_both, moved_either, moved_is, moved_none}
use Rattle.firing_laws.proofs.ActorsMoved.{AreLeftMoved, EndsMove, body_moved, child_end, child_goes_down}

-- ---- what the configuration actors left

-- the same states
abbrev pub HaveStates : List Configured → List Configured → Type 0
HaveStates [] [] = Unit {0}
HaveStates [] (y ∷ more) = ⊥
HaveStates (x ∷ all) [] = ⊥
HaveStates (x ∷ all) (y ∷ more) = (y.state ≡ x.state) × HaveStates all more

pub have_own : (all : List Configured) → HaveStates all all
have_own [] = tt
have_own (x ∷ all) = (refl, have_own all)

rest_states : (all more : List Configured) → HaveStates all more → HaveStates (drop 1 all) (drop 1 more)
rest_states [] [] have = tt
rest_states [] (y ∷ more) have = absurd have
rest_states (x ∷ all) [] have = absurd have
rest_states (x ∷ all) (y ∷ more) have = have.1

first_state : (all more : List Configured) → HaveStates all more → state_of_first more ≡ state_of_first all
first_state [] [] have = refl
first_state [] (y ∷ more) have = absurd have
first_state (x ∷ all) [] have = absurd have
first_state (x ∷ all) (y ∷ more) have = have.0

module _ (path other : List ℕ) where
  rest_left : (all more : List Configured) → AreLeftMoved path other all more → AreLeftMoved path other (drop 1 all) (drop 1 more)
  rest_left [] [] are = tt
  rest_left [] (y ∷ more) are = absurd are
  rest_left (x ∷ all) [] are = absurd are
  rest_left (x ∷ all) (y ∷ more) are = are.1

  same_states : (all more : List Configured) → AreLeftMoved path other all more → HaveStates all more
  same_states [] [] are = tt
  same_states [] (y ∷ more) are = absurd are
  same_states (x ∷ all) [] are = absurd are
  same_states (x ∷ all) (y ∷ more) are = (are.0.state, same_states all more are.1)

  first_trace : (all more : List Configured) → AreLeftMoved path other all more → AreMoved path other (trace_of_first all) (trace_of_first more)
  first_trace [] [] are = moved_none path other
  first_trace [] (y ∷ more) are = absurd are
  first_trace (x ∷ all) [] are = absurd are
  first_trace (x ∷ all) (y ∷ more) are = are.0.trace

  outs_left : (all more : List Configured) → AreLeftMoved path other all more → flat_map (λ (one : Configured). one.outs) more ≡ flat_map (λ (one : Configured). one.outs) all
  outs_left [] [] are = refl
  outs_left [] (y ∷ more) are = absurd are
  outs_left (x ∷ all) [] are = absurd are
  outs_left (x ∷ all) (y ∷ more) are =
      ap (λ (lists : List (List ℤ)). lists ++ flat_map (λ (one : Configured). one.outs) more) are.0.outs
      ∙ ap (λ (lists : List (List ℤ)). x.outs ++ lists) (outs_left all more are.1)

  pub sources_left : (g : Graph) (firing : Firing) (all more : List Configured) → AreLeftMoved path other all more → source_tokens g (at_path other firing) more ≡ source_tokens g firing all
  sources_left g firing all more are = ap (λ (lists : List (List ℤ)). map (λ i. tokens_at firing.inputs i) (source_inputs g) ++ lists) (outs_left all more are)

  rows_left : (counts : List ℕ) (traces moved : Traces) → ((b : ℕ) → AreMoved path other (traces_below (traces b) (slice_index counts b)) (traces_below (moved b) (slice_index counts b))) →
      (b : ℕ) (actors : List Actor) (all more : List Configured) → AreLeftMoved path other all more → AreMoved path other (child_rows counts traces b actors all) (child_rows counts moved b actors more)
  rows_left counts traces moved each b [] all more are = moved_none path other
  rows_left counts traces moved each b (a ∷ actors) all more are =
      let conf = child_rows counts traces b actors (drop 1 all) in
      let conf' = child_rows counts moved b actors (drop 1 more) in
      let rest = child_rows counts traces (b + 1) actors all in
      let rest' = child_rows counts moved (b + 1) actors more in
      let own = traces_below (traces b) (slice_index counts b) in
      let own' = traces_below (moved b) (slice_index counts b) in
      moved_either path other (is_configuration a.body) (trace_of_first all ++ conf) (own ++ rest) (trace_of_first more ++ conf') (own' ++ rest')
      (moved_both path other (trace_of_first all) conf (trace_of_first more) conf' (first_trace all more are) (rows_left counts traces moved each b actors (drop 1 all) (drop 1 more) (rest_left all more are)))
      (moved_both path other own rest own' rest' (each b) (rows_left counts traces moved each (b + 1) actors all more are))

-- ---- states

module _ (top : ℕ) (one other : List Graph) (differ : DifferAt top one other) (g : Graph) where
  starts_same : (state : List (List ℤ)) (n : ℕ) (actors : List Actor) → NameWithin (IsBelow one top) actors → actor_starts other g state n actors ≡ actor_starts one g state n actors
  starts_same state n [] names = refl
  starts_same state n (a ∷ actors) names =
      ap (λ (has : Bool). (if has then actor_list g state n ∷ [] else []) ++ actor_starts other g state (n + 1) actors) (has_state_same top one other differ a names.0)
      ∙ ap (λ (lists : List (List ℤ)). (if has_state one a then actor_list g state n ∷ [] else []) ++ lists) (starts_same state (n + 1) actors names.1)

  pub link_starts_same : (firing : Firing) (path : List ℕ) → NameWithin (IsBelow one top) g.actors → link_starts other g (at_path path firing) ≡ link_starts one g firing
  link_starts_same firing path names = ap (λ (lists : List (List ℤ)). fifo_starts g firing.state 0 g.fifos ++ lists) (starts_same firing.state 0 g.actors names)

  states_left : (actors : List Actor) → NameWithin (IsBelow one top) actors → (all more : List Configured) → HaveStates all more → (left : List (List ℤ)) → actor_states other actors more left ≡ actor_states one actors all left
  states_left [] names all more are left = refl
  states_left (a ∷ actors) names all more are left =
      let made : List ℤ → List (List ℤ) → Bool → List (List ℤ) → List (List ℤ) → List (List ℤ) = λ state conf has some none.
      if is_configuration a.body then state ∷ conf else (if has then tokens_at left 0 ∷ some else [] ∷ none) in
      let conf = states_left actors names.1 (drop 1 all) (drop 1 more) (rest_states all more are) left in
      let some = states_left actors names.1 all more are (drop 1 left) in
      let none = states_left actors names.1 all more are left in
      ap (λ s. made s (actor_states other actors (drop 1 more) left) (has_state other a) (actor_states other actors more (drop 1 left)) (actor_states other actors more left)) (first_state all more are)
      ∙ ap (λ c. made (state_of_first all) c (has_state other a) (actor_states other actors more (drop 1 left)) (actor_states other actors more left)) conf
      ∙ ap (λ h. made (state_of_first all) (actor_states one actors (drop 1 all) left) h (actor_states other actors more (drop 1 left)) (actor_states other actors more left)) (has_state_same top one other differ a names.0)
      ∙ ap (λ s. made (state_of_first all) (actor_states one actors (drop 1 all) left) (has_state one a) s (actor_states other actors more left)) some
      ∙ ap (λ n. made (state_of_first all) (actor_states one actors (drop 1 all) left) (has_state one a) (actor_states one actors all (drop 1 left)) n) none

  pub state_after_same : NameWithin (IsBelow one top) g.actors → (all more : List Configured) → HaveStates all more → (left : List (List ℤ)) → state_after other g more left ≡ state_after one g all left
  state_after_same names all more are left =
      ap (λ (lists : List (List ℤ)). fifo_states g g.fifos left ++ lists) (states_left g.actors names all more are (drop (length (filter (is_kept g) g.fifos)) left))

-- ---- the run

module _ (top : ℕ) (one other : List Graph) (differ : DifferAt top one other) (ends again : Ends) (moves : EndsMove (IsBelow one top) ends again) (firing : Firing) (path : List ℕ)
    (g : Graph) (names : NameWithin (IsBelow one top) g.actors) (values : List ℤ) (traces : Traces) where
  -- where the traces of firings go
  abbrev moved : Traces
  moved b k = map (moved_row firing.path path) (traces b k)

  abbrev IsTraceMoved : List ℕ → ℕ → Type 0
  IsTraceMoved before b = AreMoved firing.path path (traces b (firings b before)) (moved b (firings b before))

  module _ (b k : ℕ) (read outs : List (List ℤ)) where
    actor_moved : (o : Option Actor) → ((a : Actor) → o ≡ Some a → ChildWithin (IsBelow one top) a.body) → FiresActor one ends firing values (tokens_at (level_args g values) b) o k (traces b k) read (Ok outs) →
        FiresActor other again (at_path path firing) values (tokens_at (level_args g values) b) o k (moved b k) read (Ok outs) × AreMoved firing.path path (traces b k) (moved b k)
    actor_moved None some fires = absurd fires
    actor_moved (Some a) some fires =
        let m = body_moved top one other differ ends again moves firing path values (tokens_at (level_args g values) b) a k k (traces b k) read outs a.body (some a refl) (some a refl) fires in
        let above = moved_above firing.path path (child_end a.name k) (traces b k) m.0 (child_goes_down a.name k) m.2 in
        let same = moved_is firing.path path (traces b k) m.0 above in (
          subst (λ (t : List TraceRow). FiresActor other again (at_path path firing) values (tokens_at (level_args g values) b) (Some a) k t read (Ok outs)) same m.1,
          subst (λ (t : List TraceRow). AreMoved firing.path path (traces b k) t) same above,
        )

    fires_moved : Fires one ends g firing values traces b k read (Ok outs) → Fires other again g (at_path path firing) values moved b k read (Ok outs) × AreMoved firing.path path (traces b k) (moved b k)
    fires_moved fires' = actor_moved (slice_get (acting g) b) (λ a is. holds_at (λ (x : Actor). ChildWithin (IsBelow one top) x.body) (acting g) (holds_chosen (λ (x : Actor). ChildWithin (IsBelow one top) x.body) fires g.actors names) b a is) fires'

  module _ (level : LevelView) (sources : List (List ℤ)) (last : List (List ℤ)) where
    abbrev RunsOne : List ℕ → List (List ℤ) → List ℕ → Type 0
    RunsOne before lines rest = RunsFrom level (Fires one ends g firing values traces) sources before lines rest (Ok last)

    abbrev RunsOther : List ℕ → List (List ℤ) → List ℕ → Type 0
    RunsOther before lines rest = RunsFrom level (Fires other again g (at_path path firing) values moved) sources before lines rest (Ok last)

    onward : (before : List ℕ) (lines : List (List ℤ)) (b : ℕ) (rest : List ℕ) →
        ((next : List (List ℤ)) → RunsOne (before ++ b ∷ []) next rest → RunsOther (before ++ b ∷ []) next rest × EachFiring IsTraceMoved (before ++ b ∷ []) rest) →
        (answer : Result (List (List ℤ)) Refusal) → Fires one ends g firing values traces b (firings b before) (inputs sources b (firings b before) level.links lines) answer →
        GoesOn (λ outs. RunsOne (before ++ b ∷ []) (put b outs level.links lines) rest) (Ok last) answer →
        RunsOther before lines (b ∷ rest) × EachFiring IsTraceMoved before (b ∷ rest)
    onward before lines b rest more (Err refusal) fire goes = absurd cc
    onward before lines b rest more (Ok outs) fire goes =
        let here = fires_moved b (firings b before) (inputs sources b (firings b before) level.links lines) outs fire in
        let after = more (put b outs level.links lines) goes in
        ((Ok outs, here.0, after.0), (here.1, after.1))

    runs_moved : (before : List ℕ) (lines : List (List ℤ)) (rest : List ℕ) → RunsOne before lines rest → RunsOther before lines rest × EachFiring IsTraceMoved before rest
    runs_moved before lines [] runs = (runs, tt)
    runs_moved before lines (b ∷ rest) runs = onward before lines b rest (λ next r. runs_moved (before ++ b ∷ []) next rest r) runs.0 runs.1 runs.2

  each_below : (counts list : List ℕ) → ((a : ℕ) → firings a list ≡ slice_index counts a) → EachFiring IsTraceMoved [] list → (b : ℕ) → AreMoved firing.path path (traces_below (traces b) (slice_index counts b)) (traces_below (moved b) (slice_index counts b))
  each_below counts list whole each b =
      below_moved firing.path path (traces b) (moved b) (slice_index counts b)
      (λ k less.
      let count = whole b in
      let found = firing_at IsTraceMoved [] list b k each (omega arith) (omega arith) in
      subst (λ (j : ℕ). AreMoved firing.path path (traces b j) (moved b j)) found.1 found.2)

module _ (top : ℕ) (one other : List Graph) (differ : DifferAt top one other) (ends again : Ends) (moves : EndsMove (IsBelow one top) ends again) (firing : Firing) (path : List ℕ)
    (g : Graph) (names : NameWithin (IsBelow one top) g.actors) (low : early_in other (at_path path firing) ≡ early_in one firing)
    (configured more : List Configured) (left : AreLeftMoved firing.path path configured more) (values : List ℤ) (counts : List ℕ) where
  pub level_in_same : level_in other g (at_path path firing) values ≡ level_in one g firing values
  level_in_same =
      ap (λ (e : EarlyView). level_at other g e values) low
      ∙ ap (λ (links : List Link). record (level_at one g (early_in one firing) values) { links = links }) (links_same top one other differ g names g.inputs g.outputs refl values)

  abbrev Moves : Given → Type 0
  Moves given = (moved' : Given) × RunsLevel other again g (at_path path firing) more values counts (Ok moved') × IsMoved firing.path path given moved'

  module _ (traces : Traces) (list : List ℕ) (whole : (a : ℕ) → firings a list ≡ slice_index counts a) where
    abbrev level : LevelView
    level = level_in one g firing values

    abbrev sources : List (List ℤ)
    sources = source_tokens g firing configured

    abbrev starts : List (List ℤ)
    starts = link_starts one g firing

    abbrev moved' : Traces
    moved' = moved top one other differ ends again moves firing path g names values traces

    abbrev given_here : Ended ℤ → Given
    given_here ended = given_by one g firing configured values counts traces ended

    abbrev given_there : Ended ℤ → Given
    given_there ended = given_by other g (at_path path firing) more values counts moved' ended

    given_moved : (ended : Ended ℤ) → EachFiring (IsTraceMoved top one other differ ends again moves firing path g names values traces) [] list → IsMoved firing.path path (given_here ended) (given_there ended)
    given_moved ended each = record {
      outs = refl;
      state = state_after_same top one other differ g names configured more (same_states firing.path path configured more left) ended.left;
      exports = refl;
      trace =
          moved_both firing.path path (chosen_rows firing.path values 0 g.params) (child_rows counts traces 0 g.actors configured) (chosen_rows path values 0 g.params) (child_rows counts moved' 0 g.actors more)
          (choices_moved firing.path path values 0 g.params)
          (rows_left firing.path path counts traces moved' (each_below top one other differ ends again moves firing path g names values traces counts list whole each) 0 g.actors configured more left);
    }

    lines_moved : (order : IsOrder level counts list) (lines : Result (List (List ℤ)) Refusal) (run : Result (Ended ℤ) Refusal) (given : Given) →
        Runs level (Fires one ends g firing values traces) sources starts list lines → IsEnd level counts lines run →
        Then (λ (ended : Ended ℤ) (end : End). end ≡ Ok (given_here ended)) run (Ok given) → Moves given
    lines_moved order (Err refusal) run given runs is_end gives =
        let P : Result (Ended ℤ) Refusal → Type 0 = λ r. Then (λ (ended : Ended ℤ) (end : End). end ≡ Ok (given_here ended)) r (Ok given) in
        let gone : Ok given ≡ Err refusal = subst P is_end gives in
        absurd cc
    lines_moved order (Ok lines) run given runs is_end gives =
        let P : Result (Ended ℤ) Refusal → Type 0 = λ r. Then (λ (ended : Ended ℤ) (end : End). end ≡ Ok (given_here ended)) r (Ok given) in
        let ended = end_of level counts lines in
        let gave : Ok given ≡ Ok (given_here ended) = subst P is_end gives in
        let is : given ≡ given_here ended = cc in
        let m = runs_moved top one other differ ends again moves firing path g names values traces level sources lines [] starts list runs in
        let Run : LevelView → List (List ℤ) → List (List ℤ) → Type 0 = λ v s d. IsLevelRun v counts s d (Fires other again g (at_path path firing) values moved') (Ok ended) in
        let here : Run level sources starts = record { list = list; order = order; ends = record { lines = Ok lines; runs = m.0; is_end = refl } } in
        let levelled = subst (λ v. Run v sources starts) (sym level_in_same) here in
        let sourced = subst (λ s. Run (level_in other g (at_path path firing) values) s starts) (sym (sources_left firing.path path g firing configured more left)) levelled in
        let started = subst (λ d. Run (level_in other g (at_path path firing) values) (source_tokens g (at_path path firing) more) d) (sym (link_starts_same top one other differ g firing path names)) sourced in (
          given_there ended,
          record { traces = moved'; run = Ok ended; level_run = started; gives = refl },
          subst (λ x. IsMoved firing.path path x (given_there ended)) (sym is) (given_moved ended m.1),
        )

  pub level_moved : (given : Given) → RunsLevel one ends g firing configured values counts (Ok given) → Moves given
  level_moved given runs =
      lines_moved runs.traces runs.level_run.list runs.level_run.order.admissible.counts runs.level_run.order runs.level_run.ends.lines runs.run given runs.level_run.ends.runs runs.level_run.ends.is_end runs.gives
