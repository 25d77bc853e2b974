-- Iterations one after the other are an iteration of the unfolded graphs.
use Rattle.std.proofs.Common.{◌≡◌, ℕ, zero, suc, ◌+◌, ◌/◌, ◌%◌, ◌<◌, ◌≤◌, ℤ, List, [], ◌∷◌, map, slice_get, slice_index, Result, Ok, refl, ap, ap₂, sym, ◌∙◌, subst, arith}
use Rattle.std.proofs.lemmas.Nat.{div-mul-add, mod-mul-add}
use Rattle.firing_laws.specs.Alike.{IsLevelAlike}
use Rattle.firing_laws.specs.Moving.{moved_row}
use Rattle.firing_laws.specs.Runs.{LevelFirings, fires_in, path_of}
use Rattle.kernel_gate.specs.Laws.{GiveLengths}
use Rattle.kernel_gate.specs.Signed.{Counts}
use Rattle.level_laws.proofs.EqualParts.{parts_back}
use Rattle.level_laws.proofs.InTurn.{leaves}
use Rattle.level_laws.proofs.LevelCuts.{came}
use Rattle.level_laws.proofs.WiderRuns.{level_run_like}
use Rattle.level_laws.specs.Laws.{CountsAreMultiplied, HasMultipliedSchedule, UnfoldedIsScheduled}
use Rattle.level_laws.specs.Parts.{GoByParts, GoesAtOnce, parts, parts_at}
use Rattle.level_laws.specs.Pieces.{later}
use Rattle.level_laws.specs.Unfolded.{multiplied, unfolded}
use Rattle.level_schedule.specs.Schedules.{IsScheduled}
use Rattle.param_resolver.specs.Numbering.{acting, source_inputs}
use Rattle.pisdf_meaning.specs.Run.{IterationGives, top_firing}
use Rattle.pisdf_meaning.specs.Running.{Traces, child_rows, link_starts, source_tokens, state_after}
use Rattle.pisdf_meaning.specs.Sound.{KernelsFit}
use Rattle.pisdf_meaning.specs.declared.firing.Firing.{Firing}
use Rattle.pisdf_meaning.specs.declared.outcome.Iteration.{Iteration}
use Rattle.pisdf_meaning.specs.declared.refusal.Refusal.{Refusal}
use Rattle.pisdf_meaning.proofs.LineSizes.{HaveSizes, runs_narrowed, sizes_start}
use Rattle.pisdf_model.specs.Valid.{AreValid}
use Rattle.pisdf_model.specs.declared.graph.Graph.{Graph}
use Rattle.pisdf_model.specs.declared.graph.Graphs.{Graphs}
use Rattle.sdf_level.proofs.OnlyOne.{repetition_only}
use Rattle.sdf_level.specs.Firings.{actors_of, firings}
use Rattle.sdf_level.specs.LevelRun.{Ended, GivesRates, HaveDelays, IsLevelRun}
use Rattle.sdf_level.specs.Run.{Fire, inputs}
use Rattle.sdf_level.specs.View.{LevelView}
use Rattle.sdf_level.specs.declared.link.Link.{Link}
use Rattle.unfold_rates.specs.Exact.{IsExact, own_values, top_level}
use Rattle.unfold_rates.specs.InTurn.{CanBegin, GiveInTurn}
use Rattle.unfold_rates.specs.Multiplied.{multiplied_graph, unfolded_graphs}
use Rattle.unfold_rates.proofs.Fitted.{EarlyUnfolds}
use Rattle.unfold_rates.proofs.GroupFirings.{CanRun, Fits, RunsGoAlong, fire, fire_fitting, fits, fitting, gives_rates, holds, like, number_first, number_next, number_of, same_level, same_places, starting}
use Rattle.unfold_rates.proofs.PartTokens.{fed, parts_fed}
use Rattle.unfold_rates.proofs.Restart.{begins_again}
use Rattle.unfold_rates.proofs.TopRuns.{TopRan, gives_so, top_ran}
use Rattle.unfold_rates.proofs.TraceOrder.{AreAlike, AreBelow, TheyMove, h_is, others_stay}
use Rattle.unfold_rates.proofs.Turns.{some_numbers}

module _ (unfolds : EarlyUnfolds) (counted : CountsAreMultiplied) (below : AreBelow) (alike : AreAlike) (move : TheyMove) (go_along : RunsGoAlong) (can_run : CanRun) (scheduled : UnfoldedIsScheduled)
    (graphs : Graphs) (times : ℕ) (some : 1 ≤ times) (few : times ≤ 64) (valid : AreValid graphs) (exact : IsExact graphs times) where
  abbrev others : Graphs
  others = unfolded_graphs graphs times

  abbrev g : Graph
  g = exact.top

  abbrev h : Graph
  h = multiplied_graph times exact.top

  abbrev values : List ℤ
  values = own_values exact.top

  abbrev q : List ℕ
  q = exact.schedule.counts

  abbrev list : List ℕ
  list = actors_of exact.schedule.order

  abbrev level : LevelView
  level = top_level graphs exact.top

  abbrev places : List ℕ
  places = source_inputs exact.top

  abbrev starts_of : List (List ℤ) → List (List ℤ)
  starts_of state = link_starts graphs.graphs g (top_firing g graphs.top [] state)

  alike_levels : IsLevelAlike graphs.graphs others.graphs g h
  alike_levels = like unfolds counted below alike move can_run graphs times some few valid exact

  -- ---- the traces of the iterations, as those of one

  one_ran : (now state : List (List ℤ)) (one : Iteration) (next : List (List ℤ)) → IterationGives graphs now state one next → TopRan graphs g now state one next
  one_ran now state one next gives = top_ran unfolds graphs valid g exact.top_is exact.configures_nothing exact.early now state one next gives

  -- those of the iteration with this number
  abbrev own_traces : (all : List (List (List ℤ))) (state : List (List ℤ)) (its : List Iteration) (left : List (List ℤ)) → GiveInTurn graphs all state its left → ℕ → Traces
  own_traces [] state its left go i = λ b k. []
  own_traces (now ∷ all) state its left go zero = (one_ran now state go.0 go.1 go.3).traces
  own_traces (now ∷ all) state its left go (suc i) = own_traces all go.1 go.2 left go.4 i

  abbrev path_apart : ℕ → ℕ → List ℕ
  path_apart b k = path_of g.name (slice_get (acting g) b) k

  abbrev path_there : ℕ → ℕ → List ℕ
  path_there b n = path_of h.name (slice_get (acting h) b) n

  -- firing n of an actor is one of iteration n / q
  abbrev whole : (ℕ → Traces) → Traces
  whole own b n = map (moved_row (path_apart b (n % slice_index q b)) (path_there b n)) (own (n / slice_index q b) b (n % slice_index q b))

  whole_at : (own : ℕ → Traces) (i b k : ℕ) → k < slice_index q b → whole own b (number_of q i b k) ≡ map (moved_row (path_apart b k) (path_there b (number_of q i b k))) (own i b k)
  whole_at own i b k inside =
      ap₂ (λ (j m : ℕ). map (moved_row (path_apart b m) (path_there b (number_of q i b k))) (own j b m)) (div-mul-add i (slice_index q b) k inside) (mod-mul-add i (slice_index q b) k inside)

  module _ (signatures : List Counts) (kernels : KernelsFit signatures graphs.graphs) (give : GiveLengths signatures) (state ins : List (List ℤ)) (begins : CanBegin graphs times state ins) (own : ℕ → Traces) where
    abbrev firing : Firing
    firing = top_firing h graphs.top ins state

    abbrev all_fire : Fire ℤ Refusal
    all_fire = fire unfolds counted below alike move can_run graphs times some few valid exact signatures kernels give state ins begins (whole own)

    abbrev FitsThere : ℕ → List (List ℤ) → Type 0
    FitsThere = Fits unfolds counted below alike move can_run graphs times some few valid exact signatures kernels give state ins begins

    -- those of its firings that read what fits
    abbrev fire_fits : Fire ℤ Refusal
    fire_fits = fire_fitting unfolds counted below alike move can_run graphs times some few valid exact signatures kernels give state ins begins (whole own)

    rates_given : GivesRates level fire_fits
    rates_given = gives_rates unfolds counted below alike move can_run graphs times some few valid exact signatures kernels give state ins begins (whole own)

    -- ---- one iteration

    abbrev there : ℕ → LevelFirings
    there i = record { graphs = others.graphs; graph = h; firing = firing; traces = whole own; number = number_of q i }

    -- the firings of iteration i that read what fits
    abbrev fire_at : ℕ → Fire ℤ Refusal
    fire_at i b k read answer = fire_fits b (number_of q i b k) read answer

    one_fits : (sources : List (List ℤ)) (f : ℕ → ℕ) (b : ℕ) (lines : List (List ℤ)) → HaveSizes f level.links lines → FitsThere b (inputs sources b (f b) level.links lines)
    one_fits sources f b lines =
        let P : List Link → Type 0 = λ l. HaveSizes f l lines → FitsThere b (inputs sources b (f b) l lines) in
        subst P (alike_levels.links values) (fitting unfolds counted below alike move can_run graphs times some few valid exact signatures kernels give state ins begins sources f b lines)

    one_turn : (i : ℕ) (now begun : List (List ℤ)) (one : Iteration) (next : List (List ℤ)) (ran : TopRan graphs g now begun one next) → own i ≡ ran.traces → HaveDelays level.links (starts_of begun) →
        IsLevelRun level q (fed places now) (starts_of begun) (fire_at i) (Ok ran.ended)
    one_turn i now begun one next ran traces_so delays =
        let tokens : List (List ℤ) = fed places now in
        let starts : List (List ℤ) = starts_of begun in
        let apart : LevelFirings = record { graphs = graphs.graphs; graph = g; firing = top_firing g graphs.top now begun; traces = ran.traces; number = λ b k. k } in
        let counts : ran.schedule.counts ≡ q = repetition_only level ran.schedule.counts q ran.scheduled.repetition exact.is_exact.scheduled.repetition in
        let run = subst (λ (c : List ℕ). IsLevelRun level c tokens starts (fires_in 7 values apart) (Ok ran.ended)) counts ran.level_run in
        let rows : (b k : ℕ) → k < slice_index q b → whole own b (number_of q i b k) ≡ map (moved_row (path_apart b k) (path_there b (number_of q i b k))) (ran.traces b k) =
        λ b k inside. whole_at own i b k inside ∙ ap (λ (t : Traces). map (moved_row (path_apart b k) (path_there b (number_of q i b k))) (t b k)) traces_so in
        let moved = go_along 7 graphs.top apart (there i) values level q tokens starts ran.ended record { graphs = others_stay times graphs.top graphs.graphs; below = below graphs graphs.top g valid exact.top_is; actors = refl } rows run in
        let c = came level q (fires_in 7 values (there i)) tokens starts moved.run.list ran.ended moved.run.ends in
        let narrow = runs_narrowed level (fires_in 7 values (there i)) FitsThere tokens (λ b k read outs fitted f. rates_given b (number_of q i b k) read outs (f, fitted)) (one_fits tokens) [] starts moved.run.list c.lines
        (sizes_start (λ a. firings a []) (λ a. refl) level.links starts delays) c.runs in
        record { list = moved.run.list; order = moved.run.order; ends = record { lines = Ok c.lines; runs = narrow; is_end = ap Ok c.is } }

    -- ---- all of them

    -- so they keep something at the sinks, and leave this
    record HaveGone (some_fire : Fire ℤ Refusal) (all : List (List (List ℤ))) (began left : List (List ℤ)) : Type 0 where
      outs : List (List (List ℤ))
      last : List (List ℤ)
      by : GoByParts level some_fire q (map (fed places) all) began outs last
      left_is : left ≡ state_after graphs.graphs g [] last

    have_gone : (i : ℕ) (some_fire : Fire ℤ Refusal) → ((b k : ℕ) (read : List (List ℤ)) (answer : Result (List (List ℤ)) Refusal) → fire_at i b k read answer → some_fire b k read answer) →
        (all : List (List (List ℤ))) (begun : List (List ℤ)) (its : List Iteration) (left : List (List ℤ)) (go : GiveInTurn graphs all begun its left) → ((j : ℕ) → own (i + j) ≡ own_traces all begun its left go j) →
        (began : List (List ℤ)) → began ≡ starts_of begun → HaveDelays level.links began → (all ≡ [] → state_after graphs.graphs g [] began ≡ begun) → HaveGone some_fire all began left
    have_gone i some_fire wider [] begun its left go owned began starts_so delays closed = record { outs = []; last = began; by = (refl, refl); left_is = go.1 ∙ sym (closed refl) }
    have_gone i some_fire wider (now ∷ all) begun its left go owned began starts_so delays closed =
        let ran = one_ran now begun go.0 go.1 go.3 in
        let first : own i ≡ ran.traces = ap own (let e : i ≡ i + 0 = omega arith in e) ∙ owned 0 in
        let D : List (List ℤ) → Type 0 = λ s. HaveDelays level.links s in
        let one = one_turn i now begun go.0 go.1 ran first (subst D starts_so delays) in
        let rates : GivesRates level (fire_at i) = λ b k read outs f. rates_given b (number_of q i b k) read outs f in
        let delays' = leaves level q list exact.is_exact.exact exact.is_exact.scheduled.order.order.admissible (fire_at i) (fed places now) (starts_of begun) ran.ended rates (subst D starts_so delays) one in
        let again = begins_again graphs.graphs g values exact.configures_nothing exact.begins_once ran.ended.left delays' in
        let wider' : (b k : ℕ) (read : List (List ℤ)) (answer : Result (List (List ℤ)) Refusal) → fire_at (i + 1) b k read answer → later q some_fire b k read answer =
        λ b k read answer f. wider b (slice_index q b + k) read answer (subst (λ (n : ℕ). fire_fits b n read answer) (sym (number_next i (slice_index q b) k)) f) in
        let owned' : (j : ℕ) → own (i + 1 + j) ≡ own_traces all go.1 go.2 left go.4 j = λ j. ap own (let e : i + 1 + j ≡ i + suc j = omega arith in e) ∙ owned (suc j) in
        let more = have_gone (i + 1) (later q some_fire) wider' all go.1 go.2 left go.4 owned' ran.ended.left (sym again ∙ ap starts_of (sym ran.left_is)) delays' (λ none. sym ran.left_is) in
        let run = level_run_like level (fire_at i) some_fire wider (fed places now) q (starts_of begun) (Ok ran.ended) one in
        let R : List (List ℤ) → Type 0 = λ s. IsLevelRun level q (fed places now) s some_fire (Ok ran.ended) in
        record { outs = ran.ended.outs ∷ more.outs; last = more.last; by = (ran.ended, more.outs, subst R (sym starts_so) run, more.by, refl); left_is = more.left_is }

    -- ---- the run of all

    module _ (its : List Iteration) (left : List (List ℤ)) (go : GiveInTurn graphs (parts times ins) state its left) (owned : (j : ℕ) → own j ≡ own_traces (parts times ins) state its left go j) where
      begun_so : HaveDelays level.links (starts_of state)
      begun_so = starting unfolds counted below alike move can_run graphs times some few valid exact signatures kernels give state ins begins

      gone : HaveGone fire_fits (parts times ins) (starts_of state) left
      gone =
          have_gone 0 fire_fits (λ b k read answer f. subst (λ (n : ℕ). fire_fits b n read answer) (number_first (slice_index q b) k) f) (parts times ins) state its left go
          (λ j. ap own (let e : 0 + j ≡ j = omega arith in e) ∙ owned j) (starts_of state) refl begun_so (λ none. absurd (some_numbers times (λ i. parts_at times i ins) some none))

      at_once : GoesAtOnce times level fire_fits q (fed places ins) (starts_of state) gone.outs gone.last
      at_once =
          let P : List (List (List ℤ)) → Type 0 = λ l. GoByParts level fire_fits q l (starts_of state) gone.outs gone.last in
          parts_back level q list exact.is_exact.exact exact.is_exact.scheduled.order.order.admissible times fire_fits (fed places ins) (starts_of state) gone.outs gone.last rates_given begun_so
          (holds unfolds counted below alike move can_run graphs times some few valid exact signatures kernels give state ins begins) (subst P (sym (parts_fed times places ins)) gone.by)

      abbrev ended : Ended ℤ
      ended = at_once.end

      planned : HasMultipliedSchedule times level q
      planned = scheduled times level exact.schedule some exact.is_exact.exact exact.is_exact.scheduled exact.is_exact.within

      run_there : IsLevelRun (top_level others h) planned.schedule.counts (source_tokens h firing []) (link_starts others.graphs h firing) all_fire (Ok ended)
      run_there =
          let R : LevelView → List ℕ → List (List ℤ) → List (List ℤ) → Type 0 = λ l counts tokens began. IsLevelRun l counts tokens began all_fire (Ok at_once.end) in
          let tokens : List (List ℤ) = fed places ins in
          let began : List (List ℤ) = starts_of state in
          let one : R (unfolded times level) (multiplied times q) tokens began =
          level_run_like (unfolded times level) fire_fits all_fire (λ b k read answer f. f.0) tokens (multiplied times q) began (Ok at_once.end) at_once.runs in
          let two : R (unfolded times level) (multiplied times q) tokens (link_starts others.graphs h firing) = subst (λ (s : List (List ℤ)). R (unfolded times level) (multiplied times q) tokens s) (sym (alike_levels.starts firing)) one in
          let three : R (unfolded times level) (multiplied times q) (fed (source_inputs h) ins) (link_starts others.graphs h firing) =
          subst (λ (p : List ℕ). R (unfolded times level) (multiplied times q) (fed p ins) (link_starts others.graphs h firing)) (sym (same_places unfolds counted below alike move can_run graphs times some few valid exact)) two in
          let four : R (top_level others h) (multiplied times q) (source_tokens h firing []) (link_starts others.graphs h firing) =
          subst (λ (l : LevelView). R l (multiplied times q) (source_tokens h firing []) (link_starts others.graphs h firing)) (sym (same_level unfolds counted below alike move can_run graphs times some few valid exact)) three in
          subst (λ (c : List ℕ). R (top_level others h) c (source_tokens h firing []) (link_starts others.graphs h firing)) (sym planned.counts_are) four

      -- the iteration of the unfolded graphs
      abbrev as_one : Iteration
      as_one = record { outs = ended.outs; trace = child_rows planned.schedule.counts (whole own) 0 h.actors [] }

      left_so : left ≡ state_after others.graphs h [] ended.left
      left_so = gone.left_is ∙ ap (state_after graphs.graphs g []) at_once.left_is ∙ sym (alike_levels.states [] at_once.end.left)

      ran_there : TopRan others h ins state as_one left
      ran_there = record {
        schedule = planned.schedule;
        scheduled = subst (λ (l : LevelView). IsScheduled l planned.schedule) (sym (same_level unfolds counted below alike move can_run graphs times some few valid exact)) planned.is;
        traces = whole own;
        ended = ended;
        level_run = run_there;
        outs_are = refl;
        trace_is = refl;
        left_is = left_so;
      }

      given_as_one : IterationGives others ins state as_one left
      given_as_one =
          let fit = fits unfolds counted below alike move can_run graphs times some few valid exact in
          gives_so unfolds others fit.valid h (h_is unfolds counted below alike move graphs times some few valid exact) exact.configures_nothing fit.sound ins state (alike_levels.faults values ∙ exact.rates) as_one left ran_there

  -- ---- the law

  pub record GivesAsOne (state ins left : List (List ℤ)) : Type 0 where
    pub iteration : Iteration
    pub gives : IterationGives others ins state iteration left

  pub gives_as_one : (signatures : List Counts) → KernelsFit signatures graphs.graphs → GiveLengths signatures → (state ins : List (List ℤ)) → CanBegin graphs times state ins →
      (its : List Iteration) (left : List (List ℤ)) → GiveInTurn graphs (parts times ins) state its left → GivesAsOne state ins left
  gives_as_one signatures kernels give state ins begins its left go =
      let own : ℕ → Traces = own_traces (parts times ins) state its left go in
      record { iteration = as_one signatures kernels give state ins begins own its left go (λ j. refl); gives = given_as_one signatures kernels give state ins begins own its left go (λ j. refl) }
