-- An iteration of the unfolded graphs is as many iterations of the graphs, one after the other.
use Rattle.std.proofs.Common.{◌≡◌, ℕ, zero, suc, ◌+◌, ◌≤◌, ℤ, List, [], ◌∷◌, map, slice_get, slice_index, Result, Ok, refl, ap, sym, ◌∙◌, subst, arith}
use Rattle.std.specs.List.{range_with_len}
use Rattle.firing_laws.specs.Alike.{IsLevelAlike}
use Rattle.firing_laws.specs.Moving.{moved_row}
use Rattle.firing_laws.specs.Runs.{LevelFirings, fires_in, path_in, path_of}
use Rattle.kernel_gate.specs.Laws.{GiveLengths}
use Rattle.kernel_gate.specs.Signed.{Counts}
use Rattle.level_laws.proofs.EqualParts.{parts_there}
use Rattle.level_laws.proofs.InTurn.{leaves}
use Rattle.level_laws.proofs.LevelCuts.{came}
use Rattle.level_laws.proofs.WiderRuns.{level_run_like}
use Rattle.level_laws.specs.Laws.{CountsAreMultiplied}
use Rattle.level_laws.specs.Parts.{GoByParts, parts, parts_at}
use Rattle.level_laws.specs.Pieces.{later}
use Rattle.level_laws.specs.Unfolded.{multiplied, unfolded}
use Rattle.param_resolver.specs.LevelOf.{links_of}
use Rattle.param_resolver.specs.Numbering.{acting, source_inputs}
use Rattle.pisdf_meaning.specs.Run.{IterationGives, top_firing}
use Rattle.pisdf_meaning.specs.Running.{Traces, child_rows, link_starts, source_tokens, state_after}
use Rattle.pisdf_meaning.specs.Sound.{KernelsFit}
use Rattle.pisdf_meaning.specs.declared.firing.Firing.{Firing}
use Rattle.pisdf_meaning.specs.declared.outcome.Iteration.{Iteration}
use Rattle.pisdf_meaning.specs.declared.outcome.TraceRow.{TraceRow}
use Rattle.pisdf_meaning.specs.declared.refusal.Refusal.{Refusal}
use Rattle.pisdf_meaning.proofs.LineSizes.{runs_narrowed, sizes_start}
use Rattle.pisdf_model.specs.Valid.{AreValid}
use Rattle.pisdf_model.specs.declared.graph.Graph.{Graph}
use Rattle.pisdf_model.specs.declared.graph.Graphs.{Graphs}
use Rattle.sdf_level.specs.Firings.{actors_of, firings}
use Rattle.sdf_level.specs.LevelRun.{Ended, GivesRates, HaveDelays, IsLevelRun}
use Rattle.sdf_level.specs.Run.{Fire}
use Rattle.sdf_level.specs.View.{LevelView}
use Rattle.sdf_level.specs.declared.link.Link.{Link}
use Rattle.unfold_rates.specs.Exact.{IsExact, own_values, top_level}
use Rattle.unfold_rates.specs.InTurn.{CanBegin, GiveInTurn}
use Rattle.unfold_rates.specs.Multiplied.{multiplied_graph, unfolded_graphs}
use Rattle.unfold_rates.proofs.Fitted.{EarlyUnfolds}
use Rattle.unfold_rates.proofs.GroupFirings.{CanRun, Fits, RunsGoAlong, fire, fire_fitting, fitting, gives_rates, holds, like, number_first, number_next, number_of, rated, same_level, same_places, starting, starting'}
use Rattle.unfold_rates.proofs.PartTokens.{fed, parts_fed}
use Rattle.unfold_rates.proofs.Restart.{begins_again}
use Rattle.unfold_rates.proofs.TopRuns.{TopRan, gives_so}
use Rattle.unfold_rates.proofs.TraceOrder.{AreAlike, AreBelow, TheyMove, counts_so, held, others_stay, run_of}

pub some_numbers : {X : Type 0} (times : ℕ) (f : ℕ → X) → 1 ≤ times → map f (range_with_len 0 times) ≡ [] → ⊥
some_numbers zero f some none = omega arith
some_numbers (suc times) f some none = cc

module _ (unfolds : EarlyUnfolds) (counted : CountsAreMultiplied) (below : AreBelow) (alike : AreAlike) (move : TheyMove) (go_along : RunsGoAlong) (can_run : CanRun)
    (graphs : Graphs) (times : ℕ) (some : 1 ≤ times) (few : times ≤ 64) (valid : AreValid graphs) (exact : IsExact graphs times) where
  abbrev others : Graphs
  others = unfolded_graphs graphs times

  abbrev g : Graph
  g = exact.top

  abbrev h : Graph
  h = multiplied_graph times exact.top

  abbrev values : List ℤ
  values = own_values exact.top

  abbrev q : List ℕ
  q = exact.schedule.counts

  abbrev list : List ℕ
  list = actors_of exact.schedule.order

  abbrev level : LevelView
  level = top_level graphs exact.top

  abbrev places : List ℕ
  places = source_inputs exact.top

  abbrev alike_levels : IsLevelAlike graphs.graphs others.graphs g h
  alike_levels = like unfolds counted below alike move can_run graphs times some few valid exact

  module _ (signatures : List Counts) (kernels : KernelsFit signatures graphs.graphs) (give : GiveLengths signatures) (state ins : List (List ℤ)) (begins : CanBegin graphs times state ins) where
    abbrev firing : Firing
    firing = top_firing h graphs.top ins state

    abbrev links : List Link
    links = links_of others.graphs h values

    abbrev sources : List (List ℤ)
    sources = fed places ins

    abbrev starts : List (List ℤ)
    starts = link_starts graphs.graphs g firing

    module _ (iteration : Iteration) (left : List (List ℤ)) (gives : IterationGives others ins state iteration left) where
      abbrev pub ran : TopRan others h ins state iteration left
      ran = run_of unfolds counted below alike move graphs times some few valid exact ins state iteration left gives

      -- those of its firings that read what fits
      abbrev fire_fits : Fire ℤ Refusal
      fire_fits = fire_fitting unfolds counted below alike move can_run graphs times some few valid exact signatures kernels give state ins begins ran.traces

      rates_given : GivesRates level fire_fits
      rates_given = gives_rates unfolds counted below alike move can_run graphs times some few valid exact signatures kernels give state ins begins ran.traces

      begun_so : HaveDelays level.links starts
      begun_so = starting unfolds counted below alike move can_run graphs times some few valid exact signatures kernels give state ins begins

      -- ---- the whole run

      narrowed : IsLevelRun (top_level others h) ran.schedule.counts (source_tokens h firing []) (link_starts others.graphs h firing) fire_fits (Ok ran.ended)
      narrowed =
          let began : List (List ℤ) = link_starts others.graphs h firing in
          let tokens : List (List ℤ) = source_tokens h firing [] in
          let c = came (top_level others h) ran.schedule.counts (fire unfolds counted below alike move can_run graphs times some few valid exact signatures kernels give state ins begins ran.traces) tokens began ran.level_run.list ran.ended ran.level_run.ends in
          let begun = starting' unfolds counted below alike move can_run graphs times some few valid exact signatures kernels give state ins begins in
          let all = fire unfolds counted below alike move can_run graphs times some few valid exact signatures kernels give state ins begins ran.traces in
          let fit = Fits unfolds counted below alike move can_run graphs times some few valid exact signatures kernels give state ins begins in
          let narrow = runs_narrowed (top_level others h) all fit tokens
          (λ b k read outs fitted f. rated unfolds counted below alike move can_run graphs times some few valid exact signatures kernels give state ins begins ran.traces b k read outs fitted f)
          (fitting unfolds counted below alike move can_run graphs times some few valid exact signatures kernels give state ins begins tokens) [] began ran.level_run.list c.lines (sizes_start (λ a. firings a []) (λ a. refl) links began begun) c.runs in
          record { list = ran.level_run.list; order = ran.level_run.order; ends = record { lines = Ok c.lines; runs = narrow; is_end = ap Ok c.is } }

      whole_run : IsLevelRun (unfolded times level) (multiplied times q) sources starts fire_fits (Ok ran.ended)
      whole_run =
          let R : LevelView → List ℕ → List (List ℤ) → List (List ℤ) → Type 0 = λ l counts tokens began. IsLevelRun l counts tokens began fire_fits (Ok ran.ended) in
          let began : List (List ℤ) = link_starts others.graphs h firing in
          let tokens : List (List ℤ) = source_tokens h firing [] in
          let counts = counts_so unfolds counted below alike move graphs times some few valid exact ins state iteration left gives in
          let one : R (top_level others h) (multiplied times q) tokens began = subst (λ (counts : List ℕ). R (top_level others h) counts tokens began) counts narrowed in
          let two : R (unfolded times level) (multiplied times q) tokens began = subst (λ (l : LevelView). R l (multiplied times q) tokens began) (same_level unfolds counted below alike move can_run graphs times some few valid exact) one in
          let three : R (unfolded times level) (multiplied times q) sources began = subst (λ (p : List ℕ). R (unfolded times level) (multiplied times q) (fed p ins) began) (same_places unfolds counted below alike move can_run graphs times some few valid exact) two in
          subst (λ (began : List (List ℤ)). R (unfolded times level) (multiplied times q) sources began) (alike_levels.starts firing) three

      by_parts : GoByParts level fire_fits q (map (fed places) (parts times ins)) starts (parts times ran.ended.outs) ran.ended.left
      by_parts =
          let P : List (List (List ℤ)) → Type 0 = λ l. GoByParts level fire_fits q l starts (parts times ran.ended.outs) ran.ended.left in
          subst P (parts_fed times places ins)
          (parts_there level q list exact.is_exact.exact exact.is_exact.scheduled.order.order.admissible times fire_fits sources starts ran.ended rates_given begun_so (holds unfolds counted below alike move can_run graphs times some few valid exact signatures kernels give state ins begins) whole_run)

      -- ---- one iteration of it

      -- the firings of iteration i, as they stand in the whole
      abbrev there : ℕ → LevelFirings
      there i = record { graphs = others.graphs; graph = h; firing = firing; traces = ran.traces; number = number_of q i }

      -- their traces as those of an iteration of its own
      abbrev pub traces_of : ℕ → Traces
      traces_of i b k = map (moved_row (path_in (there i) b k) (path_of g.name (slice_get (acting g) b) k)) (ran.traces b (number_of q i b k))

      abbrev apart : List (List ℤ) → List (List ℤ) → ℕ → LevelFirings
      apart now begun i = record { graphs = graphs.graphs; graph = g; firing = top_firing g graphs.top now begun; traces = traces_of i; number = λ b k. k }

      abbrev pub rows_of : ℕ → List TraceRow
      rows_of i = child_rows q (traces_of i) 0 exact.top.actors []

      abbrev pub piece_of : ℕ → List (List ℤ) → Iteration
      piece_of i outs = record { outs = outs; trace = rows_of i }

      one_turn : (i : ℕ) (some_fire : Fire ℤ Refusal) → ((b k : ℕ) (read : List (List ℤ)) (answer : Result (List (List ℤ)) Refusal) → some_fire b k read answer → fire_fits b (number_of q i b k) read answer) → (now begun : List (List ℤ)) (one : Ended ℤ) →
          IsLevelRun level q (fed places now) (link_starts graphs.graphs g (top_firing g graphs.top now begun)) some_fire (Ok one) → IterationGives graphs now begun (piece_of i one.outs) (state_after graphs.graphs g [] one.left)
      one_turn i some_fire same now begun one run =
          let began : List (List ℤ) = link_starts graphs.graphs g (top_firing g graphs.top now begun) in
          let along = level_run_like level some_fire (fires_in 7 values (there i)) (λ b k read answer f. (same b k read answer f).0) (fed places now) q began (Ok one) run in
          let moved = go_along 7 graphs.top (there i) (apart now begun i) values level q (fed places now) began one
          record { graphs = λ place apart. sym (others_stay times graphs.top graphs.graphs place apart); below = held unfolds counted below alike move graphs times some few valid exact ins state iteration left gives; actors = refl }
          (λ b k inside. refl) along in
          let it : TopRan graphs g now begun (piece_of i one.outs) (state_after graphs.graphs g [] one.left) = record {
            schedule = exact.schedule;
            scheduled = exact.is_exact.scheduled;
            traces = traces_of i;
            ended = one;
            level_run = moved.run;
            outs_are = refl;
            trace_is = refl;
            left_is = refl;
          } in
          gives_so unfolds graphs valid g exact.top_is exact.configures_nothing exact.early now begun exact.rates (piece_of i one.outs) (state_after graphs.graphs g [] one.left) it

      -- ---- all of them

      abbrev pub pieces_from : ℕ → List (List (List ℤ)) → List Iteration
      pieces_from i [] = []
      pieces_from i (outs ∷ more) = piece_of i outs ∷ pieces_from (i + 1) more

      in_turn : (i : ℕ) (some_fire : Fire ℤ Refusal) → ((b k : ℕ) (read : List (List ℤ)) (answer : Result (List (List ℤ)) Refusal) → some_fire b k read answer → fire_fits b (number_of q i b k) read answer) →
          (all : List (List (List ℤ))) (begun began : List (List ℤ)) (outs : List (List (List ℤ))) (last : List (List ℤ)) → began ≡ link_starts graphs.graphs g (top_firing g graphs.top [] begun) → HaveDelays level.links began → (all ≡ [] → state_after graphs.graphs g [] began ≡ begun) →
          GoByParts level some_fire q (map (fed places) all) began outs last → GiveInTurn graphs all begun (pieces_from i outs) (state_after graphs.graphs g [] last)
      in_turn i some_fire same [] begun began outs last starts_so delays closed by = (ap (pieces_from i) by.0, ap (state_after graphs.graphs g []) by.1 ∙ closed refl)
      in_turn i some_fire same (now ∷ all) begun began outs last starts_so delays closed by =
          let one = by.0 in
          let run = subst (λ (s : List (List ℤ)). IsLevelRun level q (fed places now) s some_fire (Ok one)) starts_so by.2 in
          let rates : GivesRates level some_fire = λ b k read outs f. rates_given b (number_of q i b k) read outs (same b k read (Ok outs) f) in
          let delays' = leaves level q list exact.is_exact.exact exact.is_exact.scheduled.order.order.admissible some_fire (fed places now) began one rates delays by.2 in
          let next : List (List ℤ) = state_after graphs.graphs g [] one.left in
          let again = begins_again graphs.graphs g values exact.configures_nothing exact.begins_once one.left delays' in
          let same' : (b k : ℕ) (read : List (List ℤ)) (answer : Result (List (List ℤ)) Refusal) → later q some_fire b k read answer → fire_fits b (number_of q (i + 1) b k) read answer =
          λ b k read answer f. subst (λ (n : ℕ). fire_fits b n read answer) (number_next i (slice_index q b) k) (same b (slice_index q b + k) read answer f) in
          (piece_of i one.outs, next, pieces_from (i + 1) by.1, one_turn i some_fire same now begun one run, in_turn (i + 1) (later q some_fire) same' all next one.left by.1 last (sym again) delays' (λ none. refl) by.3, ap (pieces_from i) by.4)

      pub all_in_turn : GiveInTurn graphs (parts times ins) state (pieces_from 0 (parts times ran.ended.outs)) left
      all_in_turn =
          let same : (b k : ℕ) (read : List (List ℤ)) (answer : Result (List (List ℤ)) Refusal) → fire_fits b k read answer → fire_fits b (number_of q 0 b k) read answer =
          λ b k read answer f. subst (λ (n : ℕ). fire_fits b n read answer) (sym (number_first (slice_index q b) k)) f in
          let P : List (List ℤ) → Type 0 = λ l. GiveInTurn graphs (parts times ins) state (pieces_from 0 (parts times ran.ended.outs)) l in
          subst P (sym (ran.left_is ∙ alike_levels.states [] ran.ended.left))
          (in_turn 0 fire_fits same (parts times ins) state starts (parts times ran.ended.outs) ran.ended.left refl begun_so (λ none. absurd (some_numbers times (λ i. parts_at times i ins) some none)) by_parts)
