-- What an iteration of the unfolded graphs gives is cut into what the iterations give, wherever these are all done.
use Rattle.std.proofs.Common.{◌≡◌, ℕ, zero, suc, ◌+◌, ◌*◌, ◌<◌, ◌≤◌, ◌^◌, ℤ, List, [], ◌∷◌, length, map, slice_get, slice_index, sum, refl, ap, ap₂, sym, ◌∙◌, subst, arith}
use Rattle.std.specs.Arc.{arc_value}
use Rattle.std.specs.List.{range_with_len}
use Rattle.firing_laws.specs.Moving.{moved_row}
use Rattle.firing_laws.specs.Runs.{path_of}
use Rattle.kernel_gate.specs.Laws.{GiveLengths}
use Rattle.kernel_gate.specs.Signed.{Counts}
use Rattle.level_laws.proofs.Multiplied.{at_multiplied}
use Rattle.level_laws.specs.Laws.{CountsAreMultiplied, UnfoldedIsScheduled}
use Rattle.level_laws.specs.Parts.{parts, parts_at}
use Rattle.level_laws.specs.Unfolded.{multiplied}
use Rattle.param_resolver.specs.Numbering.{acting}
use Rattle.pisdf_meaning.specs.Run.{IterationGives}
use Rattle.pisdf_meaning.specs.Running.{Traces, child_rows}
use Rattle.pisdf_meaning.specs.Sound.{KernelsFit}
use Rattle.pisdf_meaning.specs.declared.outcome.Iteration.{Iteration}
use Rattle.pisdf_meaning.specs.declared.outcome.TraceRow.{TraceRow}
use Rattle.pisdf_model.specs.Valid.{AreValid}
use Rattle.pisdf_model.specs.declared.actor.Actor.{Actor}
use Rattle.pisdf_model.specs.declared.graph.Graph.{Graph}
use Rattle.pisdf_model.specs.declared.graph.Graphs.{Graphs}
use Rattle.sdf_level.specs.Limits.{firings_limit}
use Rattle.unfold_rates.specs.Cut.{AreCut, IsUnfolded, piece_at, piece_rows}
use Rattle.unfold_rates.specs.Exact.{IsExact}
use Rattle.unfold_rates.specs.InTurn.{CanBegin, GiveInTurn, GoesAsOne, GoesInTurn, UnfoldsTo}
use Rattle.unfold_rates.specs.Multiplied.{multiplied_graph, unfolded_graphs}
use Rattle.unfold_rates.specs.Spans.{AreInOrder}
use Rattle.unfold_rates.specs.declared.unfolded.Unfolded.{Unfolded}
use Rattle.unfold_rates.proofs.AtOnce.{gives_as_one}
use Rattle.unfold_rates.proofs.FiringRows.{index_le_sum, piece_small}
use Rattle.unfold_rates.proofs.Fitted.{EarlyUnfolds}
use Rattle.unfold_rates.proofs.GroupFirings.{CanRun, RunsGoAlong, number_of}
use Rattle.unfold_rates.proofs.OnlyTurns.{turns_once}
use Rattle.unfold_rates.proofs.PieceRows.{piece_rows_are}
use Rattle.unfold_rates.proofs.TopRuns.{TopRan}
use Rattle.unfold_rates.proofs.TraceOrder.{AreAlike, AreBelow, TheyMove, all_act, in_order, top_there, traces_are}
use Rattle.unfold_rates.proofs.Turns.{all_in_turn, pieces_from, ran, rows_of}

module _ (unfolds : EarlyUnfolds) (counted : CountsAreMultiplied) (below : AreBelow) (alike : AreAlike) (move : TheyMove) (go_along : RunsGoAlong) (can_run : CanRun) (scheduled : UnfoldedIsScheduled) where
  module _ (graphs : Graphs) (times : ℕ) (some : 1 ≤ times) (few : times ≤ 64) (valid : AreValid graphs) (exact : IsExact graphs times) (signatures : List Counts) (kernels : KernelsFit signatures graphs.graphs) (give : GiveLengths signatures)
      (state ins : List (List ℤ)) (begins : CanBegin graphs times state ins) (iteration : Iteration) (left : List (List ℤ)) (gives : IterationGives (unfolded_graphs graphs times) ins state iteration left) where
    abbrev g : Graph
    g = exact.top

    abbrev h : Graph
    h = multiplied_graph times exact.top

    abbrev q : List ℕ
    q = exact.schedule.counts

    order : AreInOrder h (multiplied times q) iteration.trace
    order = in_order unfolds counted below alike move graphs times some few valid exact ins state iteration left gives

    abbrev rows_at : ℕ → List TraceRow
    rows_at = rows_of unfolds counted below alike move go_along can_run graphs times some few valid exact signatures kernels give state ins begins iteration left gives

    abbrev pieces : ℕ → List (List (List ℤ)) → List Iteration
    pieces = pieces_from unfolds counted below alike move go_along can_run graphs times some few valid exact signatures kernels give state ins begins iteration left gives

    few_each : (b : ℕ) → slice_index (multiplied times q) b < 2 ^ 64
    few_each b = let most = index_le_sum (multiplied times q) b in let limit : sum (multiplied times q) ≤ firings_limit = exact.is_exact.within.firings in omega arith

    inside : (i : ℕ) → i < times → (b j : ℕ) → j < slice_index q b → i * slice_index q b + j < slice_index (multiplied times q) b
    inside i there b j low = let small = piece_small i times (slice_index q b) there in let each = at_multiplied times q b in omega arith

    long : length q ≡ length h.actors
    long = exact.is_exact.exact.repetition.multiplied.one_each ∙ ap (λ (l : List Actor). length l) (all_act exact.top.actors exact.configures_nothing)

    rows_same : (i : ℕ) → i < times → rows_at i ≡ piece_rows h q i iteration.trace
    unfolding order
    rows_same i there =
        let same = traces_are unfolds counted below alike move graphs times some few valid exact ins state iteration left gives in
        ap (λ (t : Traces). child_rows q (λ b k. map (moved_row (path_of h.name (slice_get (acting h) b) (number_of q i b k)) (path_of g.name (slice_get (acting g) b) k)) (t b (number_of q i b k))) 0 g.actors []) (sym same)
        ∙ piece_rows_are h (multiplied times q) iteration.trace order few_each q i (inside i there) long

    pieces_same : (f : ℕ → List (List ℤ)) (i n : ℕ) → i + n ≤ times → pieces i (map f (range_with_len i n)) ≡ map (λ j. record { outs = f j; trace = piece_rows h q j iteration.trace }) (range_with_len i n)
    pieces_same f i zero within = refl
    pieces_same f i (suc n) within =
        ap₂ (λ (x : Iteration) (xs : List Iteration). x ∷ xs) (ap (λ (rows : List TraceRow). record { outs = f i; trace = rows }) (rows_same i (omega arith))) (pieces_same f (i + 1) n (omega arith))

    abbrev run : TopRan (unfolded_graphs graphs times) h ins state iteration left
    run = ran unfolds counted below alike move go_along can_run graphs times some few valid exact signatures kernels give state ins begins iteration left gives

    pub pieces_are : pieces 0 (parts times run.ended.outs) ≡ map (piece_at h q times iteration) (range_with_len 0 times)
    pieces_are = ap (λ (outs : List (List ℤ)). pieces 0 (parts times outs)) (sym run.outs_are) ∙ pieces_same (λ i. parts_at times i iteration.outs) 0 times (omega arith)

  module _ (graphs : Graphs) (u : Unfolded) (valid : AreValid graphs) (is : IsUnfolded graphs u.times u) where
    goes_in_turn : (signatures : List Counts) (state ins : List (List ℤ)) (iteration : Iteration) (left : List (List ℤ)) → KernelsFit signatures graphs.graphs → GiveLengths signatures → CanBegin graphs u.times state ins →
        IterationGives (arc_value u.graphs) ins state iteration left → GoesInTurn graphs u state ins iteration left
    goes_in_turn signatures state ins iteration left kernels give begins gives =
        let gives' = subst (λ (x : Graphs). IterationGives x ins state iteration left) is.graphs_are gives in
        let top = multiplied_graph u.times is.exact.top in
        let run = ran unfolds counted below alike move go_along can_run graphs u.times is.some is.few valid is.exact signatures kernels give state ins begins iteration left gives' in
        let pieces = pieces_from unfolds counted below alike move go_along can_run graphs u.times is.some is.few valid is.exact signatures kernels give state ins begins iteration left gives' 0 (parts u.times run.ended.outs) in
        let same = pieces_are graphs u.times is.some is.few valid is.exact signatures kernels give state ins begins iteration left gives' in
        record {
          pieces = pieces;
          in_turn = all_in_turn unfolds counted below alike move go_along can_run graphs u.times is.some is.few valid is.exact signatures kernels give state ins begins iteration left gives';
          cut = record {
            top = top;
            top_is = top_there unfolds counted below alike move graphs u valid is;
            pieces_are = subst (λ (counts : List ℕ). pieces ≡ map (piece_at top counts u.times iteration) (range_with_len 0 u.times)) (sym is.counts_are) same;
          };
        }

    goes_as_one : (signatures : List Counts) (state ins : List (List ℤ)) (pieces : List Iteration) (left : List (List ℤ)) → KernelsFit signatures graphs.graphs → GiveLengths signatures → CanBegin graphs u.times state ins →
        GiveInTurn graphs (parts u.times ins) state pieces left → GoesAsOne u state ins pieces left
    goes_as_one signatures state ins pieces left kernels give begins go =
        let one = gives_as_one unfolds counted below alike move go_along can_run scheduled graphs u.times is.some is.few valid is.exact signatures kernels give state ins begins pieces left go in
        let gives = subst (λ (x : Graphs). IterationGives x ins state one.iteration left) (sym is.graphs_are) one.gives in
        let turn = goes_in_turn signatures state ins one.iteration left kernels give begins gives in
        let same = turns_once graphs (parts u.times ins) state turn.pieces pieces left left turn.in_turn go in
        record { iteration = one.iteration; gives = gives; cut = subst (λ (its : List Iteration). AreCut u one.iteration its) same turn.cut }

    pub unfolds_to : UnfoldsTo graphs u
    unfolds_to = record { there = goes_in_turn; back = goes_as_one }
