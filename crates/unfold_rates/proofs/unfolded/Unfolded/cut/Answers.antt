use Rattle.std.proofs.Common.{◌≡◌, ◌<◌, ℕ, ℤ, List, length, map, slice_get, Some, Result, Ok, Err, IfOk, ap, sym, ◌∙◌, subst}
use Rattle.std.specs.List.{range_with_len}
use Rattle.level_laws.specs.Unfolded.{multiplied}
use Rattle.pisdf_meaning.specs.declared.outcome.Iteration.{Iteration}
use Rattle.pisdf_meaning.specs.declared.outcome.TraceRow.{TraceRow}
use Rattle.pisdf_model.specs.declared.graph.Graphs.{Graphs}
use Rattle.unfold_rates.specs.Cut.{AreCut, piece_at}
use Rattle.unfold_rates.specs.Spans.{AreInOrder}
use Rattle.unfold_rates.proofs.TraceOrder.{may_be_cut, top_inside}
use Rattle.unfold_rates.proofs.unfolded.Unfolded.cut.Goals as goal

if_ok : {T E : Type 0} (r : Result T E) (P Q : T → Type 0) → ((x : T) → P x → Q x) → IfOk r P → IfOk r Q
if_ok (Ok x) P Q turn holds = turn x holds
if_ok (Err e) P Q turn holds = tt

pub top_of-top-requires : goal.top_of-top-requires
top_of-top-requires c =
    let P : Graphs → Type 0 = λ x. x.top < length x.graphs in
    subst P (sym c.deref.ensures) (top_inside c.early_unfolds.ensures c.counts_multiplied.ensures c.graphs_below.ensures c.levels_alike.ensures.level c.actors_move.ensures c.requires.of.0 c.args.self.now c.requires.of.1 c.requires.of.2)

pub pieces_of-requires-clause-one_each : goal.pieces_of-requires-clause-one_each
pieces_of-requires-clause-one_each c =
    let P : Graphs → Type 0 = λ x. slice_get x.graphs x.top ≡ Some c.top_of-top.result.now in
    let may = may_be_cut c.early_unfolds.ensures c.counts_multiplied.ensures c.graphs_below.ensures c.levels_alike.ensures.level c.actors_move.ensures c.requires.of.0 c.args.self.now c.requires.of.1 c.requires.of.2 c.requires.done.0 c.requires.done.1 c.args.iteration.now c.requires.done.2 c.requires.done.3 c.top_of-top.result.now (subst P c.deref.ensures c.top_of-top.ensures) in
    ap (λ (l : List ℕ). length l) c.items.ensures ∙ may.long

pub pieces_of-requires-clause-in_order : goal.pieces_of-requires-clause-in_order
pieces_of-requires-clause-in_order c =
    let P : Graphs → Type 0 = λ x. slice_get x.graphs x.top ≡ Some c.top_of-top.result.now in
    let may = may_be_cut c.early_unfolds.ensures c.counts_multiplied.ensures c.graphs_below.ensures c.levels_alike.ensures.level c.actors_move.ensures c.requires.of.0 c.args.self.now c.requires.of.1 c.requires.of.2 c.requires.done.0 c.requires.done.1 c.args.iteration.now c.requires.done.2 c.requires.done.3 c.top_of-top.result.now (subst P c.deref.ensures c.top_of-top.ensures) in
    let Q : List ℕ → List TraceRow → Type 0 = λ counts rows. AreInOrder c.top_of-top.result.now (multiplied c.args.self.now.times counts) rows in
    subst (λ (counts : List ℕ). Q counts c.items-rows.result.now) (sym c.items.ensures) (subst (λ (rows : List TraceRow). Q c.args.self.now.counts rows) (sym c.items-rows.ensures) may.order)

pub returns : goal.returns
returns c =
    let P : Graphs → Type 0 = λ x. slice_get x.graphs x.top ≡ Some c.top_of-top.result.now in
    let M : List ℕ → List (List ℤ) → List TraceRow → List Iteration = λ counts outs rows. map (piece_at c.top_of-top.result.now counts c.args.self.now.times record { outs = outs; trace = rows }) (range_with_len 0 c.args.self.now.times) in
    record {
      pieces = if_ok c.pieces_of.result (λ pieces. pieces ≡ M c.items.result.now c.items-outs.result.now c.items-rows.result.now) (AreCut c.args.self.now c.args.iteration.now) (λ pieces is. record {
        top = c.top_of-top.result.now;
        top_is = subst P c.deref.ensures c.top_of-top.ensures;
        pieces_are = is ∙ ap (λ (counts : List ℕ). M counts c.items-outs.result.now c.items-rows.result.now) c.items.ensures ∙ ap (λ (outs : List (List ℤ)). M c.args.self.now.counts outs c.items-rows.result.now) c.items-outs.ensures
            ∙ ap (λ (rows : List TraceRow). M c.args.self.now.counts c.args.iteration.now.outs rows) c.items-rows.ensures;
      }) c.pieces_of.ensures;
    }
