use Rattle.std.proofs.Common.{◌≡◌, ℕ, ℤ, List, [], ◌∷◌, ◌++◌, map, ap, sym, ◌∙◌, arith}
use Rattle.std.specs.List.{range_with_len}
use Rattle.std.proofs.lemmas.List.FromFn.{map-range_with_len_more}
use Rattle.pisdf_meaning.specs.declared.outcome.Iteration.{Iteration}
use Rattle.pisdf_meaning.specs.declared.outcome.TraceRow.{TraceRow}
use Rattle.unfold_rates.specs.Cut.{piece_at}
use Rattle.unfold_rates.proofs.cutting.pieces_of.Goals as goal

pub loop-number-preserved : goal.loop-number-preserved
loop-number-preserved c =
    let whole : Iteration = record { outs = c.args.outs.now; trace = c.args.rows.now } in
    let one : ℕ → Iteration = piece_at c.args.top.now c.args.counts.now c.args.times whole in
    let here : one c.loop-number.number ≡ record { outs = c.in_ok-part.part; trace = c.in_ok-trace.trace } =
    ap (λ (o : List (List ℤ)). record { outs = o; trace = (one c.loop-number.number).trace }) (sym c.in_ok-part.ensures) ∙ ap (λ (t : List TraceRow). record { outs = c.in_ok-part.part; trace = t }) (sym c.in_ok-trace.ensures) in
    let more = map-range_with_len_more one 0 c.loop-number.number c.loop-number.number (omega arith) in
    c.in_ok-push.ensures.items ∙ ap (λ (l : List Iteration). l ++ record { outs = c.in_ok-part.part; trace = c.in_ok-trace.trace } ∷ []) c.loop-number.invariant
    ∙ ap (λ (x : Iteration). map one (range_with_len 0 c.loop-number.number) ++ x ∷ []) (sym here) ∙ sym more
