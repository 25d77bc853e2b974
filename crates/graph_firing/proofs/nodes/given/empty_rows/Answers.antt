use Rattle.std.proofs.Common.{◌≡◌, ◌∷◌, [], List, length, length-append, replicate, sym, ap, ◌∙◌, subst, arith, Vec, Global}
use Rattle.pisdf_meaning.specs.declared.outcome.TraceRow.{TraceRow}
use Rattle.graph_firing.specs.Nodes.Parts.{call_count, row_at}
use Rattle.graph_firing.proofs.OfNodes.StartedFiring.{all_rows, one_more_row}
use Rattle.graph_firing.proofs.nodes.given.empty_rows.Goals as goal

pub loop-actor-preserved : goal.loop-actor-preserved
loop-actor-preserved c =
    let many = call_count c.args.kinds.now c.args.counts.now in
    record {
      many = let l = ap length c.in_ok-push.ensures.items in let m = length-append c.loop-actor.rows.items (c.in_ok-row.row ∷ []) in let n = c.loop-actor.invariant.many in omega arith;
      rows = λ a below. subst (λ (l : List (Vec (List TraceRow) Global)). row_at l a ≡ replicate (many a) []) (sym c.in_ok-push.ensures.items)
          (one_more_row many c.loop-actor.rows.items c.in_ok-row.row c.loop-actor.actor c.loop-actor.invariant.many (c.in_ok-row.ensures ∙ ap (λ n. let none : List (List TraceRow) = replicate n [] in none) c.call_count-calls.ensures) c.loop-actor.invariant.rows a below);
    }

pub returns-clause-rows : goal.returns-clause-rows
returns-clause-rows c = all_rows c.args.kinds.now c.args.counts.now c.loop-actor.rows.items (let n = c.loop-actor.invariant.many in omega arith) (λ a below. c.loop-actor.invariant.rows a (omega arith))
