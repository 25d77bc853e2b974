use Rattle.std.proofs.Common.{◌≡◌, ◌++◌, length, take, drop, All, arith, ◌∙◌}
use Rattle.std.proofs.lemmas.Grind.{common_steps}
use Rattle.memory_exclusion.specs.Closure.{HasRows}
use Rattle.memory_exclusion.proofs.Reached.{rows_fit}
use Rattle.memory_exclusion.proofs.closure.closed_rows.Goals as goal
use Rattle.memory_exclusion.proofs.closure.closed_rows.Goals.{After-deref_mut}

fits : (c : After-deref_mut) → All (HasRows c.args.width (length c.deref_mut.result.now)) c.args.edges.now
fits c = rows_fit c.args.nodes c.args.width (length c.deref_mut.result.now) c.args.edges.now (c.deref_mut.ensures.len ∙ c.in_ok-rows.ensures.len) c.requires.ends

pub close-requires-clause-fits : goal.close-requires-clause-fits
close-requires-clause-fits c = fits c

pub drop_own-requires-clause-rising : goal.drop_own-requires-clause-rising
drop_own-requires-clause-rising c = (c.args.ranks.now, c.requires.rising)

pub returns : goal.returns
returns c =
    let closed : take c.in_ok-rows.rows.len (c.close.new.rows ++ drop (length c.close.new.rows) c.in_ok-rows.rows.items) ≡ c.close.new.rows = grind (arith, common_steps) in
    let dropped : take c.in_ok-rows.rows.len (c.drop_own.new.rows ++ drop (length c.drop_own.new.rows) c.close.new.rows) ≡ c.drop_own.new.rows = grind (arith, common_steps) in
    rw (closed, dropped) (record {
      few = c.requires.few;
      wide = c.requires.wide;
      narrow = c.requires.narrow;
      rows = rows_fit c.args.nodes c.args.width (length c.drop_own.new.rows) c.args.edges.now (c.drop_own.auto.rows ∙ c.deref_mut-2.ensures.len ∙ c.in_ok-rows.ensures.len) c.requires.ends;
      closure = c.drop_own.ensures;
    })
