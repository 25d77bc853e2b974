use Rattle.std.proofs.Common.{arith}
use Rattle.memory_exclusion.proofs.Turning.{turned_ends, turned_rise}
use Rattle.memory_exclusion.proofs.closure.reach.Goals as goal

pub closed_rows-requires-2-clause-ends : goal.closed_rows-requires-2-clause-ends
closed_rows-requires-2-clause-ends c = rw (c.deref.ensures.value, c.in_ok-turned.ensures) (turned_ends c.args.nodes c.args.edges.now c.requires.ends)

pub closed_rows-requires-2-clause-rising : goal.closed_rows-requires-2-clause-rising
closed_rows-requires-2-clause-rising c =
    rw (c.deref.ensures.value, c.deref-2.ensures.value, c.in_ok-turned.ensures, c.in_ok-falling.ensures)
    (turned_rise c.args.nodes c.args.edges.now c.args.ranks.now c.requires.ranks (λ n. let fits = c.type_inv.ranks n in omega arith) c.requires.ends c.requires.rising)
