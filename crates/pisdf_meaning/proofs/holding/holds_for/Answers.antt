use Rattle.std.proofs.Common.{get_or, sym}
use Rattle.pisdf_meaning.proofs.HeldTokens.{tell_holds, tell_none, tell_to}
use Rattle.pisdf_meaning.proofs.holding.holds_for.Goals as goal

pub returns-then-name_graphs : goal.returns-then-name_graphs
returns-then-name_graphs c = λ i d below. tell_to c.args.graphs.now c.in_ok-holds.holds.items (tell_holds c.args.graphs.now c.in_ok-holds.holds.items c.in_ok-holds.ensures) (get_or c.args.actors.now i d).body

pub returns : goal.returns
returns c = tell_none c.args.graphs.now c.new.result.items c.args.actors.now (sym c.if-name_graphs.ensures)
