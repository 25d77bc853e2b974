use Rattle.std.proofs.Common.{sym, subst}
use Rattle.std.specs.Arc.{arc_value}
use Rattle.kernel_gate.specs.Signed.{unnamed}
use Rattle.kernel_gate.specs.Table.{the_signatures}
use Rattle.pisdf_meaning.specs.declared.outcome.Delays.{Delays}
use Rattle.quiescent_driver.specs.Given.{IsTopState}
use Rattle.board_calls.proofs.Starting.{state_left}
use Rattle.board_calls.proofs.iterations.iterate.Goals as goal

pub returns-clause-state : goal.returns-clause-state
returns-clause-state g c =
    let graphs = arc_value c.args.graphs.now in
    let r = c.requires in
    let fit = (c.runnable.ensures (unnamed the_signatures) graphs r.sound).fit in
    let keeps = c.sizes_kept.ensures (unnamed the_signatures) graphs r.sound.valid fit c.lengths_given.ensures in
    subst (λ (d : Delays). IsTopState graphs d.lists) (sym c.see_board.ensures)
    (state_left graphs c.args.ins.now c.args.plan.now.workers c.args.delays.now keeps r.early r.state c.in_ok-board.board.key c.in_ok-end.end c.in_ok-board.ensures.key c.in_ok-end.ensures.ends)
