use Rattle.std.proofs.Common.{None, refl, sym, subst}
use Rattle.graph_firing.specs.View.{IsQuiet}
use Rattle.firing_board.proofs.OfTable.CloseSteps.{stops}
use Rattle.firing_board.proofs.finishing.close_if_quiet.Goals as goal

-- a job that isn't quiet stays open, and so do all round it
pub returns-then-not-quiet-clause-closed : goal.returns-then-not-quiet-clause-closed
returns-then-not-quiet-clause-closed c =
    let here = c.job.ensures in
    record {
      end = None;
      closes = stops (λ key is. c.rules_are_lawful.ensures key.graphs is.valid.valid) c.boards_keep.ensures.stop c.args.core.now.table c.args.row here.0 here.1
          (λ quiet. let told = c.quiet.ensures.1 (subst IsQuiet (sym here.2) quiet) in let not = c.if-not-quiet.true in cc);
      end_is = refl;
    }
