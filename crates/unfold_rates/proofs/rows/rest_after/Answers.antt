use Rattle.unfold_rates.proofs.Within.{within_from}
use Rattle.unfold_rates.proofs.rows.rest_after.Goals as goal

pub unreachable-requires : goal.unreachable-requires
unreachable-requires c =
    let w = within_from c.args.from.now c.args.path.now c.requires in
    c.in-None.ensures.cases w.rest w.is
