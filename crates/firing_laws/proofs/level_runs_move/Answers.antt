use Rattle.firing_laws.proofs.NumberedRuns.{run_moved}
use Rattle.firing_laws.proofs.level_runs_move.Goals as goal

pub returns : goal.returns
returns c = λ n top one other values level counts sources starts ended alike rows run. run_moved n top one other alike values level counts sources rows starts ended run
