use Rattle.board_rules.proofs.Known.{board_laws, known}
use Rattle.board_rules.specs.JobLaws.{JobsHaveLaws}
use Rattle.board_rules.specs.Legal.{state_after}
use Rattle.firing_board.specs.Table.LiveFirings.{FiringsKeepOrder, nodes_at}
use Rattle.firing_board.proofs.OfTable.LiveFirings.{nodes_in_order}
use Rattle.firing_board.proofs.laws.live_buffers_stay_apart.Goals as goal

keep_order : JobsHaveLaws → FiringsKeepOrder
keep_order laws = λ key taken place job c is.
    nodes_in_order key (state_after key taken).marks (known key is.is_key (board_laws key (laws key is.is_key)) taken is.legal) place job is.is_open is.prepared is.prepared_is c is.nodes_are is.edges_are

pub returns-clause-order : goal.returns-clause-order
returns-clause-order c = keep_order c.job_laws.ensures

pub returns-clause-apart : goal.returns-clause-apart
returns-clause-apart c = λ key taken place job k e f is e_in f_in differ one other.
    c.live_buffers_are_apart.ensures.apart k (nodes_at key job k (state_after key taken).marks place) e f is.compiled (keep_order c.job_laws.ensures key taken place job k is) e_in f_in differ one other
