use Rattle.firing_board.proofs.OfTable.ImageLaws.{full_hold, images_once, read_full}
use Rattle.firing_board.proofs.laws.full_buffers_keep_tokens.Goals as goal

pub returns-clause-full : goal.returns-clause-full
returns-clause-full c = full_hold c.job_laws.ensures c.edges_have_ports.ensures.ports

pub returns-clause-read : goal.returns-clause-read
returns-clause-read c = read_full c.live_buffers_stay_apart.ensures.order

pub returns-clause-one : goal.returns-clause-one
returns-clause-one c = images_once c.paths_stay.ensures.apart
