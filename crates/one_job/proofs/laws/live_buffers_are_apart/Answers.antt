use Rattle.one_job.specs.Marks.{phase}
use Rattle.one_job.specs.Places.{edge_at}
use Rattle.one_job.proofs.Phases.{finished_not_free}
use Rattle.one_job.proofs.Order.{live_apart, buffer_within, lent_live}
use Rattle.one_job.proofs.Wires.{laid_of}
use Rattle.one_job.proofs.laws.live_buffers_are_apart.Goals as goal

pub returns-clause-apart : goal.returns-clause-apart
returns-clause-apart c = λ k marks e f is order e_in f_in differ one other. live_apart k.graph.edges k.placement.offsets k.placement.height (laid_of k is) marks order e f e_in f_in differ one other

pub returns-clause-within : goal.returns-clause-within
returns-clause-within c = λ k e is inside. ((laid_of k is).some e inside, buffer_within k.graph.edges k.placement.offsets k.placement.height (laid_of k is) e inside)

pub returns-clause-lent : goal.returns-clause-lent
returns-clause-lent c = λ k marks e order inside lent. lent_live k.graph.edges marks order e inside lent

pub returns-clause-full : goal.returns-clause-full
returns-clause-full c = λ k marks e full. record { claimed = finished_not_free (phase marks (edge_at k.graph.edges e).tail) full.given; unfinished = full.unfinished; unfailed = full.unfailed }
