use Rattle.sdf_level.specs.Laws.{among}
use Rattle.job_flow.proofs.Slots.{inputs-sized, frame-fits}
use Rattle.job_flow.proofs.ReadRates.{firing-reads-rates}
use Rattle.job_flow.proofs.laws.frames_told.Goals as goal

pub returns-clause-inputs : goal.returns-clause-inputs
returns-clause-inputs g c = λ q turns job firing v n is answered ready. inputs-sized c.graph_laws.ensures c.tokens_delivered.ensures.one_flow q turns job is (among firing) v answered n ready

pub returns-clause-rates : goal.returns-clause-rates
returns-clause-rates g c = λ q turns job n b k is at. firing-reads-rates c.graph_laws.ensures c.tokens_delivered.ensures.one_flow c.tokens_delivered.ensures.delivers q turns job is n b k at

pub returns-clause-fit : goal.returns-clause-fit
returns-clause-fit g c = λ q turns job n is inside other. frame-fits c.graph_laws.ensures c.tokens_delivered.ensures.one_flow q turns job is n inside other
