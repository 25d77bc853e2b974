use Rattle.sdf_level.specs.Laws.{among}
use Rattle.job_flow.proofs.Steady.{ready-stays, inputs-stay, answers-add}
use Rattle.job_flow.proofs.laws.ready_stays.Goals as goal

pub returns-clause-ready : goal.returns-clause-ready
returns-clause-ready g c = λ job v later n grows ready. ready-stays v later grows job n ready

pub returns-clause-inputs : goal.returns-clause-inputs
returns-clause-inputs g c = λ job v later n grows ready. inputs-stay v later grows job n ready

pub returns-clause-answers : goal.returns-clause-answers
returns-clause-answers g c = λ job firing v n answer answered free ready answers. answers-add job (among firing) v n answer answered free ready answers
