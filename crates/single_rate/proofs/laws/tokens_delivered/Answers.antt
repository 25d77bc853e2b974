use Rattle.sdf_level.specs.Laws.{among}
use Rattle.single_rate.proofs.Law as law
use Rattle.single_rate.proofs.laws.tokens_delivered.Goals as goal

pub returns-clause-one_flow : goal.returns-clause-one_flow
returns-clause-one_flow g c = λ level q turns given is. law.one-flow level q turns given is (c.repetition_suffices.ensures level q is.level_kept is.repetition)

pub returns-clause-delivers : goal.returns-clause-delivers
returns-clause-delivers g c = λ level q turns given on list is flow admissible. law.flows-deliver level q turns given is (c.repetition_suffices.ensures level q is.level_kept is.repetition) on flow list admissible

pub returns-clause-runs : goal.returns-clause-runs
returns-clause-runs g c = λ level q turns firing given on is flow answers. law.run-ends level q turns given is (c.repetition_suffices.ensures level q is.level_kept is.repetition) (among firing) on flow answers

pub returns-clause-faults : goal.returns-clause-faults
returns-clause-faults g c = λ level q turns firing given on before after b fault is flow all answers gives.
    law.run-faults level q turns given is (c.repetition_suffices.ensures level q is.level_kept is.repetition) (among firing) on flow before after b fault all answers gives
