use Rattle.pisdf_model.specs.Hold.{initial}
use Rattle.param_resolver.proofs.Sound.{nested, resolvable}
use Rattle.pisdf_meaning.specs.Run.{top_firing}
use Rattle.pisdf_meaning.proofs.Iterating.{some_top}
use Rattle.pisdf_meaning.proofs.Knowing.{all_know}
use Rattle.pisdf_meaning.proofs.MadeLevels.{levels_made}
use Rattle.pisdf_meaning.proofs.Nests.{nests_within}
use Rattle.pisdf_meaning.proofs.SomeMeaning.{within_some}
use Rattle.pisdf_meaning.proofs.SomeRun.{run_some}
use Rattle.pisdf_meaning.proofs.laws.meanings_exist.Goals as goal

pub returns-clause-firings : goal.returns-clause-firings
returns-clause-firings c = λ graphs valid firing can.
    within_some graphs.graphs (all_know graphs.graphs (λ place inherited inside. c.early_unfolds.ensures graphs place inherited valid.in_range valid.well_formed inside)) (levels_made graphs valid.in_range valid.well_formed) c.schedules_exist.ensures 8 firing
    (nests_within 8 graphs.graphs (resolvable graphs valid.in_range valid.well_formed) firing.graph can.there (nested graphs valid.in_range valid.well_formed firing.graph can.there)) can.sound

pub returns-clause-runs : goal.returns-clause-runs
returns-clause-runs c = λ graphs valid streams iterations.
    let top = some_top graphs valid.in_range in
    run_some graphs top.0 top.1
    (λ sound inputs state. returns-clause-firings c graphs valid (top_firing top.0 graphs.top inputs state) record { there = valid.in_range.top; sound = sound }) iterations (initial graphs.graphs graphs.top) streams
