use Rattle.pisdf_model.specs.Hold.{initial}
use Rattle.pisdf_meaning.proofs.OneMeaning.{means_once}
use Rattle.pisdf_meaning.proofs.OneRun.{run_once}
use Rattle.pisdf_meaning.proofs.laws.one_meaning.Goals as goal

pub returns-clause-firings : goal.returns-clause-firings
returns-clause-firings c = λ graphs firing one other f h. means_once graphs firing one other f h

pub returns-clause-runs : goal.returns-clause-runs
returns-clause-runs c = λ graphs streams iterations one other f h. run_once graphs iterations (initial graphs.graphs graphs.top) streams one other f h
