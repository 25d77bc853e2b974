-- What firings of graphs come to in one thread, told for the rules of their jobs.
use Rattle.std.specs.Prelude.{◌≡◌, ℕ, suc, ◌-◌, List, [], map, slice_get, Some}
use Rattle.kernel_gate.specs.Value.{lengths}
use Rattle.param_resolver.specs.EarlyCheck.{early_faults, early_of}
use Rattle.pisdf_model.specs.Hold.{initial}
use Rattle.pisdf_model.specs.Nesting.{children, nesting_limit, nesting_to}
use Rattle.pisdf_model.specs.declared.graph.Graph.{Graph}
use Rattle.pisdf_meaning.specs.Endings.{End}
use Rattle.pisdf_meaning.specs.Meaning.{MeansWithin}
use Rattle.pisdf_meaning.specs.declared.firing.Firing.{Firing}
use Rattle.nested_jobs.specs.Meanings.{Meanings}
use Rattle.job_rules.specs.Doing.{Answers}
use Rattle.job_rules.specs.Words.{Answer, Work, answer_of}

-- the firing can end with this, over n graphs nested in each other
pub record EndsAs (graphs : List Graph) (n : ℕ) (firing : Firing) (answer : Answer) : Type 0 where
  pub end : End
  pub means : MeansWithin n graphs firing end
  pub answer_is : answer ≡ answer_of end

-- the firing is given what its graph takes: its early check has no fault, each input has as many tokens as its rate, and the
-- lists of the state are as long as those with which the graph begins
pub record IsFit (graphs : List Graph) (firing : Firing) : Type 0 where
  pub g : Graph
  pub here : slice_get graphs firing.graph ≡ Some g
  pub sound : early_faults graphs firing.graph firing.inherited ≡ []
  pub inputs : lengths firing.inputs ≡ (early_of graphs firing.graph firing.inherited).inputs
  pub state : lengths firing.state ≡ lengths (initial graphs firing.graph)

-- how many graphs are nested in each other below the firing's
abbrev pub rank : List Graph → Firing → ℕ
rank graphs firing = nesting_to (map children graphs) (suc nesting_limit) firing.graph - 1

abbrev pub meanings : List Graph → Meanings Firing Work Answer
meanings graphs = record { answers = Answers graphs; means = EndsAs graphs; fit = IsFit graphs }
