-- What a search for strongly connected components keeps.
use Rattle.std.specs.Prelude.{◌≡◌, ℕ, ◌<◌, length, All}
use Rattle.pisdf_model.specs.declared.components.Step.{Step}
use Rattle.pisdf_model.specs.declared.components.Step.TheVariants.{Enter, Leave}
use Rattle.pisdf_model.specs.declared.components.ComponentSearch.{ComponentSearch}

-- the step is at one of so many places
abbrev pub IsStepAmong : ℕ → Step → Type 0
IsStepAmong count (Enter v) = v < count
IsStepAmong count (Leave v) = v < count

-- a search among so many places
pub record IsSearchAmong (count : ℕ) (search : ComponentSearch) : Type 0 where
  pub times : length search.times.items ≡ count
  pub components : length search.components.items ≡ count
  pub incomplete : All (λ v. v < count) search.incomplete.items
  pub steps : All (IsStepAmong count) search.steps.items
