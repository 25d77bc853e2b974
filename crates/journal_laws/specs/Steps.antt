-- How a legal journal goes on.
use Rattle.std.specs.Prelude.{◌≡◌, ℕ, List, [], ◌∷◌, ◌++◌}
use Rattle.nested_jobs.specs.Journals.{Claim, Finish}
use Rattle.board_rules.specs.Entries.{Step}
use Rattle.board_rules.specs.Keys.{IsKey, Key}
use Rattle.board_rules.specs.Legal.{AreLegal, HasEnded}

-- these further steps bring the journal to its end
pub record BringsToEnd (key : Key) (taken rest : List Step) : Type 0 where
  pub legal : AreLegal key (taken ++ rest)
  pub ended : HasEnded key (taken ++ rest)

-- every legal journal can be brought to its end
abbrev pub LegalJournalsEnd : Type 0
LegalJournalsEnd = (key : Key) (taken : List Step) → IsKey key → AreLegal key taken → (rest : List Step) × BringsToEnd key taken rest

abbrev pub worker_of : Step → ℕ
worker_of (Claim w place) = w
worker_of (Finish w answer) = w

-- after a legal journal a worker has at most one step
abbrev pub NextStepsAreOne : Type 0
NextStepsAreOne =
    (key : Key) (taken : List Step) (one other : Step) → IsKey key → AreLegal key (taken ++ one ∷ []) → AreLegal key (taken ++ other ∷ []) → worker_of one ≡ worker_of other → one ≡ other
