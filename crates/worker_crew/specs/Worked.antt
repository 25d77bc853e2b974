-- What workers add to the journal.
use Rattle.std.specs.Prelude.{◌≡◌, ℕ, ◌+◌, ◌<◌, List, [], ◌∷◌, ◌++◌, length, slice_index_or}
use Rattle.board_lock.specs.Passes.{Later, first_gains}
use Rattle.board_rules.specs.declared.entry.Entry.{Entry}
use Rattle.board_rules.specs.declared.entry.Entry.TheVariants.{Claim, Finish}
use Rattle.board_rules.specs.declared.entry.ItemName.{ItemName}
use Rattle.worker_crew.specs.Passes.{BoardPass}

-- the pass later, whose first number has these entries more, and no other any
pub record HasAdded (p q : BoardPass) (more : List Entry) : Type 0 where
  pub later : Later p q
  pub own : q.own ≡ first_gains p.own more

-- that is one claim
abbrev pub AddsClaim : BoardPass → BoardPass → Type 0
AddsClaim p q = (path : List ℕ) × (item : ItemName) × HasAdded p q (Claim p.number path item ∷ [])

-- claims of a worker, each with its finish
abbrev pub AreFinished : ℕ → List Entry → Type 0
AreFinished w [] = Unit {0}
AreFinished w (Finish v ∷ entries) = ⊥
AreFinished w (Claim v path item ∷ []) = ⊥
AreFinished w (Claim v path item ∷ Claim u other next ∷ entries) = ⊥
AreFinished w (Claim v path item ∷ Finish u ∷ entries) = (v ≡ w) × (u ≡ w) × AreFinished w entries

-- the pass later, each of whose numbers has such entries more
pub record HasWorked (p q : BoardPass) : Type 0 where
  pub later : Later p q
  pub own : (k : ℕ) → k < length p.own → (more : List Entry) × (slice_index_or q.own k [] ≡ slice_index_or p.own k [] ++ more) × AreFinished (p.number + k) more
