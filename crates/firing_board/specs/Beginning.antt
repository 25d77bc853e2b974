-- The open jobs of a board at its start and at its end.
use Rattle.std.specs.Prelude.{◌≡◌, ℕ, Bool, true, false, [], ◌∷◌, Some, None, Ok, Err, replicate}
use Rattle.job_preparing.specs.declared.handing.JobGiven.{JobGiven}
use Rattle.pisdf_model.specs.declared.graph.Graphs.{Graphs}
use Rattle.pisdf_meaning.specs.declared.firing.Firing.{Firing}
use Rattle.firing_board.specs.Table.Calls.{IsStarted}
use Rattle.firing_board.specs.declared.state.Core.{Core}
use Rattle.firing_board.specs.declared.ending.BoardEnd.{BoardEnd}
use Rattle.firing_board.specs.declared.ending.BoardEnd.TheVariants as ends

-- the top job is open, whose path the journal has, and no worker runs anything
pub record IsStartedOn (graphs : Graphs) (workers : ℕ) (firing : Firing) (c : Core) : Type 0 where
  pub started : IsStarted graphs workers firing c.table
  pub running_are : c.running.items ≡ replicate workers None
  pub numbers_are : c.numbers.items ≡ []
  pub paths_are : c.journal.paths ≡ firing.path ∷ []
  pub entries_are : c.journal.entries ≡ []
  pub end_is : c.end ≡ None

-- a board with this core ends so
abbrev pub EndsWith : Core → Bool → BoardEnd → Type 0
EndsWith c starved (ends.Done iteration delays journal) =
    (starved ≡ false) × (journal.entries ≡ c.journal.entries) × (given : JobGiven) × (c.end ≡ Some (Ok given)) × (iteration ≡ record { outs = given.outs; trace = given.trace }) × (delays.lists ≡ given.state)
EndsWith c starved (ends.Refused refusal journal) = (starved ≡ false) × (journal.entries ≡ c.journal.entries) × (c.end ≡ Some (Err refusal))
EndsWith c starved ends.Starved = starved ≡ true
