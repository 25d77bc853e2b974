-- What a board leaves suits the next iteration.
use Rattle.std.proofs.Common.{◌≡◌, ℕ, ℤ, List, [], subst}
use Rattle.kernel_gate.specs.Table.{the_signatures}
use Rattle.param_resolver.specs.EarlyCheck.{early_faults}
use Rattle.pisdf_model.specs.declared.graph.Graphs.{Graphs}
use Rattle.pisdf_meaning.specs.Sizes.{KeepsSizes}
use Rattle.pisdf_meaning.specs.declared.outcome.Delays.{Delays}
use Rattle.board_rules.specs.Keys.{Key}
use Rattle.firing_board.specs.declared.ending.BoardEnd.{BoardEnd}
use Rattle.firing_board.specs.declared.ending.BoardEnd.TheVariants.{Done, Refused, Starved}
use Rattle.quiescent_driver.specs.Endings.{EndsWith}
use Rattle.quiescent_driver.specs.Given.{IsTopState, key_with}
use Rattle.quiescent_driver.proofs.OneAnswer.{state_given}
use Rattle.board_calls.specs.Ends.{left_by}

module _ (graphs : Graphs) (ins : List (List ℤ)) (workers : ℕ) (before : Delays) (keeps : KeepsSizes graphs.graphs) (early : early_faults graphs.graphs graphs.top [] ≡ []) (first : IsTopState graphs before.lists) where
  abbrev key_here : Key
  key_here = key_with graphs the_signatures before.lists ins workers

  left_so : (end : BoardEnd) → EndsWith key_here end → IsTopState graphs (left_by end before).lists
  left_so (Done iteration delays journal) ends = state_given graphs ins before.lists keeps early first iteration delays.lists ends.0
  left_so (Refused refusal journal) ends = first
  left_so Starved ends = first

  pub state_left : (key : Key) (end : BoardEnd) → key ≡ key_here → EndsWith key end → IsTopState graphs (left_by end before).lists
  state_left key end is ends = left_so end (subst (λ (k : Key). EndsWith k end) is ends)
