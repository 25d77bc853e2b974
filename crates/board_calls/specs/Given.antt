-- What a run is given.
use Rattle.std.specs.Prelude.{ℤ, List}
use Rattle.kernel_gate.specs.Signed.{unnamed}
use Rattle.kernel_gate.specs.Table.{the_signatures}
use Rattle.pisdf_model.specs.declared.graph.Graphs.{Graphs}
use Rattle.pisdf_meaning.specs.Sound.{AreValidFor}
use Rattle.board_calls.specs.declared.given.Taken.{Taken}
use Rattle.board_calls.specs.declared.given.Taken.TheVariants.{All, Short}

-- graphs that can be run over the library's kernels
abbrev pub AreSound : Graphs → Type 0
AreSound graphs = AreValidFor (unnamed the_signatures) graphs

-- this holds of the tokens, where there are enough
abbrev pub IfTaken : (List (List ℤ) → Type 0) → Taken → Type 0
IfTaken P (All ins) = P ins.items
IfTaken P (Short line) = Unit {0}
