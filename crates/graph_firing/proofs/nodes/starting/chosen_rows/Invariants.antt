use Rattle.std.proofs.Common.{◌≡◌, ◌++◌, drop}
use Rattle.pisdf_meaning.specs.Running.{chosen_rows}
use Rattle.graph_firing.proofs.nodes.starting.chosen_rows.Given as goal

-- with what is still to come they are all
abbrev pub invariant-loop-place : goal.invariant-loop-place
invariant-loop-place l = l.rows ++ chosen_rows l.path l.values l.place (drop l.place l.params) ≡ chosen_rows l.path l.values 0 l.params
