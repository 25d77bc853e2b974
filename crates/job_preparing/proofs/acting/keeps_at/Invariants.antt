use Rattle.std.proofs.Common.{◌≡◌, map, take}
use Rattle.param_resolver.specs.Numbering.{acting}
use Rattle.param_resolver.specs.Numbering.{has_state}
use Rattle.job_preparing.proofs.acting.keeps_at.Given as goal

abbrev pub invariant-loop-n : goal.invariant-loop-n
invariant-loop-n l = l.keeps.items ≡ map (has_state l.graphs) (take l.n (acting l.graph))
