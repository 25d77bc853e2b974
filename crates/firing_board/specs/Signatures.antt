-- What kernels take and give, by their signatures.
use Rattle.std.specs.Prelude.{List, [], ◌∷◌, ◌++◌}
use Rattle.kernel_gate.specs.Signed.{Counts}
use Rattle.firing_board.specs.declared.signatures.Numbers.{Numbers}
use Rattle.firing_board.specs.declared.signatures.Signatures.{Signatures}
use Rattle.firing_board.specs.declared.signatures.Signatures.TheOpen.{Signatures-F}
use Rattle.firing_board.specs.declared.signatures.Signatures.TheOpen.Signatures-F.{Nothing, Then}
use Rattle.firing_board.specs.declared.signatures.Signatures.TheFolds.{fold-Signatures}

abbrev pub counts_in : Numbers → Counts
counts_in n = record { config = n.config; args_min = n.args_min; args_max = n.args_max; ins = n.ins; outs = n.outs; sets_min = n.sets_min; sets_max = n.sets_max }

abbrev pub counts_next : Signatures-F (List Counts) → List Counts
counts_next Nothing = []
counts_next (Then before last) = before.value ++ counts_in last.value ∷ []

abbrev pub counts_by : Signatures → List Counts
counts_by = fold-Signatures (List Counts) counts_next
