-- What an iteration is given.
use Rattle.std.specs.Prelude.{◌≡◌, ℕ, ℤ, List}
use Rattle.kernel_gate.specs.Signed.{SignatureView, unnamed}
use Rattle.kernel_gate.specs.Value.{lengths}
use Rattle.pisdf_model.specs.Hold.{initial}
use Rattle.pisdf_model.specs.declared.graph.Graphs.{Graphs}
use Rattle.board_rules.specs.Keys.{Key}

-- the lists of a state are as long as those with which the top graph begins
abbrev pub IsTopState : Graphs → List (List ℤ) → Type 0
IsTopState graphs state = lengths state ≡ lengths (initial graphs.graphs graphs.top)

-- the key of the board of an iteration
abbrev pub key_with : Graphs → List SignatureView → List (List ℤ) → List (List ℤ) → ℕ → Key
key_with graphs kernels state ins workers = record { graphs = graphs; signatures = unnamed kernels; delays = state; ins = ins; workers = workers }
