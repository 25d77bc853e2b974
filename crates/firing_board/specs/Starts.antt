-- What a board is started with.
use Rattle.std.specs.Prelude.{ℕ, ℤ, List, map}
use Rattle.kernel_gate.specs.Signed.{counts_of}
use Rattle.kernel_gate.specs.declared.signature.Signature.{Signature}
use Rattle.pisdf_model.specs.declared.graph.Graphs.{Graphs}
use Rattle.pisdf_meaning.specs.declared.outcome.Delays.{Delays}
use Rattle.board_rules.specs.Keys.{Key}

-- the key, in which the signatures stand without their names
abbrev pub key_from : Graphs → List Signature → Delays → List (List ℤ) → ℕ → Key
key_from graphs signatures delays ins workers = record { graphs = graphs; signatures = map counts_of signatures; delays = delays.lists; ins = ins; workers = workers }
