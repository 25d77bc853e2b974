-- What loading a file gives.
use Rattle.std.specs.Prelude.{◌≡◌, ℕ, Bool, true, false, Result, Ok, Err, All}
use Rattle.outer_world.specs.Faults.{Rose}
use Rattle.pisdf_model.specs.declared.graph.Graphs.{Graphs}
use Rattle.graph_format.specs.Writable.{IsWritableGraph}
use Rattle.kernel_gate.specs.Signed.{unnamed}
use Rattle.kernel_gate.specs.Table.{the_signatures}
use Rattle.pisdf_meaning.specs.Sound.{AreValidFor}
use Rattle.pisdf_program.specs.declared.status.Status.{Status}
use Rattle.pisdf_program.specs.declared.status.Status.TheVariants.{Done, Usage, GraphRefused, TokensRefused, RunRefused, ReadFault, WriteFault, WantOfMemory, JournalRefused}
use Rattle.pisdf_program.specs.declared.status.Which.{Which}

-- a status that the words and files decide: no fault of a file or a sink, and no want of memory
abbrev pub is_answer : Status → Bool
is_answer Done = true
is_answer Usage = true
is_answer (GraphRefused cause) = true
is_answer (TokensRefused cause) = true
is_answer (RunRefused refusal) = true
is_answer (ReadFault which) = false
is_answer WriteFault = false
is_answer WantOfMemory = false
is_answer (JournalRefused cause) = true

-- what was given, or refused, is what reading the told file gives; a fault and want of memory show nothing of it
abbrev pub Settles : {A : Type 0} → Result A Status → Result A Status → Type 0
Settles told (Ok x) = told ≡ Ok x
Settles told (Err status) = is_answer status ≡ true → told ≡ Err status

-- a status of reading a file: its fault is one of reading this file, whose count rose
abbrev pub FaultsOnly : Which → ℕ → ℕ → Status → Type 0
FaultsOnly which before now Done = ⊥
FaultsOnly which before now Usage = ⊥
FaultsOnly which before now (GraphRefused cause) = Unit {0}
FaultsOnly which before now (TokensRefused cause) = Unit {0}
FaultsOnly which before now (RunRefused refusal) = ⊥
FaultsOnly which before now (ReadFault w) = (w ≡ which) × Rose before now
FaultsOnly which before now WriteFault = ⊥
FaultsOnly which before now WantOfMemory = Unit {0}
FaultsOnly which before now (JournalRefused cause) = Unit {0}

-- a status of reading bytes, which is no fault
abbrev pub NoFault : Status → Type 0
NoFault Done = ⊥
NoFault Usage = ⊥
NoFault (GraphRefused cause) = Unit {0}
NoFault (TokensRefused cause) = Unit {0}
NoFault (RunRefused refusal) = ⊥
NoFault (ReadFault w) = ⊥
NoFault WriteFault = ⊥
NoFault WantOfMemory = Unit {0}
NoFault (JournalRefused cause) = Unit {0}

-- a status where the files of a run can't be read
abbrev pub StopsReading : Status → Type 0
StopsReading Done = ⊥
StopsReading Usage = ⊥
StopsReading (GraphRefused cause) = Unit {0}
StopsReading (TokensRefused cause) = Unit {0}
StopsReading (RunRefused refusal) = ⊥
StopsReading (ReadFault which) = Unit {0}
StopsReading WriteFault = ⊥
StopsReading WantOfMemory = Unit {0}
StopsReading (JournalRefused cause) = Unit {0}

-- graphs that were read: valid, fitting the kernels of the table, and such that they can be written
pub record AreGood (graphs : Graphs) : Type 0 where
  pub valid : AreValidFor (unnamed the_signatures) graphs
  pub writable : All IsWritableGraph graphs.graphs
