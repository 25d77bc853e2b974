-- Exit codes.
use Rattle.std.specs.Prelude.{ℕ}
use Rattle.pisdf_program.specs.declared.status.Status.{Status}
use Rattle.pisdf_program.specs.declared.status.Status.TheVariants.{Done, Usage, GraphRefused, TokensRefused, RunRefused, ReadFault, WriteFault, WantOfMemory, JournalRefused}

abbrev pub code_of : Status → ℕ
code_of Done = 0
code_of Usage = 1
code_of (GraphRefused cause) = 2
code_of (TokensRefused cause) = 3
code_of (RunRefused refusal) = 4
code_of (ReadFault which) = 5
code_of WriteFault = 6
code_of WantOfMemory = 7
code_of (JournalRefused cause) = 9
