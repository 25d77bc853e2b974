-- The lines that a command writes to standard error.
use Rattle.std.specs.Prelude.{ℕ, ◌==◌, ℤ, List, [], ◌∷◌, ◌++◌, codes, if◌then◌else◌}
use Rattle.std.specs.Fmt.{decimal, signed_decimal}
use Rattle.token_text.specs.declared.fault.TokenFault.{TokenFault}
use Rattle.token_text.specs.declared.fault.TokenFault.TheVariants as fault
use Rattle.pisdf_model.specs.declared.graph.Interface.{Interface}
use Rattle.graph_format.specs.declared.graph_fault.GraphFault.{GraphFault}
use Rattle.graph_format.specs.declared.graph_fault.GraphFault.TheVariants as format
use Rattle.pisdf_meaning.specs.declared.refusal.Cause.{Cause}
use Rattle.pisdf_meaning.specs.declared.refusal.Cause.TheVariants as cause
use Rattle.pisdf_meaning.specs.declared.refusal.Left.{Left}
use Rattle.param_resolver.specs.declared.fault.Why.{Why}
use Rattle.param_resolver.specs.declared.fault.Why.TheVariants as why
use Rattle.level_schedule.specs.declared.unscheduled.What.{What}
use Rattle.level_schedule.specs.declared.unscheduled.What.TheVariants as what
use Rattle.quiescent_driver.specs.Texts.{joined}
use Rattle.pisdf_program.specs.declared.status.Status.{Status}
use Rattle.pisdf_program.specs.declared.status.Status.TheVariants.{Done, Usage, GraphRefused, TokensRefused, RunRefused, ReadFault, WriteFault, WantOfMemory, JournalRefused}
use Rattle.pisdf_program.specs.declared.status.GraphCause.{GraphCause}
use Rattle.pisdf_program.specs.declared.status.GraphCause.TheVariants as graph
use Rattle.pisdf_program.specs.declared.status.TokenCause.{TokenCause}
use Rattle.pisdf_program.specs.declared.status.TokenCause.TheVariants as tokens
use Rattle.pisdf_program.specs.declared.status.JournalCause.{JournalCause}
use Rattle.pisdf_program.specs.declared.status.JournalCause.TheVariants as journal
use Rattle.pisdf_program.specs.declared.status.Which.{Which}
use Rattle.pisdf_program.specs.declared.status.Which.TheVariants as which

abbrev pub left_line : List ℕ → ℕ → List ℕ
left_line name count = joined (codes "left: " ∷ name ∷ codes " " ∷ decimal count ∷ codes "\n" ∷ [])

-- a line for each input stream with tokens left
abbrev pub left_lines : List Interface → List ℕ → List ℕ
left_lines [] counts = []
left_lines (input ∷ inputs) [] = []
left_lines (input ∷ inputs) (count ∷ counts) = (if count == 0 then [] else left_line input.name count) ++ left_lines inputs counts

abbrev pub usage_line : List ℕ
usage_line = codes "usage: run GRAPH TOKENS ITERATIONS WORKERS\n"

abbrev pub memory_line : List ℕ
memory_line = codes "memory\n"

abbrev pub read_line : Which → List ℕ
read_line which.Graph = codes "read: graph\n"
read_line which.Tokens = codes "read: tokens\n"
read_line which.Journal = codes "read: journal\n"

-- words and a name
abbrev pub named_line : List ℕ → List ℕ → List ℕ
named_line words name = joined (words ∷ name ∷ codes "\n" ∷ [])

-- the number of a graph file's fault, and its detail
abbrev pub graph_fault_line : GraphFault → List ℕ
graph_fault_line format.NotJson = codes "graph: 1 json\n"
graph_fault_line (format.Shape pointer) = named_line (codes "graph: 2 shape ") pointer
graph_fault_line (format.Version version) = joined (codes "graph: 3 version " ∷ signed_decimal version ∷ codes "\n" ∷ [])
graph_fault_line (format.Duplicate name) = named_line (codes "graph: 4 duplicate ") name
graph_fault_line (format.Unknown name) = named_line (codes "graph: 5 unknown ") name
graph_fault_line (format.Kernel name) = named_line (codes "graph: 6 kernel ") name
graph_fault_line (format.Ports name) = named_line (codes "graph: 7 ports ") name
graph_fault_line (format.Wire end) = named_line (codes "graph: 8 wire ") end
graph_fault_line (format.InterfaceWire name fifo) = joined (codes "graph: 9 interface " ∷ name ∷ codes " " ∷ decimal fifo ∷ codes "\n" ∷ [])
graph_fault_line (format.ParamOrder name) = named_line (codes "graph: 10 order ") name
graph_fault_line (format.GraphCycle name) = named_line (codes "graph: 11 cycle ") name
graph_fault_line (format.Depth name) = named_line (codes "graph: 12 depth ") name
graph_fault_line (format.Count what) = named_line (codes "graph: 13 count ") what
graph_fault_line format.Memory = memory_line

abbrev pub graph_line : GraphCause → List ℕ
graph_line graph.TooLong = codes "graph: 0 length\n"
graph_line (graph.Fault fault) = graph_fault_line fault

-- the line of the first fault of the rows, which are counted from 1, as are their fields
abbrev pub fault_line : TokenFault → List ℕ
fault_line (fault.Name row) = joined (codes "tokens: name " ∷ decimal row ∷ codes "\n" ∷ [])
fault_line (fault.Repeated row) = joined (codes "tokens: repeated " ∷ decimal row ∷ codes "\n" ∷ [])
fault_line (fault.Number row field) = joined (codes "tokens: number " ∷ decimal row ∷ codes " " ∷ decimal field ∷ codes "\n" ∷ [])
fault_line fault.Memory = memory_line

abbrev pub tokens_line : TokenCause → List ℕ
tokens_line tokens.TooLong = codes "tokens: length\n"
tokens_line (tokens.Fault fault) = fault_line fault
tokens_line (tokens.Short name has needs) =
    joined (codes "tokens: short " ∷ name ∷ codes " has " ∷ decimal has ∷ codes " needs " ∷ decimal needs ∷ codes "\n" ∷ [])

-- the first bad line of a journal, counted from 1
abbrev pub journal_line : JournalCause → List ℕ
journal_line journal.TooLong = codes "journal: length\n"
journal_line (journal.Illegal line) = joined (codes "journal: line " ∷ decimal line ∷ codes "\n" ∷ [])

-- why a number isn't what it may be
abbrev pub why_words : Why → List ℕ
why_words (why.Value value) = codes "value " ++ signed_decimal value
why_words why.Overflow = codes "overflow"
why_words why.Division = codes "division"

-- a parameter's value has its range beside it
abbrev pub range_words : Why → ℤ → ℤ → List ℕ
range_words (why.Value value) low high = joined (codes " range " ∷ signed_decimal low ∷ codes " " ∷ signed_decimal high ∷ [])
range_words why.Overflow low high = []
range_words why.Division low high = []

abbrev pub what_word : What → List ℕ
what_word what.Firings = codes "firings"
what_word what.Links = codes "links"
what_word what.Tokens = codes "tokens"

-- each actor with firings left, and how many
abbrev pub left_words : List Left → List ℕ
left_words [] = []
left_words (left ∷ more) = joined (codes " " ∷ left.name ∷ codes " " ∷ decimal left.count ∷ []) ++ left_words more

abbrev pub cause_words : Cause → List ℕ
cause_words (cause.Param name why low high) = joined (codes "param " ∷ name ∷ codes " " ∷ why_words why ∷ range_words why low high ∷ [])
cause_words (cause.Rate name why) = joined (codes "rate " ∷ name ∷ codes " " ∷ why_words why ∷ [])
cause_words cause.Rates = codes "rates"
cause_words (cause.Limit what value) = joined (codes "limit " ∷ what_word what ∷ codes " " ∷ decimal value ∷ [])
cause_words (cause.Deadlock left) = codes "deadlock" ++ left_words left
cause_words (cause.Kernel name firing code) = joined (codes "kernel " ∷ name ∷ codes ":" ∷ decimal firing ∷ codes " " ∷ decimal code ∷ [])

-- at a path
abbrev pub refusal_line : List ℕ → Cause → List ℕ
refusal_line path reason = joined (codes "run: " ∷ path ∷ codes " " ∷ cause_words reason ∷ codes "\n" ∷ [])

-- the line of a status. After Done there are lines for the streams with tokens left, and after a failed put there is none
abbrev pub line_of : Status → List ℕ
line_of Done = []
line_of Usage = usage_line
line_of (GraphRefused cause) = graph_line cause
line_of (TokensRefused cause) = tokens_line cause
line_of (RunRefused refusal) = refusal_line refusal.path refusal.cause
line_of (ReadFault which) = read_line which
line_of WriteFault = []
line_of WantOfMemory = memory_line
line_of (JournalRefused cause) = journal_line cause
