-- What a call of the program has done.
use Rattle.std.specs.Prelude.{◌≡◌, ◌≢◌, ◌⊎◌, ℕ, true, None, List, [], Option, Some, Result, Ok, Err, String, string_bytes}
use Rattle.std.specs.declared.alloc.Global.{Global}
use Rattle.outer_world.specs.Faults.{Rose}
use Rattle.outer_world.specs.Sink.{Grows}
use Rattle.pisdf_model.specs.declared.graph.Graphs.{Graphs}
use Rattle.quiescent_driver.specs.Runs.{GrowsPartly}
use Rattle.pisdf_program.specs.Loaded.{is_answer}
use Rattle.pisdf_program.specs.SoakEnd.{total_row}
use Rattle.pisdf_program.specs.Result.{Outcome, TellsStop, short_of, told}
use Rattle.quiescent_driver.specs.Top.{top_of}
use Rattle.pisdf_program.specs.Lines.{left_lines, line_of, memory_line, read_line}
use Rattle.pisdf_program.specs.Written.{Wrote, WroteFirst, WrotePartly}
use Rattle.pisdf_program.specs.Words.{Command, Run, Plain, Unfold, Job, Audit, Soak, Upgrade}
use Rattle.pisdf_program.specs.Words as words
use Rattle.pisdf_program.specs.declared.soak_totals.Total.{Total}
use Rattle.quiescent_driver.specs.declared.stop.Stop.{Stop}
use Rattle.quiescent_driver.specs.declared.stop.Stop.TheVariants as stop
use Rattle.quiescent_driver.specs.declared.end.RunEnd.{RunEnd}
use Rattle.quiescent_driver.specs.declared.end.RunEnd.TheVariants as end
use Rattle.pisdf_program.specs.declared.status.Status.{Status}
use Rattle.pisdf_program.specs.declared.status.Status.TheVariants.{Done, Usage, GraphRefused, TokensRefused, RunRefused, ReadFault, WriteFault, WantOfMemory, JournalRefused}
use Rattle.pisdf_program.specs.declared.status.Which.{Which}
use Rattle.pisdf_program.specs.declared.status.Which.TheVariants.{Graph, Tokens, Journal}

-- ---- the end of a run, told

-- the lines of the streams with tokens left, or the refusal; both may lack memory
abbrev pub Reports : Graphs → RunEnd → Result (String Global) Status → Type 0
Reports graphs (end.Done left) (Ok text) = string_bytes text ≡ left_lines (top_of graphs).inputs left
Reports graphs (end.Done left) (Err status) = status ≡ WantOfMemory
Reports graphs (end.Short stream has needs) (Ok text) = ⊥
Reports graphs (end.Short stream has needs) (Err status) =
    (status ≡ short_of graphs record { stream = stream; has = has; needs = needs }) ⊎ (status ≡ WantOfMemory)
Reports graphs (end.Refused refusal) (Ok text) = ⊥
Reports graphs (end.Refused refusal) (Err status) = status ≡ RunRefused refusal
Reports graphs end.WriteFault (Ok text) = ⊥
Reports graphs end.WriteFault (Err status) = status ≡ WriteFault
Reports graphs end.Memory (Ok text) = ⊥
Reports graphs end.Memory (Err status) = status ≡ WantOfMemory

-- no text after journals that were all put, or the refusal
abbrev pub ReportsBoards : Graphs → Result (Unit {0}) RunEnd → Result (String Global) Status → Type 0
ReportsBoards graphs (Ok done) (Ok text) = string_bytes text ≡ []
ReportsBoards graphs (Ok done) (Err status) = ⊥
ReportsBoards graphs (Err end) result = Reports graphs end result

-- ---- before anything is put to standard error

-- the told files decide this status and this line, and all texts were put
abbrev pub Decided : (Outcome → Type 0) → Option (List ℕ) → Option (List ℕ) → List ℕ → Status → Type 0
Decided expected had has line status = (o : Outcome) → expected o → (o.status ≡ status) × (o.line ≡ line) × Wrote had has o.texts

abbrev pub Stopped : (Outcome → Type 0) → Option (List ℕ) → Option (List ℕ) → ℕ → ℕ → Status → Type 0
Stopped expected had has before now Done = ⊥
Stopped expected had has before now Usage = Decided expected had has (line_of Usage) Usage
Stopped expected had has before now (GraphRefused cause) = Decided expected had has (line_of (GraphRefused cause)) (GraphRefused cause)
Stopped expected had has before now (TokensRefused cause) = Decided expected had has (line_of (TokensRefused cause)) (TokensRefused cause)
Stopped expected had has before now (RunRefused refusal) = Decided expected had has (line_of (RunRefused refusal)) (RunRefused refusal)
Stopped expected had has before now (ReadFault which) = Grows had has []
Stopped expected had has before now WriteFault = Rose before now × ((o : Outcome) → expected o → WrotePartly had has o.texts)
Stopped expected had has before now WantOfMemory = (o : Outcome) → expected o → WroteFirst had has o.texts
Stopped expected had has before now (JournalRefused cause) = Decided expected had has (line_of (JournalRefused cause)) (JournalRefused cause)

-- the lines for standard error after Done, or the status otherwise
abbrev pub Works : (Outcome → Type 0) → Option (List ℕ) → Option (List ℕ) → ℕ → ℕ → Result (String Global) Status → Type 0
Works expected had has before now (Ok text) = Decided expected had has (string_bytes text) Done
Works expected had has before now (Err status) = Stopped expected had has before now status

-- where the files are told and a status was worked out that is neither a fault nor want of memory, there is an outcome
abbrev pub IsThere : Type 0 → (Outcome → Type 0) → Result (String Global) Status → Type 0
IsThere told expected (Ok text) = told → (o : Outcome) × expected o
IsThere told expected (Err status) = told → is_answer status ≡ true → (o : Outcome) × expected o

-- ---- standard error

-- a line was put and the status is this one, or the put failed
abbrev pub PutsLine : List ℕ → Status → Option (List ℕ) → Option (List ℕ) → ℕ → ℕ → Status → Type 0
PutsLine line told had has before now status =
    ((status ≡ told) × Grows had has line) ⊎ ((status ≡ WriteFault) × Rose before now × GrowsPartly had has line)

-- a status's line was put, or the line of want of memory
abbrev pub Tells : Status → Option (List ℕ) → Option (List ℕ) → ℕ → ℕ → Status → Type 0
Tells told had has before now status =
    PutsLine (line_of told) told had has before now status ⊎ PutsLine memory_line WantOfMemory had has before now status

-- after a failed put nothing was put
abbrev pub TellsUnlessCut : Status → Option (List ℕ) → Option (List ℕ) → ℕ → ℕ → Status → Type 0
TellsUnlessCut told had has before now status =
    ((told ≡ WriteFault) × (status ≡ WriteFault) × Grows had has []) ⊎ ((told ≢ WriteFault) × Tells told had has before now status)

-- the lines of the streams with tokens left were put, or a status's line
abbrev pub Concludes : Result (String Global) Status → Option (List ℕ) → Option (List ℕ) → ℕ → ℕ → Status → Type 0
Concludes (Ok text) had has before now status = PutsLine (string_bytes text) Done had has before now status
Concludes (Err told) had has before now status = TellsUnlessCut told had has before now status

-- ---- the end of a soak run, told

abbrev pub TellsSoak : Graphs → ℕ → Result Total Stop → Outcome → Type 0
TellsSoak graphs number (Ok total) o = o ≡ told (total_row number total)
TellsSoak graphs number (Err stop) o = TellsStop graphs stop o

-- ---- the whole call

-- both texts were written, and the status is the outcome's
pub record IsResult (o : Outcome) (out_had out_has err_had err_has : Option (List ℕ)) (answer : Status) : Type 0 where
  pub status : answer ≡ o.status
  pub out : Wrote out_had out_has o.texts
  pub err : Grows err_had err_has o.line

-- the first texts were written, each whole, and the line of want of memory
pub record IsStarved (o : Outcome) (out_had out_has err_had err_has : Option (List ℕ)) : Type 0 where
  pub out : WroteFirst out_had out_has o.texts
  pub err : Grows err_had err_has memory_line

-- a line that a call of this outcome may put, and what it has put to out before: all its texts before the outcome's line, the
-- first of them before that of want of memory, and nothing before that of a fault of reading
abbrev pub MayTell : Outcome → Option (List ℕ) → Option (List ℕ) → List ℕ → Type 0
MayTell o had has line =
    ((line ≡ o.line) × Wrote had has o.texts) ⊎ ((line ≡ memory_line) × WroteFirst had has o.texts) ⊎ ((which : Which) × (line ≡ read_line which) × Grows had has [])

-- a put failed and was the last: one to out, after which nothing was put to err, or one to err
abbrev pub IsCut : Outcome → Option (List ℕ) → Option (List ℕ) → Option (List ℕ) → Option (List ℕ) → Type 0
IsCut o out_had out_has err_had err_has =
    (WrotePartly out_had out_has o.texts × Grows err_had err_has []) ⊎ ((line : List ℕ) × MayTell o out_had out_has line × GrowsPartly err_had err_has line)

-- nothing but the line of the file that couldn't be read was written
pub record IsUnread (which : Which) (out_had out_has err_had err_has : Option (List ℕ)) : Type 0 where
  pub out : Grows out_had out_has []
  pub err : Grows err_had err_has (read_line which)

-- what the call has done, by status, `expected` being the outcome of the files where they are told
pub record Ended (expected : Outcome → Type 0) (out_had out_has err_had err_has : Option (List ℕ)) (out_before out_now err_before err_now : ℕ) (status : Status) : Type 0 where
  pub result : (o : Outcome) → expected o → is_answer status ≡ true → IsResult o out_had out_has err_had err_has status
  pub memory : (o : Outcome) → expected o → status ≡ WantOfMemory → IsStarved o out_had out_has err_had err_has
  pub write : status ≡ WriteFault → Rose out_before out_now ⊎ Rose err_before err_now
  pub cut : (o : Outcome) → expected o → status ≡ WriteFault → IsCut o out_had out_has err_had err_has
  pub unread : (which : Which) → status ≡ ReadFault which → IsUnread which out_had out_has err_had err_has

-- ---- the files of a command

-- of the names of a graph file, a token file and a journal the one that is asked for
abbrev pub file_of_three : List ℕ → List ℕ → List ℕ → Which → Option (List ℕ)
file_of_three graph tokens journal Graph = Some graph
file_of_three graph tokens journal Tokens = Some tokens
file_of_three graph tokens journal Journal = Some journal

-- of the names of the first two alone
abbrev pub file_among : List ℕ → List ℕ → Which → Option (List ℕ)
file_among graph tokens Graph = Some graph
file_among graph tokens Tokens = Some tokens
file_among graph tokens Journal = None

abbrev pub graph_alone : List ℕ → Which → Option (List ℕ)
graph_alone graph Graph = Some graph
graph_alone graph Tokens = None
graph_alone graph Journal = None

-- the name of one of the files that a command may load, in its words
abbrev pub file_in : Command → Which → Option (List ℕ)
file_in (Run graph tokens iterations workers) which = file_among graph tokens which
file_in (Plain graph tokens iterations) which = file_among graph tokens which
file_in (Unfold times graph tokens iterations workers) which = file_among graph tokens which
file_in (Job what graph tokens workers) which = file_among graph tokens which
file_in (words.Journal graph tokens iterations workers) which = file_among graph tokens which
file_in (Audit graph tokens iterations workers journal) which = file_of_three graph tokens journal which
file_in (Soak number workers) which = None
file_in (Upgrade graph) which = graph_alone graph which

abbrev pub file_of : Option Command → Which → Option (List ℕ)
file_of None which = None
file_of (Some command) which = file_in command which

-- the count of a name rose
abbrev pub RoseAt : (List ℕ → ℕ) → (List ℕ → ℕ) → Option (List ℕ) → Type 0
RoseAt before now None = ⊥
RoseAt before now (Some name) = Rose (before name) (now name)

-- a status of a command that has read its files, or has none
abbrev pub ReadsNothing : Status → Type 0
ReadsNothing status = ((which : Which) → status ≢ ReadFault which) × (status ≢ Usage)

-- the status of a command whose iteration isn't done
abbrev pub StopsWith : Graphs → Stop → Status → Type 0
StopsWith graphs (stop.Short stream has needs) status = (status ≡ short_of graphs record { stream = stream; has = has; needs = needs }) ⊎ (status ≡ WantOfMemory)
StopsWith graphs (stop.Refused refusal) status = status ≡ RunRefused refusal
StopsWith graphs stop.Memory status = status ≡ WantOfMemory

-- where a status is a fault of reading one of two files, the count of that file's name rose
abbrev pub FilesRose : List ℕ → List ℕ → (List ℕ → ℕ) → (List ℕ → ℕ) → Status → Type 0
FilesRose graph tokens before now status = (which : Which) → status ≡ ReadFault which → RoseAt before now (file_among graph tokens which)

-- where a status is a fault of reading a file, the count of that file's name in the command's words rose
abbrev pub CountRose : Option Command → (List ℕ → ℕ) → (List ℕ → ℕ) → Status → Type 0
CountRose command before now status = (which : Which) → status ≡ ReadFault which → RoseAt before now (file_of command which)

-- ---- completeness

-- the status is the outcome's, or want of memory, or a fault where a count rose: of a sink, or of one of the command's files
abbrev pub Completes : (Outcome → Type 0) → Option Command → (List ℕ → ℕ) → (List ℕ → ℕ) → ℕ → ℕ → ℕ → ℕ → Status → Type 0
Completes expected command before now out_before out_now err_before err_now status =
    (o : Outcome) → expected o
    → (status ≡ o.status)
    ⊎ (status ≡ WantOfMemory)
    ⊎ ((status ≡ WriteFault) × (Rose out_before out_now ⊎ Rose err_before err_now))
    ⊎ ((which : Which) × (status ≡ ReadFault which) × RoseAt before now (file_of command which))
