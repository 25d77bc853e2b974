-- The result of a command: what it writes and how it ends, from the words and the files that they name.
use Rattle.std.specs.Prelude.{◌≡◌, ℕ, ◌==◌, nat_lt, ℤ, List, [], ◌∷◌, codes, length, Option, Some, None, Result, Ok, Err, if◌then◌else◌}
use Rattle.std.specs.Fmt.{decimal}
use Rattle.std.specs.Str.{is_utf8}
use Rattle.serde_json.specs.Data.{Data}
use Rattle.serde_json.specs.Read.{read}
use Rattle.serde_json.specs.Written.{compact_text}
use Rattle.kernel_gate.specs.Table.{the_signatures}
use Rattle.token_text.specs.Streams.{read_of}
use Rattle.token_text.specs.declared.fault.TokenFault.{TokenFault}
use Rattle.pisdf_model.specs.declared.graph.Graphs.{Graphs}
use Rattle.graph_format.specs.Canonical.{canonical}
use Rattle.graph_format.specs.Kernels.{kernel_names}
use Rattle.graph_format.specs.Reads.{reading}
use Rattle.graph_format.specs.declared.graph_fault.GraphFault.{GraphFault}
use Rattle.graph_format.specs.declared.graph_fault.GraphFault.TheVariants.{NotJson}
use Rattle.graph_writer.specs.Upgraded.{upgraded}
use Rattle.pisdf_meaning.specs.Run as run
use Rattle.pisdf_meaning.specs.declared.outcome.Iteration.{Iteration}
use Rattle.job_report.specs.Names.{names_of}
use Rattle.job_report.specs.Rows.{name_at}
use Rattle.job_report.specs.Told.{Tells}
use Rattle.job_report.specs.declared.text.JobText.{JobText}
use Rattle.journal_audit.specs.Verdicts.{IsVerdict}
use Rattle.journal_audit.specs.declared.verdict.Verdict.{Verdict}
use Rattle.journal_audit.specs.declared.verdict.Verdict.TheVariants as verdict
use Rattle.quiescent_driver.specs.Journals.{boards}
use Rattle.pisdf_program.specs.Job.{EndsJob, JobEnd}
use Rattle.pisdf_program.specs.Soak.{all_tokens, soak_file, soak_iterations, soak_text, soak_streams}
use Rattle.quiescent_driver.specs.Top.{top_of}
use Rattle.pisdf_program.specs.Inputs.{input_names}
use Rattle.pisdf_program.specs.Words.{Command, command_of, Run, Plain, Unfold, Job, Journal, Audit, Soak, Upgrade}
use Rattle.quiescent_driver.specs.Texts.{joined, texts_from}
use Rattle.pisdf_program.specs.Lines.{left_lines, line_of}
use Rattle.pisdf_program.specs.Written.{Text, Exactly, exactly, journals}
use Rattle.quiescent_driver.specs.declared.stop.Stop.{Stop}
use Rattle.quiescent_driver.specs.declared.stop.Stop.TheVariants as stop
use Rattle.pisdf_program.specs.declared.load.Input.{Input}
use Rattle.pisdf_program.specs.declared.status.Status.{Status}
use Rattle.pisdf_program.specs.declared.status.Status.TheVariants.{Done, Usage, GraphRefused, TokensRefused, RunRefused, JournalRefused}
use Rattle.pisdf_program.specs.declared.status.GraphCause.TheVariants as graph
use Rattle.pisdf_program.specs.declared.status.TokenCause.TheVariants as tokens
use Rattle.pisdf_program.specs.declared.status.JournalCause.TheVariants as journal

-- the texts for standard output, each put whole, the text for standard error, and the status
pub record Outcome : Type 0 where
  pub texts : List Text
  pub line : List ℕ
  pub status : Status

-- a status with its line
abbrev pub refused : Status → Outcome
refused status = record { texts = []; line = line_of status; status = status }

-- one text
abbrev pub told : List ℕ → Outcome
told text = record { texts = Exactly text ∷ []; line = []; status = Done }

-- ---- the graph file

-- the value that `serde_json` reads in bytes that are text
abbrev pub json_of : List ℕ → Option Data
json_of bytes = if is_utf8 bytes then read bytes else None

abbrev pub graphs_in_reading : Result Graphs GraphFault → Result Graphs Status
graphs_in_reading (Ok graphs) = Ok graphs
graphs_in_reading (Err fault) = Err (GraphRefused (graph.Fault fault))

abbrev pub graphs_in_json : Option Data → Result Graphs Status
graphs_in_json None = Err (GraphRefused (graph.Fault NotJson))
graphs_in_json (Some value) = graphs_in_reading (reading the_signatures value)

-- the graphs in the bytes of a file, or the refusal
unfoldable pub read_graphs : List ℕ → Result Graphs Status
read_graphs bytes = if nat_lt 4194304 (length bytes) then Err (GraphRefused graph.TooLong) else graphs_in_json (json_of bytes)

-- ---- the token file

abbrev pub streams_in : Result (List (List ℤ)) TokenFault → Result (List (List ℤ)) Status
streams_in (Ok streams) = Ok streams
streams_in (Err fault) = Err (TokensRefused (tokens.Fault fault))

-- the stream of each input in the bytes of a file, or the refusal
unfoldable pub read_streams : Graphs → List ℕ → Result (List (List ℤ)) Status
read_streams graphs bytes = if nat_lt 67108864 (length bytes) then Err (TokensRefused tokens.TooLong) else streams_in (read_of bytes (input_names graphs))

-- ---- the two files together

abbrev pub input_in : Graphs → Result (List (List ℤ)) Status → Result Input Status
input_in graphs (Ok streams) = Ok record { graphs = graphs; streams = streams }
input_in graphs (Err status) = Err status

-- the token file comes after the graph file; nothing is said of a file that isn't told
abbrev pub ReadsTokens : Result Graphs Status → Option (List ℕ) → Result Input Status → Type 0
ReadsTokens (Ok graphs) None read = ⊥
ReadsTokens (Ok graphs) (Some bytes) read = read ≡ input_in graphs (read_streams graphs bytes)
ReadsTokens (Err status) tokens read = read ≡ Err status

-- what the two files hold, or the refusal
abbrev pub ReadsFiles : Option (List ℕ) → Option (List ℕ) → Result Input Status → Type 0
ReadsFiles None tokens read = ⊥
ReadsFiles (Some bytes) tokens read = ReadsTokens (read_graphs bytes) tokens read

-- a command goes on with what they hold
abbrev pub GoesOn : (Input → Outcome → Type 0) → Result Input Status → Outcome → Type 0
GoesOn next (Ok input) o = next input o
GoesOn next (Err status) o = o ≡ refused status

abbrev pub FromFiles : (Input → Outcome → Type 0) → Option (List ℕ) → Option (List ℕ) → Outcome → Type 0
FromFiles next graph tokens o = (read : Result Input Status) × ReadsFiles graph tokens read × GoesOn next read o

-- ---- the iterations

abbrev pub short_of : Graphs → run.Lack → Status
short_of graphs lack = TokensRefused (tokens.Short (name_at (input_names graphs) lack.stream) lack.has lack.needs)

abbrev pub status_of : Graphs → run.RunEnd → Status
status_of graphs (run.Done left) = Done
status_of graphs (run.Short lack) = short_of graphs lack
status_of graphs (run.Refused refusal) = RunRefused refusal

abbrev pub line_of_end : Graphs → run.RunEnd → List ℕ
line_of_end graphs (run.Done left) = left_lines (top_of graphs).inputs left
line_of_end graphs (run.Short lack) = line_of (short_of graphs lack)
line_of_end graphs (run.Refused refusal) = line_of (RunRefused refusal)

-- the result of a run by one thread
abbrev pub outcome_of : Graphs → run.Run → Outcome
outcome_of graphs r = record {
  texts = exactly (texts_from 0 (top_of graphs).outputs r.iterations);
  line = line_of_end graphs r.end;
  status = status_of graphs r.end;
}

-- what one thread gets from so many iterations
abbrev pub Runs : ℕ → Input → Outcome → Type 0
Runs iterations input o = (r : run.Run) × run.IsRun input.graphs input.streams iterations r × (o ≡ outcome_of input.graphs r)

abbrev pub RunsFile : Option (List ℕ) → ℕ → Option (List ℕ) → Outcome → Type 0
RunsFile graph iterations tokens o = FromFiles (Runs iterations) graph tokens o

-- ---- the journals of a run

-- the journal of each board of a run by so many workers, and how one thread's run ends
abbrev pub journals_of : ℕ → Input → run.Run → Outcome
journals_of workers input r = record {
  texts = journals input.graphs input.streams workers (boards input.graphs r);
  line = line_of (status_of input.graphs r.end);
  status = status_of input.graphs r.end;
}

abbrev pub Journals : ℕ → ℕ → Input → Outcome → Type 0
Journals iterations workers input o = (r : run.Run) × run.IsRun input.graphs input.streams iterations r × (o ≡ journals_of workers input r)

-- ---- the audit of a journal

-- how many boards and entries there are in a journal of a whole run
abbrev pub legal_row : ℕ → ℕ → List ℕ
legal_row boards entries = joined (codes "audit,legal," ∷ decimal boards ∷ codes "," ∷ decimal entries ∷ codes "\n" ∷ [])

abbrev pub judged : Verdict → Outcome
judged (verdict.Legal boards entries) = told (legal_row boards entries)
judged (verdict.Illegal line) = refused (JournalRefused (journal.Illegal line))

-- the text in the bytes of a journal's file, or the refusal
unfoldable pub read_journal : List ℕ → Result (List ℕ) Status
read_journal bytes = if nat_lt 67108864 (length bytes) then Err (JournalRefused journal.TooLong) else Ok bytes

-- the text is judged as that of the journals of a run of so many iterations by so many workers
abbrev pub AuditsText : ℕ → ℕ → Input → Result (List ℕ) Status → Outcome → Type 0
AuditsText iterations workers input (Ok text) o = (v : Verdict) × IsVerdict input.graphs the_signatures input.streams iterations workers text v × (o ≡ judged v)
AuditsText iterations workers input (Err status) o = o ≡ refused status

-- the journal's file comes after the two others; nothing is said of it where it isn't told
abbrev pub Audits : ℕ → ℕ → Option (List ℕ) → Input → Outcome → Type 0
Audits iterations workers None input o = ⊥
Audits iterations workers (Some bytes) input o = AuditsText iterations workers input (read_journal bytes) o

-- ---- what is told of the compiled job

-- what is told where an iteration isn't done; want of memory says nothing
abbrev pub TellsStop : Graphs → Stop → Outcome → Type 0
TellsStop graphs (stop.Short stream has needs) o = o ≡ refused (short_of graphs record { stream = stream; has = has; needs = needs })
TellsStop graphs (stop.Refused refusal) o = o ≡ refused (RunRefused refusal)
TellsStop graphs stop.Memory o = Unit {0}

-- what is told of the job, or why there is none
abbrev pub TellsEnd : JobText → Graphs → JobEnd → Outcome → Type 0
TellsEnd what graphs (Ok job) o = (text : List ℕ) × Tells what (names_of graphs.graphs (top_of graphs)) job text × (o ≡ told text)
TellsEnd what graphs (Err stop) o = TellsStop graphs stop o

-- the job of the first iteration for so many workers, of whose actors none fires but the configuration actors
abbrev pub TellsJob : JobText → ℕ → Input → Outcome → Type 0
TellsJob what workers input o = (end : JobEnd) × EndsJob input.graphs input.streams workers end × TellsEnd what input.graphs end o

-- ---- a soak run

-- what is told of one that ends so
abbrev pub soak_ends : ℕ → Graphs → run.RunEnd → List Iteration → Outcome
soak_ends number graphs (run.Done left) iterations = told (soak_text number (all_tokens iterations))
soak_ends number graphs (run.Short lack) iterations = refused (short_of graphs lack)
soak_ends number graphs (run.Refused refusal) iterations = refused (RunRefused refusal)

-- what one thread gets from the iterations of the soak run of a number
abbrev pub SoaksOn : ℕ → Graphs → Outcome → Type 0
SoaksOn number graphs o = (r : run.Run) × run.IsRun graphs (soak_streams number) (soak_iterations number) r × (o ≡ soak_ends number graphs r.end r.iterations)

abbrev pub SoaksIn : ℕ → Result Graphs Status → Outcome → Type 0
SoaksIn number (Ok graphs) o = SoaksOn number graphs o
SoaksIn number (Err status) o = o ≡ refused status

-- on the graphs of its file
abbrev pub Soaks : ℕ → Outcome → Type 0
Soaks number o = SoaksIn number (read_graphs soak_file) o

-- ---- graph files written anew

-- graphs as those of a file of version 2, where the version is 1
abbrev pub latest : Graphs → Graphs
latest graphs = if graphs.version == 1 then upgraded graphs else graphs

-- the canonical file of graphs of the table's kernels
abbrev pub file_of : Graphs → List ℕ
file_of graphs = compact_text (canonical (kernel_names the_signatures) graphs)

abbrev pub upgrade_graphs : Result Graphs Status → Outcome
upgrade_graphs (Ok graphs) = told (file_of (latest graphs))
upgrade_graphs (Err status) = refused status

abbrev pub Upgrades : Option (List ℕ) → Outcome → Type 0
Upgrades None o = ⊥
Upgrades (Some bytes) o = o ≡ upgrade_graphs (read_graphs bytes)

-- ---- the commands

-- a command comes to this outcome, where a file by its name is told
abbrev pub ComesTo : Option Command → (List ℕ → Option (List ℕ)) → Outcome → Type 0
ComesTo None files o = o ≡ refused Usage
ComesTo (Some (Run graph tokens iterations workers)) files o = RunsFile (files graph) iterations (files tokens) o
ComesTo (Some (Plain graph tokens iterations)) files o = RunsFile (files graph) iterations (files tokens) o
ComesTo (Some (Unfold times graph tokens iterations workers)) files o = RunsFile (files graph) iterations (files tokens) o
ComesTo (Some (Job what graph tokens workers)) files o = FromFiles (TellsJob what workers) (files graph) (files tokens) o
ComesTo (Some (Journal graph tokens iterations workers)) files o = FromFiles (Journals iterations workers) (files graph) (files tokens) o
ComesTo (Some (Audit graph tokens iterations workers journal)) files o = FromFiles (Audits iterations workers (files journal)) (files graph) (files tokens) o
ComesTo (Some (Soak number workers)) files o = Soaks number o
ComesTo (Some (Upgrade graph)) files o = Upgrades (files graph) o

-- the result of a command in these words
abbrev pub ResultOf : List (List ℕ) → (List ℕ → Option (List ℕ)) → Outcome → Type 0
ResultOf words files o = ComesTo (command_of words) files o

-- ---- which files a command must know

abbrev pub IsTold : Option (List ℕ) → Type 0
IsTold None = ⊥
IsTold (Some bytes) = Unit {0}

abbrev pub IsToldAfter : Result Graphs Status → Option (List ℕ) → Type 0
IsToldAfter (Ok graphs) tokens = IsTold tokens
IsToldAfter (Err status) tokens = Unit {0}

abbrev pub AreTold : Option (List ℕ) → Option (List ℕ) → Type 0
AreTold None tokens = ⊥
AreTold (Some bytes) tokens = IsToldAfter (read_graphs bytes) tokens

-- a third file is told where the two before it are read
abbrev pub ThreeAreTold : Option (List ℕ) → Option (List ℕ) → Option (List ℕ) → Type 0
ThreeAreTold graph tokens third = AreTold graph tokens × ((input : Input) → ReadsFiles graph tokens (Ok input) → IsTold third)

-- the files that a command loads are told
abbrev pub Knows : Option Command → (List ℕ → Option (List ℕ)) → Type 0
Knows None files = Unit {0}
Knows (Some (Run graph tokens iterations workers)) files = AreTold (files graph) (files tokens)
Knows (Some (Plain graph tokens iterations)) files = AreTold (files graph) (files tokens)
Knows (Some (Unfold times graph tokens iterations workers)) files = AreTold (files graph) (files tokens)
Knows (Some (Job what graph tokens workers)) files = AreTold (files graph) (files tokens)
Knows (Some (Journal graph tokens iterations workers)) files = AreTold (files graph) (files tokens)
Knows (Some (Audit graph tokens iterations workers journal)) files = ThreeAreTold (files graph) (files tokens) (files journal)
Knows (Some (Soak number workers)) files = Unit {0}
Knows (Some (Upgrade graph)) files = IsTold (files graph)
