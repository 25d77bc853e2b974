-- What a line is to a replay.
use Rattle.std.specs.Prelude.{◌≡◌, ◌≢◌, ℕ, ◌<◌, Bool, true, false, List, [], ◌∷◌, ◌++◌, length, slice_index_or, Option, Some, None}
use Rattle.nested_jobs.specs.Journals as steps
use Rattle.nested_jobs.specs.Rules.{Place}
use Rattle.pisdf_model.specs.declared.graph.Graphs.{Graphs}
use Rattle.job_rules.specs.Items.{graph_of}
use Rattle.pisdf_model.specs.declared.graph.Graph.{Graph}
use Rattle.audit_job.specs.Jobs.{IsJob}
use Rattle.board_rules.specs.Entries.{Step, item_of}
use Rattle.board_rules.specs.Keys.{Key}
use Rattle.board_rules.specs.Legal.{AreLegal, journal_of}
use Rattle.board_rules.specs.declared.entry.Entry.{Entry}
use Rattle.board_rules.specs.declared.entry.Entry.TheVariants.{Claim, Finish}
use Rattle.quiescent_driver.specs.Journals.{entry_line}
use Rattle.journal_laws.specs.Lines.{claim_begin}
use Rattle.journal_audit.specs.Reading.{NoStepWrites}
use Rattle.journal_audit.specs.Replays.{Enters, Makes}
use Rattle.journal_audit.specs.Slots.{InSlot}
use Rattle.journal_audit.specs.Table.{row_at}
use Rattle.journal_audit.specs.declared.replay.Replay.{Replay}
use Rattle.journal_audit.specs.declared.table.Row.{Row}
use Rattle.journal_audit.specs.declared.table.Run.{Run}

-- what the next line of a worker begins with, that runs this
abbrev pub line_start : ℕ → ℕ → Option Run → List ℕ
line_start n w None = claim_begin n w
line_start n w (Some run) = entry_line n (Finish w)

abbrev pub Begins : ℕ → List (Option Run) → List ℕ → ℕ → Type 0
Begins n running line w = (rest : List ℕ) × (line ≡ line_start n w (slice_index_or running w None) ++ rest)

-- the line begins as the next one of this worker, or as that of none
abbrev pub IsSpeaker : ℕ → List (Option Run) → List ℕ → Option ℕ → Type 0
IsSpeaker n running line None = (w : ℕ) → w < length running → ¬ (Begins n running line w)
IsSpeaker n running line (Some w) = (w < length running) × Begins n running line w

-- the line of a worker's claim of an item of a row
abbrev pub ClaimLineIs : ℕ → ℕ → ℕ → List ℕ → Row → Type 0
ClaimLineIs n w item line row = (graphs : List Graph) (workers : ℕ) → IsJob graphs workers row.job → line ≡ entry_line n (Claim w row.job.firing.path (item_of (graph_of graphs row.job.firing) item))

-- the line is that of a claim of an item, which the worker runs then, or it isn't
abbrev pub TakesClaim : Replay → ℕ → ℕ → Run → List ℕ → Replay → Bool → Type 0
TakesClaim old n w run line new true = InSlot (ClaimLineIs n w run.item line) (row_at old.rows.items run.row) × Enters old w run new
TakesClaim old n w run line new false = InSlot (λ row. (right : List ℕ) × ClaimLineIs n w run.item right row × (line ≢ right)) (row_at old.rows.items run.row)

-- the claim was made that the line tells, or the worker can make none that it could tell
abbrev pub ClaimsTo : Graphs → Key → ℕ → List Step → ℕ → List ℕ → Bool → Replay → Type 0
ClaimsTo graphs key n taken w line true new = Makes graphs key n taken line new
ClaimsTo graphs key n taken w line false new =
    (place : Place) (entry : Entry) → AreLegal key (taken ++ steps.Claim w place ∷ []) → journal_of key (taken ++ steps.Claim w place ∷ []) ≡ journal_of key taken ++ entry ∷ [] → line ≢ entry_line n entry

-- the finish was made, or the line isn't its
abbrev pub FinishesTo : Graphs → Key → ℕ → List Step → ℕ → List ℕ → Bool → Replay → Type 0
FinishesTo graphs key n taken w line true new = Makes graphs key n taken line new
FinishesTo graphs key n taken w line false new = line ≢ entry_line n (Finish w)

-- the step was made that the line tells, or there is none that it could tell
abbrev pub StepsTo : Graphs → Key → ℕ → List Step → List ℕ → Bool → Replay → Type 0
StepsTo graphs key n taken line true new = Makes graphs key n taken line new
StepsTo graphs key n taken line false new = NoStepWrites key n taken line
