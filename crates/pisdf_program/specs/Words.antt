-- The words of a command.
use Rattle.std.specs.Prelude.{ℕ, List, [], ◌∷◌, Option, Some, None, option_and_then, option_map, codes, if◌then◌else◌}
use Rattle.std.specs.Str.{bytes_eq}
use Rattle.job_report.specs.declared.text.JobText.{JobText}
use Rattle.job_report.specs.declared.text.JobText.TheVariants as told
use Rattle.pisdf_program.specs.Number.{number_within}

-- a command with the names of its files and its numbers
pub data Command : Type 0 where
  Run : (graph tokens : List ℕ) (iterations workers : ℕ) → Command
  Plain : (graph tokens : List ℕ) (iterations : ℕ) → Command
  Unfold : (times : ℕ) (graph tokens : List ℕ) (iterations workers : ℕ) → Command
  Job : (what : JobText) (graph tokens : List ℕ) (workers : ℕ) → Command
  Journal : (graph tokens : List ℕ) (iterations workers : ℕ) → Command
  Audit : (graph tokens : List ℕ) (iterations workers : ℕ) (journal : List ℕ) → Command
  Soak : (number workers : ℕ) → Command
  Upgrade : (graph : List ℕ) → Command

-- the most iterations of a run, the most workers, the most iterations that are fired as one, and the greatest number of a soak run
abbrev pub most_iterations : ℕ
most_iterations = 65536

abbrev pub most_workers : ℕ
most_workers = 16

abbrev pub most_times : ℕ
most_times = 64

abbrev pub greatest_number : ℕ
greatest_number = 65535

-- from 0 on, in 1 to 5 digits
abbrev pub iterations_of : List ℕ → Option ℕ
iterations_of word = number_within 5 0 most_iterations word

-- from 1 on, in 1 or 2 digits
abbrev pub workers_of : List ℕ → Option ℕ
workers_of word = number_within 2 1 most_workers word

-- from 1 on, in 1 or 2 digits
abbrev pub times_of : List ℕ → Option ℕ
times_of word = number_within 2 1 most_times word

-- from 0 on, in 1 to 5 digits
abbrev pub generated_of : List ℕ → Option ℕ
generated_of word = number_within 5 0 greatest_number word

-- ---- the words after a command's name

-- GRAPH TOKENS ITERATIONS WORKERS
abbrev pub run_row : List (List ℕ) → Option Command
run_row (graph ∷ tokens ∷ iterations ∷ workers ∷ []) =
    option_and_then (λ i. option_map (λ w. Run graph tokens i w) (workers_of workers)) (iterations_of iterations)
run_row _ = None

-- GRAPH TOKENS ITERATIONS
abbrev pub plain_row : List (List ℕ) → Option Command
plain_row (graph ∷ tokens ∷ iterations ∷ []) = option_map (λ i. Plain graph tokens i) (iterations_of iterations)
plain_row _ = None

-- TIMES GRAPH TOKENS ITERATIONS WORKERS
abbrev pub unfold_row : List (List ℕ) → Option Command
unfold_row (times ∷ graph ∷ tokens ∷ iterations ∷ workers ∷ []) =
    option_and_then (λ t. option_and_then (λ i. option_map (λ w. Unfold t graph tokens i w) (workers_of workers)) (iterations_of iterations)) (times_of times)
unfold_row _ = None

-- GRAPH TOKENS WORKERS
abbrev pub job_row : JobText → List (List ℕ) → Option Command
job_row what (graph ∷ tokens ∷ workers ∷ []) = option_map (λ w. Job what graph tokens w) (workers_of workers)
job_row what _ = None

-- GRAPH TOKENS ITERATIONS WORKERS
abbrev pub journal_row : List (List ℕ) → Option Command
journal_row (graph ∷ tokens ∷ iterations ∷ workers ∷ []) =
    option_and_then (λ i. option_map (λ w. Journal graph tokens i w) (workers_of workers)) (iterations_of iterations)
journal_row _ = None

-- GRAPH TOKENS ITERATIONS WORKERS JOURNAL
abbrev pub audit_row : List (List ℕ) → Option Command
audit_row (graph ∷ tokens ∷ iterations ∷ workers ∷ journal ∷ []) =
    option_and_then (λ i. option_map (λ w. Audit graph tokens i w journal) (workers_of workers)) (iterations_of iterations)
audit_row _ = None

-- NUMBER WORKERS
abbrev pub soak_row : List (List ℕ) → Option Command
soak_row (number ∷ workers ∷ []) = option_and_then (λ n. option_map (λ w. Soak n w) (workers_of workers)) (generated_of number)
soak_row _ = None

-- GRAPH
abbrev pub upgrade_row : List (List ℕ) → Option Command
upgrade_row (graph ∷ []) = Some (Upgrade graph)
upgrade_row _ = None

-- ---- a command's name, and the words after it

abbrev pub row_of : List ℕ → List (List ℕ) → Option Command
row_of name words =
    if bytes_eq name (codes "run") then run_row words
    else if bytes_eq name (codes "plain") then plain_row words
    else if bytes_eq name (codes "unfold") then unfold_row words
    else if bytes_eq name (codes "plan") then job_row told.Plan words
    else if bytes_eq name (codes "schedule") then job_row told.Schedule words
    else if bytes_eq name (codes "memory") then job_row told.Memory words
    else if bytes_eq name (codes "journal") then journal_row words
    else if bytes_eq name (codes "audit") then audit_row words
    else if bytes_eq name (codes "soak") then soak_row words
    else if bytes_eq name (codes "upgrade") then upgrade_row words
    else None

-- the command that some row of the table reads in the words
abbrev pub command_of : List (List ℕ) → Option Command
command_of [] = None
command_of (name ∷ words) = row_of name words
