-- A run in one thread, turn by turn, with the traces of what each firing fires.
use Rattle.std.specs.Prelude.{◌≡◌, ℕ, ◌<◌, ℤ, List, [], ◌++◌, set, slice_index_or, Result, Ok, Err}
use Rattle.sdf_level.specs.View.{LevelView}
use Rattle.sdf_level.specs.Firings.{firings}
use Rattle.sdf_level.specs.Run.{Fire, inputs, put, Runs, RunsFrom}
use Rattle.sdf_level.specs.declared.link.Link.{Link}
use Rattle.pisdf_meaning.specs.Running.{Traces, traces_below}
use Rattle.pisdf_meaning.specs.declared.outcome.TraceRow.{TraceRow}
use Rattle.pisdf_meaning.specs.declared.refusal.Refusal.{Refusal}

-- which firings with a trace have which answer
abbrev pub TracedFire : Type 1
TracedFire = ℕ → ℕ → List TraceRow → List (List ℤ) → Result (List (List ℤ)) Refusal → Type 0

-- the firings with these traces
abbrev pub traced : TracedFire → Traces → Fire ℤ Refusal
traced fires traces b k read answer = fires b k (traces b k) read answer

-- firing k of an actor makes these of the lines of links, and of the rows of the trace of each actor
pub record TurnFires (fires : TracedFire) (sources : List (List ℤ)) (links : List Link) (b k : ℕ) (lines lines' : List (List ℤ)) (rows rows' : List (List TraceRow)) : Type 0 where
  pub outs : List (List ℤ)
  pub trace : List TraceRow
  pub fires_so : fires b k trace (inputs sources b k links lines) (Ok outs)
  pub lines_are : lines' ≡ put b outs links lines
  pub rows_are : rows' ≡ set rows b (slice_index_or rows b [] ++ trace)

-- it is refused, whatever its trace were
abbrev pub TurnRefused : TracedFire → List (List ℤ) → List Link → ℕ → ℕ → List (List ℤ) → Refusal → Type 0
TurnRefused fires sources links b k lines refusal = (trace : List TraceRow) → fires b k trace (inputs sources b k links lines) (Err refusal)

-- these traces are the same for the firings of a list
abbrev pub AgreeOn : List ℕ → Traces → Traces → Type 0
AgreeOn before traces later = (b k : ℕ) → k < firings b before → later b k ≡ traces b k

-- the rows of each actor are those of its firings in the list
abbrev pub AreRows : List ℕ → Traces → List (List TraceRow) → Type 0
AreRows before traces rows = (b : ℕ) → slice_index_or rows b [] ≡ traces_below (traces b) (firings b before)

-- Of the firings of a list those before are made, which left these lines and rows: what the rest comes to from there, that
-- is what the whole list comes to.
pub record HasCome (level : LevelView) (fires : TracedFire) (sources starts : List (List ℤ)) (all before rest : List ℕ) (lines : List (List ℤ)) (rows : List (List TraceRow)) : Type 0 where
  pub traces : Traces
  pub rows_are : AreRows before traces rows
  pub goes_on : (later : Traces) → AgreeOn before traces later → (end : Result (List (List ℤ)) Refusal) → RunsFrom level (traced fires later) sources before lines rest end → Runs level (traced fires later) sources starts all end

-- all firings of the list are made, and leave these lines and rows
pub record HasRun (level : LevelView) (fires : TracedFire) (sources starts : List (List ℤ)) (all : List ℕ) (lines : List (List ℤ)) (rows : List (List TraceRow)) : Type 0 where
  pub traces : Traces
  pub rows_are : AreRows all traces rows
  pub runs : Runs level (traced fires traces) sources starts all (Ok lines)

-- the list meets this refusal
pub record MeetsRefusal (level : LevelView) (fires : TracedFire) (sources starts : List (List ℤ)) (all : List ℕ) (refusal : Refusal) : Type 0 where
  pub traces : Traces
  pub runs : Runs level (traced fires traces) sources starts all (Err refusal)
