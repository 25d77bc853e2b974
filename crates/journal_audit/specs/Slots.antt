-- What stands at one key of the rows, and how it is changed.
use Rattle.std.specs.Prelude.{◌≡◌, ℕ, List, Option, Some, None}
use Rattle.nested_jobs.specs.Marks.{Mark}
use Rattle.job_rules.specs.Words.{Answer}
use Rattle.pisdf_model.specs.declared.graph.Graph.{Graph}
use Rattle.pisdf_meaning.specs.declared.firing.Firing.{Firing}
use Rattle.audit_job.specs.Marking.{Finishes, Marks}
use Rattle.journal_audit.specs.declared.table.Row.{Row}

-- a row is there, of which this holds
abbrev pub InSlot : (Row → Type 0) → Option Row → Type 0
InSlot P None = ⊥
InSlot P (Some row) = P row

-- the row is at its place still, and an item of its job has this mark
pub record MarksRow (item : ℕ) (mark : Mark Firing Answer) (old new : Row) : Type 0 where
  pub place_is : new.place ≡ old.place
  pub marks : Marks item mark old.job new.job

pub record IsMarkedSlot (item : ℕ) (mark : Mark Firing Answer) (old : Row) (slot : Option Row) : Type 0 where
  pub after : Row
  pub is : slot ≡ Some after
  pub marks : MarksRow item mark old after

abbrev pub MarksSlot : ℕ → Mark Firing Answer → Option Row → Option Row → Type 0
MarksSlot item mark None new = ⊥
MarksSlot item mark (Some row) new = IsMarkedSlot item mark row new

-- the item is finished
pub record FinishesRow (graphs : List Graph) (workers item : ℕ) (old : Row) (slot : Option Row) : Type 0 where
  pub after : Row
  pub is : slot ≡ Some after
  pub place_is : after.place ≡ old.place
  pub finishes : Finishes graphs workers item old.job after.job

abbrev pub FinishesSlot : List Graph → ℕ → ℕ → Option Row → Option Row → Type 0
FinishesSlot graphs workers item None new = ⊥
FinishesSlot graphs workers item (Some row) new = FinishesRow graphs workers item row new
