-- Which buffers of a job are live, lent or full. A buffer is named by its edge.
use Rattle.std.specs.Prelude.{◌≡◌, ◌≢◌, ℕ, ℤ, ◌<◌, ◌⊎◌, List, length, true}
use Rattle.sdf_level.specs.declared.single_rate.Edge.{Edge}
use Rattle.split_block.specs.Places.{Place, AllApart, has, window}
use Rattle.job_flow.specs.Frames.{on_edge}
use Rattle.one_job.specs.Marks.{Mark, IsFree, IsClaimed, IsFinished, IsFailed, phase, values}
use Rattle.one_job.specs.Places.{edge_at, buffer_at}

-- what was claimed, was claimed once every node before it was finished
abbrev pub InOrder : List Edge → List Mark → Type 0
InOrder edges marks = (e : ℕ) → e < length edges → phase marks (edge_at edges e).head ≢ IsFree → phase marks (edge_at edges e).tail ≡ IsFinished

-- from the claim of its tail to the finish of its head
pub record IsLive (edges : List Edge) (marks : List Mark) (e : ℕ) : Type 0 where
  pub claimed : phase marks (edge_at edges e).tail ≢ IsFree
  pub unfinished : phase marks (edge_at edges e).head ≢ IsFinished
  pub unfailed : phase marks (edge_at edges e).head ≢ IsFailed

-- its tail is finished without a fault, and its head isn't finished
pub record IsFull (edges : List Edge) (marks : List Mark) (e : ℕ) : Type 0 where
  pub given : phase marks (edge_at edges e).tail ≡ IsFinished
  pub unfinished : phase marks (edge_at edges e).head ≢ IsFinished
  pub unfailed : phase marks (edge_at edges e).head ≢ IsFailed

-- out with the frame of a claimed node, as its input or its output
abbrev pub IsLent : List Edge → List Mark → ℕ → Type 0
IsLent edges marks e = (phase marks (edge_at edges e).tail ≡ IsClaimed) ⊎ (phase marks (edge_at edges e).head ≡ IsClaimed)

-- the leases out are those of these buffers, and no cell lies in two of them
pub record AreOut (place : ℕ → Place) (count : ℕ) (lent : ℕ → Type 0) (out : List Place) : Type 0 where
  pub all : (e : ℕ) → e < count → lent e → has (place e) out ≡ true
  pub only : (p : Place) → has p out ≡ true → (e : ℕ) × (e < count) × lent e × (place e ≡ p)
  pub apart : AllApart out

-- each full buffer holds what its tail gave
abbrev pub HoldFull : List Edge → List ℕ → List Mark → List ℤ → Type 0
HoldFull edges offsets marks cells =
    (e : ℕ) → e < length edges → IsFull edges marks e → window (buffer_at edges offsets e).start (buffer_at edges offsets e).len cells ≡ on_edge (values marks) (edge_at edges e)
