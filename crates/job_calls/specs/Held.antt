-- Jobs of which the frames of all claimed nodes wait, each at the place of its node.
use Rattle.std.specs.Prelude.{◌≡◌, ◌≢◌, ℕ, List, length, slice_index_or, Option, Some, None}
use Rattle.kernel_gate.specs.Value.{FrameView, Places}
use Rattle.one_job.specs.Marks.{Mark, Claimed, IsClaimed, mark_at, phase}
use Rattle.one_job.specs.View.{JobView}

abbrev pub HasNoneClaimed : JobView → Type 0
HasNoneClaimed j = (n : ℕ) → phase j.marks n ≢ IsClaimed

abbrev pub frame_at : List (Option FrameView) → ℕ → Option FrameView
frame_at frames n = slice_index_or frames n None

abbrev pub IsHeld : List (Option FrameView) → ℕ → Type 0
IsHeld frames n = (frame : FrameView) × (frame_at frames n ≡ Some frame)

-- the frames of all claimed nodes wait here, each of a node that is claimed with it
pub record HoldClaimed (marks : List Mark) (frames : List (Option FrameView)) : Type 0 where
  pub claimed : (n : ℕ) (frame : FrameView) → frame_at frames n ≡ Some frame → mark_at marks n ≡ Claimed frame.places
  pub waits : (n : ℕ) (places : Places) → mark_at marks n ≡ Claimed places → IsHeld frames n

-- the same, with a place for each node
pub record Holds (j : JobView) (frames : List (Option FrameView)) : Type 0 where
  pub one_each : length frames ≡ length j.compilation.graph.nodes
  pub held : HoldClaimed j.marks frames

-- the same nodes are claimed, with the same frames, before and after
pub record KeepsHeld (before after : JobView) : Type 0 where
  pub same : after.compilation ≡ before.compilation
  pub kept : (n : ℕ) (places : Places) → mark_at before.marks n ≡ Claimed places → mark_at after.marks n ≡ Claimed places
  pub only : (n : ℕ) (places : Places) → mark_at after.marks n ≡ Claimed places → mark_at before.marks n ≡ Claimed places
