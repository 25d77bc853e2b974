-- What the cells of a job hold after claims and finishes, each finish writing the node's outputs at the offsets of their edges.
use Rattle.std.specs.Prelude.{◌≡◌, ℕ, ℤ, pos, zero, suc, ◌<◌, ◌==◌, List, [], ◌∷◌, length, replicate, slice_index, slice_index_or, slice_set, Result, Ok, Err, if◌then◌else◌}
use Rattle.sdf_level.specs.declared.single_rate.Edge.{Edge}
use Rattle.split_block.specs.Places.{write}
use Rattle.job_compiler.specs.Compilation.{Compilation, IsCompiled}
use Rattle.one_job.specs.Marks.{Mark, Free, Claimed, Finished, Failed, IsFree, IsClaimed, IsFinished, phase, nowhere}
use Rattle.one_job.specs.Places.{edge_at}
use Rattle.one_job.specs.Live.{HoldFull}

-- a node is claimed, or finished with its outputs or the code of its fault
pub data Event : Type 0 where
  Claim : (node : ℕ) → Event
  Finish : (node : ℕ) (answer : Result (List (List ℤ)) ℕ) → Event

abbrev pub mark_with : Result (List (List ℤ)) ℕ → Mark
mark_with (Ok outs) = Finished outs
mark_with (Err code) = Failed code

-- the marks that events leave, the last event first
abbrev pub marks_after : ℕ → List Event → List Mark
marks_after nodes [] = replicate nodes Free
marks_after nodes (Claim n ∷ before) = slice_set (marks_after nodes before) n (Claimed nowhere)
marks_after nodes (Finish n answer ∷ before) = slice_set (marks_after nodes before) n (mark_with answer)

-- what a node gave at this edge
abbrev pub out_at : List Edge → List (List ℤ) → ℕ → List ℤ
out_at edges outs e = slice_index_or outs (edge_at edges e).tail_port []

-- the outputs of a node written to the buffers of those of the first so many edges that leave it
abbrev pub written : List Edge → List ℕ → ℕ → List (List ℤ) → ℕ → List ℤ → List ℤ
written edges offsets n outs zero cells = cells
written edges offsets n outs (suc e) cells =
    if (edge_at edges e).tail == n then write (slice_index offsets e) (out_at edges outs e) (written edges offsets n outs e cells)
    else written edges offsets n outs e cells

abbrev pub written_by : Compilation → ℕ → Result (List (List ℤ)) ℕ → List ℤ → List ℤ
written_by c n (Ok outs) cells = written c.graph.edges c.placement.offsets n outs (length c.graph.edges) cells
written_by c n (Err code) cells = cells

-- the cells after these events
abbrev pub image : Compilation → List Event → List ℤ
image c [] = replicate c.placement.height (pos 0)
image c (Claim n ∷ before) = image c before
image c (Finish n answer ∷ before) = written_by c n answer (image c before)

-- an output for each edge, as long as the edge
abbrev pub FitsEdges : List Edge → ℕ → Result (List (List ℤ)) ℕ → Type 0
FitsEdges edges n (Ok outs) = (e : ℕ) → e < length edges → (edge_at edges e).tail ≡ n → length (out_at edges outs e) ≡ (edge_at edges e).size
FitsEdges edges n (Err code) = Unit {0}

-- a free node may be claimed once all before it are finished without a fault, and a claimed node may be finished
abbrev pub MayComeNext : Compilation → List Mark → Event → Type 0
MayComeNext c marks (Claim n) =
    (n < length c.graph.nodes) × (phase marks n ≡ IsFree)
    × ((e : ℕ) → e < length c.graph.edges → (edge_at c.graph.edges e).head ≡ n → phase marks (edge_at c.graph.edges e).tail ≡ IsFinished)
MayComeNext c marks (Finish n answer) = (phase marks n ≡ IsClaimed) × FitsEdges c.graph.edges n answer

abbrev pub AreEvents : Compilation → List Event → Type 0
AreEvents c [] = Unit {0}
AreEvents c (event ∷ before) = AreEvents c before × MayComeNext c (marks_after (length c.graph.nodes) before) event

-- where the tail of a buffer is finished without a fault and its head isn't finished, its cells hold what the tail gave
abbrev pub ImagesHoldTokens : Type 0
ImagesHoldTokens =
    (c : Compilation) (events : List Event) → IsCompiled c → AreEvents c events
    → HoldFull c.graph.edges c.placement.offsets (marks_after (length c.graph.nodes) events) (image c events)
