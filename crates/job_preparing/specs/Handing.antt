-- What a job hands out and takes back: where its items stand, frames, and how a firing of a graph ends.
use Rattle.std.specs.Prelude.{◌≡◌, ℕ, ◌<◌, ℤ, List, [], ◌∷◌, map, length, slice_get, slice_index_or, Option, Some, None, Result, Ok, Err}
use Rattle.std.specs.List.{flat_map}
use Rattle.kernel_gate.specs.Leased.{AreWhole}
use Rattle.kernel_gate.specs.Value.{FrameView, Places, lengths}
use Rattle.kernel_gate.specs.declared.fault.KernelFault.{KernelFault}
use Rattle.nested_jobs.specs.Marks as mark
use Rattle.nested_jobs.specs.Marks.{Mark, Free}
use Rattle.nested_jobs.specs.Rules.{Task, Work, Call, Values}
use Rattle.param_resolver.specs.EarlyCheck.{early_of}
use Rattle.pisdf_model.specs.Hold.{actor_state, initial}
use Rattle.pisdf_model.specs.declared.graph.Graph.{Graph}
use Rattle.pisdf_meaning.specs.Configuring.{Configuration, configurations, early_in}
use Rattle.pisdf_meaning.specs.Endings.{End}
use Rattle.pisdf_meaning.specs.declared.firing.Configured.{Configured}
use Rattle.pisdf_meaning.specs.declared.firing.Firing.{Firing}
use Rattle.pisdf_meaning.specs.declared.firing.Given.{Given}
use Rattle.pisdf_meaning.specs.declared.outcome.TraceRow.{TraceRow}
use Rattle.pisdf_meaning.specs.declared.refusal.Refusal.{Refusal}
use Rattle.pisdf_meaning.specs.declared.refusal.Cause.TheVariants as cause
use Rattle.job_rules.specs.Items.{graph_of}
use Rattle.job_rules.specs.Words as words
use Rattle.job_rules.specs.Words.{Answer, Asked, given_outs}
use Rattle.job_preparing.specs.declared.handing.JobGiven.{JobGiven}

-- ---- marks

-- where each item of a job, or of a part of one, stands, by number
abbrev pub ItemMarks : Type 0
ItemMarks = List (Mark Firing Answer)

-- an item past the end is free
abbrev pub mark_at : ItemMarks → ℕ → Mark Firing Answer
mark_at marks i = slice_index_or marks i Free

-- what the finished items answered
abbrev pub answers : ItemMarks → Values Answer
answers marks i = mark.answer_of (mark_at marks i)

-- where the leases of a running item's frame lie, by the item's number
abbrev pub Lent : Type 0
Lent = List (Option Places)

abbrev pub lent_at : Lent → ℕ → Option Places
lent_at lent i = slice_index_or lent i None

-- no frame is out
pub record IsNothingLent (lent : Lent) : Type 0 where
  pub each : (i : ℕ) → lent_at lent i ≡ None

-- each frame that is out has blocks of its own, which are no pool's
abbrev pub AreOwnBlocks : Lent → Type 0
AreOwnBlocks lent = (i : ℕ) (places : Places) → lent_at lent i ≡ Some places → AreWhole places

-- the least number of which this holds, or none where it holds of none
abbrev pub IsLeast : (ℕ → Type 0) → Option ℕ → Type 0
IsLeast P None = (i : ℕ) → P i → ⊥
IsLeast P (Some n) = P n × ((i : ℕ) → i < n → P i → ⊥)

-- ---- frames

-- the frame has what the kernel is asked
pub record AsksFor (asked : Asked) (frame : FrameView) : Type 0 where
  pub kind : frame.kind ≡ asked.kind
  pub args : frame.args ≡ asked.args
  pub inputs : frame.inputs ≡ asked.inputs
  pub outputs : lengths frame.outputs ≡ asked.lens
  pub sets : length frame.sets ≡ asked.sets

-- the frame of a node that copies this to outputs of these lengths
pub record CopiesIn (read : List (List ℤ)) (lens : List ℕ) (frame : FrameView) : Type 0 where
  pub kind : frame.kind ≡ 0
  pub args : frame.args ≡ []
  pub inputs : frame.inputs ≡ read
  pub outputs : lengths frame.outputs ≡ lens
  pub sets : frame.sets ≡ []

-- the frame with which an item is claimed that has this task
abbrev pub IsFrameFor : Option (Task Firing words.Work) → FrameView → Type 0
IsFrameFor None frame = ⊥
IsFrameFor (Some (Call job)) frame = ⊥
IsFrameFor (Some (Work (words.Fires spot asked))) frame = AsksFor asked frame
IsFrameFor (Some (Work (words.Copies node read lens))) frame = CopiesIn read lens frame
IsFrameFor (Some (Work (words.Compiles firing left))) frame = ⊥

-- what a kernel gives, or refuses, whose frame comes back so
abbrev pub fired_with : words.Spot → FrameView → Result (Unit {0}) KernelFault → Answer
fired_with spot frame (Ok done) = words.Gives record { outs = frame.outputs; state = []; trace = []; exports = frame.sets }
fired_with spot frame (Err fault) = words.Refuses record { path = spot.path; cause = cause.Kernel spot.name spot.turn fault.code }

-- what an item is finished with whose frame comes back so. A compilation and a call have no frame
abbrev pub answer_with : Option (Task Firing words.Work) → FrameView → Result (Unit {0}) KernelFault → Answer
answer_with None frame result = words.Gives (given_outs [])
answer_with (Some (Call job)) frame result = words.Gives (given_outs [])
answer_with (Some (Work (words.Fires spot asked))) frame result = fired_with spot frame result
answer_with (Some (Work (words.Copies node read lens))) frame result = words.Gives (given_outs frame.outputs)
answer_with (Some (Work (words.Compiles firing left))) frame result = words.Gives (given_outs [])

-- ---- how a firing of a graph ends

abbrev pub given_of : JobGiven → Given
given_of g = record { outs = g.outs; state = g.state; trace = g.trace; exports = g.exports }

abbrev pub end_of : Result JobGiven Refusal → End
end_of (Ok given) = Ok (given_of given)
end_of (Err refusal) = Err refusal

-- as many tokens on each output as the early check of the firing's graph says, a state as long as that with which the graph
-- begins, and a value for each export
pub record SuitsCall (graphs : List Graph) (firing : Firing) (given : Given) : Type 0 where
  pub outs : lengths given.outs ≡ (early_of graphs firing.graph firing.inherited).outputs
  pub state : lengths given.state ≡ lengths (initial graphs firing.graph)
  pub exports : length given.exports ≡ length (graph_of graphs firing).exports

-- so it is, where the firing gave something
abbrev pub EndSuits : List Graph → Firing → End → Type 0
EndSuits graphs firing (Ok given) = SuitsCall graphs firing given
EndSuits graphs firing (Err refusal) = Unit {0}

-- ---- what configuration actors left, with their traces apart

abbrev pub without_trace : Configured → Configured
without_trace one = record { outs = one.outs; sets = one.sets; state = one.state; trace = [] }

abbrev pub with_traces : List Configured → List (List TraceRow) → List Configured
with_traces [] traces = []
with_traces (one ∷ left) [] = one ∷ with_traces left []
with_traces (one ∷ left) (trace ∷ traces) = record { outs = one.outs; sets = one.sets; state = one.state; trace = trace } ∷ with_traces left traces

-- ---- how long that is

-- what configuration actors left is as long as the early check says, and their states as long as those of their graphs
pub record LeftSuits (graphs : List Graph) (g : Graph) (firing : Firing) (left : List Configured) : Type 0 where
  pub outs : lengths (flat_map (λ (one : Configured). one.outs) left) ≡ flat_map (λ (rates : List ℕ). rates) (early_in graphs firing).outs
  pub states : map (λ (one : Configured). length one.state) left ≡ map (λ (c : Configuration). length (actor_state (initial graphs) c.body)) (configurations g)
