-- Which nodes of a job are ready, and what they may be finished with.
use Rattle.std.specs.Prelude.{◌≡◌, ℕ, ◌<◌, List, map, length, Option, Some, None, Result, Ok, Err}
use Rattle.std.specs.List.{AllByRecursion}
use Rattle.sdf_level.specs.Run.{Fire}
use Rattle.sdf_level.specs.declared.node.Node.{Node}
use Rattle.sdf_level.specs.declared.node.Node.TheVariants as node
use Rattle.special_actors.specs.Copying.{joined, PassesOn}
use Rattle.job_flow.specs.Graphs.{JobGraph, node_at}
use Rattle.job_flow.specs.Frames.{Values, inputs, lens}

-- finished without a fault
abbrev pub IsDone : {T F : Type 0} → Option (Result (List (List T)) F) → Type 0
IsDone None = ⊥
IsDone (Some (Ok outs)) = Unit {0}
IsDone (Some (Err fault)) = ⊥

-- each node before it is finished without a fault
pub record IsReady {T F : Type 0} (job : JobGraph T) (v : Values T F) (n : ℕ) : Type 0 where
  pub there : n < length job.nodes
  pub before : AllByRecursion (λ e. e.head ≡ n → IsDone (v e.tail)) job.edges

-- outputs of these lengths, or a fault
abbrev pub HasLens : {T F : Type 0} → List ℕ → Result (List (List T)) F → Type 0
HasLens lengths (Ok outs) = map length outs ≡ lengths
HasLens lengths (Err fault) = Unit {0}

-- a node that isn't a firing never fails, and passes its tokens on or copies them
abbrev pub Passes : {T F : Type 0} → Node → List (List T) → Result (List (List T)) F → Type 0
Passes n ins (Ok outs) = PassesOn n (joined ins) (joined outs)
Passes n ins (Err fault) = ⊥

abbrev pub Allows : {T F : Type 0} → Fire T F → Node → List (List T) → Result (List (List T)) F → Type 0
Allows fire (node.Source s) ins answer = Passes (node.Source s) ins answer
Allows fire (node.Init l) ins answer = Passes (node.Init l) ins answer
Allows fire (node.Firing a k) ins answer = fire a k ins answer
Allows fire (node.End l) ins answer = Passes (node.End l) ins answer
Allows fire (node.Sink t) ins answer = Passes (node.Sink t) ins answer
Allows fire (node.Broadcast l) ins answer = Passes (node.Broadcast l) ins answer
Allows fire (node.Fork l i) ins answer = Passes (node.Fork l i) ins answer
Allows fire (node.Join l j) ins answer = Passes (node.Join l j) ins answer
Allows fire (node.Round l) ins answer = Passes (node.Round l) ins answer

-- of what it reads, node number n may give this answer
pub record Answers {T F : Type 0} (job : JobGraph T) (fire : Fire T F) (v : Values T F) (n : ℕ) (answer : Result (List (List T)) F) : Type 0 where
  pub allowed : Allows fire (node_at job.nodes n) (inputs job v n) answer
  pub lengths : HasLens (lens job n) answer

-- a node finished with this answer is ready, and may give it
pub record IsAnswered {T F : Type 0} (job : JobGraph T) (fire : Fire T F) (v : Values T F) (n : ℕ) (answer : Result (List (List T)) F) : Type 0 where
  pub ready : IsReady job v n
  pub answers : Answers job fire v n answer

-- each finished node is ready, and finished with an answer that it may give
abbrev pub AreAnswered : {T F : Type 0} → JobGraph T → Fire T F → Values T F → Type 0
AreAnswered {T} {F} job fire v = (n : ℕ) (answer : Result (List (List T)) F) → v n ≡ Some answer → IsAnswered job fire v n answer

abbrev pub IsFinished : {T F : Type 0} → Option (Result (List (List T)) F) → Type 0
IsFinished None = ⊥
IsFinished (Some answer) = Unit {0}

-- each ready node is finished: there is nothing left to do
abbrev pub IsQuiet : {T F : Type 0} → JobGraph T → Values T F → Type 0
IsQuiet job v = (n : ℕ) → IsReady job v n → IsFinished (v n)

-- all was done that can be, and all as it may be
pub record Settled {T F : Type 0} (job : JobGraph T) (fire : Fire T F) (v : Values T F) : Type 0 where
  pub answered : AreAnswered job fire v
  pub quiet : IsQuiet job v

-- what was finished stays, and more may be
abbrev pub Grows : {T F : Type 0} → Values T F → Values T F → Type 0
Grows {T} {F} v later = (n : ℕ) (answer : Result (List (List T)) F) → v n ≡ Some answer → later n ≡ Some answer
