-- Laws of jobs, over any tokens, faults and firings.
use Rattle.std.specs.Prelude.{◌≡◌, ◌≢◌, ◌↔◌, ℕ, ◌<◌, List, [], map, length, slice_index, slice_index_or, ◌==◌, Some, None, Result, if◌then◌else◌}
use Rattle.sdf_level.specs.LevelRun.{IsLevelRun}
use Rattle.sdf_level.specs.Laws.{Firing, among}
use Rattle.sdf_level.specs.declared.node.Node.TheVariants as node
use Rattle.sdf_level.specs.declared.single_rate.Edge.{Edge}
use Rattle.sdf_level.specs.declared.turn.Turn.{Turn}
use Rattle.single_rate.specs.Nodes.{kind}
use Rattle.single_rate.specs.Expanded.{place_of}
use Rattle.special_actors.specs.Fitting.{HasLengths}
use Rattle.job_flow.specs.Graphs.{JobGraph, IsJobGraph, node_at}
use Rattle.job_flow.specs.Frames.{Values, arriving, inputs, input_rates, in_lens, lens}
use Rattle.job_flow.specs.Events.{IsDone, IsReady, Answers, AreAnswered, Settled, Grows, IsQuiet}
use Rattle.job_flow.specs.Outcomes.{failure, ended, outcome}
use Rattle.job_flow.specs.Renamed.{renamed, renamed_failure}

-- Where all was done that can be, the job ends as the run of one thread does. The token stands for those that firings
-- after the first fault would give.
abbrev pub JobsEndAsRuns : Type 0 → Type 0 → Type 0 → Type 0
JobsEndAsRuns T F R =
    (token : T) (q : List ℕ) (turns : List Turn) (job : JobGraph T) (firing : R → Firing T F) (v : Values T F) →
    IsJobGraph q turns job → Settled job (among firing) v →
    IsLevelRun job.level q job.sources job.delays (among firing) (outcome job v)

-- and without a fault every node is finished
abbrev pub JobsFinish : Type 0 → Type 0 → Type 0 → Type 0
JobsFinish T F R =
    (q : List ℕ) (turns : List Turn) (job : JobGraph T) (firing : R → Firing T F) (v : Values T F) →
    IsJobGraph q turns job → Settled job (among firing) v → failure job v ≡ None →
    (n : ℕ) → n < length job.nodes → IsDone (v n)

-- a ready node stays ready
abbrev pub ReadyStays : Type 0 → Type 0 → Type 0
ReadyStays T F = (job : JobGraph T) (v later : Values T F) (n : ℕ) → Grows v later → IsReady job v n → IsReady job later n

-- and reads the same
abbrev pub InputsStay : Type 0 → Type 0 → Type 0
InputsStay T F = (job : JobGraph T) (v later : Values T F) (n : ℕ) → Grows v later → IsReady job v n → inputs job later n ≡ inputs job v n

-- node number n finished with this answer
abbrev pub with_answer : {T F : Type 0} → Values T F → ℕ → Result (List (List T)) F → Values T F
with_answer v n answer m = if m == n then Some answer else v m

-- a ready node that isn't finished may be finished with any answer that it may give
abbrev pub AnswersAdd : Type 0 → Type 0 → Type 0 → Type 0
AnswersAdd T F R =
    (job : JobGraph T) (firing : R → Firing T F) (v : Values T F) (n : ℕ) (answer : Result (List (List T)) F) →
    AreAnswered job (among firing) v → v n ≡ None → IsReady job v n → Answers job (among firing) v n answer →
    AreAnswered job (among firing) (with_answer v n answer)

-- what a ready node reads is as long as the edges say
abbrev pub InputsHaveLens : Type 0 → Type 0 → Type 0 → Type 0
InputsHaveLens T F R =
    (q : List ℕ) (turns : List Turn) (job : JobGraph T) (firing : R → Firing T F) (v : Values T F) (n : ℕ) →
    IsJobGraph q turns job → AreAnswered job (among firing) v → IsReady job v n → map length (inputs job v n) ≡ in_lens job n

-- a firing reads as many tokens as its actor's rates say
abbrev pub FiringsReadRates : Type 0 → Type 0
FiringsReadRates T =
    (q : List ℕ) (turns : List Turn) (job : JobGraph T) (n b k : ℕ) →
    IsJobGraph q turns job → node_at job.nodes n ≡ node.Firing b k → in_lens job n ≡ input_rates job.level.links b

-- the frame of each node that isn't a firing suits what it does
abbrev pub FramesFit : Type 0 → Type 0
FramesFit T =
    (q : List ℕ) (turns : List Turn) (job : JobGraph T) (n : ℕ) →
    IsJobGraph q turns job → n < length job.nodes → kind (node_at job.nodes n) ≢ 2 →
    HasLengths (node_at job.nodes n) (in_lens job n) (lens job n)

abbrev pub edge_at : List Edge → ℕ → Edge
edge_at edges i = slice_index_or edges i record { tail = 0; tail_port = 0; head = 0; head_port = 0; size = 0 }

-- the edges have their ports, each for itself, and are as long as these
pub record HavePorts {T : Type 0} (job : JobGraph T) : Type 0 where
  pub tails_there : (i : ℕ) → i < length job.edges → (edge_at job.edges i).tail < length job.nodes
  pub heads_there : (i : ℕ) → i < length job.edges → (edge_at job.edges i).head < length job.nodes
  pub tail_ports : (i : ℕ) → i < length job.edges → (edge_at job.edges i).tail_port < length (lens job (edge_at job.edges i).tail)
  pub head_ports : (i : ℕ) → i < length job.edges → (edge_at job.edges i).head_port < length (in_lens job (edge_at job.edges i).head)
  pub tail_sizes : (i : ℕ) → i < length job.edges → slice_index (lens job (edge_at job.edges i).tail) (edge_at job.edges i).tail_port ≡ (edge_at job.edges i).size
  pub head_sizes : (i : ℕ) → i < length job.edges → slice_index (in_lens job (edge_at job.edges i).head) (edge_at job.edges i).head_port ≡ (edge_at job.edges i).size
  pub tails_apart : (i j : ℕ) → i < length job.edges → j < length job.edges → (edge_at job.edges i).tail ≡ (edge_at job.edges j).tail → (edge_at job.edges i).tail_port ≡ (edge_at job.edges j).tail_port → i ≡ j
  pub heads_apart : (i j : ℕ) → i < length job.edges → j < length job.edges → (edge_at job.edges i).head ≡ (edge_at job.edges j).head → (edge_at job.edges i).head_port ≡ (edge_at job.edges j).head_port → i ≡ j

-- an edge leaves this port of a node
pub record IsUsed (edges : List Edge) (n p : ℕ) : Type 0 where
  pub edge : ℕ
  pub there : edge < length edges
  pub tail : (edge_at edges edge).tail ≡ n
  pub port : (edge_at edges edge).tail_port ≡ p

-- where a node that isn't an End or a Sink writes tokens, an edge takes them
abbrev pub PortsAreUsed : Type 0 → Type 0
PortsAreUsed T =
    (q : List ℕ) (turns : List Turn) (job : JobGraph T) (n p : ℕ) → IsJobGraph q turns job → n < length job.nodes →
    kind (node_at job.nodes n) ≢ 3 → kind (node_at job.nodes n) ≢ 4 → 0 < slice_index (lens job n) p → IsUsed job.edges n p

abbrev pub EdgesHavePorts : Type 0 → Type 0
EdgesHavePorts T = (q : List ℕ) (turns : List Turn) (job : JobGraph T) → IsJobGraph q turns job → HavePorts job

-- so at its port an edge arrives alone
abbrev pub EdgesArrive : Type 0 → Type 0
EdgesArrive T =
    (q : List ℕ) (turns : List Turn) (job : JobGraph T) (tokens : List (List T)) (i : ℕ) →
    IsJobGraph q turns job → length tokens ≡ length job.edges → i < length job.edges →
    arriving job.edges tokens (edge_at job.edges i).head (edge_at job.edges i).head_port ≡ slice_index_or tokens i []

-- each node stands once in the list
abbrev pub NodesStandOnce : Type 0 → Type 0
NodesStandOnce T =
    (q : List ℕ) (turns : List Turn) (job : JobGraph T) (n : ℕ) → IsJobGraph q turns job → n < length job.nodes →
    place_of job.nodes (node_at job.nodes n) ≡ n

-- nothing but the fault that a job ends with depends on how faults are told
abbrev pub ReadyInAnyWords : Type 0 → Type 0 → Type 0 → Type 0
ReadyInAnyWords T F G = (job : JobGraph T) (g : ℕ → F → G) (v : Values T F) (n : ℕ) → IsReady job v n ↔ IsReady job (renamed g v) n

abbrev pub InputsInAnyWords : Type 0 → Type 0 → Type 0 → Type 0
InputsInAnyWords T F G = (job : JobGraph T) (g : ℕ → F → G) (v : Values T F) (n : ℕ) → inputs job (renamed g v) n ≡ inputs job v n

abbrev pub QuietInAnyWords : Type 0 → Type 0 → Type 0 → Type 0
QuietInAnyWords T F G = (job : JobGraph T) (g : ℕ → F → G) (v : Values T F) → IsQuiet job v → IsQuiet job (renamed g v)

abbrev pub FailureInOtherWords : Type 0 → Type 0 → Type 0 → Type 0
FailureInOtherWords T F G = (job : JobGraph T) (g : ℕ → F → G) (v : Values T F) → failure job (renamed g v) ≡ renamed_failure g (failure job v)

abbrev pub EndedInAnyWords : Type 0 → Type 0 → Type 0 → Type 0
EndedInAnyWords T F G = (job : JobGraph T) (g : ℕ → F → G) (v : Values T F) → ended job (renamed g v) ≡ ended job v
