-- How a job ends.
use Rattle.std.specs.Prelude.{ℕ, zero, suc, ◌+◌, List, [], ◌∷◌, length, slice_index_or, Option, Some, None, Result, Ok, Err}
use Rattle.sdf_level.specs.LevelRun.{Ended}
use Rattle.sdf_level.specs.declared.link.Link.{Link}
use Rattle.sdf_level.specs.declared.node.Node.{Node}
use Rattle.sdf_level.specs.declared.node.Node.TheVariants as node
use Rattle.single_rate.specs.Expanded.{place_of}
use Rattle.job_flow.specs.Graphs.{JobGraph}
use Rattle.job_flow.specs.Frames.{Values, given}

pub record Failure (F : Type 0) : Type 0 where
  pub node : ℕ
  pub fault : F

-- that of node number n, if it failed, else the later one
abbrev pub failure_or : {T F : Type 0} → ℕ → Option (Result (List (List T)) F) → Option (Failure F) → Option (Failure F)
failure_or n None later = later
failure_or n (Some (Ok outs)) later = later
failure_or n (Some (Err fault)) later = Some record { node = n; fault = fault }

-- the failure of the least number among so many nodes from number n on
abbrev pub failure_from : {T F : Type 0} → Values T F → ℕ → ℕ → Option (Failure F)
failure_from v n zero = None
failure_from v n (suc count) = failure_or n (v n) (failure_from v (n + 1) count)

-- The first failure of the job. Firings alone fail, and they are numbered in the order of one thread.
abbrev pub failure : {T F : Type 0} → JobGraph T → Values T F → Option (Failure F)
failure job v = failure_from v 0 (length job.nodes)

-- what a node with one output has given
abbrev pub put_out : {T F : Type 0} → List Node → Values T F → Node → List T
put_out list v n = slice_index_or (given (v (place_of list n))) 0 []

-- what these Sinks have given, the first of them having this number
abbrev pub sunk : {T F : Type 0} → List Node → Values T F → ℕ → List ℕ → List (List T)
sunk list v t [] = []
sunk list v t (rate ∷ rates) = put_out list v (node.Sink t) ∷ sunk list v (t + 1) rates

-- what the Ends of these links have given, nothing of a link that has none
abbrev pub left_over : {T F : Type 0} → List Node → Values T F → ℕ → List Link → List (List T)
left_over list v l [] = []
left_over list v l (link ∷ links) = put_out list v (node.End l) ∷ left_over list v (l + 1) links

abbrev pub ended : {T F : Type 0} → JobGraph T → Values T F → Ended T
ended job v = record { outs = sunk job.nodes v 0 job.level.sinks; left = left_over job.nodes v 0 job.level.links }

abbrev pub outcome_of : {T F : Type 0} → JobGraph T → Values T F → Option (Failure F) → Result (Ended T) F
outcome_of job v None = Ok (ended job v)
outcome_of job v (Some first) = Err first.fault

-- the fault of the first firing that failed, else what the sinks keep and what is left on the links
abbrev pub outcome : {T F : Type 0} → JobGraph T → Values T F → Result (Ended T) F
outcome job v = outcome_of job v (failure job v)
