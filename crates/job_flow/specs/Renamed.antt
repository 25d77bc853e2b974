-- What nodes are finished with where their faults are told in other words, as by the firing and its code.
use Rattle.std.specs.Prelude.{ℕ, List, Option, Some, None, Result, Ok, Err}
use Rattle.job_flow.specs.Frames.{Values}
use Rattle.job_flow.specs.Outcomes.{Failure}

abbrev pub renamed_answer : {T F G : Type 0} → (F → G) → Option (Result (List (List T)) F) → Option (Result (List (List T)) G)
renamed_answer g None = None
renamed_answer g (Some (Ok outs)) = Some (Ok outs)
renamed_answer g (Some (Err fault)) = Some (Err (g fault))

-- each node's fault as this tells it
abbrev pub renamed : {T F G : Type 0} → (ℕ → F → G) → Values T F → Values T G
renamed g v n = renamed_answer (g n) (v n)

abbrev pub renamed_failure : {F G : Type 0} → (ℕ → F → G) → Option (Failure F) → Option (Failure G)
renamed_failure g None = None
renamed_failure g (Some first) = Some record { node = first.node; fault = g first.node first.fault }
