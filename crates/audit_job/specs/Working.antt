-- What the nodes of a job are to do.
use Rattle.std.specs.Prelude.{ℕ, List, Option}
use Rattle.job_flow.specs.Frames.{inputs, lens}
use Rattle.job_flow.specs.Graphs.{node_at}
use Rattle.job_rules.specs.Items.{node_task}
use Rattle.job_rules.specs.Words as words
use Rattle.nested_jobs.specs.Rules.{Task, Values}
use Rattle.pisdf_meaning.specs.declared.firing.Firing.{Firing}
use Rattle.pisdf_model.specs.declared.actor.Body.{Body}
use Rattle.pisdf_model.specs.declared.actor.Body.TheVariants.{Kernel, Config, Child, ConfigChild}
use Rattle.pisdf_model.specs.declared.graph.Graph.{Graph}
use Rattle.sdf_level.specs.declared.node.Node.{Node}
use Rattle.sdf_level.specs.declared.node.Node.TheVariants as node
use Rattle.audit_job.specs.Flowing.{flow_of, results_of}
use Rattle.audit_job.specs.declared.job.Nodes.{Nodes}

-- the actor fires a kernel, and sets no parameter
abbrev pub IsKernelActor : Body → Type 0
IsKernelActor (Kernel kernel args ins outs) = Unit {0}
IsKernelActor (Config kernel args ins outs sets) = ⊥
IsKernelActor (Child place args) = ⊥
IsKernelActor (ConfigChild place args sets) = ⊥

-- the node gives exactly what it reads
abbrev pub IsEnd : Node → Type 0
IsEnd (node.Source s) = Unit {0}
IsEnd (node.Init l) = Unit {0}
IsEnd (node.Firing a k) = ⊥
IsEnd (node.Broadcast l) = ⊥
IsEnd (node.Fork l i) = ⊥
IsEnd (node.Join l j) = ⊥
IsEnd (node.Round l) = ⊥
IsEnd (node.End l) = Unit {0}
IsEnd (node.Sink t) = Unit {0}

-- what node number n of a job is to do, where all before it is there and the nodes answered this
abbrev pub task_at : List Graph → Graph → Firing → Nodes → Values words.Answer → ℕ → Option (Task Firing words.Work)
task_at graphs g firing job v n =
    node_task graphs g firing job.values (node_at (flow_of job).nodes n)
    (inputs (flow_of job) (results_of (flow_of job).nodes job.keeps.items v) n) (lens (flow_of job) n)
