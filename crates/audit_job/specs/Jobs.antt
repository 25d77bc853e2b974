-- What is kept of an open job.
use Rattle.std.specs.Prelude.{◌≡◌, ◌≢◌, ℕ, ◌<◌, List, map, length, slice_index, Option, Some, None}
use Rattle.std.specs.Arc.{arc_value}
use Rattle.param_resolver.specs.Numbering.{acting, has_state}
use Rattle.pisdf_model.specs.declared.graph.Graph.{Graph}
use Rattle.pisdf_meaning.specs.Configuring.{early_in}
use Rattle.pisdf_meaning.specs.Running.{link_starts, source_tokens}
use Rattle.pisdf_meaning.specs.declared.firing.Firing.{Firing}
use Rattle.sdf_level.specs.Lists.{lists_of}
use Rattle.job_preparing.specs.CompileTasks.{IsReadyWith, schedule_of}
use Rattle.job_preparing.specs.Standing.{ArePlaces}
use Rattle.job_rules.specs.Items as items
use Rattle.job_rules.specs.Items.{Prepared, compile_number, count, edges_in, graph_of, is_done, node_values, nodes_in, prepared_in}
use Rattle.job_rules.specs.Meant.{IsFit}
use Rattle.job_rules.specs.Words as words
use Rattle.nested_jobs.specs.Marks.{Open}
use Rattle.nested_jobs.specs.Rules.{Place, Values}
use Rattle.board_rules.specs.Asking.{JobRow}
use Rattle.audit_job.specs.Candidates.{AreCandidates, running_in, waits_in}
use Rattle.audit_job.specs.Marks.{answers, mark_at}
use Rattle.audit_job.specs.Rows.{HasRows}
use Rattle.audit_job.specs.Waiting.{waiting}
use Rattle.audit_job.specs.declared.job.Job.{Job}
use Rattle.audit_job.specs.declared.job.Nodes.{Nodes}

-- the graph that is fired
abbrev pub graph_in : List Graph → Job → Graph
graph_in graphs job = graph_of graphs job.firing

-- what the compilation of a job tells of it
abbrev pub prepared_of : Nodes → Prepared
prepared_of nodes = record { left = nodes.left.items; schedule = schedule_of (arc_value nodes.compiled) }

-- what a compilation made, but for what nodes wait for
pub record IsMadeOf (graphs : List Graph) (workers : ℕ) (firing : Firing) (nodes : Nodes) : Type 0 where
  pub ready : IsReadyWith graphs workers firing nodes.left.items (arc_value nodes.compiled) nodes.set nodes.values
  pub sources_are : nodes.sources ≡ source_tokens (graph_of graphs firing) firing nodes.left.items
  pub starts_are : lists_of nodes.starts.items ≡ link_starts graphs (graph_of graphs firing) firing
  pub rows : HasRows nodes
  pub keeps_are : nodes.keeps.items ≡ map (has_state graphs) (acting (graph_of graphs firing))
  pub one_each : length nodes.waits.items ≡ length (nodes_in graphs (graph_of graphs firing) firing (prepared_of nodes))

-- each node waits for the edges into it from nodes that haven't given anything
abbrev pub AreWaits : List Graph → Firing → Values words.Answer → Nodes → Type 0
AreWaits graphs firing v nodes = (n : ℕ) → n < length nodes.waits.items →
    slice_index nodes.waits.items n ≡ waiting (edges_in graphs (graph_of graphs firing) firing (prepared_of nodes)) (λ m. is_done (node_values graphs (graph_of graphs firing) firing (prepared_of nodes) v m)) n

-- what its compilation made is that of a firing, whose items answered this
pub record AreNodes (graphs : List Graph) (workers : ℕ) (firing : Firing) (v : Values words.Answer) (nodes : Nodes) : Type 0 where
  pub made : IsMadeOf graphs workers firing nodes
  pub waits_are : AreWaits graphs firing v nodes

-- the job is prepared so, once its compilation made this
abbrev pub IsPrepared : List Graph → ℕ → Firing → Values words.Answer → Option Nodes → Type 0
IsPrepared graphs workers firing v None = items.schedule_of (v (compile_number (graph_of graphs firing))) ≡ None
IsPrepared graphs workers firing v (Some nodes) = (prepared_in (graph_of graphs firing) v ≡ Some (prepared_of nodes)) × AreNodes graphs workers firing v nodes

-- no schedule, which the compilation alone answers
abbrev pub IsUnscheduled : words.Answer → Type 0
IsUnscheduled (words.Gives given) = Unit {0}
IsUnscheduled (words.Schedules schedule) = ⊥
IsUnscheduled (words.Refuses refusal) = Unit {0}

-- a schedule or a refusal
abbrev pub IsCompileAnswer : words.Answer → Type 0
IsCompileAnswer (words.Gives given) = ⊥
IsCompileAnswer (words.Schedules schedule) = Unit {0}
IsCompileAnswer (words.Refuses refusal) = Unit {0}

-- a job of these graphs, mapped on so many workers
pub record IsJob (graphs : List Graph) (workers : ℕ) (job : Job) : Type 0 where
  pub fit : IsFit graphs job.firing
  pub early_is : job.early ≡ early_in graphs job.firing
  pub places_are : ArePlaces (graph_in graphs job) job.places.items
  pub one_each : length job.marks.items ≡ count graphs job.firing (answers job.marks.items)
  pub prepared : IsPrepared graphs workers job.firing (answers job.marks.items) job.nodes
  pub compiled : (answer : words.Answer) → answers job.marks.items (compile_number (graph_in graphs job)) ≡ Some answer → IsCompileAnswer answer
  pub uncalled : (d : Firing) → mark_at job.marks.items (compile_number (graph_in graphs job)) ≢ Open d
  pub others : (i : ℕ) (answer : words.Answer) → i ≢ compile_number (graph_in graphs job) → answers job.marks.items i ≡ Some answer → IsUnscheduled answer
  pub candidates : AreCandidates job.marks.items (length job.places.items) (waits_in job.nodes) job.candidates
  pub running_are : job.running ≡ running_in job.marks.items

-- the job as the rules of boards have it, at a place
abbrev pub row_of : Place → Job → JobRow
row_of place job = record { place = place; job = job.firing; marks = mark_at job.marks.items }
