-- Only the compilation of a job answers a schedule.
use Rattle.std.proofs.Common.{◌≡◌, ◌≢◌, ℕ, ◌+◌, ◌-◌, ◌<◌, ◌≤◌, ◌&&◌, nat_lt, ℤ, List, length, slice_get, Option, Some, None, sym, ◌∙◌, subst, arith, ⊎_elim}
use Rattle.std.proofs.lemmas.Bool.{cases_lt}
use Rattle.job_flow.specs.Frames.{inputs, lens}
use Rattle.job_flow.specs.Graphs.{node_at}
use Rattle.job_rules.specs.Doing.{Answers, value_of}
use Rattle.job_rules.specs.Items.{Prepared, actor_task, config_task, edges_in, firing_task, graph_of, is_ready_by, job_graph, node_base, node_rule, node_task, node_values, nodes_in, prepared_in, rule, values_in}
use Rattle.job_rules.specs.Words as words
use Rattle.job_rules.specs.Words.{Answer, fired}
use Rattle.job_rules.proofs.Parts.{passed}
use Rattle.kernel_gate.specs.Value as kernel
use Rattle.nested_jobs.specs.Rules.{Task, Values, Work}
use Rattle.param_resolver.specs.Numbering.{acting}
use Rattle.pisdf_meaning.specs.Configuring.{Configuration}
use Rattle.pisdf_meaning.specs.Nested.{configuration_at}
use Rattle.pisdf_meaning.specs.Sound.{actor_at}
use Rattle.pisdf_meaning.specs.declared.firing.Firing.{Firing}
use Rattle.pisdf_model.specs.declared.actor.Actor.{Actor}
use Rattle.pisdf_model.specs.declared.actor.Body.{Body}
use Rattle.pisdf_model.specs.declared.actor.Body.TheVariants.{Kernel, Config, Child, ConfigChild}
use Rattle.pisdf_model.specs.declared.graph.Graph.{Graph}
use Rattle.sdf_level.specs.declared.node.Node.{Node}
use Rattle.sdf_level.specs.declared.node.Node.TheVariants as node
use Rattle.audit_job.specs.Answering.{IsAnswer}
use Rattle.audit_job.specs.Jobs.{IsJob, IsUnscheduled}
use Rattle.audit_job.specs.Marks.{answers}
use Rattle.audit_job.specs.declared.job.Job.{Job}
use Rattle.audit_job.proofs.ConfigItems as config
use Rattle.audit_job.proofs.ItemRules.{rule_after}

-- work other than a compilation
abbrev IsOther : words.Work → Type 0
IsOther (words.Fires spot asked) = Unit {0}
IsOther (words.Copies node read lens) = Unit {0}
IsOther (words.Compiles firing left) = ⊥

config_other : (graphs : List Graph) (g : Graph) (firing : Firing) (c : Configuration) (body : Body) (work : words.Work) → config_task graphs g firing c body ≡ Some (Work work) → IsOther work
config_other graphs g firing c (Kernel kernel args ins outs) work is = absurd (cc)
config_other graphs g firing c (Child place args) work is = absurd (cc)
config_other graphs g firing c (Config kernel args ins outs sets) (words.Fires spot asked) is = tt
config_other graphs g firing c (Config kernel args ins outs sets) (words.Copies node read lens) is = tt
config_other graphs g firing c (Config kernel args ins outs sets) (words.Compiles d left) is = cc
config_other graphs g firing c (ConfigChild place args sets) work is = absurd (cc)

firing_other : (graphs : List Graph) (g : Graph) (firing : Firing) (values : List ℤ) (a k : ℕ) (read : List (List ℤ)) (actor : Actor) (body : Body) (work : words.Work) → firing_task graphs g firing values a k read actor body ≡ Some (Work work) → IsOther work
firing_other graphs g firing values a k read actor (Kernel kernel args ins outs) (words.Fires spot asked) is = tt
firing_other graphs g firing values a k read actor (Kernel kernel args ins outs) (words.Copies node own lens) is = tt
firing_other graphs g firing values a k read actor (Kernel kernel args ins outs) (words.Compiles d left) is = cc
firing_other graphs g firing values a k read actor (Config kernel args ins outs sets) work is = absurd (cc)
firing_other graphs g firing values a k read actor (Child place args) work is = absurd (cc)
firing_other graphs g firing values a k read actor (ConfigChild place args sets) work is = absurd (cc)

actor_other : (graphs : List Graph) (g : Graph) (firing : Firing) (values : List ℤ) (a k : ℕ) (read : List (List ℤ)) (o : Option Actor) (work : words.Work) → actor_task graphs g firing values a k read o ≡ Some (Work work) → IsOther work
actor_other graphs g firing values a k read None work is = absurd (cc)
actor_other graphs g firing values a k read (Some actor) work is = firing_other graphs g firing values a k read actor actor.body work is

abbrev as_task : words.Work → Option (Task Firing words.Work)
as_task work = Some (Work work)

copies_other : (which : Node) (read : List (List ℤ)) (lens : List ℕ) (work : words.Work) → as_task (words.Copies which read lens) ≡ as_task work → IsOther work
copies_other which read lens (words.Fires spot asked) is = tt
copies_other which read lens (words.Copies node own written) is = tt
copies_other which read lens (words.Compiles d left) is = cc

node_other : (graphs : List Graph) (g : Graph) (firing : Firing) (values : List ℤ) (which : Node) (read : List (List ℤ)) (lens : List ℕ) (work : words.Work) → node_task graphs g firing values which read lens ≡ Some (Work work) → IsOther work
node_other graphs g firing values (node.Source s) read lens work is = copies_other (node.Source s) read lens work is
node_other graphs g firing values (node.Init l) read lens work is = copies_other (node.Init l) read lens work is
node_other graphs g firing values (node.Firing a k) read lens work is = actor_other graphs g firing values a k read (slice_get (acting g) a) work is
node_other graphs g firing values (node.Broadcast l) read lens work is = copies_other (node.Broadcast l) read lens work is
node_other graphs g firing values (node.Fork l i) read lens work is = copies_other (node.Fork l i) read lens work is
node_other graphs g firing values (node.Join l j) read lens work is = copies_other (node.Join l j) read lens work is
node_other graphs g firing values (node.Round l) read lens work is = copies_other (node.Round l) read lens work is
node_other graphs g firing values (node.End l) read lens work is = copies_other (node.End l) read lens work is
node_other graphs g firing values (node.Sink t) read lens work is = copies_other (node.Sink t) read lens work is

rule_other : (graphs : List Graph) (g : Graph) (firing : Firing) (v : Values Answer) (n : ℕ) (o : Option Prepared) (work : words.Work) → node_rule graphs g firing v n o ≡ Some (Work work) → IsOther work
rule_other graphs g firing v n None work is = absurd (cc)
rule_other graphs g firing v n (Some p) work is =
    let values = node_values graphs g firing p v in
    let parts = passed (nat_lt n (length (nodes_in graphs g firing p)) && is_ready_by (edges_in graphs g firing p) values n) _ (Work work) is in
    node_other graphs g firing (values_in g firing p) (node_at (nodes_in graphs g firing p) n) (inputs (job_graph graphs g firing p) values n) (lens (job_graph graphs g firing p) n) work parts.is

-- what such work answers

kernel_unscheduled : (spot : words.Spot) (a : kernel.Answer) → IsUnscheduled (fired spot a)
kernel_unscheduled spot (kernel.Gives outs sets) = tt
kernel_unscheduled spot (kernel.Faults code) = tt

other_unscheduled : (graphs : List Graph) (work : words.Work) (a : Answer) → IsOther work → Answers graphs work a → IsUnscheduled a
other_unscheduled graphs (words.Fires spot asked) a is answered = subst IsUnscheduled (sym answered) (kernel_unscheduled spot (value_of asked))
other_unscheduled graphs (words.Copies node read lens) a is answered = subst IsUnscheduled (sym answered.answer_is) tt
other_unscheduled graphs (words.Compiles firing left) a is answered = absurd is

module _ (graphs : List Graph) (workers : ℕ) (job : Job) (is : IsJob graphs workers job) (i : ℕ) (other : i ≢ length job.places.items) (a : Answer) (answered : IsAnswer graphs (rule graphs job.firing (answers job.marks.items) i) a) where
  abbrev g : Graph
  g = graph_of graphs job.firing

  abbrev v : Values Answer
  v = answers job.marks.items

  pub unscheduled : IsUnscheduled a
  unscheduled = other_unscheduled graphs answered.work a
      (⊎_elim
      (λ (below : i < length job.places.items).
      config_other graphs g job.firing (configuration_at g i (config.place graphs workers job is i below)) (actor_at g (config.place graphs workers job is i below)).body answered.work (sym (config.rule_is graphs workers job is i below v) ∙ answered.task_is))
      (λ (past : length job.places.items ≤ i).
      let m = is.places_are.one_each in
      let at : i ≡ node_base g + (i - node_base g) = omega (arith, other) in
      rule_other graphs g job.firing v (i - node_base g) (prepared_in g v) answered.work (sym (rule_after graphs job.firing v i (i - node_base g) at) ∙ answered.task_is))
      (cases_lt i (length job.places.items)))
      answered.answered
