-- What items are to do, by the kinds of their actors and nodes.
use Rattle.std.proofs.Common.{◌≡◌, ℕ, ℤ, List, length, slice_get, Option, Some, refl, ap, ◌∙◌}
use Rattle.nested_jobs.specs.Rules.{Work, Call}
use Rattle.param_expr.specs.Tree.{Tree}
use Rattle.param_resolver.specs.LevelOf.{level_args, out_rates}
use Rattle.param_resolver.specs.Numbering.{acting, has_state}
use Rattle.pisdf_meaning.specs.Configuring.{Configuration, config_args, config_firing, config_rates, fed_to}
use Rattle.pisdf_meaning.specs.Running.{child_firing}
use Rattle.pisdf_meaning.specs.States.{tokens_at}
use Rattle.pisdf_meaning.specs.declared.firing.Firing.{Firing}
use Rattle.pisdf_model.specs.Parts.{input_count}
use Rattle.pisdf_model.specs.declared.actor.Actor.{Actor}
use Rattle.pisdf_model.specs.declared.actor.Body.{Body}
use Rattle.pisdf_model.specs.declared.actor.Body.TheVariants.{Kernel, Config, Child, ConfigChild}
use Rattle.pisdf_model.specs.declared.actor.Port.{Port}
use Rattle.pisdf_model.specs.declared.graph.Graph.{Graph}
use Rattle.sdf_level.specs.declared.node.Node.{Node}
use Rattle.sdf_level.specs.declared.node.Node.TheVariants as node
use Rattle.job_rules.specs.Items.{actor_task, config_task, firing_task, node_task}
use Rattle.job_rules.specs.Words as words

module _ (graphs : List Graph) (g : Graph) (firing : Firing) where
  pub config_work : (c : Configuration) (body : Body) (kernel : ℕ) (args : List Tree) (ins : List (List ℕ)) (outs : List Port) (sets : List ℕ) → body ≡ Config kernel args ins outs sets → (work : words.Work) × (config_task graphs g firing c body ≡ Some (Work work))
  config_work c body kernel args ins outs sets is = (
    words.Fires record { path = firing.path; name = c.name; turn = 0 } record { kind = kernel; args = config_args graphs firing c.number; inputs = fed_to g firing.inputs c.place (length ins); lens = config_rates graphs firing c.number; sets = length sets },
    ap (config_task graphs g firing c) is,
  )

  pub config_call : (c : Configuration) (body : Body) (place : ℕ) (args : List Tree) (sets : List ℕ) → body ≡ ConfigChild place args sets → (d : Firing) × (config_task graphs g firing c body ≡ Some (Call d))
  config_call c body place args sets is = (config_firing graphs g firing c place, ap (config_task graphs g firing c) is)

  module _ (values : List ℤ) (a k : ℕ) (read : List (List ℤ)) (actor : Actor) where
    pub kernel_work : (body : Body) (kernel : ℕ) (args : List Tree) (ins : List Port) (outs : List Port) → body ≡ Kernel kernel args ins outs → (work : words.Work) × (firing_task graphs g firing values a k read actor body ≡ Some (Work work))
    kernel_work body kernel args ins outs is = (
      words.Fires record { path = firing.path; name = actor.name; turn = k } record { kind = kernel; args = tokens_at (level_args g values) a; inputs = read; lens = out_rates graphs values actor.body; sets = 0 },
      ap (firing_task graphs g firing values a k read actor) is,
    )

    pub child_call : (body : Body) (place : ℕ) (args : List Tree) → body ≡ Child place args → (d : Firing) × (firing_task graphs g firing values a k read actor body ≡ Some (Call d))
    child_call body place args is = (
      child_firing graphs firing actor.name k (tokens_at (level_args g values) a) (has_state graphs actor) place (input_count graphs actor.body) read,
      ap (firing_task graphs g firing values a k read actor) is,
    )

  -- a kernel's work, and its kind
  pub config_fires : (c : Configuration) (body : Body) (kernel : ℕ) (args : List Tree) (ins : List (List ℕ)) (outs : List Port) (sets : List ℕ) → body ≡ Config kernel args ins outs sets →
      config_task graphs g firing c body ≡ Some (Work (words.Fires record { path = firing.path; name = c.name; turn = 0 } record { kind = kernel; args = config_args graphs firing c.number; inputs = fed_to g firing.inputs c.place (length ins); lens = config_rates graphs firing c.number; sets = length sets }))
  config_fires c body kernel args ins outs sets is = ap (config_task graphs g firing c) is

  -- ---- nodes

  abbrev pub IsCopier : Node → Type 0
  IsCopier (node.Source s) = Unit {0}
  IsCopier (node.Init l) = Unit {0}
  IsCopier (node.Firing a k) = ⊥
  IsCopier (node.End l) = Unit {0}
  IsCopier (node.Sink t) = Unit {0}
  IsCopier (node.Broadcast l) = Unit {0}
  IsCopier (node.Fork l i) = Unit {0}
  IsCopier (node.Join l j) = Unit {0}
  IsCopier (node.Round l) = Unit {0}

  module _ (values : List ℤ) (read : List (List ℤ)) (lens : List ℕ) where
    pub copies_task : (which : Node) → IsCopier which → node_task graphs g firing values which read lens ≡ Some (Work (words.Copies which read lens))
    copies_task (node.Source s) is = refl
    copies_task (node.Init l) is = refl
    copies_task (node.Firing a k) is = absurd is
    copies_task (node.End l) is = refl
    copies_task (node.Sink t) is = refl
    copies_task (node.Broadcast l) is = refl
    copies_task (node.Fork l i) is = refl
    copies_task (node.Join l j) is = refl
    copies_task (node.Round l) is = refl

    pub copy_work : (one which : Node) → one ≡ which → IsCopier which → (work : words.Work) × (node_task graphs g firing values one read lens ≡ Some (Work work))
    copy_work one which same is = (words.Copies which read lens, ap (λ x. node_task graphs g firing values x read lens) same ∙ copies_task which is)

    pub firing_is : (one : Node) (a k : ℕ) (o : Option Actor) → one ≡ node.Firing a k → slice_get (acting g) a ≡ o → node_task graphs g firing values one read lens ≡ actor_task graphs g firing values a k read o
    firing_is one a k o same at = ap (λ x. node_task graphs g firing values x read lens) same ∙ ap (actor_task graphs g firing values a k read) at
