-- What nodes that are firings are to do.
use Rattle.std.proofs.Common.{◌≡◌, ℕ, zero, suc, ◌<◌, Bool, false, ℤ, List, [], ◌∷◌, length, map, get_or, slice_get, Option, Some, None, refl, sym, ap, ◌∙◌}
use Rattle.std.proofs.lemmas.Option.{get_or_from_slice_get, slice_get_within}
use Rattle.nested_jobs.specs.Rules.{Call, Task, Work}
use Rattle.param_expr.specs.Tree.{Tree}
use Rattle.param_resolver.specs.EarlyCheck.{early_of}
use Rattle.param_resolver.specs.EarlyView.{EarlyView}
use Rattle.param_resolver.specs.LevelOf.{child_of, level_args, level_outs, out_rates}
use Rattle.param_resolver.specs.Numbering.{acting, has_state}
use Rattle.param_resolver.specs.Rates.{arg_values}
use Rattle.pisdf_meaning.specs.Running.{child_firing}
use Rattle.pisdf_meaning.specs.States.{tokens_at}
use Rattle.pisdf_meaning.specs.TopLevel.{IsLevelSet}
use Rattle.pisdf_meaning.specs.declared.firing.Firing.{Firing}
use Rattle.param_resolver.specs.declared.level_set.LevelSet.{LevelSet}
use Rattle.pisdf_model.specs.Parts.{input_count}
use Rattle.pisdf_model.specs.declared.actor.Actor.{Actor}
use Rattle.pisdf_model.specs.declared.actor.Body.{Body}
use Rattle.pisdf_model.specs.declared.actor.Body.TheVariants.{Kernel, Config, Child, ConfigChild}
use Rattle.pisdf_model.specs.declared.actor.Port.{Port}
use Rattle.pisdf_model.specs.declared.graph.Graph.{Graph}
use Rattle.sdf_level.specs.declared.node.Node.{Node}
use Rattle.sdf_level.specs.declared.node.Node.TheVariants as node
use Rattle.job_rules.specs.Items.{actor_task, firing_task, node_task}
use Rattle.job_rules.specs.Words as words
use Rattle.audit_job.specs.Working.{IsKernelActor}
use Rattle.job_preparing.proofs.ActingPlaces.{EachPlaced}

-- ---- bodies

pub record IsKernel (body : Body) : Type 0 where
  pub kernel : ℕ
  pub exprs : List Tree
  pub ins : List Port
  pub outs : List Port
  pub is : body ≡ Kernel kernel exprs ins outs

pub kernel_is : (body : Body) → IsKernelActor body → IsKernel body
kernel_is (Kernel kernel exprs ins outs) is = record { kernel = kernel; exprs = exprs; ins = ins; outs = outs; is = refl }
kernel_is (Config kernel args ins outs sets) is = absurd is
kernel_is (Child place args) is = absurd is
kernel_is (ConfigChild place args sets) is = absurd is

-- ---- what the level knows of an actor

module _ (each : EachPlaced) (graphs : List Graph) (g : Graph) (firing : Firing) (values : List ℤ) (set : LevelSet) (is : IsLevelSet graphs g firing values set) (a : ℕ) (actor : Actor) (there : slice_get (acting g) a ≡ Some actor) where
  pub args_are : tokens_at set.args a ≡ tokens_at (level_args g values) a
  args_are = ap (λ (l : List (List ℤ)). tokens_at l a) is.args

  pub outs_are : get_or set.outs a [] ≡ out_rates graphs values actor.body
  outs_are = ap (λ (l : List (List ℕ)). get_or l a []) is.outs ∙ get_or_from_slice_get (level_outs graphs g values) a (out_rates graphs values actor.body) [] (each graphs g values a actor there).outs

  pub child_known : (place : ℕ) (exprs : List Tree) → actor.body ≡ Child place exprs → slice_get set.children a ≡ Some (Some (early_of graphs place (arg_values values exprs)))
  child_known place exprs body = ap (λ (l : List (Option EarlyView)). slice_get l a) is.children ∙ (each graphs g values a actor there).child ∙ ap (λ (b : Body). Some (child_of graphs values b)) body

state_at : (graphs : List Graph) (all : List Actor) (a : ℕ) (actor : Actor) → slice_get all a ≡ Some actor → get_or (map (has_state graphs) all) a false ≡ has_state graphs actor
state_at graphs [] a actor is = absurd (cc)
state_at graphs (x ∷ all) zero actor is = let same : x ≡ actor = cc in ap (has_state graphs) same
state_at graphs (x ∷ all) (suc a) actor is = state_at graphs all a actor is

pub keeps_is : (graphs : List Graph) (g : Graph) (keeps : List Bool) (a : ℕ) (actor : Actor) → keeps ≡ map (has_state graphs) (acting g) → slice_get (acting g) a ≡ Some actor → get_or keeps a false ≡ has_state graphs actor
keeps_is graphs g keeps a actor are there = ap (λ (l : List Bool). get_or l a false) are ∙ state_at graphs (acting g) a actor there

-- ---- tasks

module _ (graphs : List Graph) (g : Graph) (firing : Firing) (values : List ℤ) (which : Node) (read : List (List ℤ)) (lens : List ℕ) (a k : ℕ) (is : which ≡ node.Firing a k) where
  task_by : (o : Option Actor) → slice_get (acting g) a ≡ o → node_task graphs g firing values which read lens ≡ actor_task graphs g firing values a k read o
  task_by o at = ap (λ x. node_task graphs g firing values x read lens) is ∙ ap (actor_task graphs g firing values a k read) at

  -- its actor is there
  pub actor_there : (t : Task Firing words.Work) → node_task graphs g firing values which read lens ≡ Some t → a < length (acting g)
  actor_there t task = go (slice_get (acting g) a) refl
    where
      go : (o : Option Actor) → slice_get (acting g) a ≡ o → a < length (acting g)
      go None at = absurd (let e : None ≡ Some t = sym (task_by None at) ∙ task in cc)
      go (Some x) at = slice_get_within (acting g) a x at

  module _ (actor : Actor) (there : slice_get (acting g) a ≡ Some actor) where
    kernel_only : (body : Body) (work : words.Work) → firing_task graphs g firing values a k read actor body ≡ Some (Work work) → IsKernelActor body
    kernel_only (Kernel kernel exprs ins outs) work task = tt
    kernel_only (Config kernel args ins outs sets) work task = cc
    kernel_only (Child place args) work task = cc
    kernel_only (ConfigChild place args sets) work task = cc

    -- work of its own is that of a kernel
    pub is_kernel : (work : words.Work) → node_task graphs g firing values which read lens ≡ Some (Work work) → IsKernelActor actor.body
    is_kernel work task = kernel_only actor.body work (sym (task_by (Some actor) there) ∙ task)

    pub asks : (kernel : ℕ) (exprs : List Tree) (ins outs : List Port) → actor.body ≡ Kernel kernel exprs ins outs →
        node_task graphs g firing values which read lens ≡ Some (Work (words.Fires record { path = firing.path; name = actor.name; turn = k } record { kind = kernel; args = tokens_at (level_args g values) a; inputs = read; lens = out_rates graphs values actor.body; sets = 0 }))
    asks kernel exprs ins outs body = task_by (Some actor) there ∙ ap (firing_task graphs g firing values a k read actor) body

    child_only : (body : Body) (d : Firing) → firing_task graphs g firing values a k read actor body ≡ Some (Call d) → (place : ℕ) × (exprs : List Tree) × (body ≡ Child place exprs)
    child_only (Kernel kernel exprs ins outs) d task = absurd (cc)
    child_only (Config kernel args ins outs sets) d task = absurd (cc)
    child_only (Child place args) d task = (place, args, refl)
    child_only (ConfigChild place args sets) d task = absurd (cc)

    -- and a call that of a hierarchical actor
    pub is_child : (d : Firing) → node_task graphs g firing values which read lens ≡ Some (Call d) → (place : ℕ) × (exprs : List Tree) × (actor.body ≡ Child place exprs)
    is_child d task = child_only actor.body d (sym (task_by (Some actor) there) ∙ task)

    pub called : (place : ℕ) (exprs : List Tree) → actor.body ≡ Child place exprs →
        node_task graphs g firing values which read lens ≡ Some (Call (child_firing graphs firing actor.name k (tokens_at (level_args g values) a) (has_state graphs actor) place (input_count graphs actor.body) read))
    called place exprs body = task_by (Some actor) there ∙ ap (firing_task graphs g firing values a k read actor) body

-- ---- nodes that are no firings

module _ (graphs : List Graph) (g : Graph) (firing : Firing) (values : List ℤ) (read : List (List ℤ)) (lens : List ℕ) where
  -- a call is that of a firing
  pub calls_fire : (which : Node) (d : Firing) → node_task graphs g firing values which read lens ≡ Some (Call d) → (a : ℕ) × (k : ℕ) × (which ≡ node.Firing a k)
  calls_fire (node.Source s) d task = absurd (cc)
  calls_fire (node.Init l) d task = absurd (cc)
  calls_fire (node.Firing a k) d task = (a, k, refl)
  calls_fire (node.Broadcast l) d task = absurd (cc)
  calls_fire (node.Fork l i) d task = absurd (cc)
  calls_fire (node.Join l j) d task = absurd (cc)
  calls_fire (node.Round l) d task = absurd (cc)
  calls_fire (node.End l) d task = absurd (cc)
  calls_fire (node.Sink t) d task = absurd (cc)
