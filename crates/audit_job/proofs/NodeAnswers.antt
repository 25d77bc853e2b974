-- What nodes answer.
use Rattle.std.proofs.Common.{◌≡◌, ◌≢◌, ℕ, ◌<◌, ◌^◌, ℤ, Bool, false, List, [], length, map, get_or, slice_get, Some, refl, sym, ap, ◌∙◌, subst}
use Rattle.job_rules.specs.Doing.{IsCopied}
use Rattle.job_rules.specs.Items.{node_task}
use Rattle.job_rules.specs.Words as words
use Rattle.job_rules.specs.Words.{Answer, given_outs}
use Rattle.kernel_gate.specs.Signed.{Counts}
use Rattle.kernel_gate.specs.Table.{the_value}
use Rattle.kernel_gate.specs.Value.{lengths}
use Rattle.nested_jobs.specs.Rules.{Call, Work}
use Rattle.param_resolver.specs.LevelOf.{level_args, out_rates}
use Rattle.param_resolver.specs.Numbering.{acting, has_state}
use Rattle.pisdf_meaning.specs.Kernels.{FitsKernel}
use Rattle.pisdf_meaning.specs.Running.{child_firing}
use Rattle.pisdf_meaning.specs.States.{tokens_at}
use Rattle.pisdf_meaning.specs.TopLevel.{IsLevelSet}
use Rattle.pisdf_meaning.specs.declared.firing.Firing.{Firing}
use Rattle.pisdf_model.specs.Parts.{input_count}
use Rattle.pisdf_model.specs.declared.actor.Actor.{Actor}
use Rattle.pisdf_model.specs.declared.actor.Body.TheVariants.{Child}
use Rattle.pisdf_model.specs.declared.graph.Graph.{Graph}
use Rattle.param_expr.specs.Tree.{Tree}
use Rattle.param_resolver.specs.declared.level_set.LevelSet.{LevelSet}
use Rattle.sdf_level.specs.declared.node.Node.{Node}
use Rattle.sdf_level.specs.declared.node.Node.TheVariants as node
use Rattle.single_rate.specs.Nodes.{kind}
use Rattle.special_actors.specs.Fitting.{HasLengths}
use Rattle.audit_job.specs.Answering.{FitsWork, IsAnswer}
use Rattle.audit_job.specs.Working.{IsEnd}
use Rattle.job_preparing.proofs.ActingPlaces.{EachPlaced}
use Rattle.audit_job.proofs.KindTasks.{IsCopier, copies_task}
use Rattle.audit_job.proofs.NodeWork.{IsKernel, args_are, asks, called, keeps_is, outs_are}

-- ---- nodes that pass on what they read

module _ (read : List (List ℤ)) (written : List ℕ) where
  -- a node that gives exactly what it reads
  pub passed_on : (which : Node) → IsEnd which → HasLengths which (lengths read) written → IsCopied which read written (words.Gives (given_outs read))
  passed_on (node.Source s) is fit = record { outs = read; answer_is = refl; fitting = sym fit.1; passed = refl }
  passed_on (node.Init l) is fit = record { outs = read; answer_is = refl; fitting = sym fit.1; passed = refl }
  passed_on (node.Firing a k) is fit = absurd is
  passed_on (node.End l) is fit = record { outs = read; answer_is = refl; fitting = sym fit.1; passed = refl }
  passed_on (node.Sink t) is fit = record { outs = read; answer_is = refl; fitting = sym fit.1; passed = refl }
  passed_on (node.Broadcast l) is fit = absurd is
  passed_on (node.Fork l i) is fit = absurd is
  passed_on (node.Join l j) is fit = absurd is
  passed_on (node.Round l) is fit = absurd is

-- ---- kernels

module _ (each : EachPlaced) (graphs : List Graph) (g : Graph) (firing : Firing) (values : List ℤ) (set : LevelSet) (is : IsLevelSet graphs g firing values set) (which : Node) (read : List (List ℤ)) (written : List ℕ)
    (a k : ℕ) (which_is : which ≡ node.Firing a k) (actor : Actor) (there : slice_get (acting g) a ≡ Some actor) (kernel : IsKernel actor.body) where
  abbrev asked : words.Asked
  asked = record { kind = kernel.kernel; args = tokens_at (level_args g values) a; inputs = read; lens = out_rates graphs values actor.body; sets = 0 }

  abbrev spot : words.Spot
  spot = record { path = firing.path; name = actor.name; turn = k }

  pub task_is : node_task graphs g firing values which read written ≡ Some (Work (words.Fires spot asked))
  task_is = asks graphs g firing values which read written a k which_is actor there kernel.kernel kernel.exprs kernel.ins kernel.outs kernel.is

  -- what the kernel is asked fits it
  pub fits_so : (signatures : List Counts) → ((work : words.Work) → node_task graphs g firing values which read written ≡ Some (Work work) → FitsWork signatures work) →
      FitsKernel signatures kernel.kernel (length (tokens_at set.args a)) (length read) (length (get_or set.outs a [])) 0
  fits_so signatures fits =
      let fit = fits (words.Fires spot asked) task_is in
      let A = args_are each graphs g firing values set is a actor there in
      let O = outs_are each graphs g firing values set is a actor there in
      let P : List ℤ → Type 0 = λ l. FitsKernel signatures kernel.kernel (length l) (length read) (length (get_or set.outs a [])) 0 in
      let Q : List ℕ → Type 0 = λ l. FitsKernel signatures kernel.kernel (length (tokens_at (level_args g values) a)) (length read) (length l) 0 in
      subst P (sym A) (subst Q (sym O) fit)

  -- and what it answers is the answer of the node
  pub kernel_answer : (answer : Answer) → answer ≡ words.fired spot (the_value kernel.kernel (tokens_at set.args a) read (get_or set.outs a []) 0) → IsAnswer graphs (node_task graphs g firing values which read written) answer
  kernel_answer answer told =
      let A = args_are each graphs g firing values set is a actor there in
      let O = outs_are each graphs g firing values set is a actor there in
      record {
        work = words.Fires spot asked;
        task_is = task_is;
        answered = told ∙ (λ i. words.fired spot (the_value kernel.kernel (A i) read (O i) 0));
      }

-- ---- copies

pub copy_answer : (graphs : List Graph) (g : Graph) (firing : Firing) (values : List ℤ) (which : Node) (read : List (List ℤ)) (written : List ℕ) (answer : Answer) → IsCopier graphs g firing which → IsCopied which read written answer → IsAnswer graphs (node_task graphs g firing values which read written) answer
copy_answer graphs g firing values which read written answer copier copied = record { work = words.Copies which read written; task_is = copies_task graphs g firing values read written which copier; answered = copied }

copier_of : (graphs : List Graph) (g : Graph) (firing : Firing) (which : Node) → kind which ≢ 2 → IsCopier graphs g firing which
copier_of graphs g firing (node.Source s) other = tt
copier_of graphs g firing (node.Init l) other = tt
copier_of graphs g firing (node.Firing a k) other = absurd (other refl)
copier_of graphs g firing (node.End l) other = tt
copier_of graphs g firing (node.Sink t) other = tt
copier_of graphs g firing (node.Broadcast l) other = tt
copier_of graphs g firing (node.Fork l i) other = tt
copier_of graphs g firing (node.Join l j) other = tt
copier_of graphs g firing (node.Round l) other = tt

-- what a node that is no firing copies fits it
pub copy_fits : (graphs : List Graph) (g : Graph) (firing : Firing) (values : List ℤ) (which : Node) (read : List (List ℤ)) (written : List ℕ) (signatures : List Counts) → kind which ≢ 2 →
    ((work : words.Work) → node_task graphs g firing values which read written ≡ Some (Work work) → FitsWork signatures work) → HasLengths which (lengths read) written × (length read < 2 ^ 32) × (length written < 2 ^ 32)
copy_fits graphs g firing values which read written signatures other fits = fits (words.Copies which read written) (copies_task graphs g firing values read written which (copier_of graphs g firing which other))

-- ---- calls

module _ (each : EachPlaced) (graphs : List Graph) (g : Graph) (firing : Firing) (values : List ℤ) (set : LevelSet) (is : IsLevelSet graphs g firing values set) (keeps : List Bool) (are : keeps ≡ map (has_state graphs) (acting g)) (which : Node) (read : List (List ℤ))
    (written : List ℕ) (a k : ℕ) (which_is : which ≡ node.Firing a k) (actor : Actor) (there : slice_get (acting g) a ≡ Some actor) (place : ℕ) (exprs : List Tree) (body : actor.body ≡ Child place exprs) where
  pub call_is : (d : Firing) → d ≡ child_firing graphs firing actor.name k (tokens_at set.args a) (get_or keeps a false) place (input_count graphs actor.body) read → node_task graphs g firing values which read written ≡ Some (Call d)
  call_is d told =
      let A = args_are each graphs g firing values set is a actor there in
      let K = keeps_is graphs g keeps a actor are there in
      let same : d ≡ child_firing graphs firing actor.name k (tokens_at (level_args g values) a) (has_state graphs actor) place (input_count graphs actor.body) read = told ∙ (λ i. child_firing graphs firing actor.name k (A i) (K i) place (input_count graphs actor.body) read) in
      called graphs g firing values which read written a k which_is actor there place exprs body ∙ ap (λ (x : Firing). Some (Call x)) (sym same)
