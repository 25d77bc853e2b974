use Rattle.std.proofs.Common.{◌≡◌, ℕ, List, sym, ◌∙◌, subst}
use Rattle.std.specs.Arc.{arc_value}
use Rattle.pisdf_model.specs.declared.graph.Graphs.{Graphs}
use Rattle.pisdf_meaning.specs.declared.firing.Configured.{Configured}
use Rattle.pisdf_meaning.specs.declared.firing.Firing.{Firing}
use Rattle.pisdf_meaning.specs.Endings.{IfRefused}
use Rattle.pisdf_meaning.specs.declared.refusal.PlainFault.{PlainFault}
use Rattle.pisdf_meaning.specs.declared.refusal.Refusal.{Refusal}
use Rattle.job_rules.specs.Doing as doing
use Rattle.job_rules.specs.Words as words
use Rattle.job_preparing.specs.CompileTasks.{IsReadyFor, IsReadyWith}
use Rattle.job_preparing.specs.Slim.{slim_firing, slim_left}
use Rattle.job_preparing.specs.Tasked.{EndsTask, IsTask, task_view}
use Rattle.job_preparing.specs.declared.compile_task.Parts.{Parts}
use Rattle.job_preparing.specs.declared.compiling.ReadyLevel.{ReadyLevel}
use Rattle.job_preparing.proofs.Ends.{refusal_path}
use Rattle.job_preparing.proofs.Slimmed.{compiled_kept, ready_kept}
use Rattle.job_preparing.proofs.compile_task.make_level.Goals as goal

-- what was made for the fields is so for what the task stands for
for_all : (i : Parts) → IsTask i → (P : Graphs → Firing → List Configured → Type 0) (gs : Graphs) (left : List Configured) → gs ≡ arc_value i.graphs → left ≡ i.left.items → P gs i.firing left → P (task_view i).graphs (slim_firing (task_view i).firing) (slim_left (task_view i).left)
for_all i kept P gs left gs_are left_is made =
    let A : Graphs → Type 0 = λ x. P x i.firing left in
    let B : Firing → Type 0 = λ f. P (arc_value i.graphs) f left in
    let C : List Configured → Type 0 = λ l. P (arc_value i.graphs) (slim_firing (task_view i).firing) l in
    subst C (left_is ∙ kept.left_is) (subst B kept.firing_is (subst A gs_are made))

pub returns-in-Ok-keyed_level : goal.returns-in-Ok-keyed_level
returns-in-Ok-keyed_level c =
    let i : Parts = c.args.parts.now in
    let P : Graphs → Firing → List Configured → Type 0 = λ gs f l. IsReadyWith gs.graphs i.workers f l (arc_value c.in-Ok.made.compiled) c.in-Ok.made.set c.in-Ok.made.values in
    let slim = for_all i c.requires P c.deref.result.now c.deref-2.result.now c.deref.ensures c.deref-2.ensures.value c.in-Ok.ensures.made in
    let own : ReadyLevel = record { key = i.key; made = c.in-Ok.made } in
    let is : IsReadyFor (arc_value i.graphs).graphs i.workers i.whole.value i.told own = record { made = ready_kept (arc_value i.graphs).graphs i.workers i.whole.value i.told _ _ _ slim; key = c.requires.key_is; inherited = c.requires.inherited } in
    let ends = subst (IsReadyFor (arc_value i.graphs).graphs i.workers i.whole.value i.told) (sym c.in-Ok-keyed_level.ensures) is in
    subst (EndsTask (task_view i)) (sym c.ready_with_memory.ensures) ends

pub returns-in-Err-Refused : goal.returns-in-Err-Refused
returns-in-Err-Refused c =
    let i : Parts = c.args.parts.now in
    let graphs = (arc_value i.graphs).graphs in
    let refusal = c.in-Err-Refused.refusal in
    let P : Graphs → Firing → List Configured → Type 0 = λ gs f l. doing.IsCompiled gs.graphs f l (words.Refuses refusal) in
    let S : Refusal → Type 0 = λ r. doing.IsCompiled c.deref.result.now.graphs i.firing c.deref-2.result.now (words.Refuses r) in
    let made = subst (λ (x : PlainFault). IfRefused S x) c.in-Err-Refused.field-0-is c.in-Err-Refused.ensures.refused in
    let slim = for_all i c.requires P c.deref.result.now c.deref-2.result.now c.deref.ensures c.deref-2.ensures.value made in
    let own = compiled_kept graphs i.whole.value i.told (words.Refuses refusal) slim in
    let path = refusal_path graphs i.whole.value i.told c.requires.here refusal own in
    let R : List ℕ → Type 0 = λ p. doing.IsCompiled graphs i.whole.value i.told (words.Refuses record { path = p; cause = refusal.cause }) in
    let T : Refusal → Type 0 = λ r. doing.IsCompiled graphs i.whole.value i.told (words.Refuses record { path = i.whole.value.path; cause = r.cause }) in
    subst T (sym c.in-Err-Refused.refusal-is) (subst R path own)
