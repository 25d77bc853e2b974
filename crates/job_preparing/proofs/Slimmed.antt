-- What a compilation looks at, and what it doesn't.
use Rattle.std.proofs.Common.{◌≡◌, ℕ, ℤ, List, [], ◌∷◌, ◌++◌, length, map, slice_get, Option, Some, None, Result, Ok, Err, refl, sym, ap, ◌∙◌, subst}
use Rattle.std.specs.Prelude.{zip}
use Rattle.pisdf_model.specs.Ports.{sets_of}
use Rattle.pisdf_model.specs.declared.graph.Graph.{Graph}
use Rattle.job_compiler.specs.Compilation.{Compilation}
use Rattle.sdf_level.specs.View.{LevelView}
use Rattle.param_resolver.specs.Assignment.{supplied_to, numbers, param_faults, values_of}
use Rattle.param_resolver.specs.EarlyCheck.{as_refusal}
use Rattle.param_resolver.specs.declared.level_set.LevelSet.{LevelSet}
use Rattle.level_schedule.specs.declared.scheduling.LevelSchedule.{LevelSchedule}
use Rattle.pisdf_meaning.specs.Causes.{unless_refused}
use Rattle.pisdf_meaning.specs.Configuring.{Configuration, configurations}
use Rattle.pisdf_meaning.specs.Endings.{Then}
use Rattle.pisdf_meaning.specs.Preparing.{Schedules, chosen_from, chosen_values, level_in, rated, resolved, supplied_values, values_set}
use Rattle.pisdf_meaning.specs.declared.firing.Configured.{Configured}
use Rattle.pisdf_meaning.specs.declared.firing.Firing.{Firing}
use Rattle.pisdf_meaning.specs.declared.outcome.TraceRow.{TraceRow}
use Rattle.pisdf_meaning.specs.declared.refusal.Refusal.{Refusal}
use Rattle.job_rules.specs.Doing as doing
use Rattle.job_rules.specs.Items.{graph_of}
use Rattle.job_rules.specs.Words.{Answer}
use Rattle.job_preparing.specs.CompileTasks.{IsReadyWith}
use Rattle.job_preparing.specs.Handing.{with_traces, without_trace}
use Rattle.job_preparing.specs.Slim.{slim_firing, slim_left, slim_one}

sets_kept : (cs : List Configuration) (left : List Configured) → values_set cs (slim_left left) ≡ values_set cs left
sets_kept [] left = refl
sets_kept (c ∷ cs) [] = refl
sets_kept (c ∷ cs) (one ∷ left) = ap (λ (l : List (ℕ × ℤ)). zip (sets_of c.body) one.sets ++ l) (sets_kept cs left)

sets_bare : (cs : List Configuration) (left : List Configured) → values_set cs (map without_trace left) ≡ values_set cs left
sets_bare [] left = refl
sets_bare (c ∷ cs) [] = refl
sets_bare (c ∷ cs) (one ∷ left) = ap (λ (l : List (ℕ × ℤ)). zip (sets_of c.body) one.sets ++ l) (sets_bare cs left)

-- nor does what is slim depend on traces
pub slim_traced : (left : List Configured) (traces : List (List TraceRow)) → slim_left (with_traces left traces) ≡ slim_left left
slim_traced [] traces = refl
slim_traced (one ∷ left) [] = ap (λ l. slim_one one ∷ l) (slim_traced left [])
slim_traced (one ∷ left) (t ∷ traces) = ap (λ l. slim_one one ∷ l) (slim_traced left traces)

-- the chosen values don't depend on traces
pub chosen_bare : (g : Graph) (left : List Configured) → chosen_values g (map without_trace left) ≡ chosen_values g left
chosen_bare g left = ap (λ sets. chosen_from sets 0 g.params) (sets_bare (configurations g) left)

module _ (graphs : List Graph) (g : Graph) (firing : Firing) (left : List Configured) where
  chosen_kept : chosen_values g (slim_left left) ≡ chosen_values g left
  chosen_kept = ap (λ sets. chosen_from sets 0 g.params) (sets_kept (configurations g) left)

  pub resolved_kept : resolved graphs g (slim_firing firing) (slim_left left) ≡ resolved graphs g firing left
  resolved_kept =
      let given : List ℤ → List (Option ℤ) = λ chosen. supplied_to g.params firing.inherited chosen in
      ap (λ chosen. unless_refused graphs g firing.path (map as_refusal (param_faults g.params (given chosen))) (numbers (values_of g.params (given chosen)))) chosen_kept

-- what is ready for the slim one is so for the whole
pub ready_kept : (graphs : List Graph) (workers : ℕ) (firing : Firing) (left : List Configured) (c : Compilation) (set : LevelSet) (values : List ℤ) →
    IsReadyWith graphs workers (slim_firing firing) (slim_left left) c set values → IsReadyWith graphs workers firing left c set values
ready_kept graphs workers firing left c set values ready = record {
  values_are = sym (resolved_kept graphs (graph_of graphs firing) firing left) ∙ ready.values_are;
  rated_so = ready.rated_so;
  set_is = record { level = ready.set_is.level; origins = ready.set_is.origins; places = ready.set_is.places; args = ready.set_is.args; outs = ready.set_is.outs; children = ready.set_is.children };
  compiled = ready.compiled;
  level_is = ready.level_is;
  workers_are = ready.workers_are;
}

schedules_kept : (g : Graph) (firing : Firing) (level : LevelView) (end : Result LevelSchedule Refusal) → Schedules g (slim_firing firing) level end → Schedules g firing level end
schedules_kept g firing level (Ok s) is = is
schedules_kept g firing level (Err refusal) is = is

rated_kept : (graphs : List Graph) (g : Graph) (firing : Firing) (r : Result (List ℤ) Refusal) (end : Result LevelSchedule Refusal) →
    Then (λ values end. Schedules g (slim_firing firing) (level_in graphs g (slim_firing firing) values) end) r end → Then (λ values end. Schedules g firing (level_in graphs g firing values) end) r end
rated_kept graphs g firing (Ok values) end is = schedules_kept g firing (level_in graphs g firing values) end is
rated_kept graphs g firing (Err refusal) end is = is

leads_kept : (graphs : List Graph) (g : Graph) (firing : Firing) (r : Result (List ℤ) Refusal) (end : Result LevelSchedule Refusal) →
    Then (λ values end. Then (λ values end. Schedules g (slim_firing firing) (level_in graphs g (slim_firing firing) values) end) (rated graphs g (slim_firing firing) values) end) r end →
    Then (λ values end. Then (λ values end. Schedules g firing (level_in graphs g firing values) end) (rated graphs g firing values) end) r end
leads_kept graphs g firing (Ok values) end is = rated_kept graphs g firing (rated graphs g firing values) end is
leads_kept graphs g firing (Err refusal) end is = is

-- and so is what it is compiled to
pub compiled_kept : (graphs : List Graph) (firing : Firing) (left : List Configured) (answer : Answer) → doing.IsCompiled graphs (slim_firing firing) (slim_left left) answer → doing.IsCompiled graphs firing left answer
compiled_kept graphs firing left answer is =
    let P : Result (List ℤ) Refusal → Type 0 = λ r. Then (λ values end. Then (λ values end. Schedules is.g firing (level_in graphs is.g firing values) end) (rated graphs is.g firing values) end) r is.end in
    record {
      g = is.g;
      here = is.here;
      end = is.end;
      leads = subst P (resolved_kept graphs is.g firing left) (leads_kept graphs is.g firing (resolved graphs is.g (slim_firing firing) (slim_left left)) is.end is.leads);
      answer_is = is.answer_is;
    }
