-- The compilation, where it is offered as work.
use Rattle.std.proofs.Common.{◌≡◌, List, [], Option, Some, None, is_some, true, unwrap_or, refl, sym, ◌∙◌}
use Rattle.nested_jobs.specs.Rules.{Work}
use Rattle.pisdf_meaning.specs.declared.firing.Configured.{Configured}
use Rattle.pisdf_meaning.specs.declared.firing.Firing.{Firing}
use Rattle.job_rules.specs.Words as words
use Rattle.job_rules.specs.Items.{compile_rule}
use Rattle.graph_firing.specs.View.{IsOfferedCompilation, IsOfferedWork, OpenView, answered, compilation_of, left_by, left_if_ready, task}
use Rattle.graph_firing.proofs.Rules.{rule_at}

has_left : (firing : Firing) (o : Option (List Configured)) (work : words.Work) → compile_rule firing o ≡ Some (Work work) → is_some o ≡ true
has_left firing None work e = absurd (cc)
has_left firing (Some left) work e = refl

compiles_left : (firing : Firing) (o : Option (List Configured)) → is_some o ≡ true → compile_rule firing o ≡ Some (Work (words.Compiles firing (unwrap_or o [])))
compiles_left firing None ready = absurd (cc)
compiles_left firing (Some left) ready = refl

module _ (v : OpenView) where
  rule_is : task v (compilation_of v) ≡ compile_rule v.firing (left_if_ready v)
  rule_is = rule_at v.graphs.graphs v.firing (answered v)

  -- it may be claimed
  pub may_compile : IsOfferedWork v (compilation_of v) → IsOfferedCompilation v
  may_compile offered = record { free = offered.free; ready = has_left v.firing (left_if_ready v) offered.work (sym rule_is ∙ offered.task_is) }

  -- and its work is to compile what the configuration actors left
  pub compiles : IsOfferedCompilation v → task v (compilation_of v) ≡ Some (Work (words.Compiles v.firing (left_by v)))
  compiles offered = rule_is ∙ compiles_left v.firing (left_if_ready v) offered.ready
