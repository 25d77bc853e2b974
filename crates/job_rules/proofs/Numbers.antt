-- What the items of a job do, by their numbers.
use Rattle.std.proofs.Common.{◌≡◌, ℕ, zero, suc, ◌+◌, List, [], ◌∷◌, length, slice_get, Some, refl, ap, arith}
use Rattle.pisdf_model.specs.declared.graph.Graph.{Graph}
use Rattle.pisdf_meaning.specs.Configuring.{Configuration}
use Rattle.pisdf_meaning.specs.declared.firing.Firing.{Firing}
use Rattle.nested_jobs.specs.Rules.{Values}
use Rattle.job_rules.specs.Words.{Answer}
use Rattle.job_rules.specs.Items.{compile_rule, config_task, left_in, node_rule, prepared_in, rule_from}

module _ (graphs : List Graph) (g : Graph) (firing : Firing) (v : Values Answer) where
  pub rule_of_configuration : (cs : List Configuration) (i : ℕ) (c : Configuration) → slice_get cs i ≡ Some c → rule_from graphs g firing v cs i ≡ config_task graphs g firing c c.body
  rule_of_configuration [] i c is = absurd (cc)
  rule_of_configuration (d ∷ cs) zero c is = let same : d ≡ c = cc in ap (λ (x : Configuration). config_task graphs g firing x x.body) same
  rule_of_configuration (d ∷ cs) (suc i) c is = rule_of_configuration cs i c is

  pub rule_of_compilation : (cs : List Configuration) → rule_from graphs g firing v cs (length cs) ≡ compile_rule firing (left_in g v)
  rule_of_compilation [] = refl
  rule_of_compilation (c ∷ cs) = rule_of_compilation cs

  pub rule_of_node : (cs : List Configuration) (n : ℕ) → rule_from graphs g firing v cs (length cs + 1 + n) ≡ node_rule graphs g firing v n (prepared_in g v)
  rule_of_node [] n = let e : 0 + 1 + n ≡ suc n = omega arith in rw e refl
  rule_of_node (c ∷ cs) n = let e : length (c ∷ cs) + 1 + n ≡ suc (length cs + 1 + n) = omega arith in rw e (rule_of_node cs n)
