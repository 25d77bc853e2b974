-- When two keys are the same.
use Rattle.std.specs.Prelude.{Bool, nat_eq}
use Rattle.std.specs.Ordering.{int_eq, on, eq_of_both}
use Rattle.std.specs.Cmp.Lexicographic.{pointwise}
use Rattle.job_compiler.specs.declared.key.Key.{Key}

-- the same graph, as many workers, and the same values
abbrev pub is_key : Key → Key → Bool
is_key = eq_of_both (on (λ k. k.graph) nat_eq) (eq_of_both (on (λ k. k.workers) nat_eq) (on (λ k. k.values) (pointwise int_eq)))
