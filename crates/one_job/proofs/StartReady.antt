-- The nodes that wait for none come in, one after the other.
use Rattle.std.proofs.Common.{◌≡◌, ℕ, ◌+◌, ◌<◌, ⊎_elim, Bool, true, List, length, sym, ◌∙◌, subst, arith}
use Rattle.std.specs.Prelude.{◌≢◌, slice_index}
use Rattle.std.proofs.lemmas.Bool.{cases_eq}
use Rattle.one_job.specs.Ready.{side, put, is_in, AreStarted}
use Rattle.one_job.specs.declared.ready.ReadyNodes.{ReadyNodes}
use Rattle.one_job.proofs.Sides.{as_earlier, put_here, put_others, put_ranked, put_sorted}

module _ (child : ℕ → Bool) (waiting : List ℕ) (n : ℕ) (before ready : ReadyNodes) (so_far : AreStarted child waiting n before ready) where
  pub started_out : slice_index waiting n ≢ 0 → AreStarted child waiting (n + 1) before ready
  started_out waits = record {
    ranked = so_far.ranked;
    sorted = so_far.sorted;
    in_now = λ k below none. ⊎_elim
        (λ (last : k ≡ n). absurd (waits (subst (λ q. slice_index waiting q ≡ 0) last none)))
        (λ (other : k ≢ n). so_far.in_now k (omega arith) none)
        (cases_eq k n);
    only = λ k holds. let was = so_far.only k holds in (let below = was.0 in omega arith, was.1);
  }

  pub started_in : n < length (side ready (child n)).held → slice_index waiting n ≡ 0 → AreStarted child waiting (n + 1) before (put ready (child n) n true)
  started_in inside none = record {
    ranked = λ b. as_earlier (side before b) (side ready b) (side (put ready (child n) n true) b) (so_far.ranked b) (put_ranked ready n true (child n) b);
    sorted = put_sorted ready n true child so_far.sorted;
    in_now = λ k below none_now. ⊎_elim
        (λ (last : k ≡ n). subst (λ q. is_in child (put ready (child n) n true) q ≡ true) (sym last) (put_here ready n true (child n) inside))
        (λ (other : k ≢ n). put_others ready n true (child n) (child k) k other ∙ so_far.in_now k (omega arith) none_now)
        (cases_eq k n);
    only = λ k holds. ⊎_elim
        (λ (last : k ≡ n). (omega arith, subst (λ q. slice_index waiting q ≡ 0) (sym last) none))
        (λ (other : k ≢ n). let was = so_far.only k (sym (put_others ready n true (child n) (child k) k other) ∙ holds) in (let below = was.0 in omega arith, was.1))
        (cases_eq k n);
  }
