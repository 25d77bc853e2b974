use Rattle.std.proofs.Common.{◌≡◌, ℕ, ◌<◌, ◌≤◌, ◌⊎◌, ⊎_elim, length, sym, ap, subst, arith}
use Rattle.std.specs.Ordering.{ord_max, nat_cmp}
use Rattle.std.proofs.lemmas.Bool.{cases_lt}
use Rattle.std.proofs.lemmas.Grind.{common_steps}
use Rattle.job_compiler.specs.Rows.{row_of}
use Rattle.job_compiler.proofs.wiring.most_ports.Goals as goal

one_of : (a b : ℕ) → (ord_max nat_cmp a b ≡ a) ⊎ (ord_max nat_cmp a b ≡ b)
one_of a b = grind (arith, common_steps)

first_below : (a b : ℕ) → a ≤ ord_max nat_cmp a b
first_below a b = grind (arith, common_steps)

second_below : (a b : ℕ) → b ≤ ord_max nat_cmp a b
second_below a b = grind (arith, common_steps)

pub loop-n-preserved : goal.loop-n-preserved
loop-n-preserved c =
    let most = c.loop-n.most in
    let count = length c.row.result.now in
    let row : count ≡ length (row_of c.args.rows.now c.loop-n.n) = ap length c.row.ensures in
    let first : most ≤ c.max-most.result = subst (λ k. most ≤ k) (sym c.max-most.ensures) (first_below most count) in
    let second : count ≤ c.max-most.result = subst (λ k. count ≤ k) (sym c.max-most.ensures) (second_below most count) in
    record {
      some = omega (arith, first, c.loop-n.invariant.some);
      each = λ m below. ⊎_elim
          (λ (before : m < c.loop-n.n). omega (arith, first, c.loop-n.invariant.each m before))
          (λ (here : c.loop-n.n ≤ m).
          let same : c.loop-n.n ≡ m = omega arith in
          subst (λ k. length (row_of c.args.rows.now k) ≤ c.max-most.result) same (omega (arith, second, row)))
          (cases_lt m c.loop-n.n);
      least = λ m some all. ⊎_elim
          (λ (old : ord_max nat_cmp most count ≡ most). omega (arith, c.max-most.ensures, old, c.loop-n.invariant.least m some all))
          (λ (new : ord_max nat_cmp most count ≡ count). omega (arith, c.max-most.ensures, new, row, all c.loop-n.n (omega (arith, c.loop-n-test.true, c.requires))))
          (one_of most count);
    }
