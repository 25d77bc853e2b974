-- The least number of rounds that move so many tokens.
use Rattle.std.proofs.Common.{◌≡◌, ℕ, suc, ◌+◌, ◌*◌, ◌/◌, ◌%◌, ◌<◌, ◌≤◌, ⊎_elim, min, arith}
use Rattle.std.proofs.Math.Nat.{mul-le-mul_right, mul-pos}
use Rattle.std.proofs.lemmas.Bool.{cases_lt}
use Rattle.std.proofs.lemmas.Grind.{div_ceil_times}
use Rattle.sdf_level.specs.Invariants.{rate_limit}
use Rattle.interface_rules.specs.Served.{IsLeastNeed}

pub need_none : (outside base rate : ℕ) → outside ≡ 0 → IsLeastNeed outside base rate 1
need_none outside base rate none = record { at_least_one = omega arith; within = omega arith; enough = omega arith; least = λ other some enough. some }

together : (m base rate : ℕ) → m * base * rate ≡ m * (base * rate)
together m base rate = grind arith

module _ (outside once m : ℕ) (some : 0 < outside) (each : 1 ≤ once) (enough : outside ≤ m * once) (tight : m * once < outside + once) where
  some_rounds : 1 ≤ m
  some_rounds = ⊎_elim
      (λ (h : 0 < m). h)
      (λ (h : m ≤ 0). let p : m * once ≤ 0 * once = mul-le-mul_right once h in absurd (omega arith))
      (cases_lt 0 m)

  few_rounds : m ≤ outside
  few_rounds = ⊎_elim
      (λ (h : outside < m).
      let p : suc outside * once ≤ m * once = mul-le-mul_right once h in
      let q : outside * 1 ≤ outside * once = few outside once each in
      absurd (omega arith))
      (λ (h : m ≤ outside). h)
      (cases_lt outside m)
    where
      few : (u v : ℕ) → 1 ≤ v → u * 1 ≤ u * v
      few u v h = grind arith

  least_rounds : (other : ℕ) → outside ≤ other * once → m ≤ other
  least_rounds other h = ⊎_elim
      (λ (less : other < m). let p : suc other * once ≤ m * once = mul-le-mul_right once less in absurd (omega arith))
      (λ (more : m ≤ other). more)
      (cases_lt other m)

need_of_total : (outside base rate m : ℕ) → 0 < outside → outside ≤ rate_limit → 1 ≤ base * rate → outside ≤ m * (base * rate) → m * (base * rate) < outside + base * rate → IsLeastNeed outside base rate m
need_of_total outside base rate m some small each enough tight = record {
  at_least_one = some_rounds outside (base * rate) m some each enough tight;
  within = let few = few_rounds outside (base * rate) m some each enough tight in omega arith;
  enough = rw (together m base rate) enough;
  least = λ other positive has. least_rounds outside (base * rate) m some each enough tight other (rw (together other base rate) at has);
}

pub need_some : (outside base rate : ℕ) → 0 < outside → outside ≤ rate_limit → 1 ≤ base → 0 < rate → IsLeastNeed outside base rate (outside / (base * rate) + min 1 (outside % (base * rate)))
need_some outside base rate some small some_base some_rate =
    let each : 1 ≤ base * rate = mul-pos {m = base} {n = rate} some_base some_rate in
    let t = div_ceil_times outside (base * rate) each in
    need_of_total outside base rate (outside / (base * rate) + min 1 (outside % (base * rate))) some small each t.0 t.1
