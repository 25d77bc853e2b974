-- The first refusal among the items of a job, part by part.
use Rattle.std.proofs.Common.{◌≡◌, ℕ, zero, suc, ◌+◌, ◌<◌, Option, Some, None, refl, sym, ap, ◌∙◌, arith}
use Rattle.nested_jobs.specs.Rules.{Values}
use Rattle.pisdf_meaning.specs.declared.refusal.Refusal.{Refusal}
use Rattle.job_rules.specs.Words.{Answer, Gives, Schedules, Refuses}
use Rattle.job_rules.specs.Items.{first_refusal, refusal_or}

-- items answered alike have the same first refusal
pub refusals_agree : (v w : Values Answer) (i k n : ℕ) → ((j : ℕ) → j < n → v (i + j) ≡ w (k + j)) → first_refusal v i n ≡ first_refusal w k n
refusals_agree v w i k zero same = refl
refusals_agree v w i k (suc n) same =
    let first : v i ≡ w k = let e : i + 0 ≡ i = omega arith in let f : k + 0 ≡ k = omega arith in ap v (sym e) ∙ same 0 (omega arith) ∙ ap w f in
    ap (λ o. refusal_or o (first_refusal v (i + 1) n)) first
    ∙ ap (refusal_or (w k)) (refusals_agree v w (i + 1) (k + 1) n (λ j below. let e : i + 1 + j ≡ i + suc j = omega arith in let f : k + suc j ≡ k + 1 + j = omega arith in ap v e ∙ same (suc j) (omega arith) ∙ ap w f))

refusal_step : (o : Option Answer) (first rest : Option Refusal) (r : Refusal) → (first ≡ Some r → rest ≡ Some r) → refusal_or o first ≡ Some r → refusal_or o rest ≡ Some r
refusal_step None first rest r more is = more is
refusal_step (Some (Gives given)) first rest r more is = more is
refusal_step (Some (Schedules schedule)) first rest r more is = more is
refusal_step (Some (Refuses refusal)) first rest r more is = is

-- a refusal among the first items stays the first
pub refused_early : (v : Values Answer) (r : Refusal) (i a b : ℕ) → first_refusal v i a ≡ Some r → first_refusal v i (a + b) ≡ Some r
refused_early v r i zero b is = absurd (cc)
refused_early v r i (suc a) b is =
    let e : suc a + b ≡ suc (a + b) = omega arith in
    ap (first_refusal v i) e ∙ refusal_step (v i) (first_refusal v (i + 1) a) (first_refusal v (i + 1) (a + b)) r (λ some. refused_early v r (i + 1) a b some) is

unrefused_step : (o : Option Answer) (first rest later : Option Refusal) → (first ≡ None → rest ≡ later) → refusal_or o first ≡ None → refusal_or o rest ≡ later
unrefused_step None first rest later more is = more is
unrefused_step (Some (Gives given)) first rest later more is = more is
unrefused_step (Some (Schedules schedule)) first rest later more is = more is
unrefused_step (Some (Refuses refusal)) first rest later more is = absurd (cc)

-- where none of the first items is refused, the first refusal is that among the others
pub refused_later : (v : Values Answer) (i a b : ℕ) → first_refusal v i a ≡ None → first_refusal v i (a + b) ≡ first_refusal v (i + a) b
refused_later v i zero b is = let e : 0 + b ≡ b = omega arith in let f : i ≡ i + 0 = omega arith in ap (first_refusal v i) e ∙ ap (λ k. first_refusal v k b) f
refused_later v i (suc a) b is =
    let e : suc a + b ≡ suc (a + b) = omega arith in
    let f : i + 1 + a ≡ i + suc a = omega arith in
    ap (first_refusal v i) e ∙ unrefused_step (v i) (first_refusal v (i + 1) a) (first_refusal v (i + 1) (a + b)) (first_refusal v (i + suc a) b) (λ none. refused_later v (i + 1) a b none ∙ ap (λ k. first_refusal v k b) f) is
