-- When nothing more will come of a job.
use Rattle.std.proofs.Common.{◌≡◌, ℕ, zero, suc, ◌<◌, ◌≤◌, ◌&&◌, Bool, true, false, Option, Some, None, refl, ap, ◌∙◌, arith, ⊎_elim}
use Rattle.std.proofs.lemmas.Bool.{and_from, and_parts, cases_lt}
use Rattle.job_rules.specs.Words as words
use Rattle.nested_jobs.specs.Marks.{Mark, Free, Busy, Open, Done}
use Rattle.nested_jobs.specs.Rules.{Task, Work, Call}
use Rattle.nested_jobs.specs.Steps.{all_below, is_settled}
use Rattle.pisdf_meaning.specs.declared.firing.Firing.{Firing}
use Rattle.audit_job.specs.Kinds.{IsKind, settles}
use Rattle.audit_job.specs.declared.answer.Kind.{Kind}
use Rattle.audit_job.specs.declared.answer.Kind.TheVariants as kind

-- ---- numbers below

pub all_from : (n : ℕ) (f : ℕ → Bool) → ((i : ℕ) → i < n → f i ≡ true) → all_below n f ≡ true
all_from zero f each = refl
all_from (suc n) f each = and_from (f n) (all_below n f) (each n (omega arith)) (all_from n f (λ i below. each i (omega arith)))

pub each_below : (n : ℕ) (f : ℕ → Bool) → all_below n f ≡ true → (i : ℕ) → i < n → f i ≡ true
each_below zero f all i below = absurd (omega arith)
each_below (suc n) f all i below =
    let parts = and_parts (f n) (all_below n f) all in
    ⊎_elim
    (λ (less : i < n). each_below n f parts.1 i less)
    (λ (last : n ≤ i). let e : i ≡ n = omega arith in ap f e ∙ parts.0)
    (cases_lt i n)

and_false : (a b : Bool) → b ≡ false → (a && b) ≡ false
and_false true b is = is
and_false false b is = refl

first_false : (a b : Bool) → a ≡ false → (a && b) ≡ false
first_false true b is = absurd (cc)
first_false false b is = refl

pub not_all : (n : ℕ) (f : ℕ → Bool) (i : ℕ) → i < n → f i ≡ false → all_below n f ≡ false
not_all zero f i below is = absurd (omega arith)
not_all (suc n) f i below is = ⊎_elim
    (λ (less : i < n). and_false (f n) (all_below n f) (not_all n f i less is))
    (λ (last : n ≤ i). let e : n ≡ i = omega arith in first_false (f n) (all_below n f) (ap f e ∙ is))
    (cases_lt i n)

-- ---- marks by kinds

none_settles : (m : Mark Firing words.Answer) → is_settled {J = Firing} {W = words.Work} {A = words.Answer} m None ≡ settles m None
none_settles Free = refl
none_settles Busy = refl
none_settles (Open firing) = refl
none_settles (Done answer) = refl

some_settles : (m : Mark Firing words.Answer) (t : Task Firing words.Work) (k : Kind) → is_settled m (Some t) ≡ settles m (Some k)
some_settles Free t k = refl
some_settles Busy t k = refl
some_settles (Open firing) t k = refl
some_settles (Done answer) t k = refl

pub settles_so : (m : Mark Firing words.Answer) (t : Option (Task Firing words.Work)) (k : Option Kind) → IsKind t k → is_settled m t ≡ settles m k
settles_so m t None is = ap (is_settled m) is ∙ none_settles m
settles_so m t (Some kind.Work) is = ap (is_settled m) is.1 ∙ some_settles m (Work is.0) kind.Work
settles_so m t (Some kind.Call) is = ap (is_settled m) is.1 ∙ some_settles m (Call is.0) kind.Call
