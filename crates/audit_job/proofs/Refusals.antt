-- The first refusal among the items of a job.
use Rattle.std.proofs.Common.{◌≡◌, ℕ, zero, suc, ◌+◌, ◌<◌, ◌≤◌, true, is_some, List, length, Option, Some, None, refl, sym, ap, ◌∙◌, subst, arith}
use Rattle.std.specs.Prelude.{IsSome}
use Rattle.nested_jobs.specs.Rules.{Values}
use Rattle.pisdf_meaning.specs.declared.refusal.Refusal.{Refusal}
use Rattle.job_rules.specs.Items.{first_refusal, refusal_or}
use Rattle.job_rules.specs.Words.{Answer, Gives, Schedules, Refuses}
use Rattle.audit_job.specs.Ending.{IsFirstRefused, refusal_in}
use Rattle.audit_job.specs.Marks.{answers}
use Rattle.audit_job.specs.declared.answer.Mark.{Mark}

passed_over : (o : Option Answer) (later : Option Refusal) → refusal_in o ≡ None → refusal_or o later ≡ later
passed_over None later none = refl
passed_over (Some (Gives given)) later none = refl
passed_over (Some (Schedules schedule)) later none = refl
passed_over (Some (Refuses refusal)) later none = absurd (cc)

found_there : (o : Option Answer) (later : Option Refusal) (refusal : Refusal) → refusal_in o ≡ Some refusal → refusal_or o later ≡ refusal_in o
found_there None later refusal is = absurd (cc)
found_there (Some (Gives given)) later refusal is = absurd (cc)
found_there (Some (Schedules schedule)) later refusal is = absurd (cc)
found_there (Some (Refuses refusal)) later other is = refl

pub none_refused : (v : Values Answer) (i n : ℕ) → ((j : ℕ) → i ≤ j → j < i + n → refusal_in (v j) ≡ None) → first_refusal v i n ≡ None
none_refused v i zero none = refl
none_refused v i (suc n) none = passed_over (v i) (first_refusal v (i + 1) n) (none i (omega arith) (omega arith)) ∙ none_refused v (i + 1) n (λ j low high. none j (omega arith) (omega arith))

pub refused_at : (v : Values Answer) (i n k : ℕ) (refusal : Refusal) → k < n → refusal_in (v (i + k)) ≡ Some refusal → ((j : ℕ) → i ≤ j → j < i + k → refusal_in (v j) ≡ None) → first_refusal v i n ≡ refusal_in (v (i + k))
refused_at v i zero k refusal inside is none = absurd (omega arith)
refused_at v i (suc n) zero refusal inside is none =
    let e : i ≡ i + 0 = omega arith in
    found_there (v i) (first_refusal v (i + 1) n) refusal (ap (λ m. refusal_in (v m)) e ∙ is) ∙ ap (λ m. refusal_in (v m)) e
refused_at v i (suc n) (suc k) refusal inside is none =
    let e : i + 1 + k ≡ i + suc k = omega arith in
    passed_over (v i) (first_refusal v (i + 1) n) (none i (omega arith) (omega arith))
    ∙ refused_at v (i + 1) n k refusal (omega arith) (ap (λ m. refusal_in (v m)) e ∙ is) (λ j low high. none j (omega arith) (omega arith))
    ∙ ap (λ m. refusal_in (v m)) e

-- a refusal that is there
there : (o : Option Refusal) → is_some o ≡ true → (refusal : Refusal) × (o ≡ Some refusal)
there None is = absurd (cc)
there (Some refusal) is = (refusal, refl)

-- the item at which one is found first
pub first_is : (marks : List Mark) (i : ℕ) → i < length marks → {o : Option Refusal} → refusal_in (answers marks i) ≡ o → is_some o ≡ true → ((j : ℕ) → j < i → refusal_in (answers marks j) ≡ None) → IsFirstRefused marks i
first_is marks i inside {o} at some none =
    let one = there o some in
    let here : refusal_in (answers marks i) ≡ Some one.0 = at ∙ one.1 in
    record {
      inside = inside;
      refused = subst IsSome (sym here) refl;
      is_first =
          let e : 0 + i ≡ i = omega arith in
          refused_at (answers marks) 0 (length marks) i one.0 inside (ap (λ k. refusal_in (answers marks k)) e ∙ here) (λ j low high. none j (omega arith)) ∙ ap (λ k. refusal_in (answers marks k)) e;
    }
