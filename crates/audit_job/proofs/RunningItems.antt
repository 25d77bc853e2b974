-- How many items run.
use Rattle.std.proofs.Common.{◌≡◌, ◌≢◌, ℕ, zero, suc, ◌+◌, ◌<◌, ◌≤◌, ◌++◌, Bool, true, false, List, [], ◌∷◌, length, set, Option, Some, None, refl, ap, arith, if◌then◌else◌}
use Rattle.std.specs.Prelude.{replicate}
use Rattle.job_rules.specs.Words as words
use Rattle.nested_jobs.specs.Marks as mark
use Rattle.nested_jobs.specs.Marks.{Mark, Free, Busy, Open, Done}
use Rattle.nested_jobs.specs.Rules.{Task}
use Rattle.nested_jobs.specs.Steps.{is_settled}
use Rattle.pisdf_meaning.specs.declared.firing.Firing.{Firing}
use Rattle.audit_job.specs.Candidates.{is_running, running_in}
use Rattle.audit_job.specs.Marks.{mark_at, mark_of}
use Rattle.audit_job.specs.declared.answer.Mark.{Mark as OwnMark}
use Rattle.audit_job.specs.declared.answer.Mark.TheVariants as stands

-- ---- one mark

abbrev pub one_if : Bool → ℕ
one_if b = if b then 1 else 0

pub runs_unfinished : (m : Mark Firing words.Answer) → is_running m ≡ true → mark.answer_of m ≡ None
runs_unfinished Free is = absurd (cc)
runs_unfinished Busy is = refl
runs_unfinished (Open called) is = refl
runs_unfinished (Done answer) is = absurd (cc)

pub runs_unsettled : (m : Mark Firing words.Answer) (t : Option (Task Firing words.Work)) → is_running m ≡ true → is_settled m t ≡ false
runs_unsettled Free t is = absurd (cc)
runs_unsettled Busy t is = refl
runs_unsettled (Open called) t is = refl
runs_unsettled (Done answer) t is = absurd (cc)

free_settled : (t : Option (Task Firing words.Work)) → ((task : Task Firing words.Work) → t ≡ Some task → is_settled {J = Firing} {W = words.Work} {A = words.Answer} Free t ≡ true) → is_settled {J = Firing} {W = words.Work} {A = words.Answer} Free t ≡ true
free_settled None each = refl
free_settled (Some task) each = each task refl

-- an item that doesn't run is settled, unless it is free and has a task
pub settled_else : (m : Mark Firing words.Answer) (t : Option (Task Firing words.Work)) → is_running m ≡ false → (m ≡ Free → (task : Task Firing words.Work) → t ≡ Some task → is_settled m t ≡ true) → is_settled m t ≡ true
settled_else Free t is each = free_settled t (each refl)
settled_else Busy t is each = absurd (cc)
settled_else (Open called) t is each = absurd (cc)
settled_else (Done answer) t is each = refl

-- ---- all marks

pub running_set : (marks : List OwnMark) (i : ℕ) (m : OwnMark) → i < length marks → running_in (set marks i m) + one_if (is_running (mark_at marks i)) ≡ running_in marks + one_if (is_running (mark_of m))
running_set [] i m inside = absurd (omega arith)
running_set (x ∷ marks) zero m inside = omega arith
running_set (x ∷ marks) (suc i) m inside = let again = running_set marks i m (omega arith) in omega arith

none_runs : (n : ℕ) → running_in (replicate n stands.Free) ≡ 0
none_runs zero = refl
none_runs (suc n) = let again = none_runs n in omega arith

pub running_more : (marks : List OwnMark) (n : ℕ) → running_in (marks ++ replicate n stands.Free) ≡ running_in marks
running_more [] n = none_runs n
running_more (x ∷ marks) n = ap (λ k. one_if (is_running (mark_of x)) + k) (running_more marks n)

one_low : (b : Bool) → one_if b ≤ 1
one_low true = omega arith
one_low false = omega arith

pub running_low : (marks : List OwnMark) → running_in marks ≤ length marks
running_low [] = omega arith
running_low (x ∷ marks) = let again = running_low marks in let one = one_low (is_running (mark_of x)) in omega arith

-- not all run where one is free
pub running_below : (marks : List OwnMark) (i : ℕ) → i < length marks → mark_at marks i ≡ Free → running_in marks < length marks
running_below [] i inside free = absurd (omega arith)
running_below (x ∷ marks) zero inside free =
    let low = running_low marks in
    let none : one_if (is_running (mark_of x)) ≡ 0 = ap (λ (m : Mark Firing words.Answer). one_if (is_running m)) free in
    omega arith
running_below (x ∷ marks) (suc i) inside free = let again = running_below marks i (omega arith) free in let one = one_low (is_running (mark_of x)) in omega arith

none_here : (b : Bool) (k : ℕ) → one_if b + k ≡ 0 → (b ≡ false) × (k ≡ 0)
none_here true k is = absurd (omega arith)
none_here false k is = (refl, omega arith)

pub none_running : (marks : List OwnMark) → running_in marks ≡ 0 → (i : ℕ) → is_running (mark_at marks i) ≡ false
none_running [] none i = refl
none_running (x ∷ marks) none zero = (none_here (is_running (mark_of x)) (running_in marks) none).0
none_running (x ∷ marks) none (suc i) = none_running marks (none_here (is_running (mark_of x)) (running_in marks) none).1 i

pub some_running : (marks : List OwnMark) → running_in marks ≢ 0 → (i : ℕ) × (i < length marks) × (is_running (mark_at marks i) ≡ true)
some_running [] some = absurd (some refl)
some_running (x ∷ marks) some = by_first (is_running (mark_of x)) refl (λ rest. some_running marks rest)
  where
    by_first : (b : Bool) → is_running (mark_of x) ≡ b → (running_in marks ≢ 0 → (i : ℕ) × (i < length marks) × (is_running (mark_at marks i) ≡ true)) → (i : ℕ) × (i < length (x ∷ marks)) × (is_running (mark_at (x ∷ marks) i) ≡ true)
    by_first true is again = (0, omega arith, is)
    by_first false is again =
        let rest : running_in marks ≢ 0 = λ none. some (let off : one_if (is_running (mark_of x)) ≡ 0 = ap one_if is in omega arith) in
        let at = again rest in
        (suc at.0, omega (arith, at.1), at.2)
