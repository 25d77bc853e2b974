-- A level has either a schedule or one fault.
use Rattle.std.proofs.Common.{◌≡◌, ◌⊎◌, inl, inr, ⊎_elim, ℕ, List, Result, Ok, Err, IfOk, IfErr, refl, ap, sym, ◌∙◌, subst, arith}
use Rattle.sdf_level.specs.View.{LevelView}
use Rattle.sdf_level.specs.Limits.{IsWithinLimits}
use Rattle.sdf_level.specs.Orders.{IsDeadlocked, IsTurnOrder, IsLeft}
use Rattle.sdf_level.proofs.OnlyOne.{repetition_only, turn_order_only, left_only}
use Rattle.level_schedule.specs.declared.scheduling.LevelSchedule.{LevelSchedule}
use Rattle.level_schedule.specs.declared.unscheduled.What.{What}
use Rattle.level_schedule.specs.declared.unscheduled.Unscheduled.{Unscheduled}
use Rattle.level_schedule.specs.declared.unscheduled.What.TheVariants.{Firings, Links, Tokens}
use Rattle.level_schedule.specs.declared.unscheduled.Unscheduled.TheVariants.{Rates, Limit, Deadlock, Memory}
use Rattle.level_schedule.specs.Schedules.{IsScheduled, IsFirstOver, count_of, IsOverLimit, EndsInDeadlock, IsUnscheduled}

not_over : (what : What) (level : LevelView) (q : List ℕ) → IsWithinLimits level q → IsFirstOver what level q → ⊥
not_over Firings level q within over = let f = within.firings in omega arith
not_over Links level q within over = let f = within.links in let o = over.over in omega arith
not_over Tokens level q within over = let f = within.tokens in let o = over.over in omega arith

-- at most one count is the first over its limit
one_over : (a b : What) (level : LevelView) (q : List ℕ) → IsFirstOver a level q → IsFirstOver b level q → a ≡ b
one_over Firings Firings level q f g = refl
one_over Firings Links level q f g = absurd (let h = g.firings in omega arith)
one_over Firings Tokens level q f g = absurd (let h = g.firings in omega arith)
one_over Links Firings level q f g = absurd (let h = f.firings in omega arith)
one_over Links Links level q f g = refl
one_over Links Tokens level q f g = absurd (let h = f.over in let k = g.links in omega arith)
one_over Tokens Firings level q f g = absurd (let h = f.firings in omega arith)
one_over Tokens Links level q f g = absurd (let h = g.over in let k = f.links in omega arith)
one_over Tokens Tokens level q f g = refl

-- a schedule rules out each fault
no_fault : (level : LevelView) (s : LevelSchedule) → IsScheduled level s → (fault : Unscheduled) → IsUnscheduled level fault → ⊥
no_fault level s is Rates none = none s.counts is.repetition
no_fault level s is (Limit what value) o =
    let P : List ℕ → Type 0 = IsFirstOver what level in
    not_over what level s.counts is.within (subst P (repetition_only level o.counts s.counts o.repetition is.repetition) o.over)
no_fault level s is (Deadlock left) d =
    let P : List ℕ → Type 0 = IsDeadlocked level in
    subst P (repetition_only level d.counts s.counts d.repetition is.repetition) d.deadlock _ is.order.order.admissible
no_fault level s is Memory m = m

one_limit : (level : LevelView) (a b : What) (m n : ℕ) → IsOverLimit level a m → IsOverLimit level b n → Limit a m ≡ Limit b n
one_limit level a b m n f g =
    let counts = repetition_only level g.counts f.counts g.repetition f.repetition in
    let P : List ℕ → Type 0 = IsFirstOver b level in
    let same : a ≡ b = one_over a b level f.counts f.over (subst P counts g.over) in
    let value : m ≡ n = f.value_is ∙ ap (λ w. count_of w level f.counts) same ∙ ap (count_of b level) (sym counts) ∙ sym g.value_is in
    rw (same, value) refl

one_left : (level : LevelView) (left other : List ℕ) → EndsInDeadlock level left → EndsInDeadlock level other → left ≡ other
one_left level left other f g =
    let P : List ℕ → Type 0 = λ q. IsLeft level q other in
    left_only level f.counts left other f.left_is (subst P (repetition_only level g.counts f.counts g.repetition f.repetition) g.left_is)

limit_or_deadlock : (level : LevelView) (what : What) (value : ℕ) (left : List ℕ) → IsOverLimit level what value → EndsInDeadlock level left → ⊥
limit_or_deadlock level what value left f g =
    let P : List ℕ → Type 0 = IsFirstOver what level in
    not_over what level g.counts g.within (subst P (repetition_only level f.counts g.counts f.repetition g.repetition) f.over)

one_fault : (level : LevelView) (a b : Unscheduled) → IsUnscheduled level a → IsUnscheduled level b → a ≡ b
one_fault level Rates Rates f g = refl
one_fault level Rates (Limit what value) f g = absurd (f g.counts g.repetition)
one_fault level Rates (Deadlock left) f g = absurd (f g.counts g.repetition)
one_fault level Rates Memory f g = absurd g
one_fault level (Limit what value) Rates f g = absurd (g f.counts f.repetition)
one_fault level (Limit what value) (Limit other count) f g = one_limit level what other value count f g
one_fault level (Limit what value) (Deadlock left) f g = absurd (limit_or_deadlock level what value left f g)
one_fault level (Limit what value) Memory f g = absurd g
one_fault level (Deadlock left) Rates f g = absurd (g f.counts f.repetition)
one_fault level (Deadlock left) (Limit what value) f g = absurd (limit_or_deadlock level what value left g f)
one_fault level (Deadlock left) (Deadlock other) f g = ap Deadlock (one_left level left other f g)
one_fault level (Deadlock left) Memory f g = absurd g
one_fault level Memory b f g = absurd f

only_schedule : (level : LevelView) (s other : LevelSchedule) → IsScheduled level s → IsScheduled level other → s ≡ other
only_schedule level s other f g =
    let counts : s.counts ≡ other.counts = repetition_only level s.counts other.counts f.repetition g.repetition in
    let P : List ℕ → Type 0 = λ p. IsTurnOrder level p s.order in
    let order : s.order ≡ other.order = turn_order_only level other.counts s.order other.order (subst P counts f.order) g.order in
    ap (λ q. record s { counts = q }) counts ∙ ap (λ o. record other { order = o }) order

-- an answer that is right is the schedule, where there is one
pub answers_schedule : (level : LevelView) (r : Result LevelSchedule Unscheduled) → IfOk r (IsScheduled level) → IfErr r (λ fault. IsUnscheduled level fault ⊎ (fault ≡ Memory)) →
    (s : LevelSchedule) → IsScheduled level s → (r ≡ Ok s) ⊎ (r ≡ Err Memory)
answers_schedule level (Ok x) f g s is = inl (ap Ok (only_schedule level x s f is))
answers_schedule level (Err fault) f g s is = ⊎_elim (λ u. absurd (no_fault level s is fault u)) (λ m. inr (ap Err m)) g

-- and the fault, where there is one
pub answers_fault : (level : LevelView) (r : Result LevelSchedule Unscheduled) → IfOk r (IsScheduled level) → IfErr r (λ fault. IsUnscheduled level fault ⊎ (fault ≡ Memory)) →
    (fault : Unscheduled) → IsUnscheduled level fault → (r ≡ Err fault) ⊎ (r ≡ Err Memory)
answers_fault level (Ok x) f g fault is = absurd (no_fault level x f fault is)
answers_fault level (Err found) f g fault is = ⊎_elim (λ u. inl (ap Err (one_fault level found fault u is))) (λ m. inr (ap Err m)) g
