-- What configuration actors leave, one after the other.
use Rattle.std.proofs.Common.{◌≡◌, ℕ, ◌+◌, ◌<◌, ◌≤◌, List, [], ◌∷◌, ◌++◌, length, take, get_or, Option, Some, None, refl, sym, ap, ◌∙◌, subst, arith, ⊎_elim}
use Rattle.std.proofs.lemmas.Bool.{cases_lt}
use Rattle.std.proofs.lemmas.List.{length-take-le, take_more}
use Rattle.job_rules.specs.Items.{both, leaves, left_from}
use Rattle.job_rules.specs.Words.{Answer, Gives, Schedules, Refuses, left_of}
use Rattle.nested_jobs.specs.Marks as mark
use Rattle.nested_jobs.specs.Rules.{Values}
use Rattle.pisdf_meaning.specs.Configuring.{Configuration}
use Rattle.pisdf_meaning.specs.declared.firing.Configured.{Configured}
use Rattle.audit_job.specs.Giving.{HasGiven}
use Rattle.audit_job.specs.Marks.{mark_of}
use Rattle.audit_job.specs.declared.answer.Answer.TheVariants as own
use Rattle.audit_job.specs.declared.answer.Mark.{Mark}
use Rattle.audit_job.specs.declared.answer.Mark.TheVariants as stands

-- an item that is finished and gave something
abbrev pub Gave : Option Answer → Type 0
Gave None = ⊥
Gave (Some (Gives given)) = Unit {0}
Gave (Some (Schedules schedule)) = ⊥
Gave (Some (Refuses refusal)) = ⊥

pub given_mark : (m : Mark) → HasGiven m → Gave (mark.answer_of (mark_of m))
given_mark stands.Free given = given
given_mark stands.Busy given = given
given_mark (stands.Open called) given = given
given_mark (stands.Done (own.Gives g)) given = tt
given_mark (stands.Done (own.Schedules s)) given = given
given_mark (stands.Done (own.Refuses r)) given = given

pub mark_given : (m : Mark) → Gave (mark.answer_of (mark_of m)) → HasGiven m
mark_given stands.Free given = given
mark_given stands.Busy given = given
mark_given (stands.Open called) given = given
mark_given (stands.Done (own.Gives g)) given = tt
mark_given (stands.Done (own.Schedules s)) given = given
mark_given (stands.Done (own.Refuses r)) given = given

pub leaves_some : (o : Option Answer) → Gave o → (one : Configured) × (leaves o ≡ Some one)
leaves_some None given = absurd given
leaves_some (Some (Gives g)) given = (left_of g, refl)
leaves_some (Some (Schedules s)) given = absurd given
leaves_some (Some (Refuses r)) given = absurd given

gave_some : (o : Option Answer) (one : Configured) → leaves o ≡ Some one → Gave o
gave_some None one is = absurd (cc)
gave_some (Some (Gives g)) one is = tt
gave_some (Some (Schedules s)) one is = absurd (cc)
gave_some (Some (Refuses r)) one is = absurd (cc)

record Parts (a : Option Configured) (b : Option (List Configured)) (ls : List Configured) : Type 0 where
  one : Configured
  more : List Configured
  one_is : a ≡ Some one
  more_is : b ≡ Some more
  all_is : ls ≡ one ∷ more

parts_of : (a : Option Configured) (b : Option (List Configured)) (ls : List Configured) → both a b ≡ Some ls → Parts a b ls
parts_of None b ls is = absurd (cc)
parts_of (Some x) None ls is = absurd (cc)
parts_of (Some x) (Some xs) ls is = record { one = x; more = xs; one_is = refl; more_is = refl; all_is = cc }

-- one more
pub left_more : (v : Values Answer) (i : ℕ) (cs : List Configuration) (c : Configuration) (ls : List Configured) (one : Configured) → left_from v i cs ≡ Some ls → leaves (v (i + length cs)) ≡ Some one → left_from v i (cs ++ c ∷ []) ≡ Some (ls ++ one ∷ [])
left_more v i [] c ls one before here =
    let at : leaves (v i) ≡ Some one = ap (λ k. leaves (v k)) (let e : i ≡ i + 0 = omega arith in e) ∙ here in
    let none : ls ≡ [] = cc in
    ap (λ o. both o (Some [])) at ∙ ap (λ l. Some (l ++ one ∷ [])) (sym none)
left_more v i (d ∷ cs) c ls one before here =
    let parts = parts_of (leaves (v i)) (left_from v (i + 1) cs) ls before in
    let at : leaves (v (i + 1 + length cs)) ≡ Some one = ap (λ k. leaves (v k)) (let e : i + 1 + length cs ≡ i + length (d ∷ cs) = omega arith in e) ∙ here in
    let again = left_more v (i + 1) cs c parts.more one parts.more_is at in
    ap (both (leaves (v i))) again ∙ ap (λ o. both o (Some (parts.more ++ one ∷ []))) parts.one_is ∙ ap (λ l. Some (l ++ one ∷ [])) (sym parts.all_is)

-- over the first of them
pub left_next : (v : Values Answer) (cs : List Configuration) (k : ℕ) (ls : List Configured) (one : Configured) → k < length cs → left_from v 0 (take k cs) ≡ Some ls → leaves (v k) ≡ Some one → left_from v 0 (take (k + 1) cs) ≡ Some (ls ++ one ∷ [])
left_next v [] k ls one inside before here = absurd (omega arith)
left_next v (d ∷ cs) k ls one inside before here =
    let long : length (take k (d ∷ cs)) ≡ k = length-take-le k (d ∷ cs) (omega arith) in
    let at : leaves (v (0 + length (take k (d ∷ cs)))) ≡ Some one = ap (λ n. leaves (v n)) (let e : 0 + length (take k (d ∷ cs)) ≡ k = omega arith in e) ∙ here in
    ap (left_from v 0) (take_more (d ∷ cs) k d inside) ∙ left_more v 0 (take k (d ∷ cs)) (get_or (d ∷ cs) k d) ls one before at

-- all left something where each gave something
pub all_left : (v : Values Answer) (i : ℕ) (cs : List Configuration) → ((j : ℕ) → i ≤ j → j < i + length cs → Gave (v j)) → (ls : List Configured) × (left_from v i cs ≡ Some ls)
all_left v i [] each = ([], refl)
all_left v i (c ∷ cs) each =
    let one = leaves_some (v i) (each i (omega arith) (omega arith)) in
    let more = all_left v (i + 1) cs (λ j low high. each j (omega arith) (omega arith)) in
    (one.0 ∷ more.0, ap (λ o. both o (left_from v (i + 1) cs)) one.1 ∙ ap (both (Some one.0)) more.1)

-- and only there
pub each_gave : (v : Values Answer) (i : ℕ) (cs : List Configuration) (ls : List Configured) → left_from v i cs ≡ Some ls → (j : ℕ) → i ≤ j → j < i + length cs → Gave (v j)
each_gave v i [] ls is j low high = absurd (omega arith)
each_gave v i (c ∷ cs) ls is j low high =
    let parts = parts_of (leaves (v i)) (left_from v (i + 1) cs) ls is in
    ⊎_elim
    (λ (later : i < j). each_gave v (i + 1) cs parts.more parts.more_is j (omega arith) (omega arith))
    (λ first. let e : i ≡ j = omega arith in subst (λ (k : ℕ). Gave (v k)) e (gave_some (v i) parts.one parts.one_is))
    (cases_lt i j)
