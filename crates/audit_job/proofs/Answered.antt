-- What a job knows by what its items answered: that stays where nothing is answered, and after one answer more.
use Rattle.std.proofs.Common.{◌≡◌, ◌≢◌, ℕ, ◌+◌, ◌<◌, ◌≤◌, List, [], ◌∷◌, length, set, Option, Some, None, refl, sym, ap, ◌∙◌, subst, arith, ⊎_elim}
use Rattle.std.proofs.lemmas.Bool.{cases_lt}
use Rattle.std.proofs.lemmas.List.{get_or-set_other, get_or-set_same, get_or_past}
use Rattle.job_rules.specs.Items.{Prepared, both, compile_number, leaves, left_from, left_in, prepared_by, prepared_in, schedule_of}
use Rattle.job_rules.specs.Words.{Answer}
use Rattle.job_rules.proofs.Parts.{prepared_is}
use Rattle.nested_jobs.specs.Marks as mark
use Rattle.nested_jobs.specs.Rules.{Values}
use Rattle.pisdf_meaning.specs.Configuring.{Configuration, configurations}
use Rattle.pisdf_meaning.specs.declared.firing.Configured.{Configured}
use Rattle.pisdf_model.specs.declared.graph.Graph.{Graph}
use Rattle.audit_job.specs.Answering.{IsMarked}
use Rattle.audit_job.specs.Marks.{mark_at, mark_of}
use Rattle.audit_job.specs.declared.answer.Mark.{Mark}
use Rattle.audit_job.specs.declared.answer.Mark.TheVariants as stands
use Rattle.audit_job.proofs.Leaving.{Gave, each_gave}

-- ---- marks that are set

module _ (marks : List Mark) (item : ℕ) (m : Mark) (inside : item < length marks) where
  pub set_marked : IsMarked item (mark_of m) (mark_at marks) (mark_at (set marks item m))
  set_marked = record {
    here = ap mark_of (get_or-set_same marks item m stands.Free inside);
    others = λ i differs. ap mark_of (get_or-set_other marks item i m stands.Free differs);
  }

-- an item that isn't free is there
pub stands_inside : (marks : List Mark) (item : ℕ) → mark_at marks item ≢ mark.Free → item < length marks
stands_inside marks item differs = ⊎_elim
    (λ (inside : item < length marks). inside)
    (λ (past : length marks ≤ item). absurd (differs (ap mark_of (get_or_past marks item stands.Free past))))
    (cases_lt item (length marks))

-- ---- what configuration actors left, by their answers alone

pub left_agrees : (v w : Values Answer) (i : ℕ) (cs : List Configuration) → ((j : ℕ) → j < i + length cs → v j ≡ w j) → left_from v i cs ≡ left_from w i cs
left_agrees v w i [] same = refl
left_agrees v w i (c ∷ cs) same =
    ap (λ o. both (leaves o) (left_from v (i + 1) cs)) (same i (omega arith)) ∙ ap (both (leaves (w i))) (left_agrees v w (i + 1) cs (λ j below. same j (omega arith)))

-- without a schedule nothing is prepared
unscheduled_by : (left : Option (List Configured)) → prepared_by left None ≡ None
unscheduled_by None = refl
unscheduled_by (Some left) = refl

pub unprepared : (g : Graph) (v : Values Answer) → schedule_of (v (compile_number g)) ≡ None → prepared_in g v ≡ None
unprepared g v none = ap (prepared_by (left_in g v)) none ∙ unscheduled_by (left_in g v)

pub has_schedule : (g : Graph) (v : Values Answer) (p : Prepared) → prepared_in g v ≡ Some p → schedule_of (v (compile_number g)) ≡ Some p.schedule
has_schedule g v p is = (prepared_is (left_in g v) (schedule_of (v (compile_number g))) p is).schedule_is

pub has_left : (g : Graph) (v : Values Answer) (p : Prepared) → prepared_in g v ≡ Some p → left_in g v ≡ Some p.left
has_left g v p is = (prepared_is (left_in g v) (schedule_of (v (compile_number g))) p is).left_is

-- each configuration actor of a job that is prepared has given something
pub all_gave : (g : Graph) (v : Values Answer) (p : Prepared) → prepared_in g v ≡ Some p → (i : ℕ) → i < compile_number g → Gave (v i)
all_gave g v p is i below = each_gave v 0 (configurations g) p.left (has_left g v p is) i (omega arith) (omega arith)

not_gave : Gave None → ⊥
not_gave given = given

-- an item that isn't finished, and isn't the compilation, is a node of a job that is prepared
pub is_node : (g : Graph) (v : Values Answer) (p : Prepared) → prepared_in g v ≡ Some p → (i : ℕ) → v i ≡ None → i ≢ compile_number g → compile_number g < i
is_node g v p is i none other = ⊎_elim
    (λ (below : i < compile_number g). absurd (subst Gave none (all_gave g v p is i below)))
    (λ (past : compile_number g ≤ i). omega (arith, other))
    (cases_lt i (compile_number g))

-- another answer of a node changes nothing of what is prepared
pub prepared_stays : (g : Graph) (v w : Values Answer) (p : Prepared) → ((i : ℕ) → i < compile_number g + 1 → v i ≡ w i) → prepared_in g v ≡ Some p → prepared_in g w ≡ Some p
prepared_stays g v w p same is =
    let left : left_in g v ≡ left_in g w = left_agrees v w 0 (configurations g) (λ j below. same j (omega arith)) in
    let schedule : schedule_of (v (compile_number g)) ≡ schedule_of (w (compile_number g)) = ap schedule_of (same (compile_number g) (omega arith)) in
    let both : prepared_in g v ≡ prepared_in g w = (λ i. prepared_by (left i) (schedule i)) in
    sym both ∙ is
