-- A row whose job was changed.
use Rattle.std.proofs.Common.{◌≡◌, ◌⊎◌, ⊎_elim, inl, inr, refl, ℕ, Option, Some, None, Result, Ok, Err, IfOk, OnErr, sym, ap, ◌∙◌, subst}
use Rattle.std.specs.declared.alloc.AllocError.{AllocError}
use Rattle.job_preparing.specs.View.{HasInherited}
use Rattle.job_preparing.specs.declared.compiling.CompileEnd.{CompileEnd}
use Rattle.nested_jobs.specs.Marks.{Busy, Open}
use Rattle.nested_jobs.specs.Rules.{Call}
use Rattle.graph_firing.specs.Calls.{FinishesCompilation, with_mark}
use Rattle.graph_firing.specs.View.{OpenView, task}
use Rattle.pisdf_meaning.specs.declared.firing.Firing.{Firing}
use Rattle.firing_board.specs.Table.Slots.{CallsIn, CompilesSlot, InSlot, change_row}
use Rattle.firing_board.specs.Table.View.{with_job}
use Rattle.firing_board.specs.declared.table.row.Row.{Row}

-- the slot, once its row has this job
abbrev pub left_with : OpenView → Option Row → Option Row
left_with new slot = change_row (λ (_ : OpenView). new) slot

pub there_in : (slot : Option Row) (P : OpenView → Type 0) → InSlot P slot → InSlot (λ job. Unit {0}) slot
there_in None P is = absurd is
there_in (Some row) P is = tt

pub job_had : (slot : Option Row) (now : OpenView) (P : OpenView → Type 0) → InSlot (λ job. now ≡ job) slot → P now → InSlot P slot
job_had None now P is p = absurd is
job_had (Some row) now P is p = subst P is p

pub job_has : (slot : Option Row) (now : OpenView) (P : OpenView → Type 0) → InSlot (λ job. now ≡ job) slot → InSlot P slot → P now
job_has None now P is p = absurd is
job_has (Some row) now P is p = subst P (sym is) p

pub job_written : (slot : Option Row) (now new : OpenView) (f : OpenView → OpenView) → InSlot (λ job. now ≡ job) slot → new ≡ f now → left_with new slot ≡ change_row f slot
job_written None now new f is e = absurd is
job_written (Some row) now new f is e = ap (λ (j : OpenView). Some (with_job row j)) (e ∙ ap f is)

pub job_same : (slot : Option Row) (now new : OpenView) → InSlot (λ job. now ≡ job) slot → new ≡ now → left_with new slot ≡ slot
job_same None now new is e = absurd is
job_same (Some row) now new is e = ap (λ (j : OpenView). Some (with_job row j)) (e ∙ is)

pub job_compiled : (slot : Option Row) (now new : OpenView) (end : CompileEnd) → InSlot (λ job. now ≡ job) slot → FinishesCompilation end now new → CompilesSlot end slot (left_with new slot)
job_compiled None now new end is e = absurd is
job_compiled (Some row) now new end is e = (new, subst (λ (j : OpenView). FinishesCompilation end j new) is e, refl)

pub job_called : (slot : Option Row) (now new : OpenView) (item : ℕ) (r : Result Firing AllocError) → InSlot (λ job. now ≡ job) slot
    → IfOk r (λ d. task now item ≡ Some (Call d)) → IfOk r (HasInherited now.graphs.graphs) → IfOk r (λ d. new ≡ with_mark now item (Open d))
    → OnErr r ((new ≡ now) ⊎ (new ≡ with_mark now item Busy)) → CallsIn item r slot (left_with new slot)
job_called None now new item r is calls has opens spoils = absurd is
job_called (Some row) now new item (Ok d) is calls has opens spoils = record {
  task_is = ap (λ (j : OpenView). task j item) (sym is) ∙ calls;
  inherited = subst (λ (j : OpenView). HasInherited j.graphs.graphs d) is has;
  new_is = ap (λ (j : OpenView). Some (with_job row j)) (opens ∙ ap (λ (j : OpenView). with_mark j item (Open d)) is);
}
job_called (Some row) now new item (Err error) is calls has opens spoils =
    ⊎_elim (λ (e : new ≡ now). inl (ap (λ (j : OpenView). Some (with_job row j)) (e ∙ is)))
    (λ (e : new ≡ with_mark now item Busy). inr (ap (λ (j : OpenView). Some (with_job row j)) (e ∙ ap (λ (j : OpenView). with_mark j item Busy) is)))
    spoils
