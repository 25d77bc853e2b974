-- The way to the compiled job: there is one end.
use Rattle.std.proofs.Common.{◌≡◌, ◌⊎◌, inl, inr, ⊎_elim, ℕ, ℤ, List, Option, Some, None, Result, Ok, Err, refl, sym, ap, ◌∙◌, subst, slice_get}
use Rattle.job_compiler.specs.Compilation.{Compilation, IsCompiled}
use Rattle.level_schedule.specs.Schedules.{IsUnscheduled}
use Rattle.level_schedule.specs.declared.unscheduled.Unscheduled.{Unscheduled}
use Rattle.level_schedule.specs.declared.unscheduled.Unscheduled.TheVariants as unscheduled
use Rattle.param_resolver.specs.Numbering.{acting}
use Rattle.param_resolver.specs.declared.level_set.LevelSet.{LevelSet}
use Rattle.pisdf_meaning.specs.Causes.{schedule_cause}
use Rattle.pisdf_meaning.specs.Endings.{IfRefused}
use Rattle.pisdf_meaning.specs.Run as run
use Rattle.pisdf_meaning.specs.TopLevel.{IsTopLevel, TopLevelRefused}
use Rattle.pisdf_meaning.specs.declared.refusal.PlainFault.{PlainFault}
use Rattle.pisdf_meaning.specs.declared.refusal.PlainFault.TheVariants as plain
use Rattle.pisdf_meaning.specs.declared.refusal.Refusal.{Refusal}
use Rattle.pisdf_model.specs.Hold.{initial}
use Rattle.pisdf_model.specs.declared.graph.Graph.{Graph}
use Rattle.pisdf_model.specs.declared.graph.Graphs.{Graphs}
use Rattle.sdf_level.specs.View.{LevelView}
use Rattle.quiescent_driver.specs.Iterated.{Checks}
use Rattle.pisdf_program.specs.Job.{Compiles, EndsJob, FindsLevel, JobEnd, at_top, first_inputs}
use Rattle.pisdf_program.specs.Uncompiled.{IsLeftTo}
use Rattle.quiescent_driver.specs.declared.stop.Stop.{Stop}
use Rattle.quiescent_driver.specs.declared.stop.Stop.TheVariants as stop
use Rattle.quiescent_driver.specs.Stops.{refused_stop}
use Rattle.pisdf_program.proofs.OneRun.{same_top}

abbrev refused : Stop → JobEnd
refused end = Err end

abbrev ready : Compilation → JobEnd
ready job = Ok job

-- ---- a level that is compiled or refused

abbrev Made : Type 0
Made = Result Compilation Unscheduled

abbrev made : Compilation → Made
made job = Ok job

abbrev unmade : Unscheduled → Made
unmade fault = Err fault

-- no compilation and no fault of the level are left out
abbrev pub Compilers : ℕ → LevelView → Made → Type 0
Compilers workers level r =
    ((c : Compilation) → IsCompiled c → c.level ≡ level → c.workers ≡ workers → (r ≡ Ok c) ⊎ (r ≡ Err unscheduled.Memory))
    × ((fault : Unscheduled) → IsUnscheduled level fault → (r ≡ Err fault) ⊎ (r ≡ Err unscheduled.Memory))

module _ (top : Graph) (workers : ℕ) (level : LevelView) where
  -- where this is the fault, the level is refused for it
  pub fault_compiles : (fault : Unscheduled) (end : Stop) → IsUnscheduled level fault → IsLeftTo top fault end → Compiles top workers level (Err end) ⊎ (end ≡ stop.Memory)
  fault_compiles unscheduled.Rates end r (inl is) = inl (subst (λ e. Compiles top workers level (Err e)) (sym is) (unscheduled.Rates, r, refl))
  fault_compiles (unscheduled.Limit what value) end r (inl is) = inl (subst (λ e. Compiles top workers level (Err e)) (sym is) (unscheduled.Limit what value, r, refl))
  fault_compiles (unscheduled.Deadlock left) end r (inl is) = inl (subst (λ e. Compiles top workers level (Err e)) (sym is) (unscheduled.Deadlock left, r, refl))
  fault_compiles unscheduled.Rates end r (inr is) = inr is
  fault_compiles (unscheduled.Limit what value) end r (inr is) = inr is
  fault_compiles (unscheduled.Deadlock left) end r (inr is) = inr is
  fault_compiles unscheduled.Memory end r is = inr is

  pub fault_ends : (fault : Unscheduled) (end : Stop) → IsUnscheduled level fault ⊎ (fault ≡ unscheduled.Memory) → IsLeftTo top fault end → Compiles top workers level (Err end) ⊎ (refused end ≡ refused stop.Memory)
  fault_ends fault end (inl r) h =
      ⊎_elim (λ (c : Compiles top workers level (Err end)). inl c) (λ (m : end ≡ stop.Memory). inr (ap refused m)) (fault_compiles fault end r h)
  fault_ends fault end (inr m) h = inr (ap refused (subst (λ (f : Unscheduled). IsLeftTo top f end) m h))

  -- no other end than the job
  pub job_only : (job : Compilation) → Compilers workers level (made job) → (end : JobEnd) → Compiles top workers level end → ready job ≡ end
  job_only job only (Ok other) h = ⊎_elim (λ (e : made job ≡ made other). let same : job ≡ other = cc in ap ready same) (λ (e : made job ≡ unmade unscheduled.Memory). absurd cc) (only.0 other h.compiled h.level_is h.workers_is)
  job_only job only (Err (stop.Short stream has needs)) h = absurd h
  job_only job only (Err (stop.Refused refusal)) (fault, r, is) = absurd (⊎_elim (λ (e : made job ≡ unmade fault). cc) (λ (e : made job ≡ unmade unscheduled.Memory). cc) (only.1 fault r))
  job_only job only (Err stop.Memory) h = absurd h

  at_cause : (fault : Unscheduled) (end : Stop) → IsLeftTo top fault end → (end ≡ stop.Refused (at_top top (schedule_cause (acting top) fault))) ⊎ (end ≡ stop.Memory)
  at_cause unscheduled.Rates end h = h
  at_cause (unscheduled.Limit what value) end h = h
  at_cause (unscheduled.Deadlock left) end h = h
  at_cause unscheduled.Memory end h = inr h

  memory_left : (fault : Unscheduled) (end : Stop) → fault ≡ unscheduled.Memory → IsLeftTo top fault end → end ≡ stop.Memory
  memory_left fault end is h = subst (λ f. IsLeftTo top f end) is h

  same_cause : (fault : Unscheduled) (other : Unscheduled) (refusal : Refusal) (end : Stop) → fault ≡ other → refusal ≡ at_top top (schedule_cause (acting top) other) → IsLeftTo top fault end
      → (end ≡ stop.Refused refusal) ⊎ (end ≡ stop.Memory)
  same_cause fault other refusal end is told h =
      ⊎_elim
      (λ (e : end ≡ stop.Refused (at_top top (schedule_cause (acting top) fault))). inl (e ∙ ap (λ f. stop.Refused (at_top top (schedule_cause (acting top) f))) is ∙ ap (λ r. stop.Refused r) (sym told)))
      (λ (e : end ≡ stop.Memory). inr e)
      (at_cause fault end h)

  -- no other end than the refusal
  pub fault_only : (fault : Unscheduled) (left : Stop) → Compilers workers level (unmade fault) → IsLeftTo top fault left → (end : JobEnd) → Compiles top workers level end → (refused left ≡ end) ⊎ (refused left ≡ Err stop.Memory)
  fault_only fault left only is (Ok other) h =
      ⊎_elim (λ (e : unmade fault ≡ made other). absurd cc) (λ (e : unmade fault ≡ unmade unscheduled.Memory). inr (ap refused (memory_left fault left (let same : fault ≡ unscheduled.Memory = cc in same) is))) (only.0 other h.compiled h.level_is h.workers_is)
  fault_only fault left only is (Err (stop.Short stream has needs)) h = absurd h
  fault_only fault left only is (Err (stop.Refused refusal)) (other, r, told) =
      ⊎_elim
      (λ (e : unmade fault ≡ unmade other). ⊎_elim (λ (x : left ≡ stop.Refused refusal). inl (ap refused x)) (λ (x : left ≡ stop.Memory). inr (ap refused x))
      (same_cause fault other refusal left (let same : fault ≡ other = cc in same) told is))
      (λ (e : unmade fault ≡ unmade unscheduled.Memory). inr (ap refused (memory_left fault left (let same : fault ≡ unscheduled.Memory = cc in same) is)))
      (only.1 other r)
  fault_only fault left only is (Err stop.Memory) h = absurd h

abbrev Lead : Type 0
Lead = Result LevelSet PlainFault

abbrev found_level : LevelSet → Lead
found_level set = Ok set

abbrev no_level : PlainFault → Lead
no_level fault = Err fault

-- ---- the whole way

module _ (g : Graphs) (streams : List (List ℤ)) (workers : ℕ) where
  abbrev Found : Type 0
  Found = Result (Option run.Lack) Refusal

  checks_only : (a b : Found) → Checks g streams a → Checks g streams b → a ≡ b
  checks_only a b x y =
      let top = same_top g x.top y.top x.top_is y.top_is in
      sym x.finds ∙ ap (λ t. run.after_early g t (run.first_lack 0 (run.top_needs g) streams)) top ∙ y.finds

  -- an early check that refuses is the end
  pub unchecked_only : (refusal : Refusal) → Checks g streams (Err refusal) → (end : JobEnd) → EndsJob g streams workers end → refused (stop.Refused refusal) ≡ end
  unchecked_only refusal h (Ok job) (set, found, c) = absurd (let e = checks_only _ _ h found.checks in cc)
  unchecked_only refusal h (Err (stop.Short stream has needs)) x = absurd (let e = checks_only _ _ h x in cc)
  unchecked_only refusal h (Err (stop.Refused other)) (inl x) = let e = checks_only _ _ h x in cc
  unchecked_only refusal h (Err (stop.Refused other)) (inr (inl x)) = absurd (let e = checks_only _ _ h x.checks in cc)
  unchecked_only refusal h (Err (stop.Refused other)) (inr (inr (set, found, c))) = absurd (let e = checks_only _ _ h found.checks in cc)
  unchecked_only refusal h (Err stop.Memory) x = absurd x

  -- and so is a lack of tokens
  pub short_only : (lack : run.Lack) → Checks g streams (Ok (Some lack)) → (end : JobEnd) → EndsJob g streams workers end → refused (stop.Short lack.stream lack.has lack.needs) ≡ end
  short_only lack h (Ok job) (set, found, c) = absurd (let e = checks_only _ _ h found.checks in cc)
  short_only lack h (Err (stop.Short stream has needs)) x = let e = checks_only _ _ h x in cc
  short_only lack h (Err (stop.Refused other)) (inl x) = absurd (let e = checks_only _ _ h x in cc)
  short_only lack h (Err (stop.Refused other)) (inr (inl x)) = absurd (let e = checks_only _ _ h x.checks in cc)
  short_only lack h (Err (stop.Refused other)) (inr (inr (set, found, c))) = absurd (let e = checks_only _ _ h found.checks in cc)
  short_only lack h (Err stop.Memory) x = absurd x

  module _ (lead : Result LevelSet PlainFault)
      (only_level : (set : LevelSet) → IsTopLevel g (first_inputs g streams) (initial g.graphs g.top) set → (lead ≡ Ok set) ⊎ (lead ≡ Err plain.Memory))
      (only_refused : (refusal : Refusal) → TopLevelRefused g (first_inputs g streams) (initial g.graphs g.top) refusal → (lead ≡ Err (plain.Refused refusal)) ⊎ (lead ≡ Err plain.Memory))
      (h : Checks g streams (Ok None)) where
    -- the refusal on the way to the level
    pub unlevelled_only : (refusal : Refusal) → lead ≡ Err (plain.Refused refusal) → (end : JobEnd) → EndsJob g streams workers end → refused (stop.Refused refusal) ≡ end
    unlevelled_only refusal is (Ok job) (set, found, c) = absurd (⊎_elim (λ (e : lead ≡ found_level set). cc) (λ (e : lead ≡ no_level plain.Memory). cc) (only_level set found.level))
    unlevelled_only refusal is (Err (stop.Short stream has needs)) x = absurd (let e = checks_only _ _ h x in cc)
    unlevelled_only refusal is (Err (stop.Refused other)) (inl x) = absurd (let e = checks_only _ _ h x in cc)
    unlevelled_only refusal is (Err (stop.Refused other)) (inr (inl x)) = ⊎_elim (λ (e : lead ≡ no_level (plain.Refused other)). let same : refusal ≡ other = cc in ap (λ r. refused (stop.Refused r)) same) (λ (e : lead ≡ no_level plain.Memory). absurd cc) (only_refused other x.refused)
    unlevelled_only refusal is (Err (stop.Refused other)) (inr (inr (set, found, c))) = absurd (⊎_elim (λ (e : lead ≡ found_level set). cc) (λ (e : lead ≡ no_level plain.Memory). cc) (only_level set found.level))
    unlevelled_only refusal is (Err stop.Memory) x = absurd x

    pub unlevelled_alike : (fault : PlainFault) → lead ≡ Err fault → (end : JobEnd) → EndsJob g streams workers end → (refused (refused_stop fault) ≡ end) ⊎ (refused (refused_stop fault) ≡ refused stop.Memory)
    unlevelled_alike (plain.Refused refusal) is end x = inl (unlevelled_only refusal is end x)
    unlevelled_alike plain.Memory is end x = inr refl

    -- what the level comes to
    module _ (set : LevelSet) (is : lead ≡ Ok set) (top : Graph) (top_is : slice_get g.graphs g.top ≡ Some top) (made : JobEnd)
        (only : (end : JobEnd) → Compiles top workers set.level end → (made ≡ end) ⊎ (made ≡ Err stop.Memory)) where
      compiled_alike : (other : LevelSet) (found : FindsLevel g streams other) (end : JobEnd) → Compiles found.checks.top workers other.level end → (made ≡ end) ⊎ (made ≡ Err stop.Memory)
      compiled_alike other found end c =
          let same : other ≡ set = ⊎_elim (λ (e : lead ≡ found_level other). let s : other ≡ set = cc in s) (λ (e : lead ≡ no_level plain.Memory). absurd cc) (only_level other found.level) in
          let tops = same_top g found.checks.top top found.checks.top_is top_is in
          only end (subst (λ (t : Graph). Compiles t workers set.level end) tops (subst (λ (s : LevelSet). Compiles found.checks.top workers s.level end) same c))

      pub level_only : (end : JobEnd) → EndsJob g streams workers end → (made ≡ end) ⊎ (made ≡ Err stop.Memory)
      level_only (Ok job) (other, found, c) = compiled_alike other found (Ok job) c
      level_only (Err (stop.Short stream has needs)) x = absurd (let e = checks_only _ _ h x in cc)
      level_only (Err (stop.Refused refusal)) (inl x) = absurd (let e = checks_only _ _ h x in cc)
      level_only (Err (stop.Refused refusal)) (inr (inl x)) = absurd (⊎_elim (λ (e : lead ≡ no_level (plain.Refused refusal)). cc) (λ (e : lead ≡ no_level plain.Memory). cc) (only_refused refusal x.refused))
      level_only (Err (stop.Refused refusal)) (inr (inr (other, found, c))) = compiled_alike other found (Err (stop.Refused refusal)) c
      level_only (Err stop.Memory) x = absurd x

  -- the refusal is an end of the way
  pub unlevelled_ends : (fault : PlainFault) → Checks g streams (Ok None) → IfRefused (TopLevelRefused g (first_inputs g streams) (initial g.graphs g.top)) fault
      → EndsJob g streams workers (Err (refused_stop fault)) ⊎ (refused (refused_stop fault) ≡ refused stop.Memory)
  unlevelled_ends (plain.Refused refusal) checks h = inl (inr (inl record { checks = checks; refused = h }))
  unlevelled_ends plain.Memory checks h = inr refl

  -- what holds for the inputs and the state of a call holds for those of the first iteration
  pub as_first : (P : List (List ℤ) → List (List ℤ) → Type 0) (ins state : List (List ℤ)) → ins ≡ first_inputs g streams → state ≡ initial g.graphs g.top → P ins state → P (first_inputs g streams) (initial g.graphs g.top)
  as_first P ins state is first p = subst (λ s. P (first_inputs g streams) s) first (subst (λ i. P i state) is p)

  -- the end is one of the way
  pub level_ends : (set : LevelSet) (found : FindsLevel g streams set) (end : JobEnd) → Compiles found.checks.top workers set.level end → EndsJob g streams workers end
  level_ends set found (Ok job) c = (set, found, c)
  level_ends set found (Err (stop.Short stream has needs)) c = absurd c
  level_ends set found (Err (stop.Refused refusal)) c = inr (inr (set, found, c))
  level_ends set found (Err stop.Memory) c = absurd c
