use Rattle.std.proofs.Common.{◌≡◌, ◌<◌, ◌-◌, ◌==◌, ℕ, List, [], ◌∷◌, Option, Some, None, true, false, length, take, drop, get_or, set, sym, ap, ◌∙◌, subst, arith}
use Rattle.job_rules.specs.Items.{job_rules, outcome}
use Rattle.nested_jobs.specs.Marks.{Done, Open}
use Rattle.nested_jobs.specs.Rules.{Place}
use Rattle.nested_jobs.specs.Tables.{is_quiet_row}
use Rattle.pisdf_model.specs.declared.graph.Graph.{Graph}
use Rattle.pisdf_meaning.specs.declared.firing.Firing.{Firing}
use Rattle.audit_job.specs.Ending.{IsSettledJob}
use Rattle.audit_job.specs.Jobs.{IsJob, row_of}
use Rattle.audit_job.specs.Marks.{answer_of, answers, mark_at}
use Rattle.journal_audit.specs.Closing.{ClosesAll, ClosesFrom, ClosesTo, Finishing}
use Rattle.audit_job.specs.declared.answer.Answer.{Answer as Own}
use Rattle.journal_audit.specs.Slots.{IsMarkedSlot, MarksSlot}
use Rattle.journal_audit.specs.Table.{IsAt, IsKeyOf, row_at}
use Rattle.journal_audit.specs.declared.table.Row.{Row}
use Rattle.journal_audit.proofs.Closings.{called, depth_of, ends, falls, goes_on, is_job, nil_of, round_found, some_of, stops, upper, upper_here, upper_inside, upper_job}
use Rattle.journal_audit.proofs.LastSteps.{tail_is}
use Rattle.journal_audit.proofs.Openings.{if_ok}
use Rattle.journal_audit.proofs.Rows.{in_slot, inside_of, slot_is, the_same}
use Rattle.journal_audit.proofs.closing.+close.Goals as goal

pub is_quiet-quiet-requires : goal.is_quiet-quiet-requires
is_quiet-quiet-requires t c =
    let law = c.rules_are_lawful.ensures in
    let graphs = c.args.graphs.now in
    let rows = c.args.rows.now.items in
    let k = c.args.key in
    let there : row_at rows k ≡ Some c.row_at.result.now = sym (ap (λ (rs : List (Option Row)). row_at rs k) c.as_slice.ensures.value) ∙ c.row_at.ensures in
    let f = c.requires.0 in
    let h = c.requires.1 in
    let same : h.row ≡ c.row_at.result.now = the_same (row_at rows k) h.row c.row_at.result.now h.here there in
    (f.key.workers, subst (λ (row : Row). IsJob graphs.graphs f.key.workers row.job) same (is_job law graphs rows k f h))

pub returns-then-not-quiet : goal.returns-then-not-quiet
returns-then-not-quiet t c = λ f h.
    let law = c.rules_are_lawful.ensures in
    let graphs = c.args.graphs.now in
    let rows = c.args.rows.now.items in
    let k = c.args.key in
    let there : row_at rows k ≡ Some c.row_at.result.now = sym (ap (λ (rs : List (Option Row)). row_at rs k) c.as_slice.ensures.value) ∙ c.row_at.ensures in
    let same : h.row ≡ c.row_at.result.now = the_same (row_at rows k) h.row c.row_at.result.now h.here there in
    stops law graphs rows k f h c.boards_keep.ensures.stop
    (subst (λ (row : Row). is_quiet_row (job_rules graphs.graphs) (row_of [] row.job) ≡ false) (sym same) (sym c.is_quiet-quiet.ensures ∙ c.if-not-quiet.true))

pub outcome-requires : goal.outcome-requires
outcome-requires t c =
    let law = c.rules_are_lawful.ensures in
    let graphs = c.args.graphs.now in
    let rows = c.args.rows.now.items in
    let k = c.args.key in
    let there : row_at rows k ≡ Some c.row_at.result.now = sym (ap (λ (rs : List (Option Row)). row_at rs k) c.as_slice.ensures.value) ∙ c.row_at.ensures in
    let f = c.requires.0 in
    let h = c.requires.1 in
    let row = c.take_row-row.result in
    let inside = inside_of rows k h.row h.here in
    let slot = c.index_mut.result.now in
    let own : row_at rows k ≡ Some row = sym (slot_is rows k slot inside c.index_mut.ensures.value) ∙ c.take_row-row.ensures.taken in
    let same : h.row ≡ row = the_same (row_at rows k) h.row row h.here own in
    let first : c.row_at.result.now ≡ row = the_same (row_at rows k) c.row_at.result.now row there own in
    let settled : IsSettledJob graphs.graphs f.key.workers row.job = record {
      is_job = subst (λ (x : Row). IsJob graphs.graphs f.key.workers x.job) same (is_job law graphs rows k f h);
      quiet = subst (λ (x : Row). is_quiet_row (job_rules graphs.graphs) (row_of [] x.job) ≡ true) first (sym c.is_quiet-quiet.ensures ∙ c.if-not-quiet.false);
    } in
    (f.key.workers, subst (λ (gs : List Graph). IsSettledJob gs f.key.workers row.job) (sym c.items.ensures) settled)

pub returns-then-is_empty : goal.returns-then-is_empty
returns-then-is_empty t c = λ f h.
    let law = c.rules_are_lawful.ensures in
    let graphs = c.args.graphs.now in
    let rows = c.args.rows.now.items in
    let k = c.args.key in
    let there : row_at rows k ≡ Some c.row_at.result.now = sym (ap (λ (rs : List (Option Row)). row_at rs k) c.as_slice.ensures.value) ∙ c.row_at.ensures in
    let row = c.take_row-row.result in
    let inside = inside_of rows k h.row h.here in
    let own : row_at rows k ≡ Some row = sym (slot_is rows k c.index_mut.result.now inside c.index_mut.ensures.value) ∙ c.take_row-row.ensures.taken in
    let same : row ≡ h.row = the_same (row_at rows k) row h.row own h.here in
    let first : c.row_at.result.now ≡ h.row = the_same (row_at rows k) c.row_at.result.now h.row there h.here in
    let quiet = subst (λ (x : Row). is_quiet_row (job_rules graphs.graphs) (row_of [] x.job) ≡ true) first (sym c.is_quiet-quiet.ensures ∙ c.if-not-quiet.false) in
    let end = c.in_ok-end.end in
    let end_is = subst (λ (x : Row). answer_of end ≡ outcome graphs.graphs x.job.firing (answers x.job.marks.items)) same (subst (λ (gs : List Graph). answer_of end ≡ outcome gs row.job.firing (answers row.job.marks.items)) c.items.ensures c.in_ok-end.ensures) in
    let test = c.is_empty.ensures ∙ ap (λ (xs : List ℕ). length xs == 0) c.items-2.ensures in
    let top : h.row.place ≡ [] = ap (λ (x : Row). x.place) (sym same) ∙ nil_of row.place c.is_empty.result test c.if-is_empty.true in
    subst (λ (o : Option Row). ClosesAll (set rows k o) f end) (sym c.take_row-row.ensures.rest) (ends law graphs rows k f h quiet end end_is c.boards_keep.ensures.end top)

pub end_call_in-requires-clause-is : goal.end_call_in-requires-clause-is
end_call_in-requires-clause-is t c =
    let f = c.requires.0 in
    let h = c.requires.1 in
    let law = c.rules_are_lawful.ensures in
    let graphs = c.args.graphs.now in
    let rows = c.args.rows.now.items in
    let k = c.args.key in
    let there : row_at rows k ≡ Some c.row_at.result.now = sym (ap (λ (rs : List (Option Row)). row_at rs k) c.as_slice.ensures.value) ∙ c.row_at.ensures in
    let row = c.take_row-row.result in
    let inside = inside_of rows k h.row h.here in
    let own : row_at rows k ≡ Some row = sym (slot_is rows k c.index_mut.result.now inside c.index_mut.ensures.value) ∙ c.take_row-row.ensures.taken in
    let same : row ≡ h.row = the_same (row_at rows k) row h.row own h.here in
    let first : c.row_at.result.now ≡ h.row = the_same (row_at rows k) c.row_at.result.now h.row there h.here in
    let quiet = subst (λ (x : Row). is_quiet_row (job_rules graphs.graphs) (row_of [] x.job) ≡ true) first (sym c.is_quiet-quiet.ensures ∙ c.if-not-quiet.false) in
    let end = c.in_ok-end.end in
    let end_is = subst (λ (x : Row). answer_of end ≡ outcome graphs.graphs x.job.firing (answers x.job.marks.items)) same (subst (λ (gs : List Graph). answer_of end ≡ outcome gs row.job.firing (answers row.job.marks.items)) c.items.ensures c.in_ok-end.ensures) in
    let i : ℕ = get_or row.place 0 0 in
    let p : Place = drop 1 row.place in
    let test = c.is_empty.ensures ∙ ap (λ (xs : List ℕ). length xs == 0) c.items-2.ensures in
    let place_is : h.row.place ≡ i ∷ p = ap (λ (x : Row). x.place) (sym same) ∙ some_of row.place c.is_empty.result test c.if-is_empty.false in
    let less : List (Option Row) = set rows k None in
    let less_is : c.as_slice-2.result.now ≡ less = c.as_slice-2.ensures.value ∙ ap (set rows k) c.take_row-row.ensures.rest in
    let tail = ap (λ (xs : List ℕ). take (length xs - 1) (drop 1 xs)) c.items-3.ensures ∙ tail_is row.place in
    let found = subst (λ (q : Place). IsKeyOf less q c.key_of-round.result) tail (subst (λ (rs : List (Option Row)). IsKeyOf rs (take (length c.items-3.result.now - 1) (drop 1 c.items-3.result.now)) c.key_of-round.result) less_is c.key_of-round.ensures) in
    let l = c.in-Some.round in
    let at : IsAt p (row_at less l) = subst (IsKeyOf less p) c.in-Some.is found in
    let up = upper law graphs rows k f h quiet end end_is i p place_is l at in
    let up_here = upper_here law graphs rows k f h quiet end end_is i p place_is l at in
    let up_inside = upper_inside law graphs rows k f h quiet end end_is i p place_is l at in
    let slot = c.index_mut-in-Some.result.now in
    let read = subst (λ (rs : List (Option Row)). slot ≡ get_or rs l slot) (ap (set rows k) c.take_row-row.ensures.rest) c.index_mut-in-Some.ensures.value in
    let slot_here = slot_is less l slot up_inside read ∙ up_here in
    in_slot (λ x. (gs : List Graph) × (workers : ℕ) × IsJob gs workers x.job) slot up slot_here (f.key.graphs.graphs, f.key.workers, upper_job law graphs rows k f h quiet end end_is i p place_is l at)

pub end_call_in-requires-clause-open : goal.end_call_in-requires-clause-open
end_call_in-requires-clause-open t c =
    let f = c.requires.0 in
    let h = c.requires.1 in
    let law = c.rules_are_lawful.ensures in
    let graphs = c.args.graphs.now in
    let rows = c.args.rows.now.items in
    let k = c.args.key in
    let there : row_at rows k ≡ Some c.row_at.result.now = sym (ap (λ (rs : List (Option Row)). row_at rs k) c.as_slice.ensures.value) ∙ c.row_at.ensures in
    let row = c.take_row-row.result in
    let inside = inside_of rows k h.row h.here in
    let own : row_at rows k ≡ Some row = sym (slot_is rows k c.index_mut.result.now inside c.index_mut.ensures.value) ∙ c.take_row-row.ensures.taken in
    let same : row ≡ h.row = the_same (row_at rows k) row h.row own h.here in
    let first : c.row_at.result.now ≡ h.row = the_same (row_at rows k) c.row_at.result.now h.row there h.here in
    let quiet = subst (λ (x : Row). is_quiet_row (job_rules graphs.graphs) (row_of [] x.job) ≡ true) first (sym c.is_quiet-quiet.ensures ∙ c.if-not-quiet.false) in
    let end = c.in_ok-end.end in
    let end_is = subst (λ (x : Row). answer_of end ≡ outcome graphs.graphs x.job.firing (answers x.job.marks.items)) same (subst (λ (gs : List Graph). answer_of end ≡ outcome gs row.job.firing (answers row.job.marks.items)) c.items.ensures c.in_ok-end.ensures) in
    let i : ℕ = get_or row.place 0 0 in
    let p : Place = drop 1 row.place in
    let test = c.is_empty.ensures ∙ ap (λ (xs : List ℕ). length xs == 0) c.items-2.ensures in
    let place_is : h.row.place ≡ i ∷ p = ap (λ (x : Row). x.place) (sym same) ∙ some_of row.place c.is_empty.result test c.if-is_empty.false in
    let less : List (Option Row) = set rows k None in
    let less_is : c.as_slice-2.result.now ≡ less = c.as_slice-2.ensures.value ∙ ap (set rows k) c.take_row-row.ensures.rest in
    let tail = ap (λ (xs : List ℕ). take (length xs - 1) (drop 1 xs)) c.items-3.ensures ∙ tail_is row.place in
    let found = subst (λ (q : Place). IsKeyOf less q c.key_of-round.result) tail (subst (λ (rs : List (Option Row)). IsKeyOf rs (take (length c.items-3.result.now - 1) (drop 1 c.items-3.result.now)) c.key_of-round.result) less_is c.key_of-round.ensures) in
    let l = c.in-Some.round in
    let at : IsAt p (row_at less l) = subst (IsKeyOf less p) c.in-Some.is found in
    let up = upper law graphs rows k f h quiet end end_is i p place_is l at in
    let up_here = upper_here law graphs rows k f h quiet end end_is i p place_is l at in
    let up_inside = upper_inside law graphs rows k f h quiet end end_is i p place_is l at in
    let slot = c.index_mut-in-Some.result.now in
    let read = subst (λ (rs : List (Option Row)). slot ≡ get_or rs l slot) (ap (set rows k) c.take_row-row.ensures.rest) c.index_mut-in-Some.ensures.value in
    let slot_here = slot_is less l slot up_inside read ∙ up_here in
    let is_open = called law graphs rows k f h quiet end end_is i p place_is l at c.boards_keep.ensures.go_on in
    let number : i ≡ get_or c.items-in-Some.result.now 0 0 = ap (λ (xs : List ℕ). get_or xs 0 0) (sym c.items-in-Some.ensures) in
    in_slot (λ x. (d : Firing) × (mark_at x.job.marks.items (get_or c.items-in-Some.result.now 0 0) ≡ Open d)) slot up slot_here (h.row.job.firing, subst (λ (n : ℕ). mark_at up.job.marks.items n ≡ Open h.row.job.firing) number is_open)

pub close-requires : goal.close-requires
close-requires t c =
    let f = c.requires.0 in
    let h = c.requires.1 in
    let law = c.rules_are_lawful.ensures in
    let graphs = c.args.graphs.now in
    let rows = c.args.rows.now.items in
    let k = c.args.key in
    let there : row_at rows k ≡ Some c.row_at.result.now = sym (ap (λ (rs : List (Option Row)). row_at rs k) c.as_slice.ensures.value) ∙ c.row_at.ensures in
    let row = c.take_row-row.result in
    let inside = inside_of rows k h.row h.here in
    let own : row_at rows k ≡ Some row = sym (slot_is rows k c.index_mut.result.now inside c.index_mut.ensures.value) ∙ c.take_row-row.ensures.taken in
    let same : row ≡ h.row = the_same (row_at rows k) row h.row own h.here in
    let first : c.row_at.result.now ≡ h.row = the_same (row_at rows k) c.row_at.result.now h.row there h.here in
    let quiet = subst (λ (x : Row). is_quiet_row (job_rules graphs.graphs) (row_of [] x.job) ≡ true) first (sym c.is_quiet-quiet.ensures ∙ c.if-not-quiet.false) in
    let end = c.in_ok-end.end in
    let end_is = subst (λ (x : Row). answer_of end ≡ outcome graphs.graphs x.job.firing (answers x.job.marks.items)) same (subst (λ (gs : List Graph). answer_of end ≡ outcome gs row.job.firing (answers row.job.marks.items)) c.items.ensures c.in_ok-end.ensures) in
    let i : ℕ = get_or row.place 0 0 in
    let p : Place = drop 1 row.place in
    let test = c.is_empty.ensures ∙ ap (λ (xs : List ℕ). length xs == 0) c.items-2.ensures in
    let place_is : h.row.place ≡ i ∷ p = ap (λ (x : Row). x.place) (sym same) ∙ some_of row.place c.is_empty.result test c.if-is_empty.false in
    let less : List (Option Row) = set rows k None in
    let less_is : c.as_slice-2.result.now ≡ less = c.as_slice-2.ensures.value ∙ ap (set rows k) c.take_row-row.ensures.rest in
    let tail = ap (λ (xs : List ℕ). take (length xs - 1) (drop 1 xs)) c.items-3.ensures ∙ tail_is row.place in
    let found = subst (λ (q : Place). IsKeyOf less q c.key_of-round.result) tail (subst (λ (rs : List (Option Row)). IsKeyOf rs (take (length c.items-3.result.now - 1) (drop 1 c.items-3.result.now)) c.key_of-round.result) less_is c.key_of-round.ensures) in
    let l = c.in-Some.round in
    let at : IsAt p (row_at less l) = subst (IsKeyOf less p) c.in-Some.is found in
    let up = upper law graphs rows k f h quiet end end_is i p place_is l at in
    let up_here = upper_here law graphs rows k f h quiet end end_is i p place_is l at in
    let up_inside = upper_inside law graphs rows k f h quiet end end_is i p place_is l at in
    let slot = c.index_mut-in-Some.result.now in
    let read = subst (λ (rs : List (Option Row)). slot ≡ get_or rs l slot) (ap (set rows k) c.take_row-row.ensures.rest) c.index_mut-in-Some.ensures.value in
    let slot_here = slot_is less l slot up_inside read ∙ up_here in
    let number : get_or c.items-in-Some.result.now 0 0 ≡ i = ap (λ (xs : List ℕ). get_or xs 0 0) c.items-in-Some.ensures in
    let marked : MarksSlot i (Done (answer_of end)) slot c.end_call_in.new.slot = subst (λ (n : ℕ). MarksSlot n (Done (answer_of end)) slot c.end_call_in.new.slot) number c.end_call_in.ensures in
    let m : IsMarkedSlot i (Done (answer_of end)) up c.end_call_in.new.slot = subst (λ (o : Option Row). MarksSlot i (Done (answer_of end)) o c.end_call_in.new.slot) slot_here marked in
    let mid : Option Row → Option Row → List (Option Row) = λ x y. set (set rows k x) l y in
    let mid_is : mid None (Some m.after) ≡ mid c.take_row-row.new.slot c.end_call_in.new.slot = (λ x. mid (sym c.take_row-row.ensures.rest x) (sym m.is x)) in
    let next : ClosesFrom graphs (mid c.take_row-row.new.slot c.end_call_in.new.slot) l f = subst (λ (rs : List (Option Row)). ClosesFrom graphs rs l f) mid_is (goes_on law graphs rows k f h quiet end end_is i p place_is l at m.after m.marks c.boards_keep.ensures.go_on) in
    let fall = subst (λ (rs : List (Option Row)). depth_of (row_at rs l) < depth_of (row_at rows k)) mid_is (falls law graphs rows k f h quiet end end_is i p place_is l at m.after m.marks) in
    (omega (arith, c.decreases), (f, next))

pub unreachable-requires : goal.unreachable-requires
unreachable-requires t c =
    let f = c.requires.0 in
    let h = c.requires.1 in
    let law = c.rules_are_lawful.ensures in
    let graphs = c.args.graphs.now in
    let rows = c.args.rows.now.items in
    let k = c.args.key in
    let there : row_at rows k ≡ Some c.row_at.result.now = sym (ap (λ (rs : List (Option Row)). row_at rs k) c.as_slice.ensures.value) ∙ c.row_at.ensures in
    let row = c.take_row-row.result in
    let inside = inside_of rows k h.row h.here in
    let own : row_at rows k ≡ Some row = sym (slot_is rows k c.index_mut.result.now inside c.index_mut.ensures.value) ∙ c.take_row-row.ensures.taken in
    let same : row ≡ h.row = the_same (row_at rows k) row h.row own h.here in
    let first : c.row_at.result.now ≡ h.row = the_same (row_at rows k) c.row_at.result.now h.row there h.here in
    let quiet = subst (λ (x : Row). is_quiet_row (job_rules graphs.graphs) (row_of [] x.job) ≡ true) first (sym c.is_quiet-quiet.ensures ∙ c.if-not-quiet.false) in
    let end = c.in_ok-end.end in
    let end_is = subst (λ (x : Row). answer_of end ≡ outcome graphs.graphs x.job.firing (answers x.job.marks.items)) same (subst (λ (gs : List Graph). answer_of end ≡ outcome gs row.job.firing (answers row.job.marks.items)) c.items.ensures c.in_ok-end.ensures) in
    let i : ℕ = get_or row.place 0 0 in
    let p : Place = drop 1 row.place in
    let test = c.is_empty.ensures ∙ ap (λ (xs : List ℕ). length xs == 0) c.items-2.ensures in
    let place_is : h.row.place ≡ i ∷ p = ap (λ (x : Row). x.place) (sym same) ∙ some_of row.place c.is_empty.result test c.if-is_empty.false in
    let less : List (Option Row) = set rows k None in
    let less_is : c.as_slice-2.result.now ≡ less = c.as_slice-2.ensures.value ∙ ap (set rows k) c.take_row-row.ensures.rest in
    let tail = ap (λ (xs : List ℕ). take (length xs - 1) (drop 1 xs)) c.items-3.ensures ∙ tail_is row.place in
    let found = subst (λ (q : Place). IsKeyOf less q c.key_of-round.result) tail (subst (λ (rs : List (Option Row)). IsKeyOf rs (take (length c.items-3.result.now - 1) (drop 1 c.items-3.result.now)) c.key_of-round.result) less_is c.key_of-round.ensures) in
    round_found law graphs rows k f h quiet end end_is i p place_is (subst (IsKeyOf less p) c.in-None.is found)

pub returns : goal.returns
returns t c =
    if_ok c.close.result
    (λ (e : Option Own). (f : Finishing) → ClosesFrom c.args.graphs.now (set (set c.args.rows.now.items c.args.key c.take_row-row.new.slot) c.in-Some.round c.end_call_in.new.slot) c.in-Some.round f → ClosesTo c.close.new.rows.items f e)
    (λ (e : Option Own). (f : Finishing) → ClosesFrom c.args.graphs.now c.args.rows.now.items c.args.key f → ClosesTo c.close.new.rows.items f e)
    (λ e closes. λ f h.
    let law = c.rules_are_lawful.ensures in
    let graphs = c.args.graphs.now in
    let rows = c.args.rows.now.items in
    let k = c.args.key in
    let there : row_at rows k ≡ Some c.row_at.result.now = sym (ap (λ (rs : List (Option Row)). row_at rs k) c.as_slice.ensures.value) ∙ c.row_at.ensures in
    let row = c.take_row-row.result in
    let inside = inside_of rows k h.row h.here in
    let own : row_at rows k ≡ Some row = sym (slot_is rows k c.index_mut.result.now inside c.index_mut.ensures.value) ∙ c.take_row-row.ensures.taken in
    let same : row ≡ h.row = the_same (row_at rows k) row h.row own h.here in
    let first : c.row_at.result.now ≡ h.row = the_same (row_at rows k) c.row_at.result.now h.row there h.here in
    let quiet = subst (λ (x : Row). is_quiet_row (job_rules graphs.graphs) (row_of [] x.job) ≡ true) first (sym c.is_quiet-quiet.ensures ∙ c.if-not-quiet.false) in
    let end = c.in_ok-end.end in
    let end_is = subst (λ (x : Row). answer_of end ≡ outcome graphs.graphs x.job.firing (answers x.job.marks.items)) same (subst (λ (gs : List Graph). answer_of end ≡ outcome gs row.job.firing (answers row.job.marks.items)) c.items.ensures c.in_ok-end.ensures) in
    let i : ℕ = get_or row.place 0 0 in
    let p : Place = drop 1 row.place in
    let test = c.is_empty.ensures ∙ ap (λ (xs : List ℕ). length xs == 0) c.items-2.ensures in
    let place_is : h.row.place ≡ i ∷ p = ap (λ (x : Row). x.place) (sym same) ∙ some_of row.place c.is_empty.result test c.if-is_empty.false in
    let less : List (Option Row) = set rows k None in
    let less_is : c.as_slice-2.result.now ≡ less = c.as_slice-2.ensures.value ∙ ap (set rows k) c.take_row-row.ensures.rest in
    let tail = ap (λ (xs : List ℕ). take (length xs - 1) (drop 1 xs)) c.items-3.ensures ∙ tail_is row.place in
    let found = subst (λ (q : Place). IsKeyOf less q c.key_of-round.result) tail (subst (λ (rs : List (Option Row)). IsKeyOf rs (take (length c.items-3.result.now - 1) (drop 1 c.items-3.result.now)) c.key_of-round.result) less_is c.key_of-round.ensures) in
    let l = c.in-Some.round in
    let at : IsAt p (row_at less l) = subst (IsKeyOf less p) c.in-Some.is found in
    let up = upper law graphs rows k f h quiet end end_is i p place_is l at in
    let up_here = upper_here law graphs rows k f h quiet end end_is i p place_is l at in
    let up_inside = upper_inside law graphs rows k f h quiet end end_is i p place_is l at in
    let slot = c.index_mut-in-Some.result.now in
    let read = subst (λ (rs : List (Option Row)). slot ≡ get_or rs l slot) (ap (set rows k) c.take_row-row.ensures.rest) c.index_mut-in-Some.ensures.value in
    let slot_here = slot_is less l slot up_inside read ∙ up_here in
    let number : get_or c.items-in-Some.result.now 0 0 ≡ i = ap (λ (xs : List ℕ). get_or xs 0 0) c.items-in-Some.ensures in
    let marked : MarksSlot i (Done (answer_of end)) slot c.end_call_in.new.slot = subst (λ (n : ℕ). MarksSlot n (Done (answer_of end)) slot c.end_call_in.new.slot) number c.end_call_in.ensures in
    let m : IsMarkedSlot i (Done (answer_of end)) up c.end_call_in.new.slot = subst (λ (o : Option Row). MarksSlot i (Done (answer_of end)) o c.end_call_in.new.slot) slot_here marked in
    let mid : Option Row → Option Row → List (Option Row) = λ x y. set (set rows k x) l y in
    let mid_is : mid None (Some m.after) ≡ mid c.take_row-row.new.slot c.end_call_in.new.slot = (λ x. mid (sym c.take_row-row.ensures.rest x) (sym m.is x)) in
    let next : ClosesFrom graphs (mid c.take_row-row.new.slot c.end_call_in.new.slot) l f = subst (λ (rs : List (Option Row)). ClosesFrom graphs rs l f) mid_is (goes_on law graphs rows k f h quiet end end_is i p place_is l at m.after m.marks c.boards_keep.ensures.go_on) in
    closes f next)
    c.close.ensures
