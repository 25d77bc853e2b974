use Rattle.std.proofs.Common.{◌≡◌, ℕ, Some, None, get_or, set, length, slice_index, sym, ap, ◌∙◌, subst, arith}
use Rattle.std.specs.Arc.{arc_value}
use Rattle.job_preparing.specs.Handing.{EndSuits, end_of, mark_at}
use Rattle.job_rules.specs.Words.{answer_of}
use Rattle.nested_jobs.specs.Marks.{Done, Open}
use Rattle.graph_firing.specs.Calls as job
use Rattle.graph_firing.specs.View.{OpenView}
use Rattle.pisdf_meaning.specs.declared.firing.Firing.{Firing}
use Rattle.firing_board.specs.Table.Slots.{InSlot, change_row}
use Rattle.firing_board.specs.Table.View.{TableView, free_items, row_at}
use Rattle.firing_board.proofs.OfTable.Closings.{AllLawful, rows_through}
use Rattle.firing_board.proofs.OfTable.CloseSteps.{HasClosed, closes_on, ends, falls, may_finish, mid, mid_free, next, place_some, quiet_by, rest_stays, stays_on, stops, unquiet_by, upper_inside}
use Rattle.firing_board.proofs.OfTable.Freeing.{less_free}
use Rattle.firing_board.proofs.OfTable.LentJobs.{job_has, job_written, left_with, there_in}
use Rattle.firing_board.proofs.OfTable.Rows.{inside_of}
use Rattle.firing_board.proofs.OfTable.Writes.{slot_row}
use Rattle.firing_board.proofs.table.JobTable.+close_from.Goals as goal

pub returns-then-not-is_quiet-clause-closed : goal.returns-then-not-is_quiet-clause-closed
returns-then-not-is_quiet-clause-closed t c =
    let now = c.args.self.now in
    let k = c.args.row in
    let read : c.index.result.now ≡ get_or now.rows k c.index.result.now = c.index.ensures ∙ ap (λ (x : TableView). get_or x.rows k c.index.result.now) c.self.view_is in
    let is = slot_row now k c.requires.row c.index.result.now c.requires.here read in
    stops (λ key is. c.rules_are_lawful.ensures key.graphs is.valid.valid) c.boards_keep.ensures.stop now k c.requires.row c.requires.here
    (unquiet_by c.requires.row c.index.result.now c.is_quiet.result is c.is_quiet.ensures (λ e. let f = c.if-not-is_quiet.true in cc))

pub outcome-end-requires : goal.outcome-end-requires
outcome-end-requires t c =
    let now = c.args.self.now in
    let k = c.args.row in
    let e = c.self.view_is in
    let s = c.self.inside in
    let slot = c.index_mut.result.now in
    let read : slot ≡ get_or now.rows k slot = c.index_mut.ensures.value ∙ ap (λ (x : TableView). get_or x.rows k slot) e in
    let row = c.take_row-job.result in
    let here : row_at now k ≡ Some row = c.requires.here ∙ (sym (slot_row now k c.requires.row slot c.requires.here read) ∙ c.take_row-job.ensures.taken) in
    let first = c.index.result.now in
    let quiet = quiet_by row first c.is_quiet.result (slot_row now k row first here (c.index.ensures ∙ ap (λ (x : TableView). get_or x.rows k first) e)) c.is_quiet.ensures c.if-not-is_quiet.false in
    quiet

pub returns-in-None-clause-closed : goal.returns-in-None-clause-closed
returns-in-None-clause-closed t c =
    let now = c.args.self.now in
    let k = c.args.row in
    let e = c.self.view_is in
    let s = c.self.inside in
    let slot = c.index_mut.result.now in
    let read : slot ≡ get_or now.rows k slot = c.index_mut.ensures.value ∙ ap (λ (x : TableView). get_or x.rows k slot) e in
    let row = c.take_row-job.result in
    let here : row_at now k ≡ Some row = c.requires.here ∙ (sym (slot_row now k c.requires.row slot c.requires.here read) ∙ c.take_row-job.ensures.taken) in
    let first = c.index.result.now in
    let quiet = quiet_by row first c.is_quiet.result (slot_row now k row first here (c.index.ensures ∙ ap (λ (x : TableView). get_or x.rows k first) e)) c.is_quiet.ensures c.if-not-is_quiet.false in
    let lawful : AllLawful = λ key is. c.rules_are_lawful.ensures key.graphs is.valid.valid in
    let rest : TableView = record { graphs = arc_value s.graphs; workers = s.workers; rows = set s.rows.items k c.take_row-job.new.slot } in
    let graphs : rest.graphs ≡ now.graphs = ap (λ (x : TableView). x.graphs) e in
    let workers : rest.workers ≡ now.workers = ap (λ (x : TableView). x.workers) e in
    let less : rest.rows ≡ set now.rows k None = ap (λ (x : TableView). set x.rows k c.take_row-job.new.slot) e ∙ ap (set now.rows k) c.take_row-job.ensures.rest in
    let end = c.outcome-end.result in
    let closed : HasClosed now k row end rest = record { here = here; quiet = quiet; outcome = c.outcome-end.ensures.outcome; suits = c.outcome-end.ensures.suits; graphs_are = graphs; workers_are = workers; rows_are = less } in
    ends lawful now k row end rest closed c.boards_keep.ensures.end c.in-None.is

pub returns-in-None-clause-stay : goal.returns-in-None-clause-stay
returns-in-None-clause-stay t c =
    let now = c.args.self.now in
    let k = c.args.row in
    let e = c.self.view_is in
    let s = c.self.inside in
    let slot = c.index_mut.result.now in
    let read : slot ≡ get_or now.rows k slot = c.index_mut.ensures.value ∙ ap (λ (x : TableView). get_or x.rows k slot) e in
    let row = c.take_row-job.result in
    let here : row_at now k ≡ Some row = c.requires.here ∙ (sym (slot_row now k c.requires.row slot c.requires.here read) ∙ c.take_row-job.ensures.taken) in
    let first = c.index.result.now in
    let quiet = quiet_by row first c.is_quiet.result (slot_row now k row first here (c.index.ensures ∙ ap (λ (x : TableView). get_or x.rows k first) e)) c.is_quiet.ensures c.if-not-is_quiet.false in
    let lawful : AllLawful = λ key is. c.rules_are_lawful.ensures key.graphs is.valid.valid in
    let rest : TableView = record { graphs = arc_value s.graphs; workers = s.workers; rows = set s.rows.items k c.take_row-job.new.slot } in
    let graphs : rest.graphs ≡ now.graphs = ap (λ (x : TableView). x.graphs) e in
    let workers : rest.workers ≡ now.workers = ap (λ (x : TableView). x.workers) e in
    let less : rest.rows ≡ set now.rows k None = ap (λ (x : TableView). set x.rows k c.take_row-job.new.slot) e ∙ ap (set now.rows k) c.take_row-job.ensures.rest in
    let end = c.outcome-end.result in
    let closed : HasClosed now k row end rest = record { here = here; quiet = quiet; outcome = c.outcome-end.ensures.outcome; suits = c.outcome-end.ensures.suits; graphs_are = graphs; workers_are = workers; rows_are = less } in
    rest_stays lawful now k row end rest closed c.requires

pub index_mut-requires-in-Some : goal.index_mut-requires-in-Some
index_mut-requires-in-Some t c =
    let now = c.args.self.now in
    let k = c.args.row in
    let e = c.self.view_is in
    let s = c.self.inside in
    let slot = c.index_mut.result.now in
    let read : slot ≡ get_or now.rows k slot = c.index_mut.ensures.value ∙ ap (λ (x : TableView). get_or x.rows k slot) e in
    let row = c.take_row-job.result in
    let here : row_at now k ≡ Some row = c.requires.here ∙ (sym (slot_row now k c.requires.row slot c.requires.here read) ∙ c.take_row-job.ensures.taken) in
    let first = c.index.result.now in
    let quiet = quiet_by row first c.is_quiet.result (slot_row now k row first here (c.index.ensures ∙ ap (λ (x : TableView). get_or x.rows k first) e)) c.is_quiet.ensures c.if-not-is_quiet.false in
    let lawful : AllLawful = λ key is. c.rules_are_lawful.ensures key.graphs is.valid.valid in
    let rest : TableView = record { graphs = arc_value s.graphs; workers = s.workers; rows = set s.rows.items k c.take_row-job.new.slot } in
    let graphs : rest.graphs ≡ now.graphs = ap (λ (x : TableView). x.graphs) e in
    let workers : rest.workers ≡ now.workers = ap (λ (x : TableView). x.workers) e in
    let less : rest.rows ≡ set now.rows k None = ap (λ (x : TableView). set x.rows k c.take_row-job.new.slot) e ∙ ap (set now.rows k) c.take_row-job.ensures.rest in
    let end = c.outcome-end.result in
    let closed : HasClosed now k row end rest = record { here = here; quiet = quiet; outcome = c.outcome-end.ensures.outcome; suits = c.outcome-end.ensures.suits; graphs_are = graphs; workers_are = workers; rows_are = less } in
    let go_on = c.boards_keep.ensures.go_on in
    let l = c.in-Some.upper in
    let below = c.in-Some.is in
    let a = upper_inside lawful now k row end rest closed go_on l below c.requires in
    let b = ap (λ (x : TableView). length x.rows) e in
    let o = s.rows.ok.0 in
    omega arith

pub calling_item-requires : goal.calling_item-requires
calling_item-requires t c =
    let now = c.args.self.now in
    let k = c.args.row in
    let e = c.self.view_is in
    let s = c.self.inside in
    let slot = c.index_mut.result.now in
    let read : slot ≡ get_or now.rows k slot = c.index_mut.ensures.value ∙ ap (λ (x : TableView). get_or x.rows k slot) e in
    let row = c.take_row-job.result in
    let here : row_at now k ≡ Some row = c.requires.here ∙ (sym (slot_row now k c.requires.row slot c.requires.here read) ∙ c.take_row-job.ensures.taken) in
    let first = c.index.result.now in
    let quiet = quiet_by row first c.is_quiet.result (slot_row now k row first here (c.index.ensures ∙ ap (λ (x : TableView). get_or x.rows k first) e)) c.is_quiet.ensures c.if-not-is_quiet.false in
    let lawful : AllLawful = λ key is. c.rules_are_lawful.ensures key.graphs is.valid.valid in
    let rest : TableView = record { graphs = arc_value s.graphs; workers = s.workers; rows = set s.rows.items k c.take_row-job.new.slot } in
    let graphs : rest.graphs ≡ now.graphs = ap (λ (x : TableView). x.graphs) e in
    let workers : rest.workers ≡ now.workers = ap (λ (x : TableView). x.workers) e in
    let less : rest.rows ≡ set now.rows k None = ap (λ (x : TableView). set x.rows k c.take_row-job.new.slot) e ∙ ap (set now.rows k) c.take_row-job.ensures.rest in
    let end = c.outcome-end.result in
    let closed : HasClosed now k row end rest = record { here = here; quiet = quiet; outcome = c.outcome-end.ensures.outcome; suits = c.outcome-end.ensures.suits; graphs_are = graphs; workers_are = workers; rows_are = less } in
    let go_on = c.boards_keep.ensures.go_on in
    let l = c.in-Some.upper in
    let below = c.in-Some.is in
    place_some lawful now k row end rest closed go_on l below c.requires

pub job_in-requires : goal.job_in-requires
job_in-requires t c =
    let now = c.args.self.now in
    let k = c.args.row in
    let e = c.self.view_is in
    let s = c.self.inside in
    let slot = c.index_mut.result.now in
    let read : slot ≡ get_or now.rows k slot = c.index_mut.ensures.value ∙ ap (λ (x : TableView). get_or x.rows k slot) e in
    let row = c.take_row-job.result in
    let here : row_at now k ≡ Some row = c.requires.here ∙ (sym (slot_row now k c.requires.row slot c.requires.here read) ∙ c.take_row-job.ensures.taken) in
    let first = c.index.result.now in
    let quiet = quiet_by row first c.is_quiet.result (slot_row now k row first here (c.index.ensures ∙ ap (λ (x : TableView). get_or x.rows k first) e)) c.is_quiet.ensures c.if-not-is_quiet.false in
    let lawful : AllLawful = λ key is. c.rules_are_lawful.ensures key.graphs is.valid.valid in
    let rest : TableView = record { graphs = arc_value s.graphs; workers = s.workers; rows = set s.rows.items k c.take_row-job.new.slot } in
    let graphs : rest.graphs ≡ now.graphs = ap (λ (x : TableView). x.graphs) e in
    let workers : rest.workers ≡ now.workers = ap (λ (x : TableView). x.workers) e in
    let less : rest.rows ≡ set now.rows k None = ap (λ (x : TableView). set x.rows k c.take_row-job.new.slot) e ∙ ap (set now.rows k) c.take_row-job.ensures.rest in
    let end = c.outcome-end.result in
    let closed : HasClosed now k row end rest = record { here = here; quiet = quiet; outcome = c.outcome-end.ensures.outcome; suits = c.outcome-end.ensures.suits; graphs_are = graphs; workers_are = workers; rows_are = less } in
    let go_on = c.boards_keep.ensures.go_on in
    let l = c.in-Some.upper in
    let below = c.in-Some.is in
    let other = c.index_mut-in-Some.result.now in
    let is = may_finish lawful now k row end rest closed go_on l below c.requires other c.index_mut-in-Some.ensures.value in
    there_in other (λ (j : OpenView). (d : Firing) × (mark_at j.marks (slice_index row.place 0) ≡ Open d) × EndSuits j.graphs.graphs d (end_of end)) is

pub finish_call-requires : goal.finish_call-requires
finish_call-requires t c =
    let now = c.args.self.now in
    let k = c.args.row in
    let e = c.self.view_is in
    let s = c.self.inside in
    let slot = c.index_mut.result.now in
    let read : slot ≡ get_or now.rows k slot = c.index_mut.ensures.value ∙ ap (λ (x : TableView). get_or x.rows k slot) e in
    let row = c.take_row-job.result in
    let here : row_at now k ≡ Some row = c.requires.here ∙ (sym (slot_row now k c.requires.row slot c.requires.here read) ∙ c.take_row-job.ensures.taken) in
    let first = c.index.result.now in
    let quiet = quiet_by row first c.is_quiet.result (slot_row now k row first here (c.index.ensures ∙ ap (λ (x : TableView). get_or x.rows k first) e)) c.is_quiet.ensures c.if-not-is_quiet.false in
    let lawful : AllLawful = λ key is. c.rules_are_lawful.ensures key.graphs is.valid.valid in
    let rest : TableView = record { graphs = arc_value s.graphs; workers = s.workers; rows = set s.rows.items k c.take_row-job.new.slot } in
    let graphs : rest.graphs ≡ now.graphs = ap (λ (x : TableView). x.graphs) e in
    let workers : rest.workers ≡ now.workers = ap (λ (x : TableView). x.workers) e in
    let less : rest.rows ≡ set now.rows k None = ap (λ (x : TableView). set x.rows k c.take_row-job.new.slot) e ∙ ap (set now.rows k) c.take_row-job.ensures.rest in
    let end = c.outcome-end.result in
    let closed : HasClosed now k row end rest = record { here = here; quiet = quiet; outcome = c.outcome-end.ensures.outcome; suits = c.outcome-end.ensures.suits; graphs_are = graphs; workers_are = workers; rows_are = less } in
    let go_on = c.boards_keep.ensures.go_on in
    let l = c.in-Some.upper in
    let below = c.in-Some.is in
    let other = c.index_mut-in-Some.result.now in
    let is = may_finish lawful now k row end rest closed go_on l below c.requires other c.index_mut-in-Some.ensures.value in
    let P : ℕ → Type 0 = λ i. InSlot (λ (j : OpenView). (d : Firing) × (mark_at j.marks i ≡ Open d) × EndSuits j.graphs.graphs d (end_of end)) other in
    job_has other c.job_in.result.now (λ (j : OpenView). (d : Firing) × (mark_at j.marks c.calling_item.result ≡ Open d) × EndSuits j.graphs.graphs d (end_of end)) c.job_in.ensures.value (subst P (sym c.calling_item.ensures) is)

pub close_from-requires : goal.close_from-requires
close_from-requires t c =
    let now = c.args.self.now in
    let k = c.args.row in
    let e = c.self.view_is in
    let s = c.self.inside in
    let slot = c.index_mut.result.now in
    let read : slot ≡ get_or now.rows k slot = c.index_mut.ensures.value ∙ ap (λ (x : TableView). get_or x.rows k slot) e in
    let row = c.take_row-job.result in
    let here : row_at now k ≡ Some row = c.requires.here ∙ (sym (slot_row now k c.requires.row slot c.requires.here read) ∙ c.take_row-job.ensures.taken) in
    let first = c.index.result.now in
    let quiet = quiet_by row first c.is_quiet.result (slot_row now k row first here (c.index.ensures ∙ ap (λ (x : TableView). get_or x.rows k first) e)) c.is_quiet.ensures c.if-not-is_quiet.false in
    let lawful : AllLawful = λ key is. c.rules_are_lawful.ensures key.graphs is.valid.valid in
    let rest : TableView = record { graphs = arc_value s.graphs; workers = s.workers; rows = set s.rows.items k c.take_row-job.new.slot } in
    let graphs : rest.graphs ≡ now.graphs = ap (λ (x : TableView). x.graphs) e in
    let workers : rest.workers ≡ now.workers = ap (λ (x : TableView). x.workers) e in
    let less : rest.rows ≡ set now.rows k None = ap (λ (x : TableView). set x.rows k c.take_row-job.new.slot) e ∙ ap (set now.rows k) c.take_row-job.ensures.rest in
    let end = c.outcome-end.result in
    let closed : HasClosed now k row end rest = record { here = here; quiet = quiet; outcome = c.outcome-end.ensures.outcome; suits = c.outcome-end.ensures.suits; graphs_are = graphs; workers_are = workers; rows_are = less } in
    let go_on = c.boards_keep.ensures.go_on in
    let l = c.in-Some.upper in
    let below = c.in-Some.is in
    let other = c.index_mut-in-Some.result.now in
    let other_read = c.index_mut-in-Some.ensures.value in
    let written : left_with c.finish_call.new.self other ≡ change_row (λ (j : OpenView). job.with_mark j (slice_index row.place 0) (Done (answer_of (end_of end)))) other =
    job_written other c.job_in.result.now c.finish_call.new.self (λ (j : OpenView). job.with_mark j c.calling_item.result (Done (answer_of (end_of end)))) c.job_in.ensures.value c.finish_call.ensures ∙ ap (λ i. change_row (λ (j : OpenView). job.with_mark j i (Done (answer_of (end_of end)))) other) c.calling_item.ensures in
    (let f = falls lawful now k row end rest closed go_on l below c.requires other (left_with c.finish_call.new.self other) other_read written in let d = c.decreases in omega arith, next lawful now k row end rest closed go_on l below c.requires other (left_with c.finish_call.new.self other) other_read written)

pub returns-clause-closed : goal.returns-clause-closed
returns-clause-closed t c =
    let now = c.args.self.now in
    let k = c.args.row in
    let e = c.self.view_is in
    let s = c.self.inside in
    let slot = c.index_mut.result.now in
    let read : slot ≡ get_or now.rows k slot = c.index_mut.ensures.value ∙ ap (λ (x : TableView). get_or x.rows k slot) e in
    let row = c.take_row-job.result in
    let here : row_at now k ≡ Some row = c.requires.here ∙ (sym (slot_row now k c.requires.row slot c.requires.here read) ∙ c.take_row-job.ensures.taken) in
    let first = c.index.result.now in
    let quiet = quiet_by row first c.is_quiet.result (slot_row now k row first here (c.index.ensures ∙ ap (λ (x : TableView). get_or x.rows k first) e)) c.is_quiet.ensures c.if-not-is_quiet.false in
    let lawful : AllLawful = λ key is. c.rules_are_lawful.ensures key.graphs is.valid.valid in
    let rest : TableView = record { graphs = arc_value s.graphs; workers = s.workers; rows = set s.rows.items k c.take_row-job.new.slot } in
    let graphs : rest.graphs ≡ now.graphs = ap (λ (x : TableView). x.graphs) e in
    let workers : rest.workers ≡ now.workers = ap (λ (x : TableView). x.workers) e in
    let less : rest.rows ≡ set now.rows k None = ap (λ (x : TableView). set x.rows k c.take_row-job.new.slot) e ∙ ap (set now.rows k) c.take_row-job.ensures.rest in
    let end = c.outcome-end.result in
    let closed : HasClosed now k row end rest = record { here = here; quiet = quiet; outcome = c.outcome-end.ensures.outcome; suits = c.outcome-end.ensures.suits; graphs_are = graphs; workers_are = workers; rows_are = less } in
    let go_on = c.boards_keep.ensures.go_on in
    let l = c.in-Some.upper in
    let below = c.in-Some.is in
    let other = c.index_mut-in-Some.result.now in
    let other_read = c.index_mut-in-Some.ensures.value in
    let written : left_with c.finish_call.new.self other ≡ change_row (λ (j : OpenView). job.with_mark j (slice_index row.place 0) (Done (answer_of (end_of end)))) other =
    job_written other c.job_in.result.now c.finish_call.new.self (λ (j : OpenView). job.with_mark j c.calling_item.result (Done (answer_of (end_of end)))) c.job_in.ensures.value c.finish_call.ensures ∙ ap (λ i. change_row (λ (j : OpenView). job.with_mark j i (Done (answer_of (end_of end)))) other) c.calling_item.ensures in
    closes_on lawful now k row end rest closed go_on l below other (left_with c.finish_call.new.self other) other_read written c.close_from.new.self c.close_from.result c.close_from.ensures.closed

pub returns-clause-stay : goal.returns-clause-stay
returns-clause-stay t c =
    let now = c.args.self.now in
    let k = c.args.row in
    let e = c.self.view_is in
    let s = c.self.inside in
    let slot = c.index_mut.result.now in
    let read : slot ≡ get_or now.rows k slot = c.index_mut.ensures.value ∙ ap (λ (x : TableView). get_or x.rows k slot) e in
    let row = c.take_row-job.result in
    let here : row_at now k ≡ Some row = c.requires.here ∙ (sym (slot_row now k c.requires.row slot c.requires.here read) ∙ c.take_row-job.ensures.taken) in
    let first = c.index.result.now in
    let quiet = quiet_by row first c.is_quiet.result (slot_row now k row first here (c.index.ensures ∙ ap (λ (x : TableView). get_or x.rows k first) e)) c.is_quiet.ensures c.if-not-is_quiet.false in
    let lawful : AllLawful = λ key is. c.rules_are_lawful.ensures key.graphs is.valid.valid in
    let rest : TableView = record { graphs = arc_value s.graphs; workers = s.workers; rows = set s.rows.items k c.take_row-job.new.slot } in
    let graphs : rest.graphs ≡ now.graphs = ap (λ (x : TableView). x.graphs) e in
    let workers : rest.workers ≡ now.workers = ap (λ (x : TableView). x.workers) e in
    let less : rest.rows ≡ set now.rows k None = ap (λ (x : TableView). set x.rows k c.take_row-job.new.slot) e ∙ ap (set now.rows k) c.take_row-job.ensures.rest in
    let end = c.outcome-end.result in
    let closed : HasClosed now k row end rest = record { here = here; quiet = quiet; outcome = c.outcome-end.ensures.outcome; suits = c.outcome-end.ensures.suits; graphs_are = graphs; workers_are = workers; rows_are = less } in
    let go_on = c.boards_keep.ensures.go_on in
    let l = c.in-Some.upper in
    let below = c.in-Some.is in
    let other = c.index_mut-in-Some.result.now in
    let other_read = c.index_mut-in-Some.ensures.value in
    let written : left_with c.finish_call.new.self other ≡ change_row (λ (j : OpenView). job.with_mark j (slice_index row.place 0) (Done (answer_of (end_of end)))) other =
    job_written other c.job_in.result.now c.finish_call.new.self (λ (j : OpenView). job.with_mark j c.calling_item.result (Done (answer_of (end_of end)))) c.job_in.ensures.value c.finish_call.ensures ∙ ap (λ i. change_row (λ (j : OpenView). job.with_mark j i (Done (answer_of (end_of end)))) other) c.calling_item.ensures in
    rows_through now (mid lawful now k row end rest closed go_on l below c.requires other (left_with c.finish_call.new.self other) other_read written) c.close_from.new.self (stays_on lawful now k row end rest closed go_on l below c.requires other (left_with c.finish_call.new.self other) other_read written) c.close_from.ensures.stay

pub returns-then-not-is_quiet-clause-fewer : goal.returns-then-not-is_quiet-clause-fewer
returns-then-not-is_quiet-clause-fewer t c = let same = ap free_items c.self.view_is in omega (arith, same)

pub returns-in-None-clause-fewer : goal.returns-in-None-clause-fewer
returns-in-None-clause-fewer t c =
    let now = c.args.self.now in
    let k = c.args.row in
    let e = c.self.view_is in
    let s = c.self.inside in
    let slot = c.index_mut.result.now in
    let read : slot ≡ get_or now.rows k slot = c.index_mut.ensures.value ∙ ap (λ (x : TableView). get_or x.rows k slot) e in
    let row = c.take_row-job.result in
    let here : row_at now k ≡ Some row = c.requires.here ∙ (sym (slot_row now k c.requires.row slot c.requires.here read) ∙ c.take_row-job.ensures.taken) in
    let first = c.index.result.now in
    let quiet = quiet_by row first c.is_quiet.result (slot_row now k row first here (c.index.ensures ∙ ap (λ (x : TableView). get_or x.rows k first) e)) c.is_quiet.ensures c.if-not-is_quiet.false in
    let lawful : AllLawful = λ key is. c.rules_are_lawful.ensures key.graphs is.valid.valid in
    let rest : TableView = record { graphs = arc_value s.graphs; workers = s.workers; rows = set s.rows.items k c.take_row-job.new.slot } in
    let graphs : rest.graphs ≡ now.graphs = ap (λ (x : TableView). x.graphs) e in
    let workers : rest.workers ≡ now.workers = ap (λ (x : TableView). x.workers) e in
    let less : rest.rows ≡ set now.rows k None = ap (λ (x : TableView). set x.rows k c.take_row-job.new.slot) e ∙ ap (set now.rows k) c.take_row-job.ensures.rest in
    less_free now rest k row here (inside_of now.rows k row here) less

pub returns-clause-fewer : goal.returns-clause-fewer
returns-clause-fewer t c =
    let now = c.args.self.now in
    let k = c.args.row in
    let e = c.self.view_is in
    let s = c.self.inside in
    let slot = c.index_mut.result.now in
    let read : slot ≡ get_or now.rows k slot = c.index_mut.ensures.value ∙ ap (λ (x : TableView). get_or x.rows k slot) e in
    let row = c.take_row-job.result in
    let here : row_at now k ≡ Some row = c.requires.here ∙ (sym (slot_row now k c.requires.row slot c.requires.here read) ∙ c.take_row-job.ensures.taken) in
    let first = c.index.result.now in
    let quiet = quiet_by row first c.is_quiet.result (slot_row now k row first here (c.index.ensures ∙ ap (λ (x : TableView). get_or x.rows k first) e)) c.is_quiet.ensures c.if-not-is_quiet.false in
    let lawful : AllLawful = λ key is. c.rules_are_lawful.ensures key.graphs is.valid.valid in
    let rest : TableView = record { graphs = arc_value s.graphs; workers = s.workers; rows = set s.rows.items k c.take_row-job.new.slot } in
    let graphs : rest.graphs ≡ now.graphs = ap (λ (x : TableView). x.graphs) e in
    let workers : rest.workers ≡ now.workers = ap (λ (x : TableView). x.workers) e in
    let less : rest.rows ≡ set now.rows k None = ap (λ (x : TableView). set x.rows k c.take_row-job.new.slot) e ∙ ap (set now.rows k) c.take_row-job.ensures.rest in
    let end = c.outcome-end.result in
    let closed : HasClosed now k row end rest = record { here = here; quiet = quiet; outcome = c.outcome-end.ensures.outcome; suits = c.outcome-end.ensures.suits; graphs_are = graphs; workers_are = workers; rows_are = less } in
    let go_on = c.boards_keep.ensures.go_on in
    let l = c.in-Some.upper in
    let below = c.in-Some.is in
    let other = c.index_mut-in-Some.result.now in
    let other_read = c.index_mut-in-Some.ensures.value in
    let written : left_with c.finish_call.new.self other ≡ change_row (λ (j : OpenView). job.with_mark j (slice_index row.place 0) (Done (answer_of (end_of end)))) other =
    job_written other c.job_in.result.now c.finish_call.new.self (λ (j : OpenView). job.with_mark j c.calling_item.result (Done (answer_of (end_of end)))) c.job_in.ensures.value c.finish_call.ensures ∙ ap (λ i. change_row (λ (j : OpenView). job.with_mark j i (Done (answer_of (end_of end)))) other) c.calling_item.ensures in
    let less = mid_free lawful now k row end rest closed go_on l below c.requires other (left_with c.finish_call.new.self other) other_read written in
    let after = c.close_from.ensures.fewer in
    omega (arith, less, after)
