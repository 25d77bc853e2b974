use Rattle.std.proofs.Common.{◌≡◌, ℕ, zero, suc, List, ◌∷◌, [], ◌++◌, ◌+◌, ◌<◌, length, get_or, arith, Option, Some, None, IfSome, Result, refl, sym, ap, ◌∙◌, subst}
use Rattle.std.specs.Arc.{arc_value}
use Rattle.std.specs.declared.alloc.AllocError.{AllocError}
use Rattle.job_preparing.specs.View.{HasInherited}
use Rattle.job_rules.specs.Items.{compile_number, graph_of}
use Rattle.job_rules.specs.Meant.{IsFit}
use Rattle.nested_jobs.specs.Marks.{Open}
use Rattle.nested_jobs.specs.Rules.{Call}
use Rattle.graph_firing.specs.Calls.{with_mark}
use Rattle.graph_firing.specs.Paths.{step_of}
use Rattle.graph_firing.specs.View.{HasItem, IsOfferedCall, OpenView, task}
use Rattle.param_resolver.specs.EarlyView.{EarlyView}
use Rattle.pisdf_meaning.specs.Configuring.{early_in}
use Rattle.pisdf_meaning.specs.declared.firing.Firing.{Firing}
use Rattle.pisdf_model.specs.declared.graph.Graphs.{Graphs}
use Rattle.firing_board.specs.Table.Slots.{CallsIn, InSlot}
use Rattle.firing_board.specs.Table.View.{TableView, row_at, with_job}
use Rattle.firing_board.specs.declared.table.row.Row.{Row}
use Rattle.firing_board.proofs.OfTable.LentJobs.{job_called, job_had, job_has, left_with}
use Rattle.firing_board.proofs.OfTable.Openings.{call_of, call_spoils, err_with, is_fresh, item_there, opened_free, opened_mark, opened_others, opened_stays, opens, opens_asks, opens_lent, read_row, row_slot, vacant_slot}
use Rattle.firing_board.proofs.OfTable.Freeing.{fresh_many}
use Rattle.firing_board.proofs.OfTable.Rows.{the_same}
use Rattle.firing_board.proofs.table.JobTable.open_child.Goals as goal

pub call-requires : goal.call-requires
call-requires c =
    let s = c.self.inside in
    let v : TableView = record { graphs = arc_value s.graphs; workers = s.workers; rows = s.rows.items } in
    let slot = c.index_mut.result.now in
    let row = c.requires.offered.0 in
    let P : OpenView → Type 0 = λ job. IsOfferedCall job c.args.item in
    job_has slot c.job_in.result.now P c.job_in.ensures.value
    (subst (InSlot P) (sym (row_slot v c.args.self.now c.self.view_is c.vacant_key.new.rows.items c.vacant_key.ensures.same c.args.row c.args.item slot c.index_mut.ensures.value row c.requires.offered.1)) c.requires.offered.2.1)

pub returns-in_err-firing-clause-refused : goal.returns-in_err-firing-clause-refused
returns-in_err-firing-clause-refused c =
    let s = c.self.inside in
    let v : TableView = record { graphs = arc_value s.graphs; workers = s.workers; rows = s.rows.items } in
    let now = c.args.self.now in
    let e = c.self.view_is in
    let rows = c.vacant_key.new.rows.items in
    let same = c.vacant_key.ensures.same in
    let k = c.args.row in
    let item = c.args.item in
    let slot = c.index_mut.result.now in
    let read = c.index_mut.ensures.value in
    let row = c.requires.offered.0 in
    let here = c.requires.offered.1 in
    err_with c.from_residual-in_err-firing.result (call_spoils v now e rows same k item slot read row here c.call.result (left_with c.call.new.self slot) (job_called slot c.job_in.result.now c.call.new.self item c.call.result c.job_in.ensures.value c.call.ensures.firing c.call.ensures.inherited c.call.ensures.opened c.call.ensures.refused) (item_there v now e rows same k item slot read row here (job_had slot c.job_in.result.now (λ (job : OpenView). HasItem job item) c.job_in.ensures.value c.call.ensures.there)) c.requires.offered.2.1.free).0

pub returns-in_err-firing-clause-lent : goal.returns-in_err-firing-clause-lent
returns-in_err-firing-clause-lent c =
    let s = c.self.inside in
    let v : TableView = record { graphs = arc_value s.graphs; workers = s.workers; rows = s.rows.items } in
    let now = c.args.self.now in
    let e = c.self.view_is in
    let rows = c.vacant_key.new.rows.items in
    let same = c.vacant_key.ensures.same in
    let k = c.args.row in
    let item = c.args.item in
    let slot = c.index_mut.result.now in
    let read = c.index_mut.ensures.value in
    let row = c.requires.offered.0 in
    let here = c.requires.offered.1 in
    (call_spoils v now e rows same k item slot read row here c.call.result (left_with c.call.new.self slot) (job_called slot c.job_in.result.now c.call.new.self item c.call.result c.job_in.ensures.value c.call.ensures.firing c.call.ensures.inherited c.call.ensures.opened c.call.ensures.refused) (item_there v now e rows same k item slot read row here (job_had slot c.job_in.result.now (λ (job : OpenView). HasItem job item) c.job_in.ensures.value c.call.ensures.there)) c.requires.offered.2.1.free).1

pub returns-in_err-job-clause-refused : goal.returns-in_err-job-clause-refused
returns-in_err-job-clause-refused c =
    let s = c.self.inside in
    let v : TableView = record { graphs = arc_value s.graphs; workers = s.workers; rows = s.rows.items } in
    let now = c.args.self.now in
    let e = c.self.view_is in
    let rows = c.vacant_key.new.rows.items in
    let same = c.vacant_key.ensures.same in
    let k = c.args.row in
    let item = c.args.item in
    let slot = c.index_mut.result.now in
    let read = c.index_mut.ensures.value in
    let row = c.requires.offered.0 in
    let here = c.requires.offered.1 in
    err_with c.from_residual-in_err-job.result (call_spoils v now e rows same k item slot read row here c.call.result (left_with c.call.new.self slot) (job_called slot c.job_in.result.now c.call.new.self item c.call.result c.job_in.ensures.value c.call.ensures.firing c.call.ensures.inherited c.call.ensures.opened c.call.ensures.refused) (item_there v now e rows same k item slot read row here (job_had slot c.job_in.result.now (λ (job : OpenView). HasItem job item) c.job_in.ensures.value c.call.ensures.there)) c.requires.offered.2.1.free).0

pub returns-in_err-job-clause-lent : goal.returns-in_err-job-clause-lent
returns-in_err-job-clause-lent c =
    let s = c.self.inside in
    let v : TableView = record { graphs = arc_value s.graphs; workers = s.workers; rows = s.rows.items } in
    let now = c.args.self.now in
    let e = c.self.view_is in
    let rows = c.vacant_key.new.rows.items in
    let same = c.vacant_key.ensures.same in
    let k = c.args.row in
    let item = c.args.item in
    let slot = c.index_mut.result.now in
    let read = c.index_mut.ensures.value in
    let row = c.requires.offered.0 in
    let here = c.requires.offered.1 in
    (call_spoils v now e rows same k item slot read row here c.call.result (left_with c.call.new.self slot) (job_called slot c.job_in.result.now c.call.new.self item c.call.result c.job_in.ensures.value c.call.ensures.firing c.call.ensures.inherited c.call.ensures.opened c.call.ensures.refused) (item_there v now e rows same k item slot read row here (job_had slot c.job_in.result.now (λ (job : OpenView). HasItem job item) c.job_in.ensures.value c.call.ensures.there)) c.requires.offered.2.1.free).1

pub open-requires-clause-fit : goal.open-requires-clause-fit
open-requires-clause-fit c =
    let s = c.self.inside in
    let v : TableView = record { graphs = arc_value s.graphs; workers = s.workers; rows = s.rows.items } in
    let now = c.args.self.now in
    let e = c.self.view_is in
    let rows = c.vacant_key.new.rows.items in
    let same = c.vacant_key.ensures.same in
    let k = c.args.row in
    let item = c.args.item in
    let slot = c.index_mut.result.now in
    let read = c.index_mut.ensures.value in
    let row = c.requires.offered.0 in
    let here = c.requires.offered.1 in
    let firing = c.in_ok-firing.firing in
    let called = call_of v now e rows same k item slot read row here firing (left_with c.call.new.self slot) (subst (λ (r : Result Firing AllocError). CallsIn item r slot (left_with c.call.new.self slot)) c.in_ok-firing.was (job_called slot c.job_in.result.now c.call.new.self item c.call.result c.job_in.ensures.value c.call.ensures.firing c.call.ensures.inherited c.call.ensures.opened c.call.ensures.refused)) in
    let own : arc_value c.in_ok-graphs.graphs ≡ arc_value s.graphs = c.in_ok-graphs.ensures in
    let graphs : row.job.graphs ≡ arc_value c.in_ok-graphs.graphs = c.requires.offered.2.0 ∙ (ap (λ (x : TableView). x.graphs) (sym e) ∙ sym own) in
    let P : Row → Type 0 = λ r. (d : Firing) → task r.job item ≡ Some (Call d) → IsFit r.job.graphs.graphs d in
    let fit = subst P (the_same (row_at now k) c.requires.fit.0 row c.requires.fit.1 here) c.requires.fit.2 in
    let Q : Graphs → Type 0 = λ g. IsFit g.graphs firing in
    subst Q graphs (fit firing called.task_is)

pub open-requires-clause-inherited : goal.open-requires-clause-inherited
open-requires-clause-inherited c =
    let s = c.self.inside in
    let v : TableView = record { graphs = arc_value s.graphs; workers = s.workers; rows = s.rows.items } in
    let now = c.args.self.now in
    let e = c.self.view_is in
    let rows = c.vacant_key.new.rows.items in
    let same = c.vacant_key.ensures.same in
    let k = c.args.row in
    let item = c.args.item in
    let slot = c.index_mut.result.now in
    let read = c.index_mut.ensures.value in
    let row = c.requires.offered.0 in
    let here = c.requires.offered.1 in
    let firing = c.in_ok-firing.firing in
    let called = call_of v now e rows same k item slot read row here firing (left_with c.call.new.self slot) (subst (λ (r : Result Firing AllocError). CallsIn item r slot (left_with c.call.new.self slot)) c.in_ok-firing.was (job_called slot c.job_in.result.now c.call.new.self item c.call.result c.job_in.ensures.value c.call.ensures.firing c.call.ensures.inherited c.call.ensures.opened c.call.ensures.refused)) in
    let own : arc_value c.in_ok-graphs.graphs ≡ arc_value s.graphs = c.in_ok-graphs.ensures in
    let graphs : row.job.graphs ≡ arc_value c.in_ok-graphs.graphs = c.requires.offered.2.0 ∙ (ap (λ (x : TableView). x.graphs) (sym e) ∙ sym own) in
    let Q : Graphs → Type 0 = λ g. HasInherited g.graphs firing in
    subst Q graphs called.inherited

pub put_row-requires : goal.put_row-requires
put_row-requires c =
    let s = c.self.inside in
    let v : TableView = record { graphs = arc_value s.graphs; workers = s.workers; rows = s.rows.items } in
    let now = c.args.self.now in
    let e = c.self.view_is in
    let rows = c.vacant_key.new.rows.items in
    let same = c.vacant_key.ensures.same in
    let k = c.args.row in
    let item = c.args.item in
    let slot = c.index_mut.result.now in
    let read = c.index_mut.ensures.value in
    let row = c.requires.offered.0 in
    let here = c.requires.offered.1 in
    let firing = c.in_ok-firing.firing in
    let called = call_of v now e rows same k item slot read row here firing (left_with c.call.new.self slot) (subst (λ (r : Result Firing AllocError). CallsIn item r slot (left_with c.call.new.self slot)) c.in_ok-firing.was (job_called slot c.job_in.result.now c.call.new.self item c.call.result c.job_in.ensures.value c.call.ensures.firing c.call.ensures.inherited c.call.ensures.opened c.call.ensures.refused)) in
    vacant_slot v now e rows same k item slot read row here (left_with c.call.new.self slot) (with_job row (with_mark row.job item (Open firing))) called.new_is (opened_stays v now e rows same k item slot read row here (Open firing)) refl refl c.in_ok-key.key c.in_ok-key.ensures.vacant c.index_mut-2.result.now c.index_mut-2.ensures.value

pub returns-clause-opened : goal.returns-clause-opened
returns-clause-opened c =
    let s = c.self.inside in
    let v : TableView = record { graphs = arc_value s.graphs; workers = s.workers; rows = s.rows.items } in
    let now = c.args.self.now in
    let e = c.self.view_is in
    let rows = c.vacant_key.new.rows.items in
    let same = c.vacant_key.ensures.same in
    let k = c.args.row in
    let item = c.args.item in
    let slot = c.index_mut.result.now in
    let read = c.index_mut.ensures.value in
    let row = c.requires.offered.0 in
    let here = c.requires.offered.1 in
    let firing = c.in_ok-firing.firing in
    let called = call_of v now e rows same k item slot read row here firing (left_with c.call.new.self slot) (subst (λ (r : Result Firing AllocError). CallsIn item r slot (left_with c.call.new.self slot)) c.in_ok-firing.was (job_called slot c.job_in.result.now c.call.new.self item c.call.result c.job_in.ensures.value c.call.ensures.firing c.call.ensures.inherited c.call.ensures.opened c.call.ensures.refused)) in
    let own : arc_value c.in_ok-graphs.graphs ≡ arc_value s.graphs = c.in_ok-graphs.ensures in
    let graphs : row.job.graphs ≡ arc_value c.in_ok-graphs.graphs = c.requires.offered.2.0 ∙ (ap (λ (x : TableView). x.graphs) (sym e) ∙ sym own) in
    let fresh = is_fresh v.graphs v.workers firing c.in_ok-job.job (compile_number (graph_of (arc_value c.in_ok-graphs.graphs).graphs firing) + 1) (c.in_ok-job.ensures.made_of.0 ∙ own) c.in_ok-job.ensures.made_of.1 c.in_ok-job.ensures.made_of.2 c.in_ok-job.ensures.unplaced c.in_ok-job.ensures.roomless c.in_ok-job.ensures.free c.in_ok-job.ensures.unlent
    (fresh_many (arc_value c.in_ok-graphs.graphs) firing c.in_ok-job.job c.in_ok-job.ensures.made_of.0 c.in_ok-job.ensures.made_of.2 c.in_ok-job.ensures.free) in
    let child : Row = record { job = c.in_ok-job.job; upper = Some k; place = c.in_ok-place.place; steps = c.in_ok-steps.steps } in
    let first = read_row v now e rows same k item c.index.result.now c.index.ensures row here c.row_in.result.now c.row_in.ensures in
    let second = read_row v now e rows same k item c.index-2.result.now c.index-2.ensures row here c.row_in-2.result.now c.row_in-2.ensures in
    opens v now e rows same k item slot read row here (left_with c.call.new.self slot) (with_job row (with_mark row.job item (Open firing))) called.new_is (opened_stays v now e rows same k item slot read row here (Open firing)) refl refl c.in_ok-key.key c.in_ok-key.ensures.vacant child c.put_row.new.slot c.put_row.ensures firing called.task_is c.requires.offered.2.1.free
    (opened_free v now e rows same k item slot read row here firing (item_there v now e rows same k item slot read row here (job_had slot c.job_in.result.now (λ (job : OpenView). HasItem job item) c.job_in.ensures.value c.call.ensures.there)) c.requires.offered.2.1.free)
    (opened_mark v now e rows same k item slot read row here (Open firing) (item_there v now e rows same k item slot read row here (job_had slot c.job_in.result.now (λ (job : OpenView). HasItem job item) c.job_in.ensures.value c.call.ensures.there))) (opened_others v now e rows same k item slot read row here (Open firing)) fresh
    (c.in_ok-place.ensures ∙ ap (λ (r : Row). item ∷ r.place) first) refl (c.in_ok-steps.ensures ∙ ap (λ (r : Row). r.steps ++ step_of r.job item ∷ []) second)

pub returns-clause-lent : goal.returns-clause-lent
returns-clause-lent c =
    let s = c.self.inside in
    let v : TableView = record { graphs = arc_value s.graphs; workers = s.workers; rows = s.rows.items } in
    let now = c.args.self.now in
    let e = c.self.view_is in
    let rows = c.vacant_key.new.rows.items in
    let same = c.vacant_key.ensures.same in
    let k = c.args.row in
    let item = c.args.item in
    let slot = c.index_mut.result.now in
    let read = c.index_mut.ensures.value in
    let row = c.requires.offered.0 in
    let here = c.requires.offered.1 in
    let firing = c.in_ok-firing.firing in
    let called = call_of v now e rows same k item slot read row here firing (left_with c.call.new.self slot) (subst (λ (r : Result Firing AllocError). CallsIn item r slot (left_with c.call.new.self slot)) c.in_ok-firing.was (job_called slot c.job_in.result.now c.call.new.self item c.call.result c.job_in.ensures.value c.call.ensures.firing c.call.ensures.inherited c.call.ensures.opened c.call.ensures.refused)) in
    let own : arc_value c.in_ok-graphs.graphs ≡ arc_value s.graphs = c.in_ok-graphs.ensures in
    let graphs : row.job.graphs ≡ arc_value c.in_ok-graphs.graphs = c.requires.offered.2.0 ∙ (ap (λ (x : TableView). x.graphs) (sym e) ∙ sym own) in
    let fresh = is_fresh v.graphs v.workers firing c.in_ok-job.job (compile_number (graph_of (arc_value c.in_ok-graphs.graphs).graphs firing) + 1) (c.in_ok-job.ensures.made_of.0 ∙ own) c.in_ok-job.ensures.made_of.1 c.in_ok-job.ensures.made_of.2 c.in_ok-job.ensures.unplaced c.in_ok-job.ensures.roomless c.in_ok-job.ensures.free c.in_ok-job.ensures.unlent
    (fresh_many (arc_value c.in_ok-graphs.graphs) firing c.in_ok-job.job c.in_ok-job.ensures.made_of.0 c.in_ok-job.ensures.made_of.2 c.in_ok-job.ensures.free) in
    let child : Row = record { job = c.in_ok-job.job; upper = Some k; place = c.in_ok-place.place; steps = c.in_ok-steps.steps } in
    opens_lent v now e rows same k item slot read row here (left_with c.call.new.self slot) (with_job row (with_mark row.job item (Open firing))) called.new_is (opened_stays v now e rows same k item slot read row here (Open firing)) refl refl c.in_ok-key.key c.in_ok-key.ensures.vacant child c.put_row.new.slot c.put_row.ensures fresh.unlent

pub returns-in_err-firing-clause-asked : goal.returns-in_err-firing-clause-asked
returns-in_err-firing-clause-asked c =
    let s = c.self.inside in
    let v : TableView = record { graphs = arc_value s.graphs; workers = s.workers; rows = s.rows.items } in
    let now = c.args.self.now in
    let e = c.self.view_is in
    let rows = c.vacant_key.new.rows.items in
    let same = c.vacant_key.ensures.same in
    let k = c.args.row in
    let item = c.args.item in
    let slot = c.index_mut.result.now in
    let read = c.index_mut.ensures.value in
    let row = c.requires.offered.0 in
    let here = c.requires.offered.1 in
    (call_spoils v now e rows same k item slot read row here c.call.result (left_with c.call.new.self slot) (job_called slot c.job_in.result.now c.call.new.self item c.call.result c.job_in.ensures.value c.call.ensures.firing c.call.ensures.inherited c.call.ensures.opened c.call.ensures.refused) (item_there v now e rows same k item slot read row here (job_had slot c.job_in.result.now (λ (job : OpenView). HasItem job item) c.job_in.ensures.value c.call.ensures.there)) c.requires.offered.2.1.free).2

pub returns-in_err-job-clause-asked : goal.returns-in_err-job-clause-asked
returns-in_err-job-clause-asked c =
    let s = c.self.inside in
    let v : TableView = record { graphs = arc_value s.graphs; workers = s.workers; rows = s.rows.items } in
    let now = c.args.self.now in
    let e = c.self.view_is in
    let rows = c.vacant_key.new.rows.items in
    let same = c.vacant_key.ensures.same in
    let k = c.args.row in
    let item = c.args.item in
    let slot = c.index_mut.result.now in
    let read = c.index_mut.ensures.value in
    let row = c.requires.offered.0 in
    let here = c.requires.offered.1 in
    (call_spoils v now e rows same k item slot read row here c.call.result (left_with c.call.new.self slot) (job_called slot c.job_in.result.now c.call.new.self item c.call.result c.job_in.ensures.value c.call.ensures.firing c.call.ensures.inherited c.call.ensures.opened c.call.ensures.refused) (item_there v now e rows same k item slot read row here (job_had slot c.job_in.result.now (λ (job : OpenView). HasItem job item) c.job_in.ensures.value c.call.ensures.there)) c.requires.offered.2.1.free).2

pub returns-clause-asked : goal.returns-clause-asked
returns-clause-asked c =
    let s = c.self.inside in
    let v : TableView = record { graphs = arc_value s.graphs; workers = s.workers; rows = s.rows.items } in
    let now = c.args.self.now in
    let e = c.self.view_is in
    let rows = c.vacant_key.new.rows.items in
    let same = c.vacant_key.ensures.same in
    let k = c.args.row in
    let item = c.args.item in
    let slot = c.index_mut.result.now in
    let read = c.index_mut.ensures.value in
    let row = c.requires.offered.0 in
    let here = c.requires.offered.1 in
    let firing = c.in_ok-firing.firing in
    let called = call_of v now e rows same k item slot read row here firing (left_with c.call.new.self slot) (subst (λ (r : Result Firing AllocError). CallsIn item r slot (left_with c.call.new.self slot)) c.in_ok-firing.was (job_called slot c.job_in.result.now c.call.new.self item c.call.result c.job_in.ensures.value c.call.ensures.firing c.call.ensures.inherited c.call.ensures.opened c.call.ensures.refused)) in
    let own : arc_value c.in_ok-graphs.graphs ≡ arc_value s.graphs = c.in_ok-graphs.ensures in
    let graphs : row.job.graphs ≡ arc_value c.in_ok-graphs.graphs = c.requires.offered.2.0 ∙ (ap (λ (x : TableView). x.graphs) (sym e) ∙ sym own) in
    let fresh = is_fresh v.graphs v.workers firing c.in_ok-job.job (compile_number (graph_of (arc_value c.in_ok-graphs.graphs).graphs firing) + 1) (c.in_ok-job.ensures.made_of.0 ∙ own) c.in_ok-job.ensures.made_of.1 c.in_ok-job.ensures.made_of.2 c.in_ok-job.ensures.unplaced c.in_ok-job.ensures.roomless c.in_ok-job.ensures.free c.in_ok-job.ensures.unlent
    (fresh_many (arc_value c.in_ok-graphs.graphs) firing c.in_ok-job.job c.in_ok-job.ensures.made_of.0 c.in_ok-job.ensures.made_of.2 c.in_ok-job.ensures.free) in
    let child : Row = record { job = c.in_ok-job.job; upper = Some k; place = c.in_ok-place.place; steps = c.in_ok-steps.steps } in
    opens_asks v now e rows same k item slot read row here (left_with c.call.new.self slot) (with_job row (with_mark row.job item (Open firing))) called.new_is (opened_stays v now e rows same k item slot read row here (Open firing)) refl refl c.in_ok-key.key c.in_ok-key.ensures.vacant child c.put_row.new.slot c.put_row.ensures fresh.roomless

-- what is known of some is known of the others
known_by : (known : Option EarlyView) (P Q : EarlyView → Type 0) → ((early : EarlyView) → P early → Q early) → IfSome known P → IfSome known Q
known_by None P Q more has = tt
known_by (Some early) P Q more has = more early has

pub open-requires-clause-known : goal.open-requires-clause-known
open-requires-clause-known c =
    let s = c.self.inside in
    let v : TableView = record { graphs = arc_value s.graphs; workers = s.workers; rows = s.rows.items } in
    let now = c.args.self.now in
    let e = c.self.view_is in
    let rows = c.vacant_key.new.rows.items in
    let same = c.vacant_key.ensures.same in
    let k = c.args.row in
    let item = c.args.item in
    let slot = c.index_mut.result.now in
    let read = c.index_mut.ensures.value in
    let row = c.requires.offered.0 in
    let here = c.requires.offered.1 in
    let firing = c.in_ok-firing.firing in
    let called = call_of v now e rows same k item slot read row here firing (left_with c.call.new.self slot) (subst (λ (r : Result Firing AllocError). CallsIn item r slot (left_with c.call.new.self slot)) c.in_ok-firing.was (job_called slot c.job_in.result.now c.call.new.self item c.call.result c.job_in.ensures.value c.call.ensures.firing c.call.ensures.inherited c.call.ensures.opened c.call.ensures.refused)) in
    let own : arc_value c.in_ok-graphs.graphs ≡ arc_value s.graphs = c.in_ok-graphs.ensures in
    let graphs : row.job.graphs ≡ arc_value c.in_ok-graphs.graphs = c.requires.offered.2.0 ∙ (ap (λ (x : TableView). x.graphs) (sym e) ∙ sym own) in
    let third = read_row v now e rows same k item c.index-3.result.now c.index-3.ensures row here c.row_in-3.result.now c.row_in-3.ensures in
    let R : Row → Type 0 = λ r. IfSome c.known-known.result (λ early. (d : Firing) → task r.job item ≡ Some (Call d) → early ≡ early_in r.job.graphs.graphs d) in
    known_by c.known-known.result _ _ (λ early is. is firing called.task_is ∙ ap (λ (g : Graphs). early_in g.graphs firing) graphs) (subst R third c.known-known.ensures)

pub known-known-requires : goal.known-known-requires
known-known-requires c =
    let s = c.self.inside in
    let v : TableView = record { graphs = arc_value s.graphs; workers = s.workers; rows = s.rows.items } in
    let now = c.args.self.now in
    let e = c.self.view_is in
    let rows = c.vacant_key.new.rows.items in
    let same = c.vacant_key.ensures.same in
    let k = c.args.row in
    let item = c.args.item in
    let row = c.requires.offered.0 in
    let here = c.requires.offered.1 in
    let third = read_row v now e rows same k item c.index-3.result.now c.index-3.ensures row here c.row_in-3.result.now c.row_in-3.ensures in
    subst (λ (r : Row). IsOfferedCall r.job item) (sym third) c.requires.offered.2.1

-- a row that is there stands within the list
row_inside : (rows : List (Option Row)) (k : ℕ) (row : Row) → get_or rows k None ≡ Some row → k < length rows
row_inside [] k row is = absurd (cc)
row_inside (r ∷ rows) zero row is = omega arith
row_inside (r ∷ rows) (suc k) row is = let inside = row_inside rows k row is in omega (arith, inside)

pub index_mut-requires : goal.index_mut-requires
index_mut-requires c =
    let here = c.vacant_key.ensures.same c.args.row ∙ ap (λ (x : TableView). row_at x c.args.row) c.self.view_is ∙ c.requires.offered.1 in
    let inside = row_inside c.vacant_key.new.rows.items c.args.row c.requires.offered.0 here in
    let long = c.vacant_key.new.rows.ok.0 in
    omega (arith, inside, long)
