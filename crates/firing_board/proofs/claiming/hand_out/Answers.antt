use Rattle.std.proofs.Common.{◌≡◌, ◌∙◌, length, inl, inr, ap, subst}
use Rattle.board_rules.specs.Entries.{item_of}
use Rattle.board_rules.specs.declared.entry.ItemName.{ItemName}
use Rattle.graph_firing.proofs.OfferedCompilation.{may_compile}
use Rattle.graph_firing.specs.View.{IsOfferedWork, OpenView, compilation_of, graph_in}
use Rattle.firing_board.specs.Table.View.{HasJob, row_at}
use Rattle.firing_board.specs.declared.table.row.Row.{Row}
use Rattle.firing_board.specs.Handing.{HandsCompilation, HandsFrame, HandsOut}
use Rattle.firing_board.specs.declared.claim.Claim.{Claim}
use Rattle.firing_board.specs.declared.frame_rooms.FrameRooms.{FrameRooms}
use Rattle.firing_board.proofs.Openings.{if_ok, on_err_by}
use Rattle.firing_board.proofs.Rows.{the_same}
use Rattle.firing_board.proofs.claiming.hand_out.Goals as goal

pub hand_compilation-requires-clause-offered : goal.hand_compilation-requires-clause-offered
hand_compilation-requires-clause-offered c =
    let o = c.requires.offered in
    let is : c.job-job.result.now ≡ o.0.job = c.job-job.ensures.2 ∙ ap (λ (r : Row). r.job) (the_same (row_at c.args.core.now.table c.args.run.row) c.job-job.ensures.0 o.0 c.job-job.ensures.1 o.1) in
    let at : c.args.run.item ≡ compilation_of o.0.job = c.if-run-compilation.true ∙ (c.compilation.ensures ∙ ap compilation_of is) in
    (o.0, o.1, may_compile o.0.job (subst (IsOfferedWork o.0.job) at o.2))

pub returns-then-run-compilation-clause-handed : goal.returns-then-run-compilation-clause-handed
returns-then-run-compilation-clause-handed c =
    let old = c.args.core.now in
    let new = c.hand_compilation.new.core in
    let o = c.requires.offered in
    let is : c.job-job.result.now ≡ o.0.job = c.job-job.ensures.2 ∙ ap (λ (r : Row). r.job) (the_same (row_at old.table c.args.run.row) c.job-job.ensures.0 o.0 c.job-job.ensures.1 o.1) in
    let at : c.args.run.item ≡ compilation_of o.0.job = c.if-run-compilation.true ∙ (c.compilation.ensures ∙ ap compilation_of is) in
    if_ok c.hand_compilation.result (HandsCompilation old c.args.worker c.args.run new) (HandsOut old c.args.worker c.args.run new)
    (λ (result : Claim) (h : HandsCompilation old c.args.worker c.args.run new result). record { row = o.0; here = o.1; handed = inr (at, h) })
    c.hand_compilation.ensures.handed

pub returns-then-run-compilation-clause-compiles : goal.returns-then-run-compilation-clause-compiles
returns-then-run-compilation-clause-compiles c =
    let old = c.args.core.now in
    let o = c.requires.offered in
    let is : c.job-job.result.now ≡ o.0.job = c.job-job.ensures.2 ∙ ap (λ (r : Row). r.job) (the_same (row_at old.table c.args.run.row) c.job-job.ensures.0 o.0 c.job-job.ensures.1 o.1) in
    let at : c.args.run.item ≡ compilation_of o.0.job = c.if-run-compilation.true ∙ (c.compilation.ensures ∙ ap compilation_of is) in
    on_err_by c.hand_compilation.result (HasJob (λ (job : OpenView). c.args.run.item ≡ compilation_of job) old.table c.args.run.row) (o.0, o.1, at)

pub returns-else-run-compilation-clause-handed : goal.returns-else-run-compilation-clause-handed
returns-else-run-compilation-clause-handed c =
    let old = c.args.core.now in
    let o = c.requires.offered in
    let is : c.job-job.result.now ≡ o.0.job = c.job-job.ensures.2 ∙ ap (λ (r : Row). r.job) (the_same (row_at old.table c.args.run.row) c.job-job.ensures.0 o.0 c.job-job.ensures.1 o.1) in
    let named : c.item_at-item.result ≡ item_of (graph_in o.0.job) c.args.run.item = c.item_at-item.ensures ∙ ap (λ (j : OpenView). item_of (graph_in j) c.args.run.item) is in
    record {
      row = o.0;
      here = o.1;
      handed = inl (subst (λ (i : ItemName). HandsFrame old c.args.worker c.args.run i c.hand_frame.new.core c.hand_frame.result) named c.hand_frame.ensures.handed);
    }

pub returns-then-run-compilation-clause-slots : goal.returns-then-run-compilation-clause-slots
returns-then-run-compilation-clause-slots c = ap (λ (r : FrameRooms). length r.slots.items) c.hand_compilation.ensures.rooms
