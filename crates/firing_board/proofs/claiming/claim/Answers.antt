use Rattle.std.proofs.Common.{◌≡◌, ◌∙◌, inl, false, get_or, Option, None, sym, ap, subst, arith}
use Rattle.std.specs.List.{All}
use Rattle.board_rules.specs.Keys.{Key}
use Rattle.graph_firing.specs.View.{OpenView, compilation_of}
use Rattle.firing_board.specs.Core.{HasMemory, RowsLast}
use Rattle.firing_board.specs.Finding.{Finds}
use Rattle.firing_board.specs.Handing.{HandsOut}
use Rattle.firing_board.specs.Invariants.{view_with}
use Rattle.firing_board.specs.OnCore.{ClaimsOn, MayClaim, StarvesOn}
use Rattle.firing_board.specs.Starved.{Lasts}
use Rattle.firing_board.specs.Wanting.{MayStarve}
use Rattle.firing_board.specs.declared.claim.Claim.{Claim}
use Rattle.firing_board.specs.declared.claim.Claim.TheVariants as claim
use Rattle.firing_board.specs.declared.state.Core.{Core}
use Rattle.firing_board.specs.declared.run.Run.{Run}
use Rattle.firing_board.specs.Table.Calls.{LendsAsBefore}
use Rattle.firing_board.specs.Table.View.{HasJob, row_at}
use Rattle.firing_board.specs.declared.table.row.Row.{Row}
use Rattle.firing_board.proofs.Claimed.{ClaimLaws}
use Rattle.firing_board.proofs.Handed.{compile_wants, hands_claims}
use Rattle.firing_board.proofs.Idle.{finished, waits}
use Rattle.firing_board.proofs.Openings.{if_ok_with, on_err, on_err_by}
use Rattle.firing_board.proofs.Rows.{the_same}
use Rattle.firing_board.proofs.Starving.{starves}
use Rattle.firing_board.proofs.EndedLevels.{levels_same}
use Rattle.firing_board.proofs.claiming.claim.Goals as goal

pub returns-in_err-run-clause-refused : goal.returns-in_err-run-clause-refused
returns-in_err-run-clause-refused c =
    let old = c.args.core.now in
    let mid = c.find.new.core in
    let kept = c.in_err-run.ensures.kept in
    on_err_by c.from_residual.result ((key : Key) → MayClaim key old c.args.worker → StarvesOn key old mid)
    (λ key may. starves c.boards_keep.ensures.held key (c.rules_are_lawful.ensures key.graphs may.keeps.is_key.valid.valid) old mid may.keeps kept.lasts kept.rows kept.lent (ap (λ rs. rs.items) kept.running_is) kept.entries_are
    kept.more)

pub returns-in_err-run-clause-licensed : goal.returns-in_err-run-clause-licensed
returns-in_err-run-clause-licensed c =
    let old = c.args.core.now in
    on_err_by c.from_residual.result ((key : Key) → MayClaim key old c.args.worker → MayStarve (view_with key old false) c.args.worker)
    (λ key may. record {
      taken = may.keeps.taken;
      at = record { legal = may.keeps.at.kept.legal; entered = may.keeps.at.entered };
      wants = inl (c.in_err-run.ensures.wants key may.keeps.taken may.keeps.at);
    })

pub hand_out-requires-clause-room : goal.hand_out-requires-clause-room
hand_out-requires-clause-room c = c.in_ok-run.ensures.room c.requires.room

pub hand_out-requires-clause-numbered : goal.hand_out-requires-clause-numbered
hand_out-requires-clause-numbered c =
    let run = c.in-Some.run' in
    let may = c.requires.may.1 in
    let found = subst (λ (o : Option Run). Finds c.requires.may.0 may.keeps.taken c.args.core.now c.args.worker c.find.new.core o) c.in-Some.is (c.in_ok-run.ensures.found c.requires.may.0 may.keeps.taken may.keeps.at) in
    (found.row.job.firing.path, found.numbered run.row found.row found.here)

pub returns-in-Some-clause-claimed : goal.returns-in-Some-clause-claimed
returns-in-Some-clause-claimed c =
    let old = c.args.core.now in
    let mid = c.find.new.core in
    let new = c.hand_out.new.core in
    let w = c.args.worker in
    let run = c.in-Some.run' in
    let laws : ClaimLaws = record {
      claims = c.boards_keep.ensures.claim;
      held = c.boards_keep.ensures.held;
      entered = c.journals_grow.ensures.claim;
      ended = c.boards_end.ensures.ended;
      suit = c.tables_suit.ensures.claim;
      mark = c.tables_suit.ensures.marks;
    } in
    if_ok_with c.hand_out.result (HandsOut mid w run new) (λ (result : Claim). (key : Key) → MayClaim key old w → ClaimsOn key old w new result) (HasMemory new)
    (λ (result : Claim) (room : HasMemory new) (h : HandsOut mid w run new result). λ key may.
    let found = subst (λ (o : Option Run). Finds key may.keeps.taken old w mid o) c.in-Some.is (c.in_ok-run.ensures.found key may.keeps.taken may.keeps.at) in
    hands_claims laws key old w may mid run found c.in_ok-run.ensures.kept new room result h)
    c.hand_out.ensures.room c.hand_out.ensures.handed

pub returns-in-Some-clause-refused : goal.returns-in-Some-clause-refused
returns-in-Some-clause-refused c =
    let old = c.args.core.now in
    let mid = c.find.new.core in
    let new = c.hand_out.new.core in
    let kept = c.in_ok-run.ensures.kept in
    on_err c.hand_out.result (new ≡ mid) ((key : Key) → MayClaim key old c.args.worker → StarvesOn key old new)
    (λ (e : new ≡ mid). λ key may.
    starves c.boards_keep.ensures.held key (c.rules_are_lawful.ensures key.graphs may.keeps.is_key.valid.valid) old new may.keeps
    (subst (λ (x : Core). Lasts old.table x.table) (sym e) kept.lasts)
    (subst (λ (x : Core). RowsLast old.table x.table) (sym e) kept.rows)
    (subst (λ (x : Core). LendsAsBefore old.table x.table) (sym e) kept.lent)
    (ap (λ (x : Core). x.running.items) e ∙ ap (λ rs. rs.items) kept.running_is) (ap (λ (x : Core). x.journal.entries) e ∙ kept.entries_are)
    (let same = ap (λ (x : Core). x.journal.room) e in let more = kept.more in omega (arith, same, more)))
    c.hand_out.ensures.refused

pub returns-in-Some-clause-licensed : goal.returns-in-Some-clause-licensed
returns-in-Some-clause-licensed c =
    let old = c.args.core.now in
    let mid = c.find.new.core in
    let new = c.hand_out.new.core in
    let w = c.args.worker in
    let run = c.in-Some.run' in
    let laws : ClaimLaws = record {
      claims = c.boards_keep.ensures.claim;
      held = c.boards_keep.ensures.held;
      entered = c.journals_grow.ensures.claim;
      ended = c.boards_end.ensures.ended;
      suit = c.tables_suit.ensures.claim;
      mark = c.tables_suit.ensures.marks;
    } in
    let P : OpenView → Type 0 = λ job. run.item ≡ compilation_of job in
    on_err c.hand_out.result (HasJob P mid.table run.row) ((key : Key) → MayClaim key old w → MayStarve (view_with key old false) w)
    (λ (h : HasJob P mid.table run.row). λ key may.
    let found = subst (λ (o : Option Run). Finds key may.keeps.taken old w mid o) c.in-Some.is (c.in_ok-run.ensures.found key may.keeps.taken may.keeps.at) in
    let same : h.0 ≡ found.row = the_same (row_at mid.table run.row) h.0 found.row h.1 found.here in
    compile_wants laws key old w may mid run found c.in_ok-run.ensures.kept new (h.2 ∙ ap (λ (r : Row). compilation_of r.job) same))
    c.hand_out.ensures.compiles

pub returns-then-is_idle-clause-room : goal.returns-then-is_idle-clause-room
returns-then-is_idle-clause-room c = c.in_ok-run.ensures.room c.requires.room

pub returns-else-is_idle-clause-room : goal.returns-else-is_idle-clause-room
returns-else-is_idle-clause-room c = c.in_ok-run.ensures.room c.requires.room

pub returns-then-is_idle-clause-claimed : goal.returns-then-is_idle-clause-claimed
returns-then-is_idle-clause-claimed c = λ key may.
    let old = c.args.core.now in
    let mid = c.find.new.core in
    let found = subst (λ (o : Option Run). Finds key may.keeps.taken old c.args.worker mid o) c.in-None.is (c.in_ok-run.ensures.found key may.keeps.taken may.keeps.at) in
    let all = subst (λ rs. All (λ (r : Option Run). r ≡ None) rs) (c.as_slice.ensures.value ∙ ap (λ (x : Core). x.running.items) found.0) (c.is_idle.ensures.0 c.if-is_idle.true) in
    subst (λ (x : Core). ClaimsOn key old c.args.worker x claim.Finished) (sym found.0) (finished key old c.args.worker may found.1 all)

pub returns-else-is_idle-clause-claimed : goal.returns-else-is_idle-clause-claimed
returns-else-is_idle-clause-claimed c = λ key may.
    let old = c.args.core.now in
    let mid = c.find.new.core in
    let found = subst (λ (o : Option Run). Finds key may.keeps.taken old c.args.worker mid o) c.in-None.is (c.in_ok-run.ensures.found key may.keeps.taken may.keeps.at) in
    let not : All (λ (r : Option Run). r ≡ None) old.running.items → ⊥ = λ all.
    let here = subst (λ rs. All (λ (r : Option Run). r ≡ None) rs) (sym (c.as_slice.ensures.value ∙ ap (λ (x : Core). x.running.items) found.0)) all in
    let yes = c.is_idle.ensures.1 here in
    let no = c.if-is_idle.false in
    absurd (cc) in
    subst (λ (x : Core). ClaimsOn key old c.args.worker x claim.Wait) (sym found.0) (waits key old c.args.worker may found.1 not)

pub hand_out-requires-clause-idle : goal.hand_out-requires-clause-idle
hand_out-requires-clause-idle c = ap (λ rs. get_or rs.items c.args.worker None) c.in_ok-run.ensures.kept.running_is ∙ c.requires.may.1.idle

pub hand_out-requires-clause-graphs : goal.hand_out-requires-clause-graphs
hand_out-requires-clause-graphs c =
    let may = c.requires.may.1 in
    let found = subst (λ (o : Option Run). Finds c.requires.may.0 may.keeps.taken c.args.core.now c.args.worker c.find.new.core o) c.in-Some.is (c.in_ok-run.ensures.found c.requires.may.0 may.keeps.taken may.keeps.at) in
    let same = (found.suits.rows c.in-Some.run'.row found.row found.here).graphs_are ∙ sym may.keeps.at.suits.graphs_are in
    (found.row, found.here, levels_same c.args.core.now.table.graphs found.row.job.graphs c.args.keeping.now.levels same c.requires.graphs)
