use Rattle.std.proofs.Common.{◌∙◌, false, sym, ap, subst}
use Rattle.std.specs.Prelude.{IsOk, is_some}
use Rattle.board_rules.specs.Keys.{Key}
use Rattle.firing_board.specs.Signatures.{counts_by}
use Rattle.firing_board.specs.Table.View.{firings_of}
use Rattle.firing_board.specs.Firings.{FiringsGoOn}
use Rattle.firing_board.specs.Finishes.{Finishes, MayComeBack}
use Rattle.firing_board.specs.Invariants.{Keeps, key_of, key_with, view_of, view_with}
use Rattle.firing_board.specs.Runs.{Runs}
use Rattle.firing_board.specs.View.{BoardView, lent_to}
use Rattle.firing_board.proofs.Fields.{key_same}
use Rattle.firing_board.proofs.KeptViews.{finishes_as, keeping, runs_as}
use Rattle.firing_board.proofs.RoomSteps.{room_unless}
use Rattle.firing_board.proofs.EndedLevels.{levels_same}
use Rattle.firing_board.proofs.board.Board.finish_fire.Goals as goal

pub finish_frame-requires-clause-may : goal.finish_frame-requires-clause-may
finish_frame-requires-clause-may c =
    let i = c.self.inside in
    let key = key_of i in
    let w = c.args.ticket.worker in (
      key,
      record {
        keeps = c.self.invariant.0;
        runs = runs_as false (view_of i) w (MayComeBack key c.args.frame c.args.answer (IsOk c.args.answer)) (subst (λ (b : BoardView). Runs b w (MayComeBack b.key c.args.frame c.args.answer (IsOk c.args.answer))) (sym c.self.view_is) c.requires.runs);
        lent = ap (λ (b : BoardView). lent_to b w) c.self.view_is ∙ c.requires.lent;
      },
    )

pub invariant_of-self : goal.invariant_of-self
invariant_of-self c =
    let i = c.self.inside in
    let key = key_of i in
    let w = c.args.ticket.worker in
    let new = c.finish_frame.new.core in
    let after = i.starved in
    let kept = c.finish_frame.ensures.kept in
    let f = c.finish_frame.ensures.finished key record {
      keeps = c.self.invariant.0;
      runs = runs_as false (view_of i) w (MayComeBack key c.args.frame c.args.answer (IsOk c.args.answer)) (subst (λ (b : BoardView). Runs b w (MayComeBack b.key c.args.frame c.args.answer (IsOk c.args.answer))) (sym c.self.view_is) c.requires.runs);
      lent = ap (λ (b : BoardView). lent_to b w) c.self.view_is ∙ c.requires.lent;
    } in
    let same = key_same (counts_by i.signatures) i.top.value i.core new kept in
    (subst (λ (k : Key). Keeps k new after) (sym same) f.keeps, levels_same i.core.table.graphs new.table.graphs i.keeping.levels kept.graphs_are c.self.invariant.1, room_unless i.starved after i.core new f.stays c.self.invariant.2 (λ live has. c.finish_frame.ensures.room has), kept.slots_each ∙ (c.self.invariant.3 ∙ sym kept.one_each))

pub returns-clause-finishes : goal.returns-clause-finishes
returns-clause-finishes c =
    let i = c.self.inside in
    let key = key_of i in
    let w = c.args.ticket.worker in
    let new = c.finish_frame.new.core in
    let after = i.starved in
    let f = c.finish_frame.ensures.finished key record {
      keeps = c.self.invariant.0;
      runs = runs_as false (view_of i) w (MayComeBack key c.args.frame c.args.answer (IsOk c.args.answer)) (subst (λ (b : BoardView). Runs b w (MayComeBack b.key c.args.frame c.args.answer (IsOk c.args.answer))) (sym c.self.view_is) c.requires.runs);
      lent = ap (λ (b : BoardView). lent_to b w) c.self.view_is ∙ c.requires.lent;
    } in
    let same = key_same (counts_by i.signatures) i.top.value i.core new c.finish_frame.ensures.kept in
    let has = is_some i.keeping.kept in
    let whole = finishes_as has (view_with key i.core i.starved) (view_with key new after) w f.finishes in
    subst (λ (b : BoardView). Finishes b (keeping has (view_with (key_with (counts_by i.signatures) i.top.value new) new after)) w) c.self.view_is
    (subst (λ (k : Key). Finishes (view_of i) (keeping has (view_with k new after)) w) (sym same) whole)

pub returns-clause-starved : goal.returns-clause-starved
returns-clause-starved c = ap (λ (b : BoardView). b.starved) c.self.view_is

pub returns-clause-firings : goal.returns-clause-firings
returns-clause-firings c =
    let i = c.self.inside in
    let key = key_of i in
    let w = c.args.ticket.worker in
    let new = c.finish_frame.new.core in
    let f = c.finish_frame.ensures.finished key record {
      keeps = c.self.invariant.0;
      runs = runs_as false (view_of i) w (MayComeBack key c.args.frame c.args.answer (IsOk c.args.answer)) (subst (λ (b : BoardView). Runs b w (MayComeBack b.key c.args.frame c.args.answer (IsOk c.args.answer))) (sym c.self.view_is) c.requires.runs);
      lent = ap (λ (b : BoardView). lent_to b w) c.self.view_is ∙ c.requires.lent;
    } in
    subst (λ (b : BoardView). FiringsGoOn b.firings (firings_of new.table)) c.self.view_is f.firings
