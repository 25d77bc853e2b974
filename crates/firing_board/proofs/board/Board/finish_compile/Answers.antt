use Rattle.std.proofs.Common.{◌≡◌, ◌∙◌, Bool, false, is_some, sym, ap, subst}
use Rattle.board_rules.specs.Keys.{Key}
use Rattle.firing_board.specs.Signatures.{counts_by}
use Rattle.firing_board.specs.Table.View.{firings_of}
use Rattle.firing_board.specs.Firings.{FiringsGoOn}
use Rattle.firing_board.specs.Finishes.{Finishes, MayEnd}
use Rattle.firing_board.specs.Invariants.{Keeps, key_of, key_with, view_of, view_with}
use Rattle.firing_board.specs.Runs.{Runs}
use Rattle.firing_board.specs.View.{BoardView, lent_to}
use Rattle.firing_board.proofs.Fields.{key_same}
use Rattle.firing_board.proofs.KeptViews.{finishes_as, keeping, runs_as}
use Rattle.firing_board.proofs.RoomSteps.{room_unless}
use Rattle.pisdf_model.specs.declared.graph.Graphs.{Graphs}
use Rattle.firing_board.specs.Keeping.{AreKeptLevelsOf, IsOfLevels}
use Rattle.firing_board.proofs.Abandoned.{compilation}
use Rattle.firing_board.proofs.EndedLevels.{ended_level, levels_same}
use Rattle.firing_board.proofs.board.Board.finish_compile.Goals as goal

pub finish_compilation-self-inside-requires : goal.finish_compilation-self-inside-requires
finish_compilation-self-inside-requires c =
    let i = c.self.inside in
    let key = key_of i in
    let w = c.args.ticket.worker in (
      key,
      record {
        keeps = c.self.invariant.0;
        runs = runs_as false (view_of i) w (MayEnd key c.args.end) (subst (λ (b : BoardView). Runs b w (MayEnd b.key c.args.end)) (sym c.self.view_is) c.requires.runs);
        lent = ap (λ (b : BoardView). lent_to b w) c.self.view_is ∙ c.requires.lent;
      },
    )

pub invariant_of-self : goal.invariant_of-self
invariant_of-self c =
    let i = c.self.inside in
    let key = key_of i in
    let w = c.args.ticket.worker in
    let new = c.finish_compilation-self-inside.new.core in
    let kept = c.finish_compilation-self-inside.ensures.kept in
    let f = c.finish_compilation-self-inside.ensures.finished key record {
      keeps = c.self.invariant.0;
      runs = runs_as false (view_of i) w (MayEnd key c.args.end) (subst (λ (b : BoardView). Runs b w (MayEnd b.key c.args.end)) (sym c.self.view_is) c.requires.runs);
      lent = ap (λ (b : BoardView). lent_to b w) c.self.view_is ∙ c.requires.lent;
    } in
    let same = key_same (counts_by i.signatures) i.top.value i.core new kept in (
      subst (λ (k : Key). Keeps k new c.finish_compilation-self-inside.result) (sym same) f.keeps,
      levels_same i.core.table.graphs new.table.graphs c.keep_ready.new.keeping.levels kept.graphs_are (subst (λ (g : Graphs). AreKeptLevelsOf g c.keep_ready.new.keeping.levels) c.graphs.ensures c.keep_ready.ensures.levels),
      room_unless i.starved c.finish_compilation-self-inside.result i.core new f.stays c.self.invariant.2 c.finish_compilation-self-inside.ensures.room,
      kept.slots_each ∙ (c.self.invariant.3 ∙ sym kept.one_each),
    )

pub returns-clause-finishes : goal.returns-clause-finishes
returns-clause-finishes c =
    let i = c.self.inside in
    let key = key_of i in
    let w = c.args.ticket.worker in
    let new = c.finish_compilation-self-inside.new.core in
    let after = c.finish_compilation-self-inside.result in
    let f = c.finish_compilation-self-inside.ensures.finished key record {
      keeps = c.self.invariant.0;
      runs = runs_as false (view_of i) w (MayEnd key c.args.end) (subst (λ (b : BoardView). Runs b w (MayEnd b.key c.args.end)) (sym c.self.view_is) c.requires.runs);
      lent = ap (λ (b : BoardView). lent_to b w) c.self.view_is ∙ c.requires.lent;
    } in
    let same = key_same (counts_by i.signatures) i.top.value i.core new c.finish_compilation-self-inside.ensures.kept in
    let has = is_some i.keeping.kept in
    let whole = finishes_as has (view_with key i.core i.starved) (view_with key new after) w f.finishes in
    let kept : has ≡ is_some c.keep_ready.new.keeping.kept = sym c.keep_ready.ensures.kept in
    subst (λ (b : BoardView). Finishes b (keeping (is_some c.keep_ready.new.keeping.kept) (view_with (key_with (counts_by i.signatures) i.top.value new) new after)) w) c.self.view_is
    (subst (λ (h : Bool). Finishes (view_of i) (keeping h (view_with (key_with (counts_by i.signatures) i.top.value new) new after)) w) kept
    (subst (λ (k : Key). Finishes (view_of i) (keeping has (view_with k new after)) w) (sym same) whole))

pub returns-clause-stays : goal.returns-clause-stays
returns-clause-stays c = λ is.
    let i = c.self.inside in
    let key = key_of i in
    let w = c.args.ticket.worker in
    let f = c.finish_compilation-self-inside.ensures.finished key record {
      keeps = c.self.invariant.0;
      runs = runs_as false (view_of i) w (MayEnd key c.args.end) (subst (λ (b : BoardView). Runs b w (MayEnd b.key c.args.end)) (sym c.self.view_is) c.requires.runs);
      lent = ap (λ (b : BoardView). lent_to b w) c.self.view_is ∙ c.requires.lent;
    } in
    f.stays (ap (λ (b : BoardView). b.starved) c.self.view_is ∙ is)

pub returns-clause-memory : goal.returns-clause-memory
returns-clause-memory c = λ is. c.unless_wanted.ensures.told (c.finish_compilation-self-inside.ensures.memory is)

pub returns-clause-firings : goal.returns-clause-firings
returns-clause-firings c =
    let i = c.self.inside in
    let key = key_of i in
    let w = c.args.ticket.worker in
    let new = c.finish_compilation-self-inside.new.core in
    let f = c.finish_compilation-self-inside.ensures.finished key record {
      keeps = c.self.invariant.0;
      runs = runs_as false (view_of i) w (MayEnd key c.args.end) (subst (λ (b : BoardView). Runs b w (MayEnd b.key c.args.end)) (sym c.self.view_is) c.requires.runs);
      lent = ap (λ (b : BoardView). lent_to b w) c.self.view_is ∙ c.requires.lent;
    } in
    subst (λ (b : BoardView). FiringsGoOn b.firings (firings_of new.table)) c.self.view_is f.firings

pub keep_ready-requires-clause-levels : goal.keep_ready-requires-clause-levels
keep_ready-requires-clause-levels c = subst (λ (g : Graphs). AreKeptLevelsOf g c.self.inside.keeping.levels) (sym c.graphs.ensures) c.self.invariant.1

pub keep_ready-requires-clause-end : goal.keep_ready-requires-clause-end
keep_ready-requires-clause-end c =
    let i = c.self.inside in
    let key = key_of i in
    let w = c.args.ticket.worker in
    let runs = runs_as false (view_of i) w (MayEnd key c.args.end) (subst (λ (b : BoardView). Runs b w (MayEnd b.key c.args.end)) (sym c.self.view_is) c.requires.runs) in
    let found = compilation key c.args.end runs.work runs.so in
    subst (λ (g : Graphs). IsOfLevels g c.args.end) (sym c.graphs.ensures) (ended_level key.graphs key.workers found.firing found.left c.args.end found.ends)
