use Rattle.std.proofs.Common.{◌≤◌, ◌*◌, ℕ, length, sym, ◌∙◌, ap, subst}
use Rattle.firing_board.specs.Table.View.{keys_of}
use Rattle.firing_board.specs.Firings.{open_count}
use Rattle.firing_board.specs.Invariants.{key_of}
use Rattle.firing_board.specs.View.{BoardView}
use Rattle.firing_board.proofs.Rows.{keys_open}
use Rattle.firing_board.proofs.Sound.{few_open}
use Rattle.firing_board.proofs.board.Board.open_jobs.Goals as goal

pub returns-clause-few : goal.returns-clause-few
returns-clause-few c live =
    let i = c.self.inside in
    let starts = ap (λ (b : BoardView). b.starved) c.self.view_is ∙ live in
    let few = few_open c.few_jobs_are_open.ensures.rows c.tables_suit.ensures.keys (key_of i) i.core i.starved c.self.invariant.0 starts in
    let many : ℕ → Type 0 = λ n. n ≤ 8 * c.args.self.now.key.workers in
    subst many (sym c.open_jobs.ensures) (subst (λ (b : BoardView). length (keys_of i.core.table) ≤ 8 * b.key.workers) c.self.view_is few)

pub returns-clause-count : goal.returns-clause-count
returns-clause-count c =
    let i = c.self.inside in
    c.open_jobs.ensures ∙ (keys_open i.core.table ∙ ap (λ (b : BoardView). open_count b.firings) c.self.view_is)
