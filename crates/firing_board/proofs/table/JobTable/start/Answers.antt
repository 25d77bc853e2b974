use Rattle.std.proofs.Common.{◌≡◌, ◌+◌, List, [], ◌∷◌, ◌++◌, Option, Some, sym, ap, ◌∙◌, subst}
use Rattle.std.specs.Arc.{arc_value}
use Rattle.job_rules.specs.Items.{compile_number, graph_of}
use Rattle.firing_board.specs.Table.Calls.{IsFresh}
use Rattle.firing_board.specs.declared.table.row.Row.{Row}
use Rattle.firing_board.proofs.OfTable.Freeing.{fresh_many}
use Rattle.firing_board.proofs.OfTable.Openings.{is_fresh, started}
use Rattle.firing_board.proofs.table.JobTable.start.Goals as goal

pub returns-in-Ok : goal.returns-in-Ok
returns-in-Ok c =
    let graphs = arc_value c.args.graphs in
    let own : arc_value c.in_ok-own.own ≡ graphs = c.in_ok-own.ensures in
    let fresh = is_fresh graphs c.args.workers c.args.firing c.in-Ok.job (compile_number (graph_of (arc_value c.in_ok-own.own).graphs c.args.firing) + 1) (c.in-Ok.ensures.made_of.0 ∙ own) c.in-Ok.ensures.made_of.1 c.in-Ok.ensures.made_of.2 c.in-Ok.ensures.unplaced c.in-Ok.ensures.roomless c.in-Ok.ensures.free c.in-Ok.ensures.unlent
    (fresh_many (arc_value c.in_ok-own.own) c.args.firing c.in-Ok.job c.in-Ok.ensures.made_of.0 c.in-Ok.ensures.made_of.2 c.in-Ok.ensures.free) in
    let top = c.top_row.ensures in
    started graphs c.args.workers c.args.firing c.top_row.result c.push_reserved.new.self.items
    (subst (IsFresh graphs c.args.workers c.args.firing) (sym (ap (λ (r : Row). r.job) top)) fresh) (ap (λ (r : Row). r.place) top) (ap (λ (r : Row). r.upper) top) (ap (λ (r : Row). r.steps) top)
    (c.push_reserved.ensures.items ∙ ap (λ (l : List (Option Row)). l ++ Some c.top_row.result ∷ []) c.in_ok-rows.ensures.items)
