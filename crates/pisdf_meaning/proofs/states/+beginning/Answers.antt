use Rattle.std.proofs.Common.{ℤ, List, ◌++◌, append-nil, ap, sym, ◌∙◌}
use Rattle.sdf_level.proofs.Branches.{OnOk-map}
use Rattle.pisdf_meaning.proofs.HeldTokens.{line_without}
use Rattle.pisdf_meaning.proofs.Lines.{line_absent, line_empty, line_put}
use Rattle.pisdf_meaning.proofs.states.+beginning.Goals as goal

pub push_state-returns-then-levels-eq0 : goal.push_state-returns-then-levels-eq0
push_state-returns-then-levels-eq0 t c = sym (ap (λ (l : List ℤ). c.args.line.now.items ++ l) (line_empty c.args.graphs.now c.args.levels c.args.place c.if-levels-eq0.true) ∙ append-nil c.args.line.now.items)

pub push_state-returns-then-not-holds_tokens : goal.push_state-returns-then-not-holds_tokens
push_state-returns-then-not-holds_tokens t c =
    sym (ap (λ (l : List ℤ). c.args.line.now.items ++ l) (line_without c.args.graphs.now c.args.holds.now c.args.levels c.args.place c.requires.holds c.requires.few c.if-not-holds_tokens.ensures) ∙ append-nil c.args.line.now.items)

pub push_state-returns-in-None : goal.push_state-returns-in-None
push_state-returns-in-None t c = sym (ap (λ (l : List ℤ). c.args.line.now.items ++ l) (line_absent c.args.graphs.now c.args.levels c.args.place c.in-None.ensures.lookup.0) ∙ append-nil c.args.line.now.items)

pub push_state-returns-in_ok-push_kept-in-Some : goal.push_state-returns-in_ok-push_kept-in-Some
push_state-returns-in_ok-push_kept-in-Some t c =
    let g = c.in-Some.graph.now in
    OnOk-map c.push_actor_states.result
    (λ e. line_put c.args.graphs.now c.args.levels c.args.place g c.if-levels-eq0.false c.in-Some.ensures.lookup.0 c.in-Some.ensures.lookup.1 c.items.result.now c.items.ensures c.items-in-Some.result.now c.items-in-Some.ensures
    c.args.line.now.items c.push_kept.new.line.items c.push_actor_states.new.line.items c.in_ok-push_kept-in-Some.ensures e)
    c.push_actor_states.ensures
