use Rattle.std.proofs.Common.{◌≢◌, ℤ, List, ◌++◌, map, ap, sym, ◌∙◌, arith}
use Rattle.pisdf_model.specs.Hold.{actor_state, initial_to, kept_in}
use Rattle.pisdf_model.specs.declared.actor.Actor.{Actor}
use Rattle.pisdf_meaning.proofs.Lines.{lists_absent, lists_so}
use Rattle.pisdf_meaning.proofs.states.begin.Goals as goal

pub returns-in-None : goal.returns-in-None
returns-in-None c = c.new.ensures ∙ c.new-lists.ensures.items ∙ sym (lists_absent c.args.graphs.now 8 c.args.place c.in-None.ensures.lookup.0)

pub returns-in_ok-push_actor_lists-in-Some : goal.returns-in_ok-push_actor_lists-in-Some
returns-in_ok-push_actor_lists-in-Some c =
    let g = c.in-Some.graph.now in
    let some : 8 ≢ 0 = omega arith in
    let of_actors : List (List ℤ) = map (λ (a : Actor). actor_state (initial_to c.args.graphs.now 7) a.body) c.items-actors.result.now in
    c.new-in-Some.ensures ∙ c.in_ok-push_actor_lists-in-Some.ensures
    ∙ ap (λ (l : List (List ℤ)). l ++ of_actors) (c.in_ok-push_fifo_lists-in-Some.ensures ∙ ap (λ (l : List (List ℤ)). l ++ map kept_in c.items.result.now) c.new-lists.ensures.items)
    ∙ sym (lists_so c.args.graphs.now 8 c.args.place g some c.in-Some.ensures.lookup.0 c.in-Some.ensures.lookup.1 c.items.result.now c.items.ensures c.items-actors.result.now c.items-actors.ensures)
