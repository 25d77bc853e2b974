use Rattle.std.proofs.Common.{ℤ, List, Vec, Global, ap, sym, ◌∙◌, arith}
use Rattle.std.specs.declared.collections.VecDeque.{VecDeque}
use Rattle.pisdf_meaning.proofs.GivenParts.{configuration_state, link_state, no_state}
use Rattle.pisdf_meaning.proofs.HeldTokens.{told_at}
use Rattle.pisdf_meaning.proofs.giving.push_actor_states.Goals as goal
use Rattle.pisdf_meaning.proofs.giving.push_actor_states.Goals.{then-is_configuration+in_ok-copy_tokens+in_ok-push, else-is_configuration+then-has_state+in_ok-push-2, else-is_configuration+else-has_state+in_ok-push-3}

pub loop-actor-preserved : goal.loop-actor-preserved
loop-actor-preserved c =
    let i = c.loop-actor.actor-index in
    let x = c.actor-item.result in
    let items = λ (v : Vec (List ℤ) Global). v.items in
    let queued = λ (v : VecDeque (List ℤ) Global). v.items in
    elim c.if-is_configuration.branch [
      | then-is_configuration+in_ok-copy_tokens+in_ok-push w ↦ record {
        few = let n = w.number-is in let few = c.loop-actor.invariant.few in omega arith;
        state = λ graphs told. configuration_state c.args.actors.now i x c.loop-actor-test.true c.actor-item.is graphs c.args.configured.now c.loop-actor.number c.loop-actor.left.items c.loop-actor.state.items c.if-is_configuration.state.items _ w.in_ok-copy_tokens.field-0
            (c.loop-actor.invariant.state graphs told) (ap items w.state-is ∙ w.in_ok-push.ensures.items) (sym c.is_configuration.ensures ∙ w.if-is_configuration.true) (w.in_ok-copy_tokens.ensures ∙ w.state_left.ensures)
            c.if-is_configuration.number w.number-is c.if-is_configuration.left.items (ap queued w.left-is);
      }
      | else-is_configuration+then-has_state+in_ok-push-2 w ↦ record {
        few = let n = w.number-is in let few = c.loop-actor.invariant.few in omega arith;
        state = λ graphs told. link_state c.args.actors.now i x c.loop-actor-test.true c.actor-item.is graphs c.args.configured.now c.loop-actor.number c.loop-actor.left.items c.loop-actor.state.items c.if-is_configuration.state.items _ w.next_list.result
            (c.loop-actor.invariant.state graphs told) (ap items w.state-is ∙ w.in_ok-push-2.ensures.items) (sym c.is_configuration.ensures ∙ w.if-is_configuration.false) (sym (w.has_state.ensures graphs (told_at graphs c.args.holds.now c.args.actors.now i x told c.loop-actor-test.true c.actor-item.is)) ∙ w.if-has_state.true) w.next_list.ensures.taken
            c.if-is_configuration.number w.number-is c.if-is_configuration.left.items (ap queued w.left-is ∙ w.next_list.ensures.rest);
      }
      | else-is_configuration+else-has_state+in_ok-push-3 w ↦ record {
        few = let n = w.number-is in let few = c.loop-actor.invariant.few in omega arith;
        state = λ graphs told. no_state c.args.actors.now i x c.loop-actor-test.true c.actor-item.is graphs c.args.configured.now c.loop-actor.number c.loop-actor.left.items c.loop-actor.state.items c.if-is_configuration.state.items _ w.new-else-has_state.result
            (c.loop-actor.invariant.state graphs told) (ap items w.state-is ∙ w.in_ok-push-3.ensures.items) (sym c.is_configuration.ensures ∙ w.if-is_configuration.false) (sym (w.has_state.ensures graphs (told_at graphs c.args.holds.now c.args.actors.now i x told c.loop-actor-test.true c.actor-item.is)) ∙ w.if-has_state.false) (w.new-else-has_state.ensures ∙ w.new.ensures.items)
            c.if-is_configuration.number w.number-is c.if-is_configuration.left.items (ap queued w.left-is);
      }
    ]
