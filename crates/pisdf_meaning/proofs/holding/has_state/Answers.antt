use Rattle.pisdf_meaning.proofs.HeldTokens.{state_told}
use Rattle.pisdf_meaning.proofs.holding.has_state.Goals as goal

pub returns-in-Child : goal.returns-in-Child
returns-in-Child c = λ graphs told. state_told graphs c.args.holds.now c.args.actor.now c.in-Child.graph c.in-Child.args c.holds_tokens.result c.in-Child.is told c.holds_tokens.ensures
