use Rattle.std.proofs.Common.{[]}
use Rattle.worker_crew.proofs.Advancing.{asked_on, may_later, waited_worked, worked_idle_at}
use Rattle.worker_crew.proofs.Holding.{held_added, held_found, held_leaves, no_change}
use Rattle.worker_crew.proofs.asking.ask.Goals as goal

pub claim_held-requires-clause-leave : goal.claim_held-requires-clause-leave
claim_held-requires-clause-leave g c =
    let p = c.args.pass.known in
    let x = c.enter.result.state.value in
    held_leaves p x x [] c.enter.ensures.finds (no_change x p.number) c.enter.result.turn.known c.enter.result.turn.found c.enter.ensures.known c.enter.ensures.found

pub claim_held-requires-clause-found : goal.claim_held-requires-clause-found
claim_held-requires-clause-found g c =
    let p = c.args.pass.known in
    let x = c.enter.result.state.value in
    held_found p x x [] c.enter.ensures.finds (no_change x p.number) c.enter.result.turn.known c.enter.result.turn.found c.enter.ensures.known c.enter.ensures.found

pub claim_held-requires-clause-may : goal.claim_held-requires-clause-may
claim_held-requires-clause-may g c =
    let p = c.args.pass.known in
    let x = c.enter.result.state.value in
    let added = held_added p x x [] c.enter.ensures.finds (no_change x p.number) c.enter.result.turn.known c.enter.result.turn.found c.enter.ensures.known c.enter.ensures.found in
    (c.requires.may.0, may_later c.requires.may.0 p _ added.later c.requires.may.1)

pub claim_held-requires-clause-idle : goal.claim_held-requires-clause-idle
claim_held-requires-clause-idle g c =
    let p = c.args.pass.known in
    let x = c.enter.result.state.value in
    let added = held_added p x x [] c.enter.ensures.finds (no_change x p.number) c.enter.result.turn.known c.enter.result.turn.found c.enter.ensures.known c.enter.ensures.found in
    worked_idle_at p _ 0 c.requires.may.1.some (waited_worked p _ added) c.requires.idle

pub returns-clause-asked : goal.returns-clause-asked
returns-clause-asked g c =
    let p = c.args.pass.known in
    let x = c.enter.result.state.value in
    let added = held_added p x x [] c.enter.ensures.finds (no_change x p.number) c.enter.result.turn.known c.enter.result.turn.found c.enter.ensures.known c.enter.ensures.found in
    asked_on p _ _ _ (waited_worked p _ added) c.claim_held.ensures.asked
