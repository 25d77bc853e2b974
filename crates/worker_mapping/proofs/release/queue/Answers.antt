use Rattle.std.proofs.Common.{◌≡◌, ◌<◌, [], ℕ, length, arith}
use Rattle.std.proofs.lemmas.List.{nil_from_length}
use Rattle.std.proofs.lemmas.List.Elements.{All-contains, Contains-push}
use Rattle.worker_mapping.proofs.Opening.{QueuedSoFar-more, all_queued}
use Rattle.worker_mapping.proofs.release.queue.Goals as goal

pub bounds-ready-node : goal.bounds-ready-node
bounds-ready-node c =
    All-contains (λ (n : ℕ). n < length c.args.ready.now) c.args.candidates.now.items c.in-Some.node c.requires
    (c.loop-node.invariant.left c.in-Some.node (rw c.in-Some.ensures.items (Contains-push c.pop.new.self.items c.in-Some.node)))

pub loop-node-preserved : goal.loop-node-preserved
loop-node-preserved c =
    rw c.in_ok-insert.ensures.keys (QueuedSoFar-more c.args.candidates.now.items c.loop-node.candidates.items c.pop.new.self.items c.args.ready.now c.args.later.now.keys c.loop-node.later.keys c.in-Some.node c.loop-node.invariant c.in-Some.ensures.items)

pub returns-clause-queued : goal.returns-clause-queued
returns-clause-queued c =
    let none : c.loop-node.candidates.items ≡ [] = nil_from_length c.loop-node.candidates.items (let cases = c.in_default.ensures.cases in let long = c.loop-node.candidates.ok.0 in omega arith) in
    all_queued c.args.candidates.now.items c.loop-node.candidates.items c.args.ready.now c.args.later.now.keys c.loop-node.later.keys none c.loop-node.invariant
