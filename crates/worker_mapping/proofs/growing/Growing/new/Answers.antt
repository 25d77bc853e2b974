use Rattle.std.proofs.Common.{arith}
use Rattle.std.proofs.lemmas.List.Elements.{Contains-get_or}
use Rattle.worker_mapping.specs.Growing.{Begins}
use Rattle.worker_mapping.proofs.Stepping.{Schedules-begun}
use Rattle.worker_mapping.proofs.growing.Growing.new.Goals as goal

pub queue-requires : goal.queue-requires
queue-requires c = λ k d below.
    let begins : Begins c.args.work.now c.in_ok-growing.growing = c.in_ok-growing.ensures in
    let there = ((begins.candidates _).0 (Contains-get_or c.in_ok-growing.growing.candidates.items k d below)).0 in
    let counted = begins.waiting.one_each in
    let long = begins.ready_long in
    rw c.deref.ensures.value (omega arith)

pub returns : goal.returns
returns c =
    let begins : Begins c.args.work.now c.in_ok-growing.growing = c.in_ok-growing.ensures in
    record {
      so_far = Schedules-begun c.args.work.now c.in_ok-growing.growing c.queue.new.later.keys begins (rw (c.deref.ensures.value, begins.later) at c.in_ok-queue.ensures.queued);
      none = c.in_ok-queue.ensures.emptied;
    }
