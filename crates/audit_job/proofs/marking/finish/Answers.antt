use Rattle.std.proofs.Common.{◌≡◌, ◌≢◌, length, arith}
use Rattle.audit_job.proofs.Unscheduled.{unscheduled}
use Rattle.audit_job.specs.Marks.{answer_of}
use Rattle.audit_job.proofs.marking.finish.Goals as goal

pub store-requires-clause-unscheduled : goal.store-requires-clause-unscheduled
store-requires-clause-unscheduled g c =
    let job = c.args.job.now in
    let other : c.args.item ≢ length job.places.items = λ same. let e : c.args.item ≡ c.len.result = omega (arith, job.places.ok.0) in c.if-item-len.false e in
    unscheduled c.args.graphs.now.graphs c.args.workers job c.requires.is c.args.item other (answer_of c.in_ok-given.given) c.in_ok-given.ensures

pub returns-in_ok-given : goal.returns-in_ok-given
returns-in_ok-given g c =
    let marks = c.store.ensures in
    record {
      answer = answer_of c.in_ok-given.given;
      answered = c.in_ok-given.ensures;
      firing_is = marks.firing_is;
      marked = marks.marked;
      is_job = marks.is_job c.args.graphs.now.graphs c.args.workers c.requires.is;
    }
