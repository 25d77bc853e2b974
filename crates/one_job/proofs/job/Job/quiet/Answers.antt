use Rattle.std.proofs.Common.{◌≡◌, sym, ap, subst}
use Rattle.job_flow.specs.Events.{IsQuiet}
use Rattle.one_job.specs.Marks.{values}
use Rattle.one_job.specs.View.{JobView, graph_of}
use Rattle.one_job.specs.Invariants.{view_of, parts_of}
use Rattle.one_job.proofs.JobEnds.{ready_of}
use Rattle.one_job.proofs.ReadySteps.{quiet_of, of_quiet}
use Rattle.one_job.proofs.job.Job.quiet.Goals as goal

pub returns : goal.returns
returns c =
    let i = c.self.inside in
    let j = view_of i in
    let keeps = c.self.invariant.0 in
    let before = ready_of j (parts_of i) i.pool i.outs.items i.left.items keeps in
    let quiet_is : IsQuiet (graph_of j) (values j.marks) ≡ IsQuiet (graph_of c.args.self.now) (values c.args.self.now.marks) = ap (λ (v : JobView). IsQuiet (graph_of v) (values v.marks)) c.self.view_is in (
      λ is. let both = c.is_quiet.ensures.0 is in subst (λ (t : Type 0). t) quiet_is (quiet_of j keeps.one_each before i.waiting.items i.claimed i.ready c.self.invariant.1 both.0 both.1),
      λ quiet. c.is_quiet.ensures.1 (of_quiet j keeps.one_each before i.waiting.items i.claimed i.ready c.self.invariant.1 (subst (λ (t : Type 0). t) (sym quiet_is) quiet)),
    )
