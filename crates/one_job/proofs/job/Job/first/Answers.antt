use Rattle.std.proofs.Common.{subst}
use Rattle.ready_heap.specs.Heaps.{Holds}
use Rattle.ready_heap.specs.Groups.{HeapsView}
use Rattle.worker_mapping.specs.declared.mapping.Mapping.{Mapping}
use Rattle.one_job.specs.Pick.{IsFirst, IsOffered}
use Rattle.one_job.specs.Ready.{side, AreRanked}
use Rattle.one_job.specs.View.{JobView}
use Rattle.one_job.specs.Invariants.{view_of}
use Rattle.one_job.proofs.Heads.{first_same}
use Rattle.one_job.proofs.Picked.{ranked, in_offered, offered_in}
use Rattle.one_job.proofs.job.Job.first.Goals as goal

pub returns : goal.returns
returns c =
    let i = c.self.inside in
    let j = view_of i in
    let child = c.args.child in
    let found : (mapping : Mapping) → AreRanked mapping (side i.ready child) → IsFirst mapping c.args.worker (Holds (side i.ready child).held) c.first.result =
    subst (λ (h : HeapsView). (mapping : Mapping) → AreRanked mapping h → IsFirst mapping c.args.worker (Holds h.held) c.first.result) c.side.ensures c.first.ensures in
    subst (λ (v : JobView). IsFirst v.compilation.mapping c.args.worker (IsOffered v child) c.first.result) c.self.view_is
    (first_same j.compilation.mapping c.args.worker (Holds (side i.ready child).held) (IsOffered j child) c.first.result
    (in_offered j i.waiting.items i.claimed i.ready c.self.invariant.1 child)
    (offered_in j i.waiting.items i.claimed i.ready c.self.invariant.1 child)
    (found j.compilation.mapping (ranked j i.waiting.items i.claimed i.ready c.self.invariant.1 child c.self.invariant.0.compiled)))
