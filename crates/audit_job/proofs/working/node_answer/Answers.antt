use Rattle.std.proofs.Common.{◌≡◌, ◌≢◌, ◌<◌, ◌^◌, ℕ, ℤ, List, [], length, get_or, sym, ap, ◌∙◌, subst, arith}
use Rattle.job_flow.specs.Frames.{inputs, lens}
use Rattle.job_flow.specs.Graphs.{node_at}
use Rattle.job_rules.specs.Words as words
use Rattle.kernel_gate.specs.Signed.{unnamed}
use Rattle.kernel_gate.specs.Table.{the_value}
use Rattle.kernel_gate.specs.Value.{lengths}
use Rattle.nested_jobs.specs.Rules.{Work}
use Rattle.pisdf_meaning.specs.Kernels.{FitsKernel}
use Rattle.pisdf_meaning.specs.States.{tokens_at}
use Rattle.pisdf_model.specs.declared.actor.Actor.{Actor}
use Rattle.sdf_level.specs.declared.node.Node.{Node}
use Rattle.sdf_level.specs.declared.node.Node.TheVariants as node
use Rattle.single_rate.specs.Nodes.{kind}
use Rattle.special_actors.specs.Fitting.{HasLengths}
use Rattle.audit_job.specs.Flowing.{flow_of, results_of}
use Rattle.audit_job.specs.Marks.{answer_of, answers}
use Rattle.audit_job.proofs.NodeAnswers.{copy_fits, fits_so, kernel_answer}
use Rattle.audit_job.proofs.NodeWork.{IsKernel, actor_there, is_kernel, kernel_is}
use Rattle.audit_job.proofs.Results.{ok_more}
use Rattle.audit_job.proofs.working.node_answer.Goals as goal

pub acting_at-actor_of-requires-clause-there : goal.acting_at-actor_of-requires-clause-there
acting_at-actor_of-requires-clause-there g c =
    let job = c.args.job.now in
    let graphs = c.args.graphs.now in
    let graph = c.args.graph.now in
    let firing = c.args.firing.now in
    let which = node_at (flow_of job).nodes c.args.node in
    let read = inputs (flow_of job) (results_of (flow_of job).nodes job.keeps.items (answers c.args.marks.now)) c.args.node in
    let written = lens (flow_of job) c.args.node in
    let nodes : c.items.result.now ≡ (flow_of job).nodes = cc in
    let is : which ≡ node.Firing c.in-Some.actor c.in-Some.turn = ap (λ (l : List Node). get_or l c.args.node (node.Source 0)) (sym nodes) ∙ c.in-Some.ensures in
    let inside = actor_there graphs graph firing job.values which read written c.in-Some.actor c.in-Some.turn is (Work c.requires.work.0) c.requires.work.1 in
    let long = (c.level_by_actor.ensures.many graphs graph job.values).places in
    let places = ap (λ (l : List ℕ). length l) (c.items-in-Some.ensures ∙ c.requires.set.places) in
    omega arith

pub fired_by-requires-clause-fits : goal.fired_by-requires-clause-fits
fired_by-requires-clause-fits g c = λ kernel exprs ins outs body.
    let job = c.args.job.now in
    let graphs = c.args.graphs.now in
    let graph = c.args.graph.now in
    let firing = c.args.firing.now in
    let which = node_at (flow_of job).nodes c.args.node in
    let read = inputs (flow_of job) (results_of (flow_of job).nodes job.keeps.items (answers c.args.marks.now)) c.args.node in
    let written = lens (flow_of job) c.args.node in
    let nodes : c.items.result.now ≡ (flow_of job).nodes = cc in
    let is : which ≡ node.Firing c.in-Some.actor c.in-Some.turn = ap (λ (l : List Node). get_or l c.args.node (node.Source 0)) (sym nodes) ∙ c.in-Some.ensures in
    let signatures = unnamed (g.K.Gate.kernels c.args.gate.now) in
    let actor = c.acting_at-actor_of.result.now in
    let own : IsKernel actor.body = record { kernel = kernel; exprs = exprs; ins = ins; outs = outs; is = body } in
    subst (λ (r : List (List ℤ)). FitsKernel signatures kernel (length (tokens_at job.set.args c.in-Some.actor)) (length r) (length (get_or job.set.outs c.in-Some.actor [])) 0) (sym c.in_ok-read.ensures)
    (fits_so c.level_by_actor.ensures.each graphs graph firing job.values job.set c.requires.set which read written c.in-Some.actor c.in-Some.turn is actor c.acting_at-actor_of.ensures own signatures c.requires.fits)

pub copy_answer-requires-clause-fit : goal.copy_answer-requires-clause-fit
copy_answer-requires-clause-fit g c =
    let job = c.args.job.now in
    let graphs = c.args.graphs.now in
    let graph = c.args.graph.now in
    let firing = c.args.firing.now in
    let which = node_at (flow_of job).nodes c.args.node in
    let read = inputs (flow_of job) (results_of (flow_of job).nodes job.keeps.items (answers c.args.marks.now)) c.args.node in
    let written = lens (flow_of job) c.args.node in
    let nodes : c.items.result.now ≡ (flow_of job).nodes = cc in
    let same : which ≡ get_or c.items.result.now c.args.node (node.Source 0) = ap (λ (l : List Node). get_or l c.args.node (node.Source 0)) (sym nodes) in
    let other : kind which ≢ 2 = λ e. c.in-None.ensures (ap kind (sym same) ∙ e) in
    let fits = copy_fits graphs graph firing job.values which read written (unnamed (g.K.Gate.kernels c.args.gate.now)) other c.requires.fits in
    subst (λ (x : Node). HasLengths x (lengths c.in_ok-read.read) written) same (subst (λ (r : List (List ℤ)). HasLengths which (lengths r) written) (sym c.in_ok-read.ensures) fits.0)

pub copy_answer-requires-clause-few_inputs : goal.copy_answer-requires-clause-few_inputs
copy_answer-requires-clause-few_inputs g c =
    let job = c.args.job.now in
    let graphs = c.args.graphs.now in
    let graph = c.args.graph.now in
    let firing = c.args.firing.now in
    let which = node_at (flow_of job).nodes c.args.node in
    let read = inputs (flow_of job) (results_of (flow_of job).nodes job.keeps.items (answers c.args.marks.now)) c.args.node in
    let written = lens (flow_of job) c.args.node in
    let nodes : c.items.result.now ≡ (flow_of job).nodes = cc in
    let same : which ≡ get_or c.items.result.now c.args.node (node.Source 0) = ap (λ (l : List Node). get_or l c.args.node (node.Source 0)) (sym nodes) in
    let other : kind which ≢ 2 = λ e. c.in-None.ensures (ap kind (sym same) ∙ e) in
    let fits = copy_fits graphs graph firing job.values which read written (unnamed (g.K.Gate.kernels c.args.gate.now)) other c.requires.fits in
    subst (λ (r : List (List ℤ)). length r < 2 ^ 32) (sym c.in_ok-read.ensures) fits.1

pub copy_answer-requires-clause-few_outputs : goal.copy_answer-requires-clause-few_outputs
copy_answer-requires-clause-few_outputs g c =
    let job = c.args.job.now in
    let graphs = c.args.graphs.now in
    let graph = c.args.graph.now in
    let firing = c.args.firing.now in
    let which = node_at (flow_of job).nodes c.args.node in
    let read = inputs (flow_of job) (results_of (flow_of job).nodes job.keeps.items (answers c.args.marks.now)) c.args.node in
    let written = lens (flow_of job) c.args.node in
    let nodes : c.items.result.now ≡ (flow_of job).nodes = cc in
    let same : which ≡ get_or c.items.result.now c.args.node (node.Source 0) = ap (λ (l : List Node). get_or l c.args.node (node.Source 0)) (sym nodes) in
    let other : kind which ≢ 2 = λ e. c.in-None.ensures (ap kind (sym same) ∙ e) in
    (copy_fits graphs graph firing job.values which read written (unnamed (g.K.Gate.kernels c.args.gate.now)) other c.requires.fits).2

pub returns-in-Some : goal.returns-in-Some
returns-in-Some g c =
    let job = c.args.job.now in
    let graphs = c.args.graphs.now in
    let graph = c.args.graph.now in
    let firing = c.args.firing.now in
    let which = node_at (flow_of job).nodes c.args.node in
    let read = inputs (flow_of job) (results_of (flow_of job).nodes job.keeps.items (answers c.args.marks.now)) c.args.node in
    let written = lens (flow_of job) c.args.node in
    let nodes : c.items.result.now ≡ (flow_of job).nodes = cc in
    let is : which ≡ node.Firing c.in-Some.actor c.in-Some.turn = ap (λ (l : List Node). get_or l c.args.node (node.Source 0)) (sym nodes) ∙ c.in-Some.ensures in
    let actor : Actor = c.acting_at-actor_of.result.now in
    let there = c.acting_at-actor_of.ensures in
    let a = c.in-Some.actor in
    let kernel = kernel_is actor.body (is_kernel graphs graph firing job.values which read written a c.in-Some.turn is actor there c.requires.work.0 c.requires.work.1) in
    let spot : words.Spot = record { path = firing.path; name = actor.name; turn = c.in-Some.turn } in
    ok_more _ _ c.fired_by.result
    (λ x e. kernel_answer c.level_by_actor.ensures.each graphs graph firing job.values job.set c.requires.set which read written a c.in-Some.turn is actor there kernel (answer_of x)
    (e ∙ (λ i. words.fired spot (the_value kernel.kernel (tokens_at job.set.args a) (c.in_ok-read.ensures i) (get_or job.set.outs a []) 0))))
    (c.fired_by.ensures kernel.kernel kernel.exprs kernel.ins kernel.outs kernel.is)
