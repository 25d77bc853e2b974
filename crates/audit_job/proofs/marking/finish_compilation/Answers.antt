use Rattle.std.proofs.Common.{◌≡◌, ◌<◌, ◌≤◌, List, length, get_or, take, sym, ◌∙◌, subst, arith}
use Rattle.job_rules.specs.Items.{left_from}
use Rattle.audit_job.specs.Giving.{HasGiven}
use Rattle.audit_job.specs.Marking.{TakesEnd}
use Rattle.audit_job.specs.Marks.{answers}
use Rattle.audit_job.specs.declared.answer.Mark.{Mark}
use Rattle.audit_job.specs.declared.answer.Mark.TheVariants as stands
use Rattle.audit_job.proofs.CompiledEnd.{finished, have_given, left_read}
use Rattle.audit_job.proofs.ConfigItems.{graph_here}
use Rattle.audit_job.proofs.Results.{on_ok}
use Rattle.audit_job.proofs.marking.finish_compilation.Goals as goal

pub all_left-requires-clause-given : goal.all_left-requires-clause-given
all_left-requires-clause-given c = λ i below.
    let job = c.args.job.now in
    let inside : i < length job.places.items = omega (arith, job.places.ok.0) in
    subst (λ (l : List Mark). HasGiven (get_or l i stands.Free)) (sym c.deref.ensures.value)
    (have_given c.args.graphs.now.graphs c.args.workers job c.requires.is c.requires.work.0 c.requires.work.1 i inside)

pub compile-requires-clause-here : goal.compile-requires-clause-here
compile-requires-clause-here c = graph_here c.args.graphs.now.graphs c.args.job.now.firing c.requires.is.fit

pub returns : goal.returns
returns c =
    let job = c.args.job.now in
    let graphs = c.args.graphs.now.graphs in
    let many : c.len.result ≡ length job.places.items = omega (arith, job.places.ok.0) in
    let read = left_read graphs c.args.workers job c.requires.is c.requires.work.0 c.requires.work.1 c.in_ok-left.left.items (λ cs enough.
    let room : c.len.result ≤ length cs = omega arith in
    (λ i. left_from (answers (sym c.deref.ensures.value i)) 0 (take (sym many i) cs)) ∙ c.in_ok-left.ensures cs room) in
    on_ok c.take_end.result
    (λ (takes : TakesEnd c.in_ok-end.end job c.take_end.new.job). finished graphs c.args.workers job c.requires.is c.requires.work.0 c.requires.work.1 c.requires.busy c.in_ok-left.left.items read c.in_ok-end.end c.in_ok-end.ensures c.take_end.new.job takes)
    c.take_end.ensures
