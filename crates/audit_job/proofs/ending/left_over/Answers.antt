use Rattle.std.proofs.Common.{◌≡◌, ◌<◌, ℕ, length, get_or, [], ap, ◌∙◌, arith}
use Rattle.std.proofs.lemmas.List.{get_or_read}
use Rattle.job_flow.specs.Frames.{given}
use Rattle.single_rate.specs.Expanded.{place_of}
use Rattle.sdf_level.specs.declared.node.Node.TheVariants as node
use Rattle.audit_job.proofs.Sinking.{one_more_left_over}
use Rattle.audit_job.specs.Flowing.{results_of}
use Rattle.audit_job.specs.Marks.{answers}
use Rattle.audit_job.proofs.ending.left_over.Goals as goal

pub loop-link-preserved : goal.loop-link-preserved
loop-link-preserved c =
    let v = results_of c.args.nodes.now c.args.keeps.now (answers c.args.marks.now) in
    let many = c.in_ok-places.ensures.many in
    let inside : c.loop-link.link < length c.in_ok-places.places.items = omega arith in
    let at : c.index.result.now ≡ place_of c.args.nodes.now (node.End c.loop-link.link) = get_or_read c.in_ok-places.places.items c.loop-link.link c.index.result.now inside c.index.ensures 0 ∙ c.in_ok-places.ensures.each c.loop-link.link c.loop-link-test.true in
    one_more_left_over c.args.nodes.now v c.args.links.now c.loop-link.link c.loop-link.left.items c.in_ok-put_out.field-0 c.push.new.self.items c.loop-link-test.true (c.in_ok-put_out.ensures ∙ ap (λ (p : ℕ). get_or (given (v p)) 0 []) at) c.in_ok-push.ensures.items c.loop-link.invariant
