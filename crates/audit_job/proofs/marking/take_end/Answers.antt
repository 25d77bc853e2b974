use Rattle.std.proofs.Common.{◌≡◌, ℕ, ◌+◌, ◌++◌, List, length, set, refl, sym, ap, ◌∙◌, subst, arith}
use Rattle.std.specs.Prelude.{replicate, slice_index}
use Rattle.audit_job.specs.Answering.{IsMarked}
use Rattle.audit_job.specs.Candidates.{Adds, waits_in}
use Rattle.audit_job.specs.Marking.{nodes_by}
use Rattle.audit_job.specs.Marks.{mark_at, mark_of}
use Rattle.audit_job.specs.declared.answer.Mark.{Mark}
use Rattle.audit_job.specs.declared.answer.Mark.TheVariants as stands
use Rattle.audit_job.proofs.OpenedJob.{long_more, marked_more, running_less}
use Rattle.audit_job.proofs.marking.take_end.Goals as goal

pub returns : goal.returns
returns c =
    let job = c.args.job.now in
    let marks = job.marks.items in
    let base = length job.places.items in
    let n = nodes_by c.args.end.nodes in
    let m : Mark = stands.Done c.args.end.answer in
    let waits = waits_in c.args.end.nodes in
    let counted : c.len-base.result ≡ length job.places.items = omega (arith, job.places.ok.0) in
    let pushed : c.push_nodes.new.marks.items ≡ marks ++ replicate n stands.Free = c.in_ok-push_nodes.ensures in
    let same : set (marks ++ replicate n stands.Free) base m ≡ set c.push_nodes.new.marks.items c.len-base.result m = (λ i. set (sym pushed i) (sym counted i) m) in
    record {
      firing_is = refl;
      early_is = refl;
      places_are = refl;
      nodes_are = refl;
      long = ap (λ (l : List Mark). length l) (sym same) ∙ long_more marks n base m c.requires.there;
      marked = subst (λ (l : List Mark). IsMarked base (mark_of m) (mark_at marks) (mark_at l)) same (marked_more marks n base m c.requires.there);
      added = subst (λ (k : ℕ). Adds (k + 1) (length waits) (λ i. slice_index waits i ≡ 0) job.candidates c.add_nodes.new.candidates) counted c.in_ok-add_nodes.ensures.added;
      room = c.in_ok-add_nodes.ensures.room;
      counted = running_less marks n base c.args.end.answer (set c.push_nodes.new.marks.items c.len-base.result m) (sym same) c.requires.there;
      running_is = c.saturating_sub-job.ensures;
    }
