use Rattle.std.proofs.Common.{length, sym, ap, ◌∙◌, arith}
use Rattle.quiescent_driver.specs.Top.{top_of}
use Rattle.journal_audit.proofs.Iterations.{none_to_run, refused_early, top_here}
use Rattle.journal_audit.proofs.auditing.read_text.Goals as goal

pub returns-then-iterations-eq0 : goal.returns-then-iterations-eq0
returns-then-iterations-eq0 g c =
    none_to_run c.args.graphs.now (g.K.Gate.kernels c.args.gate.now) c.args.streams.now c.args.iterations c.args.workers c.args.journal.now c.if-iterations-eq0.true c.args.reading.now c.requires.none

pub returns-in-Err-Refused : goal.returns-in-Err-Refused
returns-in-Err-Refused g c =
    let graphs = c.args.graphs.now in
    let here = top_here graphs c.requires.run.valid in
    let some = c.if-iterations-eq0.false in
    let refused = rw c.in-Err-Refused.field-0-is at c.in-Err-Refused.ensures.refused in
    refused_early graphs (g.K.Gate.kernels c.args.gate.now) c.args.streams.now c.args.iterations c.args.workers c.args.journal.now (omega (arith, some)) (top_of graphs) here _ (λ lack. refused (top_of graphs) lack here) c.args.reading.now
    c.requires.none

pub read_all-requires-clause-fit : goal.read_all-requires-clause-fit
read_all-requires-clause-fit g c =
    ap length c.items.ensures ∙ (c.in-Ok.ensures.fit (top_of c.args.graphs.now) (top_here c.args.graphs.now c.requires.run.valid) ∙ sym c.requires.run.fit)
