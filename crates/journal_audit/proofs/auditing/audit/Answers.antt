use Rattle.std.proofs.Common.{◌≡◌, Result, Ok, subst}
use Rattle.std.specs.Prelude.{IfOk}
use Rattle.std.specs.Arc.{arc_value}
use Rattle.pisdf_model.specs.declared.graph.Graphs.{Graphs}
use Rattle.journal_audit.specs.Verdicts.{IsVerdict}
use Rattle.journal_audit.specs.declared.verdict.Verdict.{Verdict}
use Rattle.journal_audit.specs.declared.verdict.Verdict.TheVariants.{Legal, Illegal}
use Rattle.journal_audit.proofs.OneVerdict.{one_verdict}
use Rattle.journal_audit.proofs.Openings.{if_ok}
use Rattle.journal_audit.proofs.auditing.audit.Goals as goal

ok_of : {E : Type 0} (r : Result Verdict E) (P : Verdict → Type 0) (v : Verdict) → IfOk r P → r ≡ Ok v → P v
ok_of {E = E} r P v h is = subst (λ (x : Result Verdict E). IfOk x P) is h

pub returns-clause-legal : goal.returns-clause-legal
returns-clause-legal g c = λ boards entries is.
    let kernels = g.K.Gate.kernels c.args.gate.now in
    let P : Graphs → Verdict → Type 0 = λ graphs. IsVerdict graphs kernels c.args.streams.now c.args.iterations c.args.workers c.args.journal.now in
    ok_of c.judge.result (P (arc_value c.args.graphs.now)) (Legal boards entries) (subst (λ (graphs : Graphs). IfOk c.judge.result (P graphs)) c.deref.ensures c.judge.ensures) is

pub returns-clause-illegal : goal.returns-clause-illegal
returns-clause-illegal g c = λ line is.
    let kernels = g.K.Gate.kernels c.args.gate.now in
    let P : Graphs → Verdict → Type 0 = λ graphs. IsVerdict graphs kernels c.args.streams.now c.args.iterations c.args.workers c.args.journal.now in
    ok_of c.judge.result (P (arc_value c.args.graphs.now)) (Illegal line) (subst (λ (graphs : Graphs). IfOk c.judge.result (P graphs)) c.deref.ensures c.judge.ensures) is

pub returns-clause-only_legal : goal.returns-clause-only_legal
returns-clause-only_legal g c = λ boards entries whole.
    let graphs = arc_value c.args.graphs.now in
    let kernels = g.K.Gate.kernels c.args.gate.now in
    let P : Graphs → Verdict → Type 0 = λ gs. IsVerdict gs kernels c.args.streams.now c.args.iterations c.args.workers c.args.journal.now in
    if_ok c.judge.result (P graphs) (λ v. v ≡ Legal boards entries)
    (λ v is. one_verdict graphs kernels c.args.streams.now c.args.iterations c.args.workers (c.one_meaning.ensures.runs graphs) c.args.journal.now v (Legal boards entries) is whole)
    (subst (λ (gs : Graphs). IfOk c.judge.result (P gs)) c.deref.ensures c.judge.ensures)

pub returns-clause-only_illegal : goal.returns-clause-only_illegal
returns-clause-only_illegal g c = λ line bad.
    let graphs = arc_value c.args.graphs.now in
    let kernels = g.K.Gate.kernels c.args.gate.now in
    let P : Graphs → Verdict → Type 0 = λ gs. IsVerdict gs kernels c.args.streams.now c.args.iterations c.args.workers c.args.journal.now in
    if_ok c.judge.result (P graphs) (λ v. v ≡ Illegal line)
    (λ v is. one_verdict graphs kernels c.args.streams.now c.args.iterations c.args.workers (c.one_meaning.ensures.runs graphs) c.args.journal.now v (Illegal line) is bad)
    (subst (λ (gs : Graphs). IfOk c.judge.result (P gs)) c.deref.ensures c.judge.ensures)
