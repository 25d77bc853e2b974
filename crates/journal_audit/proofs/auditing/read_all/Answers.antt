use Rattle.std.proofs.Common.{◌≡◌, ◌+◌, arith, subst}
use Rattle.journal_audit.specs.Reading.{HasReadTo}
use Rattle.journal_audit.specs.declared.auditing.Next.{Next}
use Rattle.journal_audit.proofs.Iterations.{begins, ends_at}
use Rattle.journal_audit.proofs.auditing.read_all.Goals as goal

pub loop-number-init : goal.loop-number-init
loop-number-init g c =
    begins c.args.graphs.now (g.K.Gate.kernels c.args.gate.now) c.args.streams.now.tokens.now c.args.iterations c.args.workers c.args.journal.now c.in_ok-delays.delays.lists c.in_ok-delays.ensures c.args.reading.now c.requires.none

pub returns-in-Nothing : goal.returns-in-Nothing
returns-in-Nothing g c =
    subst (λ (next : Next). HasReadTo c.args.graphs.now (g.K.Gate.kernels c.args.gate.now) c.args.streams.now.tokens.now c.args.iterations c.args.workers c.args.journal.now (c.loop-number.number + 1) c.read_iteration.new.delays.lists
    c.read_iteration.new.reading next) c.in-Nothing.is (c.in_ok-next.ensures c.args.iterations c.loop-number-test.true c.requires.run)

pub returns-in-Bad : goal.returns-in-Bad
returns-in-Bad g c =
    subst (λ (next : Next). HasReadTo c.args.graphs.now (g.K.Gate.kernels c.args.gate.now) c.args.streams.now.tokens.now c.args.iterations c.args.workers c.args.journal.now (c.loop-number.number + 1) c.read_iteration.new.delays.lists
    c.read_iteration.new.reading next) c.in-Bad.is (c.in_ok-next.ensures c.args.iterations c.loop-number-test.true c.requires.run)

pub returns : goal.returns
returns g c =
    let all : c.loop-number.number ≡ c.args.iterations = omega (arith, c.loop-number-test.false, c.loop-number.auto.number-end) in
    ends_at c.args.graphs.now (g.K.Gate.kernels c.args.gate.now) c.args.streams.now.tokens.now c.args.iterations c.args.workers c.args.journal.now c.loop-number.number all c.loop-number.delays.lists c.loop-number.reading c.loop-number.invariant
