use Rattle.std.proofs.Common.{◌<◌, ◌^◌, arith}
use Rattle.kernel_gate.specs.Signed.{unnamed}
use Rattle.journal_laws.specs.Texts.{MayRun}
use Rattle.journal_laws.proofs.Onward.{RunGiven}
use Rattle.journal_audit.proofs.Judged.{JudgeLaws, fits, judged}
use Rattle.journal_audit.proofs.auditing.judge.Goals as goal

pub read_text-requires-clause-run : goal.read_text-requires-clause-run
read_text-requires-clause-run g c =
    let small : c.args.iterations < 2 ^ 32 = omega arith in
    record { valid = c.requires.valid; lengths = c.signatures-signatures.ensures.lengths; fit = c.requires.fit; some = c.requires.some; few = c.requires.few; small = small }

pub verdict_on-requires : goal.verdict_on-requires
verdict_on-requires g c = fits c.args.graphs.now _ c.args.streams.now c.args.iterations c.args.workers c.args.journal.now c.read_text.new.reading c.in_ok-next.next c.in_ok-next.ensures

pub returns : goal.returns
returns g c =
    let graphs = c.args.graphs.now in
    let kernels = g.K.Gate.kernels c.args.gate.now in
    let small : c.args.iterations < 2 ^ 32 = omega arith in
    let may : MayRun graphs kernels c.args.streams.now c.args.iterations c.args.workers = record { valid = c.requires.valid; lengths = c.signatures-signatures.ensures.lengths; fit = c.requires.fit; some = c.requires.some; few = c.requires.few; small = small } in
    let can = c.runnable.ensures (unnamed kernels) graphs c.requires.valid in
    let given : RunGiven graphs kernels c.args.streams.now c.args.iterations c.args.workers = record {
      may = may;
      ends = c.legal_journals_end.ensures;
      meant = c.meanings_exist.ensures.firings graphs c.requires.valid.valid;
      keeps = c.sizes_kept.ensures (unnamed kernels) graphs c.requires.valid.valid can.fit c.signatures-signatures.ensures.lengths;
    } in
    let laws : JudgeLaws = record {
      lines_are = c.entries_are_lines.ensures;
      plain = c.paths_are_plain.ensures;
      go_on = c.texts_go_on.ensures;
      one = c.texts_are_one.ensures.steps;
      ends = c.texts_are_one.ensures.whole;
      boards = c.board_laws.ensures;
    } in
    judged graphs kernels c.args.streams.now c.args.iterations c.args.workers given laws c.args.journal.now c.read_text.new.reading c.in_ok-next.next c.in_ok-next.ensures c.verdict_on.result
    record { legal = c.verdict_on.ensures.legal; longer = c.verdict_on.ensures.longer; bad = c.verdict_on.ensures.bad }
