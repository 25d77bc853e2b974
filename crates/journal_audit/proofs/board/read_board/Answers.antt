use Rattle.std.proofs.Common.{◌≡◌, [], refl}
use Rattle.kernel_gate.specs.Signed.{unnamed}
use Rattle.board_rules.specs.Keys.{Key}
use Rattle.quiescent_driver.specs.Given.{key_with}
use Rattle.journal_audit.specs.Replays.{HasReadBoard, Replays}
use Rattle.journal_audit.specs.declared.board.Read.{Read}
use Rattle.journal_audit.proofs.Openings.{if_ok}
use Rattle.journal_audit.proofs.Starting.{is_top}
use Rattle.journal_audit.proofs.board.read_board.Goals as goal

pub start-requires : goal.start-requires
start-requires g c =
    let graphs = c.args.graphs.now in
    let kernels = g.K.Gate.kernels c.args.gate.now in
    let can = c.runnable.ensures (unnamed kernels) graphs c.requires.valid in (
      key_with graphs kernels c.args.delays.now.lists c.args.ins.now c.args.workers,
      is_top graphs kernels c.args.delays.now.lists c.args.ins.now c.args.workers c.requires can c.items.result.now c.items.ensures c.index-items-graphs.result c.index-items-graphs.is c.in_ok-firing.firing c.in_ok-firing.ensures,
    )

pub read_lines-requires : goal.read_lines-requires
read_lines-requires g c =
    let graphs = c.args.graphs.now in
    let kernels = g.K.Gate.kernels c.args.gate.now in
    let can = c.runnable.ensures (unnamed kernels) graphs c.requires.valid in
    let key : Key = key_with graphs kernels c.args.delays.now.lists c.args.ins.now c.args.workers in
    let top = is_top graphs kernels c.args.delays.now.lists c.args.ins.now c.args.workers c.requires can c.items.result.now c.items.ensures c.index-items-graphs.result c.index-items-graphs.is c.in_ok-firing.firing c.in_ok-firing.ensures in
    (key, c.in_ok-replay.ensures key top, refl)

pub returns : goal.returns
returns g c =
    let graphs = c.args.graphs.now in
    let kernels = g.K.Gate.kernels c.args.gate.now in
    let can = c.runnable.ensures (unnamed kernels) graphs c.requires.valid in
    let key : Key = key_with graphs kernels c.args.delays.now.lists c.args.ins.now c.args.workers in
    let top = is_top graphs kernels c.args.delays.now.lists c.args.ins.now c.args.workers c.requires can c.items.result.now c.items.ensures c.index-items-graphs.result c.index-items-graphs.is c.in_ok-firing.firing c.in_ok-firing.ensures in
    if_ok c.read_lines.result
    (λ (read : Read). (k : Key) → Replays graphs k [] c.in_ok-replay.replay → k.signatures ≡ unnamed kernels → HasReadBoard graphs k c.args.number c.args.text.now read)
    (HasReadBoard graphs key c.args.number c.args.text.now)
    (λ read h. h key (c.in_ok-replay.ensures key top) refl)
    c.read_lines.ensures
