use Rattle.std.proofs.Common.{◌<◌, arith}
use Rattle.std.proofs.lemmas.Option.{slice_get_within}
use Rattle.kernel_gate.specs.Signed.{unnamed}
use Rattle.kernel_gate.specs.Table.{the_signatures}
use Rattle.kernel_library.proofs.LibraryGate.fire.Goals as goal

pub unreachable-requires : goal.unreachable-requires
unreachable-requires c =
    let in_table : c.args.frame.now.kind < 26 = slice_get_within (unnamed the_signatures) c.args.frame.now.kind c.requires.0 c.requires.1 in
    let d = c.in_default in
    omega arith
