use Rattle.std.proofs.Common.{◌≡◌, length, ◌∙◌, arith}
use Rattle.sdf_level.specs.Lists.{lists_of}
use Rattle.level_lines.proofs.AtPorts.{inputs_read}
use Rattle.level_lines.proofs.reading.read.Goals as goal

pub returns : goal.returns
returns c =
    let end : c.loop-port.port ≡ length c.links_into-into.result.now = let f = c.loop-port-test.false in let e = c.loop-port.auto.port-end in omega arith in
    c.new.ensures ∙ c.loop-port.invariant
    ∙ inputs_read c.args.sources.now c.args.actor c.args.turn c.loop-port.port c.args.level.now.links (lists_of c.args.lines.now) c.links_into-into.result.now
    (c.links_into-into.ensures ∙ c.requires.ports.into c.args.actor c.requires.actor) end
