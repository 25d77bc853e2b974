use Rattle.std.proofs.Common.{◌≡◌, ◌++◌, drop, map}
use Rattle.pisdf_model.specs.Wires.{port_text}
use Rattle.job_report.proofs.names.push_ports.Given as goal

-- the names so far, and those of the ports that are left, are all
abbrev pub invariant-loop-port : goal.invariant-loop-port
invariant-loop-port g l =
    let named = g.T.Named.named in
    l.names.items ++ map (port_text l.actor) (map named (drop l.port-index l.ports)) ≡ l.fn.names.items ++ map (port_text l.actor) (map named l.ports)
