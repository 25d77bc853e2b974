use Rattle.std.proofs.Common.{◌≡◌, ℕ, ◌+◌, ◌<◌, List, length, drop, get_or, sym, ap, ◌∙◌, subst, arith}
use Rattle.std.specs.Prelude.{Option, Some, None}
use Rattle.std.proofs.lemmas.List.{drop_more}
use Rattle.sdf_level.specs.declared.single_rate.Edge.{Edge}
use Rattle.one_job.specs.Ready.{is_child_at, heads_at, heads_in, Releases}
use Rattle.job_compiler.proofs.RowStarts.{port_is}
use Rattle.one_job.proofs.Releasing.{releases_same, releases_step, not_in, waits_one}
use Rattle.one_job.proofs.ready.release.Goals as goal
use Rattle.one_job.proofs.ready.release.Goals.{in-Some, in_default}

-- the heads of the ports from one on
heads_from : (edges : List Edge) (ports : List (Option ℕ)) (i : ℕ) (port : Option ℕ) → i < length ports → get_or ports i None ≡ port → (n : ℕ) → heads_in edges (drop i ports) n ≡ heads_at edges port n + heads_in edges (drop (i + 1) ports) n
heads_from edges ports i port inside at n = ap (λ rest. heads_in edges rest n) (drop_more ports i None inside) ∙ ap (λ p. heads_at edges p n + heads_in edges (drop (i + 1) ports) n) at

pub release_one-requires-clause-waits : goal.release_one-requires-clause-waits
release_one-requires-clause-waits c =
    let child = is_child_at c.args.nodes.now c.args.kinds.now in
    let edges = c.args.edges.now in
    let ports = c.args.ports.now in
    let i = c.loop-port.port-index in
    let found = port_is ports i c.port-item.result c.loop-port-test.true c.port-item.is ∙ (sym c.edge.ensures ∙ c.in-Some.is) in
    waits_one child edges ports (drop i ports) (drop (i + 1) ports) c.in-Some.edge c.args.waiting.now c.loop-port.waiting c.args.ready.now c.loop-port.ready c.loop-port.invariant c.requires.can
    (heads_from edges ports i (Some c.in-Some.edge) c.loop-port-test.true found) (c.requires.can.heads i c.in-Some.edge found)

pub release_one-requires-clause-out : goal.release_one-requires-clause-out
release_one-requires-clause-out c =
    let child = is_child_at c.args.nodes.now c.args.kinds.now in
    let edges = c.args.edges.now in
    let ports = c.args.ports.now in
    let i = c.loop-port.port-index in
    let found = port_is ports i c.port-item.result c.loop-port-test.true c.port-item.is ∙ (sym c.edge.ensures ∙ c.in-Some.is) in
    not_in child edges ports (drop i ports) (drop (i + 1) ports) c.in-Some.edge c.args.waiting.now c.loop-port.waiting c.args.ready.now c.loop-port.ready c.loop-port.invariant c.requires.can
    (heads_from edges ports i (Some c.in-Some.edge) c.loop-port-test.true found) (c.requires.can.heads i c.in-Some.edge found)

pub loop-port-preserved : goal.loop-port-preserved
loop-port-preserved c =
    let child = is_child_at c.args.nodes.now c.args.kinds.now in
    let edges = c.args.edges.now in
    let ports = c.args.ports.now in
    let i = c.loop-port.port-index in
    let found = port_is ports i c.port-item.result c.loop-port-test.true c.port-item.is ∙ sym c.edge.ensures in
    elim c.match-edge.branch [
      | in-Some w ↦
          subst (λ (t : Type 0). t) (λ t. Releases child edges ports (drop (i + 1) ports) c.args.waiting.now (sym (w.waiting-is ∙ w.release_one.ensures.waiting) t) c.args.ready.now (sym (w.ready-is ∙ w.release_one.ensures.ready) t))
          (releases_step child edges ports (drop i ports) (drop (i + 1) ports) w.in-Some.edge c.args.waiting.now c.loop-port.waiting c.args.ready.now c.loop-port.ready c.loop-port.invariant c.requires.can
          (heads_from edges ports i (Some w.in-Some.edge) c.loop-port-test.true (found ∙ w.in-Some.is)) (c.requires.can.heads i w.in-Some.edge (found ∙ w.in-Some.is)))
      | in_default w ↦
          subst (λ (t : Type 0). t) (λ t. Releases child edges ports (drop (i + 1) ports) c.args.waiting.now (sym w.waiting-is t) c.args.ready.now (sym w.ready-is t))
          (releases_same child edges ports (drop i ports) (drop (i + 1) ports) c.args.waiting.now c.loop-port.waiting c.args.ready.now c.loop-port.ready c.loop-port.invariant
          (λ n. heads_from edges ports i None c.loop-port-test.true (found ∙ w.in_default.is) n ∙ omega arith))
    ]

pub bounds-edges-edge : goal.bounds-edges-edge
bounds-edges-edge c =
    c.requires.can.edges_in c.loop-port.port-index c.in-Some.edge
    (port_is c.args.ports.now c.loop-port.port-index c.port-item.result c.loop-port-test.true c.port-item.is ∙ (sym c.edge.ensures ∙ c.in-Some.is))

pub release_one-requires-clause-wide : goal.release_one-requires-clause-wide
release_one-requires-clause-wide c = λ b.
    let one = (c.loop-port.invariant.ranked b).wide in
    let other = c.requires.can.wide b in
    let long = c.loop-port.invariant.long in
    omega arith
