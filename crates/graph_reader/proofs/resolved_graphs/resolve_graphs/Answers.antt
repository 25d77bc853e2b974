use Rattle.std.proofs.Common.{ℕ, ◌==◌}
use Rattle.std.proofs.lemmas.Result.{err_from_is_err_and}
use Rattle.graph_format.specs.declared.file.FileGraph.{FileGraph}
use Rattle.graph_format.specs.Placed.{placed_graph}
use Rattle.graph_format.specs.References.{unknown_in_graph}
use Rattle.graph_format.specs.KnownNames.{known_names}
use Rattle.graph_reader.specs.Setting.{delays_by}
use Rattle.graph_reader.proofs.Numbered.{numbered_fails, numbered_goes_on, numbered_done}
use Rattle.graph_reader.proofs.resolved_graphs.resolve_graphs.Goals as goal

pub returns-in_err-one : goal.returns-in_err-one
returns-in_err-one c =
    let graphs = c.args.graphs.now in
    let kernels = c.args.names.now.kernels in
    let p = err_from_is_err_and c.from_residual.result c.from_residual.ensures.1 in
    rw (p.1, p.2) (numbered_fails (λ (g : FileGraph). unknown_in_graph (known_names kernels graphs g) g) graphs c.loop-place.place c.index-graphs-place.result c.in_err-one.field-0.0 c.loop-place-test.true c.index-graphs-place.is c.loop-place.invariant.known (c.in_err-one.ensures graphs c.requires))

pub loop-place-preserved : goal.loop-place-preserved
loop-place-preserved c =
    let graphs = c.args.graphs.now in
    let kernels = c.args.names.now.kernels in
    rw c.in_ok-push.ensures.items (numbered_goes_on (λ (g : FileGraph). unknown_in_graph (known_names kernels graphs g) g) (λ (n : ℕ × FileGraph). placed_graph c.args.version (delays_by c.args.delays) (n.0 == c.args.top) (known_names kernels graphs n.1) n.1) graphs c.loop-place.place c.index-graphs-place.result c.in_ok-one.one c.loop-place.resolved.items c.loop-place-test.true c.index-graphs-place.is (c.in_ok-one.ensures graphs c.requires) c.loop-place.invariant)

pub returns : goal.returns
returns c =
    let graphs = c.args.graphs.now in
    let kernels = c.args.names.now.kernels in
    rw c.new.ensures (numbered_done (λ (g : FileGraph). unknown_in_graph (known_names kernels graphs g) g) (λ (n : ℕ × FileGraph). placed_graph c.args.version (delays_by c.args.delays) (n.0 == c.args.top) (known_names kernels graphs n.1) n.1) graphs c.loop-place.place c.loop-place.resolved.items c.loop-place-test.false c.loop-place.invariant)
