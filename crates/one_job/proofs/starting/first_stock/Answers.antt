use Rattle.std.proofs.Common.{◌≡◌, ◌<◌, ℤ, List, length, Vec, Global, sym, ap, ◌∙◌, subst}
use Rattle.std.specs.Result.{IfOk}
use Rattle.sdf_level.specs.declared.single_rate.Edge.{Edge}
use Rattle.sdf_level.specs.declared.single_rate.SingleRate.{SingleRate}
use Rattle.job_compiler.specs.Compilation.{IsCompiled}
use Rattle.job_flow.specs.Graphs.{IsJobGraph}
use Rattle.one_job.specs.Opening.{AreMade, StandOnce}
use Rattle.one_job.specs.View.{job_graph}
use Rattle.one_job.proofs.JobStart.{first_there}
use Rattle.one_job.proofs.Stored.{stand_once}
use Rattle.one_job.proofs.starting.first_stock.Goals as goal

pub make_stock-requires-clause-rows : goal.make_stock-requires-clause-rows
make_stock-requires-clause-rows c =
    let read = c.items.ensures ∙ ap (λ (g : SingleRate). g.nodes) c.graph-graph.ensures.value in
    (c.wiring.ensures.wired c.args.sources c.args.stored c.requires.sources c.requires.stored).rows_in ∙ sym (ap length read)

pub make_stock-requires-clause-there : goal.make_stock-requires-clause-there
make_stock-requires-clause-there c = λ n e found.
    let comp = c.args.compiled.now in
    let read = c.items-2.ensures ∙ ap (λ (g : SingleRate). g.edges) c.graph-graph.ensures.value in
    let wired = c.wiring.ensures.wired c.args.sources c.args.stored c.requires.sources c.requires.stored in
    subst (λ (edges : List Edge). e < length edges) (sym read) (first_there (job_graph comp c.args.sources c.args.stored) c.wiring.result.now.entering c.wiring.result.now.leaving wired n e found)

pub make_stock-requires-clause-once : goal.make_stock-requires-clause-once
make_stock-requires-clause-once c =
    let comp = c.args.compiled.now in
    let is : IsCompiled comp = c.level-level.ensures.kept in
    let graph : IsJobGraph comp.counts comp.order (job_graph comp c.args.sources c.args.stored) = record { level_kept = is.level_kept; repetition = is.repetition; order = is.order_is; nodes_are = is.expanded.nodes_are; edges_are = is.expanded.edges_are; sources_fit = c.requires.sources; delays_fit = c.requires.stored } in
    let read = c.items.ensures ∙ ap (λ (g : SingleRate). g.nodes) c.graph-graph.ensures.value in
    subst StandOnce (sym read) (stand_once comp.graph.nodes (λ n inside. c.edges_have_ports.ensures.once comp.counts comp.order (job_graph comp c.args.sources c.args.stored) n graph inside))

pub returns : goal.returns
returns c =
    let nodes_are : c.items.result.now ≡ c.args.compiled.now.graph.nodes = c.items.ensures ∙ ap (λ (g : SingleRate). g.nodes) c.graph-graph.ensures.value in
    let edges_are : c.items-2.result.now ≡ c.args.compiled.now.graph.edges = c.items-2.ensures ∙ ap (λ (g : SingleRate). g.edges) c.graph-graph.ensures.value in
    let sources_are : c.deref_mut.result.now ≡ c.args.sources = c.deref_mut.ensures.value ∙ c.into_items-sources.ensures in
    let stored_are : c.deref_mut-2.result.now ≡ c.args.stored = c.deref_mut-2.ensures.value ∙ c.into_items-stored.ensures in
    subst (λ (t : Type 0). t) (λ t. IfOk c.make_stock.result (λ (stock : Vec (List ℤ) Global). AreMade (nodes_are t) (edges_are t) (c.wiring.ensures.entering t) (sources_are t) (stored_are t) stock.items)) c.make_stock.ensures
