use Rattle.std.proofs.Common.{◌≡◌, ◌∙◌, ℕ, false, List, length, replicate, None, refl, sym, ap, subst}
use Rattle.std.specs.Arc.{arc_value}
use Rattle.std.proofs.lemmas.List.{get_or_read}
use Rattle.std.proofs.lemmas.Option.{slice_get_within}
use Rattle.pisdf_model.specs.Ports.{inherited_count}
use Rattle.pisdf_model.specs.declared.graph.Graph.{Graph}
use Rattle.pisdf_model.specs.declared.graph.Graphs.{Graphs}
use Rattle.pisdf_meaning.specs.Run.{top_firing}
use Rattle.pisdf_meaning.specs.declared.firing.Firing.{Firing}
use Rattle.job_rules.specs.Items.{no_graph}
use Rattle.board_rules.specs.Keys.{Key, top_job}
use Rattle.firing_board.specs.Beginning.{IsStartedOn}
use Rattle.firing_board.specs.Core.{lent_of}
use Rattle.firing_board.specs.Invariants.{Keeps, key_with}
use Rattle.firing_board.specs.Signatures.{counts_by}
use Rattle.firing_board.specs.Starts.{key_from}
use Rattle.firing_board.proofs.Started.{begins, none_lent, started_firings}
use Rattle.firing_board.proofs.board.Board.start_with.Goals as goal

firing_so : (graphs : Graphs) (key : Key) (g : Graph) (found : Graphs) (firing : Firing) → found ≡ graphs → graphs ≡ key.graphs → Rattle.std.specs.Prelude.slice_index_or graphs.graphs graphs.top no_graph ≡ g
    → firing ≡ top_firing g found.top key.ins key.delays → firing ≡ top_job key
firing_so graphs key g found firing one two here is =
    is ∙ (ap (λ (x : Graphs). top_firing g x.top key.ins key.delays) (one ∙ two)
    ∙ ap (λ (x : Graph). top_firing x key.graphs.top key.ins key.delays) (sym here ∙ ap (λ (x : Graphs). Rattle.std.specs.Prelude.slice_index_or x.graphs x.top no_graph) two))

pub start_core-requires-clause-valid : goal.start_core-requires-clause-valid
start_core-requires-clause-valid c = c.requires.key.valid.valid

pub start_core-requires-clause-inherited : goal.start_core-requires-clause-inherited
start_core-requires-clause-inherited c =
    let key = key_from (arc_value c.args.graphs) c.args.signatures.now c.args.delays.now c.args.ins.now c.args.workers in
    let run = c.runnable.ensures key.signatures key.graphs c.requires.key.valid in
    let at : c.in_ok-firing.firing.graph ≡ key.graphs.top = ap (λ (f : Firing). f.graph) c.in_ok-firing.ensures ∙ ap (λ (x : Graphs). x.top) c.deref-3.ensures in
    record {
      one_each = ap (λ (f : Firing). length f.inherited) c.in_ok-firing.ensures ∙ (sym run.none_inherited ∙ ap (λ (p : ℕ). inherited_count (Rattle.std.specs.Prelude.slice_get key.graphs.graphs p)) (sym at));
    }

pub invariant_of-result : goal.invariant_of-result
invariant_of-result c =
    let i = c.in_ok-core.core in
    let key = key_from (arc_value c.args.graphs) c.args.signatures.now c.args.delays.now c.args.ins.now c.args.workers in
    let g = c.index-items-deref.result in
    let xs : c.items.result.now ≡ key.graphs.graphs = c.items.ensures ∙ ap (λ (x : Graphs). x.graphs) c.deref.ensures in
    let top : c.deref-2.result.now.top ≡ key.graphs.top = ap (λ (x : Graphs). x.top) c.deref-2.ensures in
    let at : g ≡ Rattle.std.specs.Prelude.slice_index_or key.graphs.graphs key.graphs.top g =
    c.index-items-deref.is ∙ (ap (λ (gs : List Graph). Rattle.std.specs.Prelude.slice_index_or gs c.deref-2.result.now.top g) xs ∙ ap (λ (t : ℕ). Rattle.std.specs.Prelude.slice_index_or key.graphs.graphs t g) top) in
    let here : Rattle.std.specs.Prelude.slice_index_or key.graphs.graphs key.graphs.top no_graph ≡ g =
    sym (get_or_read key.graphs.graphs key.graphs.top g (slice_get_within key.graphs.graphs key.graphs.top c.requires.key.fit.g c.requires.key.fit.here) at no_graph) in
    let firing : c.in_ok-firing.firing ≡ top_job key = firing_so (arc_value c.args.graphs) key g c.deref-3.result.now c.in_ok-firing.firing c.deref-3.ensures refl here c.in_ok-firing.ensures in
    let s : IsStartedOn key.graphs key.workers (top_job key) i = subst (λ (f : Firing). IsStartedOn key.graphs key.workers f i) firing c.in_ok-core.ensures.started in
    let held : c.of-top.result.value ≡ top_job key = c.of-top.ensures ∙ firing in
    let graphs = s.started.graphs_are in
    let workers = s.started.workers_are in
    let signatures = c.of-signatures.ensures in
    let key_is : key_with (counts_by c.of-signatures.result) c.of-top.result.value i ≡ key =
    (λ x. record { graphs = graphs x; signatures = signatures x; delays = (held x).state; ins = (held x).inputs; workers = workers x }) in
    let keeps = begins c.boards_keep.ensures.start c.tables_suit.ensures.starts_with c.tables_suit.ensures.start key c.requires.key i s in
    (subst (λ (k : Key). Keeps k i false) (sym key_is) keeps, tt, c.in_ok-core.ensures.room, c.in_ok-core.ensures.room.for_frames.one_each)

pub returns : goal.returns
returns c =
    let i = c.in_ok-core.core in
    let key = key_from (arc_value c.args.graphs) c.args.signatures.now c.args.delays.now c.args.ins.now c.args.workers in
    let g = c.index-items-deref.result in
    let xs : c.items.result.now ≡ key.graphs.graphs = c.items.ensures ∙ ap (λ (x : Graphs). x.graphs) c.deref.ensures in
    let top : c.deref-2.result.now.top ≡ key.graphs.top = ap (λ (x : Graphs). x.top) c.deref-2.ensures in
    let at : g ≡ Rattle.std.specs.Prelude.slice_index_or key.graphs.graphs key.graphs.top g =
    c.index-items-deref.is ∙ (ap (λ (gs : List Graph). Rattle.std.specs.Prelude.slice_index_or gs c.deref-2.result.now.top g) xs ∙ ap (λ (t : ℕ). Rattle.std.specs.Prelude.slice_index_or key.graphs.graphs t g) top) in
    let here : Rattle.std.specs.Prelude.slice_index_or key.graphs.graphs key.graphs.top no_graph ≡ g =
    sym (get_or_read key.graphs.graphs key.graphs.top g (slice_get_within key.graphs.graphs key.graphs.top c.requires.key.fit.g c.requires.key.fit.here) at no_graph) in
    let firing : c.in_ok-firing.firing ≡ top_job key = firing_so (arc_value c.args.graphs) key g c.deref-3.result.now c.in_ok-firing.firing c.deref-3.ensures refl here c.in_ok-firing.ensures in
    let s : IsStartedOn key.graphs key.workers (top_job key) i = subst (λ (f : Firing). IsStartedOn key.graphs key.workers f i) firing c.in_ok-core.ensures.started in
    let held : c.of-top.result.value ≡ top_job key = c.of-top.ensures ∙ firing in
    let graphs = s.started.graphs_are in
    let workers = s.started.workers_are in
    let signatures = c.of-signatures.ensures in
    let key_is : key_with (counts_by c.of-signatures.result) c.of-top.result.value i ≡ key =
    (λ x. record { graphs = graphs x; signatures = signatures x; delays = (held x).state; ins = (held x).inputs; workers = workers x }) in
    let lent : lent_of i.table i.running.items ≡ replicate c.args.workers None = ap (lent_of i.table) s.running_are ∙ none_lent i.table c.args.workers in
    let entries = s.entries_are in
    let firings = started_firings key.graphs key.workers (top_job key) i.table s.started in
    λ x. record { key = key_is x; journal = entries x; starved = false; firings = firings x; lent = lent x; kept = false }
