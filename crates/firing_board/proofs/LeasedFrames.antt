-- The leases of the frame of a node that a worker runs.
use Rattle.std.proofs.Common.{◌≡◌, ◌⊎◌, ⊎_elim, ℕ, ◌+◌, ◌<◌, true, false, nat_lt, List, ◌∷◌, Option, Some, None, refl, sym, ap, ◌∙◌, subst}
use Rattle.std.proofs.lemmas.Bool.{lt-ltb}
use Rattle.kernel_gate.specs.Value.{Places}
use Rattle.job_preparing.specs.Handing.{lent_at}
use Rattle.job_rules.specs.Items.{Prepared, compile_number, edges_in, graph_of, nodes_in, prepared_in}
use Rattle.job_rules.specs.Words.{Answer}
use Rattle.nested_jobs.specs.Marks.{Marks, answer_of, values}
use Rattle.nested_jobs.specs.Rules.{Values}
use Rattle.one_job.specs.Leased.{JobCells}
use Rattle.graph_firing.proofs.Offered.{IsAfter, where_is}
use Rattle.graph_firing.specs.Leases.{LendsAs, LendsItems, node_lent}
use Rattle.graph_firing.specs.View.{answered, compilation_of}
use Rattle.pisdf_meaning.specs.declared.firing.Firing.{Firing}
use Rattle.pisdf_model.specs.declared.graph.Graphs.{Graphs}
use Rattle.board_rules.specs.Board.{Held, KeptAs}
use Rattle.board_rules.specs.Entries.{Step}
use Rattle.board_rules.specs.Keys.{Key}
use Rattle.board_rules.specs.Legal.{journal_of, state_after}
use Rattle.firing_board.specs.Table.Suits.{Suits}
use Rattle.firing_board.specs.Table.View.{firing_of, job_row, row_at, table_of}
use Rattle.firing_board.specs.declared.table.row.Row.{Row}
use Rattle.firing_board.specs.Firings.{AreCellsOf, LeasesNode}
use Rattle.firing_board.specs.Invariants.{view_with}
use Rattle.firing_board.specs.declared.state.Core.{Core}
use Rattle.firing_board.proofs.Rows.{firing_in, in_table}

-- an item that isn't before the compilation, nor the compilation, is a node
pub behind_compilation : (k i : ℕ) → nat_lt i k ≡ false → (i ≡ k → ⊥) → IsAfter k i
behind_compilation k i late apart = ⊎_elim
    (λ (below : i < k). absurd (let early : nat_lt i k ≡ true = lt-ltb i k below in cc))
    (λ (rest : (i ≡ k) ⊎ IsAfter k i). ⊎_elim (λ (at : i ≡ k). absurd (apart at)) (λ (after : IsAfter k i). after) rest)
    (where_is k i)

module _ (key : Key) (taken : List Step) (c : Core) (held : Held) (kept : KeptAs key taken (table_of c.table) held) (entered : c.journal.entries ≡ journal_of key taken) (suits : Suits key (state_after key taken).marks c.table)
    (w k i : ℕ) (row : Row) (here : row_at c.table k ≡ Some row) (runs : (state_after key taken).running w ≡ Some (i ∷ row.place)) (lends : LendsItems row.job) (places : Places) (lent : lent_at row.job.lent i ≡ Some places)
    (after : IsAfter (compilation_of row.job) i) where
  abbrev m : Marks Firing Answer
  m = (state_after key taken).marks

  graphs_are : row.job.graphs ≡ key.graphs
  graphs_are = (suits.rows k row here).graphs_are

  abbrev number : Graphs → ℕ
  number graphs = compile_number (graph_of graphs.graphs row.job.firing) + 1 + after.node

  abbrev NodesAre : JobCells → Graphs → Values Answer → Type 0
  NodesAre cells graphs v = (p : Prepared) → prepared_in (graph_of graphs.graphs row.job.firing) v ≡ Some p → cells.compilation.graph.nodes ≡ nodes_in graphs.graphs (graph_of graphs.graphs row.job.firing) row.job.firing p

  abbrev EdgesAre : JobCells → Graphs → Values Answer → Type 0
  EdgesAre cells graphs v = (p : Prepared) → prepared_in (graph_of graphs.graphs row.job.firing) v ≡ Some p → cells.compilation.graph.edges ≡ edges_in graphs.graphs (graph_of graphs.graphs row.job.firing) row.job.firing p

  answers_are : answered row.job ≡ values m row.place
  answers_are =
      let r = kept.stands.rows k (job_row row) (in_table c.table k row here) in
      let at : (j : ℕ) → answered row.job j ≡ values m row.place j = λ j. ap answer_of (sym (r.items j)) in
      λ x j. at j x

  to_node : node_lent row.job after.node ≡ Some places
  to_node = ap (lent_at row.job.lent) (sym after.number) ∙ lent

  by : (o : Option JobCells) → row.job.cells ≡ o → LendsAs row.job o → LeasesNode (view_with key c false) w places
  by None is none = absurd (let never = none after.node in let some = to_node in cc)
  by (Some cells) is some =
      let nodes : NodesAre cells row.job.graphs (answered row.job) = λ p prepared. (some.of_job p prepared).nodes_are in
      let edges : EdgesAre cells row.job.graphs (answered row.job) = λ p prepared. (some.of_job p prepared).edges_are in
      let cells_of : AreCellsOf key row.job.firing (values m row.place) cells = record {
        compiled = some.lends.compiled;
        nodes_are = subst (NodesAre cells key.graphs) answers_are (subst (λ (g : Graphs). NodesAre cells g (answered row.job)) graphs_are nodes);
        edges_are = subst (EdgesAre cells key.graphs) answers_are (subst (λ (g : Graphs). EdgesAre cells g (answered row.job)) graphs_are edges);
        pooled = some.lends.pooled;
        high = some.lends.high;
      } in
      record {
        number = k;
        firing = firing_of row;
        here = firing_in c.table k row here;
        cells = cells;
        cells_are = is;
        taken = taken;
        at = record { legal = kept.legal; entered = entered };
        job = row.job.firing;
        is_open = (kept.stands.rows k (job_row row) (in_table c.table k row here)).is_open;
        of_job = cells_of;
        node = after.node;
        runs = runs ∙ ap (λ (n : ℕ). Some (n ∷ row.place)) (after.number ∙ ap number graphs_are);
        leases = some.lends.leases after.node places to_node;
      }

  pub leases_node : LeasesNode (view_with key c false) w places
  leases_node = by row.job.cells refl lends.nodes
