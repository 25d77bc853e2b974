-- What the finished nodes of an open firing gave is as long as the edges that leave them.
use Rattle.std.proofs.Common.{◌≡◌, ℕ, ◌<◌, List, [], length, map, slice_index, ℤ, Some, Ok, sym, ap, ◌∙◌, subst, arith}
use Rattle.std.specs.Prelude.{slice_index_or}
use Rattle.std.proofs.lemmas.List.{get_or-map, length-map}
use Rattle.sdf_level.specs.declared.node.Node.{Node}
use Rattle.sdf_level.specs.declared.single_rate.Edge.{Edge}
use Rattle.job_compiler.specs.Compilation.{Compilation}
use Rattle.job_flow.specs.Frames.{lens}
use Rattle.job_flow.specs.Graphs.{JobGraph}
use Rattle.job_flow.specs.Laws.{EdgesHavePorts}
use Rattle.job_rules.proofs.Answered.{answered, is_job}
use Rattle.job_rules.specs.Items.{Prepared, edges_in, graph_of, job_graph, node_values, nodes_in, prepared_in}
use Rattle.nested_jobs.specs.Marks.{Marks, Open, values}
use Rattle.nested_jobs.specs.Rules.{Place}
use Rattle.job_rules.specs.Words.{Answer}
use Rattle.one_job.specs.Images.{FitsEdges}
use Rattle.one_job.specs.Places.{edge_at}
use Rattle.pisdf_model.specs.declared.graph.Graph.{Graph}
use Rattle.pisdf_meaning.specs.declared.firing.Firing.{Firing}
use Rattle.board_rules.proofs.Known.{BoardLaws, Known}
use Rattle.board_rules.specs.Keys.{IsKey, Key}
use Rattle.firing_board.specs.Table.Images.{values_at}

-- the length of an output is that which stands at its port
port_long : (outs : List (List ℤ)) (lengths : List ℕ) (port : ℕ) → map length outs ≡ lengths → port < length lengths → length (slice_index_or outs port []) ≡ slice_index lengths port
port_long outs lengths port are inside =
    let many : length outs ≡ length lengths = sym (length-map outs length) ∙ ap length are in
    sym (get_or-map length outs port [] 0 (omega arith)) ∙ ap (λ (l : List ℕ). slice_index l port) are

module _ (ports : EdgesHavePorts ℤ) (key : Key) (is : IsKey key) (laws : BoardLaws key) (m : Marks Firing Answer) (known : Known key m) (place : Place) (job : Firing) (is_open : m place ≡ Open job) (p : Prepared)
    (prepared_is : prepared_in (graph_of key.graphs.graphs job) (values m place) ≡ Some p) where
  abbrev G : List Graph
  G = key.graphs.graphs

  abbrev g : Graph
  g = graph_of G job

  abbrev flow_graph : JobGraph ℤ
  flow_graph = job_graph G g job p

  long_outs : (n : ℕ) (outs : List (List ℤ)) → node_values G g job p (values m place) n ≡ Some (Ok outs) → map length outs ≡ lens flow_graph n
  long_outs n outs gives =
      (answered laws.jobs key.signatures key.graphs is.valid.valid.in_range is.valid.valid.well_formed laws.fit is.lengths (known.levels place) job (values m place) (known.fits place job is_open) (known.sound place job is_open) p prepared_is
      n (Ok outs) gives).answers.lengths

  fits_own : (n : ℕ) (outs : List (List ℤ)) → node_values G g job p (values m place) n ≡ Some (Ok outs) → FitsEdges (edges_in G g job p) n (Ok outs)
  fits_own n outs gives = λ e inside tail_is.
      let have = ports p.schedule.counts p.schedule.order flow_graph
      (is_job laws.jobs key.signatures key.graphs is.valid.valid.in_range is.valid.valid.well_formed laws.fit is.lengths (known.levels place) job (values m place) (known.fits place job is_open) (known.sound place job is_open) p prepared_is) in
      let edge = edge_at (edges_in G g job p) e in
      let long : map length outs ≡ lens flow_graph edge.tail = long_outs n outs gives ∙ ap (lens flow_graph) (sym tail_is) in
      port_long outs (lens flow_graph edge.tail) edge.tail_port long (have.tail_ports e inside) ∙ have.tail_sizes e inside

  pub outs_fit : (c : Compilation) → c.graph.nodes ≡ nodes_in G g job p → c.graph.edges ≡ edges_in G g job p
      → (n : ℕ) (outs : List (List ℤ)) → values_at key job c.graph.nodes m place n ≡ Some (Ok outs) → FitsEdges c.graph.edges n (Ok outs)
  outs_fit c nodes_are edges_are n outs gives =
      let same : values_at key job c.graph.nodes m place n ≡ node_values G g job p (values m place) n = ap (λ (ns : List Node). values_at key job ns m place n) nodes_are in
      subst (λ (es : List Edge). FitsEdges es n (Ok outs)) (sym edges_are) (fits_own n outs (sym same ∙ gives))
