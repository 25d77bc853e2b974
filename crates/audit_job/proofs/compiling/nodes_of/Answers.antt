use Rattle.std.proofs.Common.{◌≡◌, ◌<◌, ℕ, List, length, map, refl, ap, ◌∙◌, subst, arith}
use Rattle.std.specs.Arc.{arc_value}
use Rattle.job_flow.specs.Frames.{edges_into}
use Rattle.pisdf_model.specs.declared.graph.Graph.{Graph}
use Rattle.pisdf_meaning.specs.Running.{link_starts, source_tokens}
use Rattle.sdf_level.specs.declared.node.Node.{Node}
use Rattle.sdf_level.specs.declared.single_rate.Edge.{Edge}
use Rattle.param_resolver.specs.Numbering.{acting, has_state}
use Rattle.sdf_level.specs.Lists.{lists_of}
use Rattle.audit_job.specs.declared.rows.Side.TheVariants.{Head, Tail}
use Rattle.job_preparing.proofs.Compiled.{nodes_are}
use Rattle.audit_job.proofs.EdgeRows.{made_rows}
use Rattle.audit_job.proofs.compiling.nodes_of.Goals as goal

pub returns : goal.returns
returns c =
    let nodes : c.items-2.result.now ≡ (arc_value c.args.compiled).graph.nodes = cc in
    let edges : c.items-edges.result.now ≡ (arc_value c.args.compiled).graph.edges = cc in
    let waits = c.in_ok-waits.ensures in
    let long = ap (λ (l : List Node). length l) nodes in
    let each : c.len-count.result ≡ length (arc_value c.args.compiled).graph.nodes = (let many = waits.many in omega (arith, c.in_ok-waits.waits.ok.0)) in
    record {
      left_is = refl;
      compiled_is = refl;
      made = record {
        ready = c.requires.ready;
        sources_are = c.in_ok-sources.ensures ∙ (λ i. source_tokens (c.requires.graph i) c.args.firing.now (c.deref.ensures.value i));
        starts_are = c.in_ok-starts.ensures ∙ ap (λ g. link_starts c.args.graphs.now g c.args.firing.now) c.requires.graph;
        rows = record {
          into = made_rows Head c.len-count.result (length (arc_value c.args.compiled).graph.nodes) c.items-edges.result.now (arc_value c.args.compiled).graph.edges (lists_of c.in_ok-into.into.items) each edges c.in_ok-into.ensures;
          out_of = made_rows Tail c.len-count.result (length (arc_value c.args.compiled).graph.nodes) c.items-edges.result.now (arc_value c.args.compiled).graph.edges (lists_of c.in_ok-out_of.out_of.items) each edges c.in_ok-out_of.ensures;
        };
        keeps_are = c.in_ok-keeps.ensures ∙ ap (λ (g : Graph). map (has_state c.args.graphs.now) (acting g)) c.requires.graph;
        one_each = waits.many ∙ ap (λ (l : List Node). length l) (nodes ∙ nodes_are c.args.graphs.now (arc_value c.args.compiled).workers c.args.firing.now c.args.left.items (arc_value c.args.compiled) c.args.set c.args.values c.requires.ready);
      };
      waits_are = λ n below. waits.each n (subst (λ (k : ℕ). n < k) waits.many below) ∙ ap (λ (l : List Edge). edges_into l n) edges;
    }
