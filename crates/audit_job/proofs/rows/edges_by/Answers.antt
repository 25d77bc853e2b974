use Rattle.std.proofs.Common.{◌≡◌, ℕ, ◌<◌, List, [], ◌∷◌, ◌++◌, map, get_or, set, take, take_all, length, arith, sym, ◌∙◌, ap, subst}
use Rattle.std.specs.Prelude.{Vec}
use Rattle.std.specs.Global.{Global}
use Rattle.std.proofs.lemmas.List.{get_or-map, length-map, map-set, take_more}
use Rattle.std.proofs.lemmas.List.Elements.{All-get_or}
use Rattle.sdf_level.specs.Lists.{lists_of}
use Rattle.sdf_level.specs.declared.single_rate.Edge.{Edge}
use Rattle.audit_job.specs.Rows.{AreRows, end_of}
use Rattle.audit_job.proofs.EdgeRows.{no_edge, rows_more}
use Rattle.audit_job.proofs.rows.edges_by.Goals as goal

pub loop-edge-preserved : goal.loop-edge-preserved
loop-edge-preserved c =
    let rows : List (Vec Edge Global) = c.loop-edge.rows.items in
    let items = λ (v : Vec Edge Global). v.items in
    let edge : Edge = get_or c.args.edges.now c.loop-edge.edge-index no_edge in
    let at : ℕ = c.end_of.result in
    let is : at ≡ end_of c.args.side edge = c.end_of.ensures in
    let there : end_of c.args.side edge < c.args.nodes = All-get_or (λ (e : Edge). end_of c.args.side e < c.args.nodes) c.args.edges.now c.loop-edge.edge-index no_edge c.loop-edge-test.true c.requires in
    let inside : at < length rows = (let one_each = c.loop-edge.invariant.one_each in let m = length-map rows items in omega arith) in
    let was : get_or (map items rows) at [] ≡ c.index_mut.result.now.items = get_or-map items rows at c.index_mut.result.now [] inside ∙ ap items (sym c.index_mut.ensures.value) in
    let now : c.push.new.self.items ≡ get_or (map items rows) at [] ++ edge ∷ [] = c.in_ok-push.ensures.items ∙ ap (λ (xs : List Edge). xs ++ edge ∷ []) (sym was) in
    rw (take_more c.args.edges.now c.loop-edge.edge-index no_edge c.loop-edge-test.true, map-set items rows at c.push.new.self, now)
    (subst (λ (k : ℕ). AreRows c.args.side c.args.nodes (take c.loop-edge.edge-index c.args.edges.now ++ edge ∷ []) (set (map items rows) k (get_or (map items rows) k [] ++ edge ∷ []))) (sym is)
    (rows_more c.args.side c.args.nodes (take c.loop-edge.edge-index c.args.edges.now) edge (map items rows) c.loop-edge.invariant there))

pub returns : goal.returns
returns c =
    let all = take_all c.loop-edge.edge-index c.args.edges.now c.loop-edge-test.false in
    subst (λ (l : List Edge). AreRows c.args.side c.args.nodes l (lists_of c.loop-edge.rows.items)) all c.loop-edge.invariant
