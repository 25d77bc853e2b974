use Rattle.std.proofs.Common.{◌≡◌, ℕ, ℤ, List, get_or, slice_get, Option, Some, Result, Ok, Err, sym, ap, ◌∙◌, subst}
use Rattle.std.specs.Arc.{arc_value}
use Rattle.std.proofs.lemmas.Option.{get_or_from_slice_get}
use Rattle.pisdf_model.specs.declared.graph.Graph.{Graph}
use Rattle.pisdf_meaning.specs.Preparing.{level_in, rated, resolved}
use Rattle.pisdf_meaning.specs.TopLevel.{IsLevelSet}
use Rattle.pisdf_meaning.proofs.Passing.{passed_on, refused-map}
use Rattle.job_rules.specs.Items.{graph_of}
use Rattle.job_preparing.specs.Unscheduled.{IsUnscheduledAs}
use Rattle.job_preparing.proofs.Ends.{refused_rates, refused_schedule, refused_values}
use Rattle.job_preparing.proofs.compiling.make.Goals as goal

-- the element at its place
graph_at : (graphs items : List Graph) (place : ℕ) (x g : Graph) → items ≡ graphs → x ≡ get_or items place x → slice_get graphs place ≡ Some g → x ≡ g
graph_at graphs items place x g e read here = read ∙ ap (λ (l : List Graph). get_or l place x) e ∙ get_or_from_slice_get graphs place g x here

pub returns-in_err-values-clause-refused : goal.returns-in_err-values-clause-refused
returns-in_err-values-clause-refused c =
    let graph_is = graph_at c.args.graphs.now.graphs c.items.result.now c.args.firing.now.graph c.index-items-firing.result (graph_of c.args.graphs.now.graphs c.args.firing.now) c.items.ensures c.index-items-firing.is c.requires.here in
    passed_on _ c.from_residual.result c.in_err-values.field-0.0 c.from_residual.ensures.1
    (refused-map _ _ (λ refusal is. refused_values c.args.graphs.now.graphs c.args.firing.now c.args.left.now c.requires.here refusal (is ∙ ap (λ x. resolved c.args.graphs.now.graphs x c.args.firing.now c.args.left.now) graph_is)) c.in_err-values.field-0.0 c.in_err-values.ensures.refused)

pub parts_of-requires-clause-here : goal.parts_of-requires-clause-here
parts_of-requires-clause-here c =
    c.requires.here ∙ ap Some (sym (graph_at c.args.graphs.now.graphs c.items.result.now c.args.firing.now.graph c.index-items-firing.result (graph_of c.args.graphs.now.graphs c.args.firing.now) c.items.ensures c.index-items-firing.is c.requires.here))

pub returns-in_err-set-clause-refused : goal.returns-in_err-set-clause-refused
returns-in_err-set-clause-refused c =
    let G = c.args.graphs.now.graphs in
    let graph_is = graph_at c.args.graphs.now.graphs c.items.result.now c.args.firing.now.graph c.index-items-firing.result (graph_of c.args.graphs.now.graphs c.args.firing.now) c.items.ensures c.index-items-firing.is c.requires.here in
    let g = graph_of c.args.graphs.now.graphs c.args.firing.now in
    let resolved_is : resolved G g c.args.firing.now c.args.left.now ≡ Ok c.in_ok-values.values = sym (c.in_ok-values.ensures.values ∙ ap (λ x. resolved G x c.args.firing.now c.args.left.now) graph_is) in
    passed_on _ c.from_residual-in_err-set.result c.in_err-set.field-0.0 c.from_residual-in_err-set.ensures.1
    (refused-map _ _ (λ refusal is. refused_rates G c.args.firing.now c.args.left.now c.requires.here c.in_ok-values.values refusal resolved_is
    (ap (λ x. rated G x c.args.firing.now c.in_ok-values.values) (sym graph_is) ∙ ap (rated G c.index-items-firing.result c.args.firing.now) (sym c.items-2.ensures) ∙ is)) c.in_err-set.field-0.0 c.in_err-set.ensures.refused)

pub returns-in_err-compiled-clause-refused : goal.returns-in_err-compiled-clause-refused
returns-in_err-compiled-clause-refused c =
    let G = c.args.graphs.now.graphs in
    let graph_is = graph_at c.args.graphs.now.graphs c.items.result.now c.args.firing.now.graph c.index-items-firing.result (graph_of c.args.graphs.now.graphs c.args.firing.now) c.items.ensures c.index-items-firing.is c.requires.here in
    let g = graph_of c.args.graphs.now.graphs c.args.firing.now in
    let resolved_is : resolved G g c.args.firing.now c.args.left.now ≡ Ok c.in_ok-values.values = sym (c.in_ok-values.ensures.values ∙ ap (λ x. resolved G x c.args.firing.now c.args.left.now) graph_is) in
    let rated_is : rated G g c.args.firing.now c.in_ok-values.values ≡ Ok c.in_ok-values.values =
    ap (λ x. rated G x c.args.firing.now c.in_ok-values.values) (sym graph_is) ∙ ap (rated G c.index-items-firing.result c.args.firing.now) (sym c.items-2.ensures) ∙ c.in_ok-set.ensures.rated ∙ ap Ok c.items-2.ensures in
    let level_is : c.in_ok-set.set.level ≡ level_in G g c.args.firing.now c.in_ok-values.values =
    c.in_ok-set.ensures.set.level ∙ ap (λ x. level_in G x c.args.firing.now c.items-2.result.now) graph_is ∙ ap (level_in G g c.args.firing.now) c.items-2.ensures in
    passed_on _ c.from_residual-in_err-compiled.result c.in_err-compiled.field-0.0 c.from_residual-in_err-compiled.ensures.1
    (refused-map _ _ (λ refusal is. refused_schedule G c.args.firing.now c.args.left.now c.requires.here c.in_ok-values.values c.in_ok-set.set.level refusal resolved_is rated_is level_is
    (subst (λ (x : Graph). IsUnscheduledAs x c.args.firing.now c.in_ok-set.set.level refusal) graph_is is)) c.in_err-compiled.field-0.0 c.in_err-compiled.ensures.refused)

pub returns-clause-made : goal.returns-clause-made
returns-clause-made c =
    let G = c.args.graphs.now.graphs in
    let graph_is = graph_at c.args.graphs.now.graphs c.items.result.now c.args.firing.now.graph c.index-items-firing.result (graph_of c.args.graphs.now.graphs c.args.firing.now) c.items.ensures c.index-items-firing.is c.requires.here in
    let g = graph_of c.args.graphs.now.graphs c.args.firing.now in
    record {
      values_are = sym (c.in_ok-values.ensures.values ∙ ap (λ x. resolved G x c.args.firing.now c.args.left.now) graph_is);
      rated_so = ap (λ x. rated G x c.args.firing.now c.in_ok-values.values) (sym graph_is) ∙ ap (rated G c.index-items-firing.result c.args.firing.now) (sym c.items-2.ensures) ∙ c.in_ok-set.ensures.rated ∙ ap Ok c.items-2.ensures;
      set_is = subst (λ (l : List ℤ). IsLevelSet G g c.args.firing.now l c.in_ok-set.set) c.items-2.ensures (subst (λ (x : Graph). IsLevelSet G x c.args.firing.now c.items-2.result.now c.in_ok-set.set) graph_is c.in_ok-set.ensures.set);
      compiled = c.in_ok-compiled.ensures.compiled;
      level_is = c.in_ok-compiled.ensures.level;
      workers_are = c.in_ok-compiled.ensures.workers;
    }
