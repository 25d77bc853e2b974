use Rattle.std.proofs.Common.{◌≡◌, ◌∙◌, ℕ, List, ap, arith, length, subst, sym}
use Rattle.sdf_level.specs.Invariants.{IsLevel}
use Rattle.sdf_level.specs.View.{LevelView}
use Rattle.param_resolver.specs.EarlyView.{EarlyView}
use Rattle.param_resolver.specs.Numbering.{acting}
use Rattle.param_resolver.proofs.Leveling.{acting_few, level_made, many_places}
use Rattle.param_resolver.proofs.level_set.level_in.Goals as goal

pub overflow_cast-actors : goal.overflow_cast-actors
overflow_cast-actors c =
    let places = ap (λ (l : List ℕ). length l) c.in_ok-acting.ensures.places ∙ many_places c.args.graph.now in
    let most = acting_few c.args.graph.now in
    let few = c.requires.linkable.few_actors in
    omega (arith, c.in_ok-acting.acting.places.ok.0)

pub level-level-requires : goal.level-level-requires
level-level-requires c =
    let places = ap (λ (l : List ℕ). length l) c.in_ok-acting.ensures.places ∙ many_places c.args.graph.now in
    let actors : c.len-actors.result ≡ length (acting c.args.graph.now) = omega (arith, c.in_ok-acting.acting.places.ok.0) in
    subst (λ (l : LevelView). IsLevel l) (sym (level_made c.args.graphs.now c.args.graph.now c.args.early.now c.args.values.now c.len-actors.result c.in_ok-wiring.wiring.sources.items c.in_ok-sinks.sinks.items c.in_ok-wiring.wiring.links.links.items
    actors c.in_ok-wiring.ensures.sources (c.in_ok-sinks.ensures.items ∙ c.items.ensures ∙ ap (λ (e : EarlyView). e.outputs) c.early.view_is) (c.in_ok-wiring.ensures.links c.args.values.now c.in_ok-acting.ensures.ins c.in_ok-acting.ensures.outs))) c.requires.kept

pub returns-clause-level : goal.returns-clause-level
returns-clause-level c =
    let places = ap (λ (l : List ℕ). length l) c.in_ok-acting.ensures.places ∙ many_places c.args.graph.now in
    let actors : c.len-actors.result ≡ length (acting c.args.graph.now) = omega (arith, c.in_ok-acting.acting.places.ok.0) in
    c.level_set.ensures.level ∙ c.level-level.ensures
    ∙ level_made c.args.graphs.now c.args.graph.now c.args.early.now c.args.values.now c.len-actors.result c.in_ok-wiring.wiring.sources.items c.in_ok-sinks.sinks.items c.in_ok-wiring.wiring.links.links.items
    actors c.in_ok-wiring.ensures.sources (c.in_ok-sinks.ensures.items ∙ c.items.ensures ∙ ap (λ (e : EarlyView). e.outputs) c.early.view_is) (c.in_ok-wiring.ensures.links c.args.values.now c.in_ok-acting.ensures.ins c.in_ok-acting.ensures.outs)
