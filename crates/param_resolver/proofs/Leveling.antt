-- What is asked where the level of a graph is made, for graphs in range and well formed.
use Rattle.std.proofs.Common.{◌≡◌, ℕ, ◌+◌, ◌<◌, ◌≤◌, ◌^◌, cond, ℤ, List, [], ◌∷◌, length, Result, Ok, Err, IfOk, Some, refl, sym, ap, ◌∙◌, subst, arith, slice_get, get_or}
use Rattle.std.specs.Prelude.{sum_by}
use Rattle.std.proofs.lemmas.Option.{slice_get-get_or}
use Rattle.pisdf_model.specs.Range.{InRange}
use Rattle.pisdf_model.specs.WellFormed.{WellFormed}
use Rattle.pisdf_model.specs.declared.actor.Actor.{Actor}
use Rattle.pisdf_model.specs.declared.graph.Graph.{Graph}
use Rattle.pisdf_model.specs.declared.graph.Graphs.{Graphs}
use Rattle.sdf_level.specs.Invariants.{IsLevel, how_many}
use Rattle.sdf_level.specs.Run.{is_into_actor}
use Rattle.sdf_level.specs.View.{LevelView}
use Rattle.sdf_level.specs.declared.link.Link.{Link}
use Rattle.param_resolver.specs.EarlyCheck.{early_of}
use Rattle.param_resolver.specs.EarlyView.{EarlyView}
use Rattle.param_resolver.specs.LevelOf.{level_at, links_of, sources_of}
use Rattle.param_resolver.specs.Numbering.{acting, acting_places, fires, level_inputs, source_inputs}
use Rattle.param_resolver.specs.Resolvable.{AreResolvable}
use Rattle.param_resolver.specs.Tables.{IsLinkable, config_outputs}
use Rattle.param_resolver.specs.declared.fault.LevelFault.{LevelFault}
use Rattle.param_resolver.specs.declared.level_set.LevelSet.{LevelSet}
use Rattle.param_resolver.proofs.ActingBodies.{one_place}
use Rattle.param_resolver.proofs.KeptLevel.{inputs_are, is_level, sources_are}
use Rattle.param_resolver.proofs.Passing.{length_collected, length_filtered, times_most}
use Rattle.param_resolver.proofs.SourceEnds.{many_ends, total_is}
use Rattle.param_resolver.proofs.Sound.{resolvable}
use Rattle.param_resolver.proofs.Wired.{AreWired, resolvable_at, well_wired}

module _ (graphs : Graphs) (range : InRange graphs) (well : WellFormed graphs) (place : ℕ) (g : Graph) (here : slice_get graphs.graphs place ≡ Some g) where
  all_resolvable : AreResolvable graphs.graphs
  all_resolvable = resolvable graphs range well

  wired : AreWired graphs.graphs g
  wired = well_wired graphs well all_resolvable place g here

  pub linkable : IsLinkable graphs.graphs g
  linkable =
      let kept = is_level graphs.graphs place g here [] [] wired in
      let few = kept.few_sources in
      let many = sources_are graphs.graphs place g here [] [] wired in
      record {
        few_fifos = let most = wired.few_fifos in omega arith;
        few_actors = let most = wired.few_actors in omega arith;
        few_inputs = let most = wired.few_inputs in omega arith;
        few_sources = omega arith;
        fifos = wired.fifos;
        bodies = (resolvable_at graphs.graphs all_resolvable place g here).actors;
        states = λ i d below. wired.held i (get_or g.actors i d) (slice_get-get_or g.actors i d below);
      }

  pub kept : (early : EarlyView) (inherited values : List ℤ) → early ≡ early_of graphs.graphs place inherited → IsLevel (level_at graphs.graphs g early values)
  kept early inherited values is = subst (λ e. IsLevel (level_at graphs.graphs g e values)) (sym is) (is_level graphs.graphs place g here inherited values wired)

  pub level_inputs_are : (values : List ℤ) (b : ℕ) (actor : Actor) → slice_get (acting g) b ≡ Some actor → how_many (is_into_actor b) (links_of graphs.graphs g values) ≡ level_inputs graphs.graphs actor
  level_inputs_are values b actor is = inputs_are graphs.graphs place g here [] values wired b actor is

-- the graph at its place
pub at_place : (graphs items : List Graph) (place : ℕ) (g : Graph) → items ≡ graphs → place < length graphs → g ≡ get_or items place g → slice_get graphs place ≡ Some g
at_place graphs items place g are below is = slice_get-get_or graphs place g below ∙ ap Some (sym (subst (λ (l : List Graph). g ≡ get_or l place g) are is))

-- ---- the parts of the level

pub many_places : (g : Graph) → length (acting_places g) ≡ length (acting g)
many_places g = length_collected fires (λ a x. cond (fires x) (a ∷ []) []) (λ n x. one_place (fires x) n) 0 g.actors ∙ sym (length_filtered fires g.actors)

pub level_made : (graphs : List Graph) (g : Graph) (early : EarlyView) (values : List ℤ) (actors : ℕ) (sources sinks : List ℕ) (links : List Link) → actors ≡ length (acting g) → sources ≡ sources_of g early → sinks ≡ early.outputs → links ≡ links_of graphs g values
    → (let made : LevelView = record { actors = actors; sources = sources; sinks = sinks; links = links } in made) ≡ level_at graphs g early values
level_made graphs g early values actors sources sinks links actors_are sources_are sinks_are links_are = rw (actors_are, sources_are, sinks_are, links_are) refl

pub sources_fit : (graphs : List Graph) (g : Graph) (sources : ℕ) → IsLinkable graphs g → sources ≡ length (source_inputs g) → sources + sum_by (λ (x : Actor). config_outputs graphs x) g.actors < 2 ^ 32
sources_fit graphs g sources can are =
    let few = can.few_sources in
    let many = many_ends graphs g in
    let sum = total_is graphs g.actors in
    omega arith

pub acting_few : (g : Graph) → length (acting g) ≤ length g.actors
acting_few g = let long = length_filtered fires g.actors in let most = times_most fires g.actors in omega arith

-- what is known of the level is known of its set
pub inputs_ok : (result : Result LevelSet LevelFault) (level : LevelView) (graphs : List Graph) (g : Graph) → IfOk result (λ set. set.level ≡ level) → ((b : ℕ) (actor : Actor) → slice_get (acting g) b ≡ Some actor → how_many (is_into_actor b) level.links ≡ level_inputs graphs actor)
    → IfOk result (λ set. (b : ℕ) (actor : Actor) → slice_get (acting g) b ≡ Some actor → how_many (is_into_actor b) set.level.links ≡ level_inputs graphs actor)
inputs_ok (Ok set) level graphs g is all = λ b actor at. ap (λ (l : LevelView). how_many (is_into_actor b) l.links) is ∙ all b actor at
inputs_ok (Err fault) level graphs g is all = tt
