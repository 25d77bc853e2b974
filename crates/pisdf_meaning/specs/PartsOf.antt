-- The level of a graph in one of its firings, and with what its actors are fired.
use Rattle.std.specs.Prelude.{◌≡◌, ℕ, ◌<◌, ℤ, List, [], length, slice_get, slice_index, slice_index_or, Option, Some}
use Rattle.param_resolver.specs.EarlyCheck.{early_of, early_faults}
use Rattle.param_resolver.specs.EarlyView.{EarlyView}
use Rattle.param_resolver.specs.LevelOf.{level_args, level_at, out_rates}
use Rattle.param_resolver.specs.Numbering.{acting, level_inputs}
use Rattle.param_resolver.specs.declared.level_set.LevelSet.{LevelSet}
use Rattle.pisdf_model.specs.declared.actor.Actor.{Actor}
use Rattle.pisdf_model.specs.declared.actor.Body.{Body}
use Rattle.pisdf_model.specs.declared.actor.Body.TheVariants.{Kernel, Config, Child, ConfigChild}
use Rattle.pisdf_model.specs.declared.graph.Graph.{Graph}
use Rattle.sdf_level.specs.Invariants.{how_many}
use Rattle.sdf_level.specs.Run.{is_into_actor}
use Rattle.pisdf_meaning.specs.States.{tokens_at}

-- of a hierarchical actor with these arguments the early check of its child is known, and finds nothing
abbrev pub HasChild : List Graph → List ℤ → Option (Option EarlyView) → Body → Type 0
HasChild graphs args child (Kernel kernel exprs ins outs) = Unit {0}
HasChild graphs args child (Config kernel exprs ins outs sets) = ⊥
HasChild graphs args child (Child place exprs) = (child ≡ Some (Some (early_of graphs place args))) × (early_faults graphs place args ≡ []) × (length args ≡ length exprs)
HasChild graphs args child (ConfigChild place exprs sets) = ⊥

-- of a kernel actor there are the rates of its outputs, and an argument for each expression
abbrev pub HasRates : List Graph → List ℤ → List ℤ → List ℕ → Body → Type 0
HasRates graphs values args rates (Kernel kernel exprs ins outs) = (rates ≡ out_rates graphs values (Kernel kernel exprs ins outs)) × (length args ≡ length exprs)
HasRates graphs values args rates (Config kernel exprs ins outs sets) = Unit {0}
HasRates graphs values args rates (Child place exprs) = Unit {0}
HasRates graphs values args rates (ConfigChild place exprs sets) = Unit {0}

-- what is known of actor b of the level, which is this one
pub record ActorParts (graphs : List Graph) (values : List ℤ) (parts : LevelSet) (b : ℕ) (actor : Actor) : Type 0 where
  pub ins : how_many (is_into_actor b) parts.level.links ≡ level_inputs graphs actor
  pub rates : HasRates graphs values (tokens_at parts.args b) (slice_index_or parts.outs b []) actor.body
  pub child : HasChild graphs (tokens_at parts.args b) (slice_get parts.children b) actor.body

pub record ArePartsOf (graphs : List Graph) (g : Graph) (early : EarlyView) (values : List ℤ) (parts : LevelSet) : Type 0 where
  pub level : parts.level ≡ level_at graphs g early values
  pub args : parts.args ≡ level_args g values
  pub one_place : length parts.places ≡ parts.level.actors
  pub one_args : length parts.args ≡ parts.level.actors
  pub one_outs : length parts.outs ≡ parts.level.actors
  pub one_child : length parts.children ≡ parts.level.actors
  pub inside : (b : ℕ) → b < parts.level.actors → slice_index parts.places b < length g.actors
  pub places : (b : ℕ) → b < parts.level.actors → slice_get (acting g) b ≡ slice_get g.actors (slice_index parts.places b)
  pub actors : (b : ℕ) (actor : Actor) → b < parts.level.actors → slice_get (acting g) b ≡ Some actor → ActorParts graphs values parts b actor
